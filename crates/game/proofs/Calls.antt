-- The call: what the code's checks tell, that they pass exactly on accepted input, and what is demanded of the answer.
use Prim.Native.Nat.{ℕ, ◌<◌, ◌≤◌}
use native.Mathlib.Omega.{arith}
use mathlib.Core.Path.{◌≡◌, refl, sym, ◌∙◌, ap, subst}
use mathlib.Core.Logic.{◌↔◌}
use mathlib.Core.List.{List}
use mathlib.Core.Bool.{Bool, true, false}
use lib.Dec.{leb}
use borrow.Author.Tests.{le-leb, lt-leb, leb-true}
use Rattle.answers.specs.Answers.{played_number, played_index, played_count}
use Rattle.answers.specs.Refusal.{number_of}
use Rattle.answers.specs.declared.Played.{Played}
use Rattle.answers.specs.declared.Refusal.{Refusal}
use Rattle.answers.specs.declared.Refusal.TheVariants.{Table, Class, Turns}
use Rattle.answers.proofs.Numbers.{word_or_refusal}
use Rattle.term.specs.declared.Edition.{Edition}
use Rattle.term.specs.Limits.{Octets}
use Rattle.term.specs.Table.{table_accepted}
use Rattle.term.specs.Term.{Term}
use Rattle.anti_pattern.specs.Language.{Language}
use Rattle.reader.specs.Reading.{shown, read_pattern, read_record}
use Rattle.reader.proofs.Answers.{refused_shown, ends_shown}
use Rattle.reader.proofs.Typed.{record_iff, pattern_iff, record_read, pattern_read}
use Rattle.parts.specs.Shown.{answer_width}
use Rattle.reader.specs.Brought.{Brought, language_of, brought_accepted}
use Rattle.call.specs.Call.{checks, answer_by}
use Rattle.call.specs.Verdict.{Verdict, passed, fault, check, reading, both}
use Rattle.call.proofs.Brought.{brought_alike}
use Rattle.call.proofs.Checks as every
use Rattle.replace.proofs.Demands.{brought_classed}
use Rattle.game.specs.Handed.{Sheets, Handed, with}
use Rattle.game.specs.Call.{most_turns, Input, side, Trees, game, trees, checked, told, play_of}
use Rattle.game.specs.Demands.{shown_as, Answered, Demanded}
use Rattle.game.specs.Move.{Rule, Game}
use Rattle.game.specs.Search.{Ruling, forced, unforced, stopped, Opening, unneeded, by_rule, by_pass, play, each}
use Rattle.game.specs.Turns.{check_of, Plays, Called, Bytewise, CalledOn}
use Rattle.game.proofs.Begun.{spent_begun, larger}
use Rattle.game.proofs.Exact.{game_exact}
use Rattle.game.proofs.Templates.{check_failed, check_passed, side_read, read_side}
use Rattle.std.specs.Prelude.{Result, Ok, Err, Option}
use Rattle.answers.specs.declared.Fault.{Fault}
use Rattle.answers.specs.Fault.{fault_at}

-- the checks of both sides, the goal and the state, each by what is told of the ones before it, in the language of the call

module _ (brought : Brought) (s : Sheets) (bytes : List ℕ) (lang : Language) (is : lang ≡ language_of brought) where
  abbrev loads : Verdict (List Rule)
  loads = side brought s.loader s.loader_templates

  abbrev sends : Verdict (List Rule)
  sends = side brought s.sender s.sender_templates

  abbrev All : Verdict Trees
  All = trees (with brought s) bytes

  goal_as : (x : Result ℕ Refusal) → shown (read_pattern lang s.goal) ≡ x → shown (read_pattern (language_of brought) s.goal) ≡ x
  goal_as x e = ap (λ (y : Language). shown (read_pattern y s.goal)) (sym is) ∙ e

  record_as : (x : Result ℕ Refusal) → shown (read_record lang bytes) ≡ x → shown (read_record (language_of brought) bytes) ≡ x
  record_as x e = ap (λ (y : Language). shown (read_record y bytes)) (sym is) ∙ e

  module _ (a : check_of loads ≡ Ok tt) (b : check_of sends ≡ Ok tt) where
    pub goal_fails : (r : Refusal) → shown (read_pattern lang s.goal) ≡ Err r → Err (fault_at r 0) ≡ check_of All
    goal_fails r e =
        rw ((check_passed loads a).1, (check_passed sends b).1, refused_shown (read_pattern (language_of brought) s.goal) r (goal_as (Err r) e))

    module _ (m : ℕ) (c : shown (read_pattern lang s.goal) ≡ Ok m) where
      pub record_fails : (r : Refusal) → shown (read_record lang bytes) ≡ Err r → Err (fault_at r 0) ≡ check_of All
      record_fails r e =
          rw ((check_passed loads a).1, (check_passed sends b).1, (ends_shown (read_pattern (language_of brought) s.goal) m (goal_as (Ok m) c)).1, refused_shown (read_record (language_of brought) bytes) r (record_as (Err r) e))

      pub trees_pass : (n : ℕ) → shown (read_record lang bytes) ≡ Ok n → Ok tt ≡ check_of All
      trees_pass n e =
          rw ((check_passed loads a).1, (check_passed sends b).1, (ends_shown (read_pattern (language_of brought) s.goal) m (goal_as (Ok m) c)).1, (ends_shown (read_record (language_of brought) bytes) n (record_as (Ok n) e)).1)

module _ (brought : Brought) (s : Sheets) (bytes : List ℕ) where
  pub loader_fails : (f : Fault) → check_of (side brought s.loader s.loader_templates) ≡ Err f → Err f ≡ check_of (trees (with brought s) bytes)
  loader_fails f e = rw (check_failed (side brought s.loader s.loader_templates) f.refusal f.index e)

  pub sender_fails : check_of (side brought s.loader s.loader_templates) ≡ Ok tt → (f : Fault) → check_of (side brought s.sender s.sender_templates) ≡ Err f
      → Err f ≡ check_of (trees (with brought s) bytes)
  sender_fails a f e =
      rw ((check_passed (side brought s.loader s.loader_templates) a).1, check_failed (side brought s.sender s.sender_templates) f.refusal f.index e)

-- all checks

module _ (turns : ℕ) (brought : Brought) (s : Sheets) (bytes : List ℕ) where
  pub turns_fail : most_turns < turns → Err (fault_at Turns 0) ≡ check_of (checked turns (with brought s) bytes)
  turns_fail h = rw (lt-leb turns most_turns h)

  module _ (h : turns ≤ most_turns) where
    pub table_fails : table_accepted brought.table ≡ false → Err (fault_at Table 0) ≡ check_of (checked turns (with brought s) bytes)
    unfolding checks
    table_fails e = rw (le-leb turns most_turns h, e)

    module _ (tabled : table_accepted brought.table ≡ true) where
      pub class_fails : brought_accepted brought ≡ false → Err (fault_at Class 0) ≡ check_of (checked turns (with brought s) bytes)
      unfolding checks
      class_fails e = rw (le-leb turns most_turns h, tabled, e)

      pub trees_tell : brought_accepted brought ≡ true → (r : Result (Unit {0}) Fault) → r ≡ check_of (trees (with brought s) bytes) → r ≡ check_of (checked turns (with brought s) bytes)
      unfolding checks
      trees_tell e r f = rw (le-leb turns most_turns h, tabled, e) f

-- what is shown of a ruling

forced_number : (n : ℕ) (o : Opening) → played_number (told n (forced o)) ≡ 0
forced_number n unneeded = refl
forced_number n (by_rule i) = refl
forced_number n by_pass = refl

forced_index : (n : ℕ) (o : Opening) → played_index (told n (forced o)) ≡ shown_as o
forced_index n unneeded = refl
forced_index n (by_rule i) = refl
forced_index n by_pass = refl

number_forced : (n : ℕ) (x : Ruling Opening) → played_number (told n x) ≡ 0 → (o : Opening) × (x ≡ forced o)
number_forced n (forced o) e = (o, refl)
number_forced n unforced e = absurd (omega (arith, e))
number_forced n stopped e = absurd (omega (arith, e))

number_none : (n : ℕ) (x : Ruling Opening) → played_number (told n x) ≡ 10 → x ≡ unforced
number_none n (forced o) e = absurd (omega (arith, e, forced_number n o))
number_none n unforced e = refl
number_none n stopped e = absurd (omega (arith, e))

number_spent : (n : ℕ) (x : Ruling Opening) → played_number (told n x) ≡ 11 → x ≡ stopped
number_spent n (forced o) e = absurd (omega (arith, e, forced_number n o))
number_spent n unforced e = absurd (omega (arith, e))
number_spent n stopped e = refl

told_word : (n : ℕ) (x : Ruling Opening) (r : Refusal) → played_number (told n x) ≡ number_of r → ⊥
told_word n (forced unneeded) r e = word_or_refusal 0 refl r e
told_word n (forced (by_rule i)) r e = word_or_refusal 0 refl r e
told_word n (forced by_pass) r e = word_or_refusal 0 refl r e
told_word n unforced r e = word_or_refusal 10 refl r e
told_word n stopped r e = word_or_refusal 11 refl r e

told_unspent : (n : ℕ) (x : Ruling Opening) → (played_number (told n x) ≡ 11 → ⊥) → played_count (told n x) ≡ 0
told_unspent n (forced unneeded) e = refl
told_unspent n (forced (by_rule i)) e = refl
told_unspent n (forced by_pass) e = refl
told_unspent n unforced e = refl
told_unspent n stopped e = absurd (e refl)

told_spent : (n : ℕ) (x : Ruling Opening) → played_number (told n x) ≡ 11 → (played_index (told n x) ≡ 0) × (played_count (told n x) ≡ n)
told_spent n (forced o) e = absurd (omega (arith, e, forced_number n o))
told_spent n unforced e = absurd (omega (arith, e))
told_spent n stopped e = (refl, refl)

passed_same : {X : Type 0} {x y : X} → ◌≡◌ {A = Verdict X} (passed x) (passed y) → x ≡ y
passed_same e = cc

module _ (turns : ℕ) (brought : Brought) (s : Sheets) (bytes : List ℕ) (loader_octets : Octets s.loader) (loader_templates_octets : Octets s.loader_templates)
    (sender_octets : Octets s.sender) (sender_templates_octets : Octets s.sender_templates) (goal_octets : Octets s.goal) (record_octets : Octets bytes) where
  abbrev l : Language
  l = language_of brought

  abbrev ReadAs : Trees → Type 0
  ReadAs x = Input (language_of brought) s bytes (game x) x.1.1

  abbrev loading : Verdict (List Rule)
  loading = side brought s.loader s.loader_templates

  abbrev sending : Verdict (List Rule)
  sending = side brought s.sender s.sender_templates

  -- accepted input is what is read
  reads : brought_accepted brought ≡ true → (x : Trees) → ReadAs x ↔ ((table_accepted brought.table ≡ true) × (trees (with brought s) bytes ≡ passed x))
  reads k x = (
    λ i. (
      i.table_accepted_holds,
      rw (
        side_read brought s.loader s.loader_templates i.table_accepted_holds k loader_octets loader_templates_octets x.0.0 i.loader,
        side_read brought s.sender s.sender_templates i.table_accepted_holds k sender_octets sender_templates_octets x.0.1 i.sender,
        (pattern_iff l s.goal goal_octets x.1.0).1 (i.goal_bytes, i.goal_accepted),
        (record_iff l bytes record_octets x.1.1).1 (i.record_bytes, i.record_accepted),
      ),
    ),
    λ e.
        let a = every.both_passed (both loading sending) (both (reading (read_pattern l s.goal)) (reading (read_record l bytes))) x.0 x.1 e.1 in
        let b = every.both_passed loading sending x.0.0 x.0.1 a.0 in
        let c = every.both_passed (reading (read_pattern l s.goal)) (reading (read_record l bytes)) x.1.0 x.1.1 a.1 in
        let p = every.reading_passed (read_pattern l s.goal) x.1.0 c.0 in
        let r = every.reading_passed (read_record l bytes) x.1.1 c.1 in
        let y = pattern_read l s.goal goal_octets p.0 x.1.0 p.1 in
        let t = record_read l bytes record_octets r.0 x.1.1 r.1 in record {
          table_accepted_holds = e.0;
          loader = read_side brought s.loader s.loader_templates e.0 k loader_octets loader_templates_octets x.0.0 b.0;
          sender = read_side brought s.sender s.sender_templates e.0 k sender_octets sender_templates_octets x.0.1 b.1;
          goal_bytes = y.0;
          goal_accepted = y.1;
          record_bytes = t.0;
          record_accepted = t.1;
        },
  )

  checked_from : turns ≤ most_turns → brought_accepted brought ≡ true → (x : Trees) → ReadAs x → checked turns (with brought s) bytes ≡ passed x
  checked_from h a x i =
      rw (le-leb turns most_turns h) ((every.passed_exactly brought answer_width (trees (with brought s) bytes) ReadAs (reads a) x).1 (omega arith, a, i))

  checked_to : (x : Trees) → checked turns (with brought s) bytes ≡ passed x → (turns ≤ most_turns) × (brought_accepted brought ≡ true) × ReadAs x
  checked_to x e = go (leb turns most_turns) refl e
    where
      go : (b : Bool) → leb turns most_turns ≡ b → check b Turns (checks brought answer_width (trees (with brought s) bytes)) ≡ passed x
          → (turns ≤ most_turns) × (brought_accepted brought ≡ true) × ReadAs x
      go false h e = absurd (every.fault_passed e)
      go true h e =
          let a = every.passed_checks brought answer_width (trees (with brought s) bytes) x e in
          (leb-true turns most_turns h, a.1, (reads a.1 x).1 (a.2, a.3))

  abbrev as_trees : Game → Term → Trees
  as_trees g t = ((g.loader, g.sender), (g.goal, t))

  abbrev tells : ℕ → Trees → Result Played Fault
  tells n x = told n (play l (each n) (game x) turns x.1.1)

  module _ (allowance : ℕ) where
    answered : turns ≤ most_turns → brought_accepted brought ≡ true → (g : Game) (t : Term) → Input (language_of brought) s bytes g t
        → Answered turns (with brought s) bytes allowance g t (tells allowance (as_trees g t))
    unfolding play_of
    answered h a g t i =
        let x = game_exact l (brought_alike brought a) i.table_accepted_holds (each allowance) g
        (record { loader = i.loader.accepted; sender = i.sender.accepted; goal = i.goal_accepted }) turns t i.record_accepted in
        let ruling : Ruling Opening = play l (each allowance) g turns t in
        record {
          forced_exactly = λ u. (
            λ e. (x.forced_exactly (λ z. u (ap (λ (y : Ruling Opening). played_number (told allowance y)) z))).0 (number_forced allowance ruling e),
            λ f.
                let o = (x.forced_exactly (λ z. u (ap (λ (y : Ruling Opening). played_number (told allowance y)) z))).1 f in
                ap (λ (y : Ruling Opening). played_number (told allowance y)) o.1 ∙ forced_number allowance o.0,
          );
          none_exactly = λ u. (
            λ e. (x.none_exactly (λ z. u (ap (λ (y : Ruling Opening). played_number (told allowance y)) z))).0 (number_none allowance ruling e),
            λ f. ap (λ (y : Ruling Opening). played_number (told allowance y)) ((x.none_exactly (λ z. u (ap (λ (y : Ruling Opening). played_number (told allowance y)) z))).1 f),
          );
          shows = λ e.
              let o = number_forced allowance ruling e in
              (o.0, ap (λ (y : Ruling Opening). played_index (told allowance y)) o.1 ∙ forced_index allowance o.0, x.shows o.0 o.1);
          spent_exactly = (
            λ e. (spent_begun l g turns t allowance).0 (number_spent allowance ruling e),
            λ f. ap (λ (y : Ruling Opening). played_number (told allowance y)) ((spent_begun l g turns t allowance).1 f),
          );
          larger_allowance = λ more u m.
              let e = larger l g turns t allowance more (λ z. u (ap (λ (y : Ruling Opening). played_number (told allowance y)) z)) m in
              ap (answer_by (λ r i. Err (fault_at r i)) (tells more)) (checked_from h a (as_trees g t) i) ∙ lifted more (play l (each more) g turns t) ruling e u;
        }
      where
        lifted : (more : ℕ) (y z : Ruling Opening) → y ≡ z → (played_number (told allowance z) ≡ 11 → ⊥) → told more y ≡ told allowance z
        lifted more y z e u = ap (told more) e ∙ go z u
          where
            go : (z : Ruling Opening) → (played_number (told allowance z) ≡ 11 → ⊥) → told more z ≡ told allowance z
            go (forced unneeded) u = refl
            go (forced (by_rule i)) u = refl
            go (forced by_pass) u = refl
            go unforced u = refl
            go stopped u = absurd (u refl)

    demanded_by : (v : Verdict Trees) → checked turns (with brought s) bytes ≡ v → Demanded turns (with brought s) bytes allowance (answer_by (λ r i. Err (fault_at r i)) (tells allowance) v)
    demanded_by (fault r j) e = record {
      refused_exactly = (λ z h a g t i. every.fault_passed (sym e ∙ checked_from h a (as_trees g t) i), λ f. (r, refl));
      turns_first = λ h. ap (λ (v : Verdict Trees). played_number (answer_by (λ r i. Err (fault_at r i)) (tells allowance) v)) (sym e ∙ check_failed (checked turns (with brought s) bytes) Turns 0 (sym (turns_fail turns brought s bytes h)));
      unspent_count = λ z. refl;
      spent_shows = λ z. absurd (word_or_refusal 11 refl r (sym z));
      answered = λ h a g t i. absurd (every.fault_passed (sym e ∙ checked_from h a (as_trees g t) i));
    }
    demanded_by (passed x) e =
        let c = checked_to x e in
        let ruling : Ruling Opening = play l (each allowance) (game x) turns x.1.1 in
        record {
          refused_exactly = (λ z. absurd (told_word allowance ruling z.0 z.1), λ f. absurd (f c.0 c.1 (game x) x.1.1 c.2));
          turns_first = λ h. absurd (omega (arith, h, c.0));
          unspent_count = told_unspent allowance ruling;
          spent_shows = told_spent allowance ruling;
          answered = λ h a g t i.
              subst (λ (y : Trees). Answered turns (with brought s) bytes allowance g t (tells allowance y)) (passed_same (sym (checked_from h a (as_trees g t) i) ∙ e)) (answered h a g t i);
        }

    pub demanded : Demanded turns (with brought s) bytes allowance (play_of turns (with brought s) bytes allowance)
    unfolding play_of
    demanded = demanded_by (checked turns (with brought s) bytes) refl

    abbrev CalledAs : Result Played Fault → Type 0
    CalledAs a = Called turns (with brought s) bytes allowance a

    called : (a : Result Played Fault) → a ≡ play_of turns (with brought s) bytes allowance → CalledAs a
    called a e = (e, subst (Demanded turns (with brought s) bytes allowance) (sym e) demanded)

    -- the code's answer where a check fails, and where all pass
    pub play_fails : (r : Refusal) (i : ℕ) → check_of (checked turns (with brought s) bytes) ≡ Err (fault_at r i) → CalledAs (Err (fault_at r i))
    unfolding play_of
    play_fails r i e = called (Err (fault_at r i)) (rw (check_failed (checked turns (with brought s) bytes) r i e))

    pub play_passes : (lang : Language) → lang ≡ language_of brought → check_of (checked turns (with brought s) bytes) ≡ Ok tt → (a : Result Played Fault)
        → Plays lang s allowance turns bytes a → CalledAs a
    unfolding play_of
    play_passes lang is e a f =
        let x = check_passed (checked turns (with brought s) bytes) e in
        let c = checked_to x.0 x.1 in
        let z : a ≡ tells allowance x.0 =
        subst (λ (y : Language). Plays y s allowance turns bytes a) is f (brought_classed brought c.1) (game x.0) x.0.1.1 c.2 in
        called a (rw x.1 z)

-- by what the code hands

abbrev pub in_edition : Edition → List ℕ → Option (List ℕ) → Brought
in_edition e table list = record { edition = e; table = table; list = list }

pub called_as : (h k : Handed) → h ≡ k → (turns : ℕ) (bytes : List ℕ) (allowance : ℕ) (a : Result Played Fault) → CalledOn turns h bytes allowance a
    → Bytewise k.sheets → Called turns k bytes allowance a
called_as h k e turns bytes allowance a c = subst (λ (x : Handed). CalledOn turns x bytes allowance a) e c
