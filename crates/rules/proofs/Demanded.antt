-- The call's answer and final buffer meet every demand.
use Prim.Native.Nat.{ℕ, ◌+◌, ◌<◌, ◌≤◌}
use native.Mathlib.Omega.{arith}
use mathlib.Core.Path.{◌≡◌, refl, sym, ◌∙◌, ap, ap₂, subst}
use mathlib.Core.Logic.{◌⊎◌, inl, inr}
use mathlib.Core.List.{List, [], ◌∷◌, ◌++◌}
use mathlib.Core.Bool.{true}
use lib.ListN.{length, get_or, length-append}
use lib.Seq.{get_or_at}
use Rattle.answers.specs.Refusal.{number_of}
use Rattle.answers.specs.Answers.{answer_number, rule_number, rule_index, rule_count}
use Rattle.answers.specs.declared.Part.{Part}
use Rattle.answers.specs.declared.Refusal.{Refusal}
use Rattle.answers.specs.declared.RuleAnswer.{RuleAnswer}
use Rattle.answers.specs.declared.RuleAnswer.TheVariants.{Bound, Spent}
use Rattle.term.specs.Class.{Alike}
use Rattle.term.specs.Term.{Term}
use Rattle.term.specs.Pattern.{Pattern, name}
use Rattle.term.specs.Limits.{Octets}
use Rattle.answers.proofs.Numbers.{word_or_refusal}
use Rattle.anti_pattern.specs.AntiTerm.{Substitution}
use Rattle.anti_pattern.specs.Answer.{Matching, count_of}
use Rattle.anti_pattern.specs.Cost.{Enough}
use Rattle.anti_pattern.specs.Demands.{First, PublishedAgrees}
use Rattle.anti_pattern.specs.Language.{Language, TermOf}
use Rattle.anti_pattern.specs.Meaning.{Assignment, Satisfies}
use Rattle.anti_pattern.specs.Place.{parts_at}
use Rattle.anti_pattern.specs.Published.{Solution, NoRuns, anti, assignment}
use Rattle.anti_pattern.proofs.Cost.{enough_nodes}
use Rattle.anti_pattern.proofs.Demands.{answer_exact, published_agrees, cost_bound}
use Rattle.anti_pattern.proofs.Within.{accepted_of}
use Rattle.sheet.specs.Check.{edition_of}
use Rattle.sheet.specs.Entry.{part_at}
use Rattle.reader.specs.Brought.{Brought, classes_of, language_of, brought_accepted}
use Rattle.call.specs.Call.{answer_width, written}
use Rattle.call.proofs.Brought.{brought_alike}
use Rattle.call.proofs.Handled.{handled, fails, passes}
use Rattle.matcher.specs.Call.{Input as PatternInput, told as own_told, bound_parts as own_parts}
use Rattle.matcher.specs.Demands.{Shows}
use Rattle.matcher.proofs.Answered.{answered as own_answered}
use Rattle.rules.specs.Demands.{ShownAs, Called}
use Rattle.rules.specs.Trial.{Trial, bound_at, none_of, spent_at, try_rules}
use Rattle.rules.specs.Call.{Input, AcceptedTrees, trees, checked, check_of, told, answer_of, bound_parts, buffer_of, answer_on_bytes, buffer_on_bytes}
use Rattle.rules.specs.Demands.{EachNone, counts, Reached, EachEnough, Answered, Published, Bounded, Demanded}
use Rattle.rules.proofs.Rules.{rule_at, rule_input, part_octets}
use Rattle.rules.proofs.Checks.{reads, checked_exactly, check_failed, check_passed}
use Rattle.rules.proofs.Endings.{Ends, ends_bound, ends_none, ends_spent, trial_none, trial_bound, trial_spent, trial_ends, larger_trial}
use Rattle.rules.proofs.Turns.{bytes_answered}
use Rattle.std.specs.Prelude.{Result, Ok, Err, Option, None}
use Rattle.answers.specs.declared.Fault.{Fault}
use Rattle.answers.specs.Fault.{fault_at}

-- what is told shows which it is

told_bound : (x : Trial) → rule_number (told x) ≡ 0 → told x ≡ Ok (Bound (rule_index (told x)) (rule_count (told x)))
told_bound (bound_at k ps n) h = refl
told_bound (none_of n) h = absurd (omega arith)
told_bound (spent_at k n) h = absurd (omega arith)

told_none : (x : Trial) → rule_number (told x) ≡ 10 → told x ≡ Ok (RuleAnswer.None (rule_count (told x)))
told_none (bound_at k ps n) h = absurd (omega arith)
told_none (none_of n) h = refl
told_none (spent_at k n) h = absurd (omega arith)

told_spent : (x : Trial) → rule_number (told x) ≡ 11 → told x ≡ Ok (Spent (rule_index (told x)) (rule_count (told x)))
told_spent (bound_at k ps n) h = absurd (omega arith)
told_spent (none_of n) h = absurd (omega arith)
told_spent (spent_at k n) h = refl

shows : {a b : (Result RuleAnswer Fault)} → a ≡ b → ShownAs a (rule_number b) (rule_index b) (rule_count b)
shows e = (ap rule_number e, ap rule_index e, ap rule_count e)

-- a refusal is no word, and shows no count

told_refused : (x : Trial) (r : Refusal) → rule_number (told x) ≡ number_of r → ⊥
told_refused (bound_at k ps n) r e = word_or_refusal 0 refl r e
told_refused (none_of n) r e = word_or_refusal 10 refl r e
told_refused (spent_at k n) r e = word_or_refusal 11 refl r e

told_unbound : (x : Trial) → (rule_number (told x) ≡ 0 → ⊥) → bound_parts x ≡ None
told_unbound (bound_at k ps n) h = absurd (h refl)
told_unbound (none_of n) h = refl
told_unbound (spent_at k n) h = refl

-- the allowance is enough for a rule of such a sheet
each_at : (allowance : ℕ) (ps : List Pattern) (q : Pattern) (qs : List Pattern) → EachEnough allowance (ps ++ (q ∷ qs)) → NoRuns q × Enough q allowance
each_at allowance [] q qs h = (h.0, h.1)
each_at allowance (p ∷ ps) q qs h = each_at allowance ps q qs h.2

-- Where trying ends, in the words of the demands

module _ (l : Language) (qs : List Pattern) (t : Term) (allowance : ℕ) where
  abbrev BoundAt : ℕ → ℕ → Type 0
  BoundAt k n =
      (q : Pattern) × (sum : ℕ) × Reached l qs t allowance k q sum
      × (count_of l q t ≤ allowance) × ((x : Assignment) × First l q t x) × (n ≡ sum + count_of l q t)

  abbrev SpentAt : ℕ → ℕ → Type 0
  SpentAt k n = (q : Pattern) × (sum : ℕ) × Reached l qs t allowance k q sum × (allowance < count_of l q t) × (n ≡ sum + allowance)

  reached_at : {k j : ℕ} {q : Pattern} {sum : ℕ} → k ≡ j → Reached l qs t allowance k q sum → Reached l qs t allowance j q sum
  reached_at {q = q} {sum = sum} e r = subst (λ (i : ℕ). Reached l qs t allowance i q sum) e r

module _ (l : Language) (alike : Alike l.table l.classes) (qs : List Pattern) (t : Term) (of : TermOf l t) (allowance : ℕ) where
  bound_there : (k n : ℕ) {x : Trial} → Ends l t allowance qs x → told x ≡ Ok (Bound k n) → BoundAt l qs t allowance k n
  bound_there k n (ends_bound {k = j} {q = q} {sum = sum} {ps = ps} {n = m} r f) e =
      let z : j ≡ k = cc in
      let y : sum + m ≡ n = cc in
      let a = ((answer_exact l alike q t of allowance).bound_exactly ps m).0 f in
      (q, sum, reached_at l qs t allowance z r, a.1, (a.2.0, a.2.1), sym y ∙ ap (λ (c : ℕ). sum + c) a.0)
  bound_there k n (ends_none h) e = let z : ◌≡◌ {A = ℕ} 0 1 = cc in absurd (omega arith)
  bound_there k n (ends_spent r f) e = let z : ◌≡◌ {A = ℕ} 0 1 = cc in absurd (omega arith)

  bound_back : (k n : ℕ) → BoundAt l qs t allowance k n → told (try_rules l qs t allowance) ≡ Ok (Bound k n)
  bound_back k n b =
      let c = count_of l b.0 t in
      let ps = parts_at l.table b.0 t b.4.0 in
      let e = ((answer_exact l alike b.0 t of allowance).bound_exactly ps c).1 (refl, b.3, (b.4.0, b.4.1, refl)) in
      ap told (trial_bound l alike t of allowance b.2 ps c e) ∙ ap (λ (m : ℕ). Ok (Bound k m)) (sym b.5)

  spent_there : (k n : ℕ) {x : Trial} → Ends l t allowance qs x → told x ≡ Ok (Spent k n) → SpentAt l qs t allowance k n
  spent_there k n (ends_spent {k = j} {q = q} {sum = sum} {n = m} r f) e =
      let z : j ≡ k = cc in
      let y : sum + m ≡ n = cc in
      let a = ((answer_exact l alike q t of allowance).spent_exactly m).0 f in
      (q, sum, reached_at l qs t allowance z r, a.1, sym y ∙ ap (λ (c : ℕ). sum + c) a.0)
  spent_there k n (ends_none h) e = let z : ◌≡◌ {A = ℕ} 0 1 = cc in absurd (omega arith)
  spent_there k n (ends_bound r f) e = let z : ◌≡◌ {A = ℕ} 0 1 = cc in absurd (omega arith)

  spent_back : (k n : ℕ) → SpentAt l qs t allowance k n → told (try_rules l qs t allowance) ≡ Ok (Spent k n)
  spent_back k n b =
      let e = ((answer_exact l alike b.0 t of allowance).spent_exactly allowance).1 (refl, b.3) in
      ap told (trial_spent l alike t of allowance b.2 allowance e) ∙ ap (λ (m : ℕ). Ok (Spent k m)) (sym b.4)

  none_there : (n : ℕ) {x : Trial} → Ends l t allowance qs x → told x ≡ Ok (RuleAnswer.None n) → EachNone l t allowance qs × (n ≡ counts l t qs)
  none_there n (ends_none h) e = (h, cc)
  none_there n (ends_bound r f) e = let z : ◌≡◌ {A = ℕ} 0 1 = cc in absurd (omega arith)
  none_there n (ends_spent r f) e = let z : ◌≡◌ {A = ℕ} 0 1 = cc in absurd (omega arith)

module _ (brought : Brought) (sheet bytes before : List ℕ) (allowance : ℕ) (sheet_octets : Octets sheet)
    (record_octets : Octets bytes) (like : edition_of sheet ≡ brought.edition) where
  abbrev l : Language
  l = language_of brought

  module _ (wide : answer_width ≤ length before) (accepted : brought_accepted brought ≡ true) (qs : List Pattern) (t : Term) (i : Input brought sheet bytes qs t) where
    alike : Alike brought.table (classes_of brought)
    alike = brought_alike brought accepted

    of : TermOf l t
    of = accepted_of l t i.record_accepted

    abbrev trial : Trial
    trial = try_rules l qs t allowance

    ends : Ends l t allowance qs trial
    ends = trial_ends l alike t of allowance qs

    -- a rule that is reached is that of its index, and a part of the sheet
    is_rule : {k : ℕ} {q : Pattern} {sum : ℕ} → Reached l qs t allowance k q sum → rule_at qs k ≡ q
    is_rule {k} {q} r =
        ap (λ (ps : List Pattern). get_or ps k (name 0)) r.rules ∙ get_or_at r.earlier q r.later (name 0) k (sym r.index)

    part_of_holds : {k : ℕ} {q : Pattern} {sum : ℕ} → Reached l qs t allowance k q sum
        → PatternInput (language_of brought) (part_at sheet k) bytes q t × Octets (part_at sheet k)
    part_of_holds {k} {q} r =
        let h : k < length qs = omega (arith, r.index, ap length r.rules, length-append r.earlier (q ∷ r.later)) in (
          subst (λ (p : Pattern). PatternInput (language_of brought) (part_at sheet k) bytes p t) (is_rule r) (rule_input brought sheet bytes qs t i k h),
          part_octets brought sheet bytes qs t i sheet_octets k h,
        )

    bound_shows : (k n : ℕ) {x : Trial} → Ends l t allowance qs x → told x ≡ Ok (Bound k n)
        → (q : Pattern) × (sum : ℕ) × Reached l qs t allowance k q sum × ((y : Assignment) × First l q t y × Shows brought.table bytes q t y (written (bound_parts x) before))
    bound_shows k n (ends_bound {k = j} {q = q} {sum = sum} {ps = ps} {n = m} r f) e =
        let z : j ≡ k = cc in
        let p = part_of_holds r in
        let s = (own_answered brought (part_at sheet j) bytes alike q t p.0 allowance before p.1 record_octets wide accepted).bound_shows
        (ap (λ (o : Matching). answer_number (own_told o)) f) in
        (q, sum, reached_at l qs t allowance z r, (s.0, s.1, subst (Shows brought.table bytes q t s.0) (ap (λ (o : Matching). written (own_parts o) before) f) s.2))
    bound_shows k n (ends_none h) e = let z : ◌≡◌ {A = ℕ} 0 1 = cc in absurd (omega arith)
    bound_shows k n (ends_spent r f) e = let z : ◌≡◌ {A = ℕ} 0 1 = cc in absurd (omega arith)

    same_call : (more : ℕ) → try_rules l qs t more ≡ trial
        → (answer_of brought sheet bytes more (length before) ≡ told trial) × (buffer_of brought sheet bytes more before ≡ written (bound_parts trial) before)
    unfolding answer_of buffer_of
    same_call more z =
        rw ((checked_exactly brought sheet bytes sheet_octets record_octets like (length before) qs t).1 (wide, accepted, i))
        (ap told z, ap (λ (x : Trial). written (bound_parts x) before) z)

    answered : Answered brought sheet bytes before allowance qs t (told trial) (written (bound_parts trial) before)
    answered = record {
      bound_exactly = λ k n. (
        λ h. bound_there l alike qs t of allowance k n ends (told_bound trial h.0 ∙ ap₂ (λ (i m : ℕ). Ok (Bound i m)) h.1 h.2),
        λ b. shows (bound_back l alike qs t of allowance k n b),
      );
      spent_exactly = λ k n. (
        λ h. spent_there l alike qs t of allowance k n ends (told_spent trial h.0 ∙ ap₂ (λ (i m : ℕ). Ok (Spent i m)) h.1 h.2),
        λ b. shows (spent_back l alike qs t of allowance k n b),
      );
      none_exactly = λ n. (
        λ h. none_there l alike qs t of allowance n ends (told_none trial h.0 ∙ ap (λ (m : ℕ). Ok (RuleAnswer.None m)) h.2),
        λ h. shows (ap told (trial_none l alike t of allowance qs h.0) ∙ ap (λ (m : ℕ). Ok (RuleAnswer.None m)) (sym h.1)),
      );
      bound_shows = λ h. bound_shows _ _ ends (told_bound trial h);
      larger_allowance = λ more h k. same_call more (larger_trial l alike t of allowance more k qs h);
    }

    -- what a rule can cost at most

    never_spent : (q : Pattern) → NoRuns q → Enough q allowance → (k sum : ℕ) → Reached l qs t allowance k q sum
        → rule_number (told trial) ≡ 11 → rule_index (told trial) ≡ k → ⊥
    never_spent q n enough k sum r h j =
        let s = (answered.spent_exactly k (rule_count (told trial))).0 (h, j, refl) in
        let over : allowance < count_of l q t = subst (λ (p : Pattern). allowance < count_of l p t) (sym (is_rule s.2) ∙ is_rule r) s.3 in
        omega (arith, over, (cost_bound l q n t).count_at_most, enough_nodes (language_of brought) q allowance (part_of_holds r).0.pattern_accepted enough)

    bounded : Bounded brought allowance qs t (told trial)
    bounded = record { never_spent = never_spent; bound_or_none = λ h. words h trial refl }
      where
        words : EachEnough allowance qs → (x : Trial) → trial ≡ x → (rule_number (told x) ≡ 0) ⊎ (rule_number (told x) ≡ 10)
        words h (bound_at k ps m) e = inl refl
        words h (none_of m) e = inr refl
        words h (spent_at k m) e =
            let s = (answered.spent_exactly k m).0 (shows (ap told e)) in
            let c = each_at allowance s.2.earlier s.0 s.2.later (subst (EachEnough allowance) s.2.rules h) in
            absurd (never_spent s.0 c.0 c.1 k s.1 s.2 (shows (ap told e)).0 (shows (ap told e)).1)

    -- the first assignment of a rule without run names is its solution
    module _ (q : Pattern) (n : NoRuns q) where
      agrees : PublishedAgrees l q t n allowance
      agrees = published_agrees l alike q t of n allowance

      solved : (x : Assignment) → Satisfies l q t x → (σ : Substitution) × Solution l (anti q n) t σ × (x ≡ assignment σ)
      solved x h =
          let s = agrees.satisfying_substitution x h in
          (s.0, (agrees.solution_satisfies s.0).1 (subst (Satisfies l q t) s.1 h), s.1)

      -- what is shown of the rule of an index is shown of this one
      same_rule : {k : ℕ} {p : Pattern} {sum rest : ℕ} → Reached l qs t allowance k p rest → Reached l qs t allowance k q sum → p ≡ q
      same_rule r s = sym (is_rule r) ∙ is_rule s

      published : Published brought bytes allowance qs t (told trial) (written (bound_parts trial) before) q n
      published = record {
        none_exactly = (
          λ h. (h.0, λ σ s. h.1 (assignment σ) ((agrees.solution_satisfies σ).0 s)),
          λ h. (h.0, λ x y. let s = solved x y in h.1 s.0 s.1),
        );
        bound_exactly = λ k sum r. (
          λ h.
              let b = (answered.bound_exactly k (rule_count (told trial))).0 (h.0, h.1, refl) in
              let e = same_rule b.2 r in
              let s = solved b.4.0 (subst (λ (p : Pattern). Satisfies l p t b.4.0) e b.4.1.satisfies) in
              (subst (λ (p : Pattern). count_of l p t ≤ allowance) e b.3, (s.0, s.1)),
          λ h.
              let m = count_of l q t in
              let ps = parts_at brought.table q t (assignment h.1.0) in
              let e = trial_bound l alike t of allowance r ps m ((agrees.bound_exactly ps m).1 (refl, h.0, (h.1.0, h.1.1, refl))) in
              (ap (λ (x : Trial). rule_number (told x)) e, ap (λ (x : Trial). rule_index (told x)) e),
        );
        bound_shows = λ sum h r.
            let b = answered.bound_shows h in
            let e = same_rule b.2 r in
            let x = subst (λ (p : Pattern). (y : Assignment) × First l p t y × Shows brought.table bytes p t y (written (bound_parts trial) before)) e b.3 in
            let s = solved x.0 x.1.satisfies in
            (s.0, s.1, subst (λ (y : Assignment). Shows brought.table bytes q t y (written (bound_parts trial) before)) s.2 x.2);
        only_one = agrees.at_most_one;
      }

  -- the work on trees
  abbrev work : List Pattern × Term → Trial
  work x = try_rules l x.0 x.1 allowance

  abbrev tells : List Pattern × Term → Result RuleAnswer Fault
  tells x = told (work x)

  abbrev binds : List Pattern × Term → Option (List Part)
  binds x = bound_parts (work x)

  demanded_of : length (buffer_of brought sheet bytes allowance before) ≡ length before
      → Demanded brought sheet bytes before allowance (answer_of brought sheet bytes allowance (length before))
      (buffer_of brought sheet bytes allowance before)
  unfolding answer_of buffer_of
  demanded_of same = record {
    answered = λ wide b qs t i. let z = same_call wide b qs t i allowance refl in rw (z.0, z.1) (answered wide b qs t i);
    published = λ wide b qs t i q n. let z = same_call wide b qs t i allowance refl in rw (z.0, z.1) (published wide b qs t i q n);
    bounded = λ wide b qs t i. rw (same_call wide b qs t i allowance refl).0 (bounded wide b qs t i);
    handled = handled (λ r i. Err (fault_at r i)) tells binds before brought (trees brought sheet bytes) (AcceptedTrees brought sheet bytes) (λ x. ⊥)
        (reads brought sheet bytes sheet_octets record_octets like) rule_number rule_count
        (record {
          numbered = λ r i. refl;
          uncounted = λ r i. refl;
          told_uncounted = λ x r e. absurd (told_refused (work x) r e);
          unbound = λ x. told_unbound (work x);
        })
        (λ wide b x i. (λ e. told_refused (work x) e.0 e.1, λ h. absurd h)) same;
  }

  -- where a check fails
  pub fails_called : {k : Result ℕ Fault} {f : Fault} → k ≡ check_of (checked brought sheet bytes (length before)) → k ≡ Err f
      → Called brought sheet bytes before allowance (Err f) before
  unfolding answer_of buffer_of
  fails_called {k} {f} e is =
      fails (λ r i. Err (fault_at r i)) tells binds before (checked brought sheet bytes (length before)) (Demanded brought sheet bytes before allowance) demanded_of f.refusal f.index
      (check_failed (checked brought sheet bytes (length before)) f (sym is ∙ e))

  -- where all pass, and the rules are tried in the language of the call
  pub passes_called : {k : Result ℕ Fault} {n : ℕ} → k ≡ check_of (checked brought sheet bytes (length before)) → k ≡ Ok n
      → (lang : Language) → lang ≡ language_of brought → (a : Result RuleAnswer Fault) (after : List ℕ)
      → (a ≡ answer_on_bytes lang.table lang.classes sheet bytes allowance (length before))
      × (after ≡ buffer_on_bytes lang.table lang.classes sheet bytes allowance before)
      → length after ≡ length before → Called brought sheet bytes before allowance a after
  unfolding answer_of buffer_of
  passes_called {k} {n} e is lang same a after m =
      let c = check_passed (checked brought sheet bytes (length before)) n (sym is ∙ e) in
      let i = (checked_exactly brought sheet bytes sheet_octets record_octets like (length before) c.0 c.1).0 c.2 in
      let g = bytes_answered brought sheet bytes allowance before i.0 (brought_alike brought i.1) c.0 c.1 i.2 in
      let n = rw same at m in
      passes (λ r i. Err (fault_at r i)) tells binds before (checked brought sheet bytes (length before)) (Demanded brought sheet bytes before allowance) demanded_of
      (c.0, c.1) c.2 a after (n.0 ∙ g.0) (n.1 ∙ g.1)
