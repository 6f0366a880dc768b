-- A turn of the loop tries one part of the sheet more; on accepted input the parts are the rules.
use Prim.Native.Nat.{ℕ, zero, suc, ◌+◌, ◌*◌, ◌<◌, ◌≤◌}
use native.Mathlib.Omega.{arith}
use native.Mathlib.Numerals.{add-one}
use mathlib.Core.Path.{◌≡◌, refl, sym, ◌∙◌, ap}
use mathlib.Core.List.{List, [], ◌∷◌}
use lib.ListN.{length, get_or, drop, drop_of_length-le}
use lib.Seq.{drop-cons}
use borrow.Author.Tests.{lt-ltb, le-ltb}
use Rattle.answers.specs.declared.Refusal.TheVariants.{Narrow}
use Rattle.answers.specs.declared.Answer.{Answer}
use Rattle.answers.specs.declared.RuleAnswer.{RuleAnswer}
use Rattle.answers.specs.declared.RuleAnswer.TheVariants.{Bound, None, Spent}
use Rattle.term.specs.Class.{Alike}
use Rattle.term.specs.Term.{Term}
use Rattle.term.specs.Pattern.{Pattern, name}
use Rattle.anti_pattern.specs.Answer.{Matching, bound, nothing, spent, answer}
use Rattle.anti_pattern.specs.Language.{Language}
use Rattle.reader.specs.Brought.{Brought, language_of}
use Rattle.sheet.specs.Check.{entry_count}
use Rattle.sheet.specs.Entry.{part_at}
use Rattle.call.specs.Call.{answer_width, written}
use Rattle.link.specs.OnBytes.{outcome_on_bytes}
use Rattle.matcher.specs.Call.{told as own_told, bound_parts as own_parts, answer_on_bytes as own_answer, buffer_on_bytes as own_buffer}
use Rattle.link.proofs.Linked.{linked}
use Rattle.rules.specs.Trial.{Trial, none_of, try_one, try_each, try_rules}
use Rattle.rules.specs.Call.{Input, told, bound_parts, parts_from, try_parts, answer_on_bytes, buffer_on_bytes}
use Rattle.rules.proofs.Rules.{rule_at, input_directed, rule_input}
use Rattle.std.specs.Prelude.{Result, Ok, Err}
use Rattle.answers.specs.declared.Refusal.{Refusal}
use Rattle.answers.specs.declared.Fault.{Fault}
use Rattle.answers.specs.Fault.{fault_at}

-- the parts of a sheet

parts_length : (sheet : List ℕ) (k i : ℕ) → length (parts_from sheet k i) ≡ k
unfolding parts_from
parts_length sheet zero i = refl
parts_length sheet (suc k) i = ap suc (parts_length sheet k (i + 1))

parts_at : (sheet : List ℕ) (k i j : ℕ) → j < k → get_or (parts_from sheet k i) j [] ≡ part_at sheet (i + j)
unfolding parts_from
parts_at sheet zero i j h = absurd (omega arith)
parts_at sheet (suc k) i zero h = ap (part_at sheet) (omega arith)
parts_at sheet (suc k) i (suc j) h = parts_at sheet k (i + 1) j (omega arith) ∙ ap (part_at sheet) (omega arith)

-- lists whose elements answer alike are tried alike
same_trial : {A B : Type 0} (f : A → Matching) (g : B → Matching) (d : A) (e : B) (xs : List A) (ys : List B) (i sum : ℕ) → length xs ≡ length ys
    → ((k : ℕ) → k < length xs → f (get_or xs k d) ≡ g (get_or ys k e)) → try_each f i sum xs ≡ try_each g i sum ys
unfolding try_each
same_trial f g d e [] [] i sum l h = refl
same_trial f g d e [] (y ∷ ys) i sum l h = absurd (omega arith)
same_trial f g d e (x ∷ xs) [] i sum l h = absurd (omega arith)
same_trial f g d e (x ∷ xs) (y ∷ ys) i sum l h =
    go (f x) (g y) (h 0 (omega arith)) (λ s. same_trial f g d e xs ys (i + 1) s (omega arith) (λ k b. h (suc k) (omega arith)))
  where
    go : (o p : Matching) → o ≡ p → ((s : ℕ) → try_each f (i + 1) s xs ≡ try_each g (i + 1) s ys)
        → try_one i sum o (λ s. try_each f (i + 1) s xs) ≡ try_one i sum p (λ s. try_each g (i + 1) s ys)
    go (bound ps n) p z r = rw (← z)
    go (nothing n) p z r = rw (← z) (r (sum + n))
    go (spent n) p z r = rw (← z)

module _ (table classes sheet bytes : List ℕ) (allowance : ℕ) where
  -- what a part answers as a rule, and all parts
  abbrev own : List ℕ → Matching
  own part = outcome_on_bytes table classes part bytes allowance

  abbrev parts : List (List ℕ)
  parts = parts_from sheet (entry_count sheet) 0

  abbrev trial : Trial
  trial = try_parts table classes sheet bytes allowance

  module _ (before : List ℕ) where
    -- answer and final buffer on any bytes
    abbrev OnBytes : Result RuleAnswer Fault → List ℕ → Type 0
    OnBytes a after =
        (a ≡ answer_on_bytes table classes sheet bytes allowance (length before)) × (after ≡ buffer_on_bytes table classes sheet bytes allowance before)

    pub narrow_matched : length before < answer_width → OnBytes (Err (fault_at Narrow 0)) before
    unfolding answer_on_bytes buffer_on_bytes
    narrow_matched h = rw (lt-ltb (length before) answer_width h) (refl, refl)

    -- by what trying the parts comes to
    tried : answer_width ≤ length before → (x : Trial) → trial ≡ x → (a : Result RuleAnswer Fault) (after : List ℕ) → a ≡ told x → after ≡ written (bound_parts x) before → OnBytes a after
    unfolding answer_on_bytes buffer_on_bytes
    tried wide x z a after e f =
        rw (le-ltb (length before) answer_width wide) (e ∙ ap told (sym z), f ∙ ap (λ (y : Trial). written (bound_parts y) before) (sym z))

    -- After k turns over so many parts: the trial of all is that of the parts from index k on, with the sum of the counts so far; the buffer is
    -- as it was.
    pub record Turn (rules : ℕ) (buffer : List ℕ) (sum k : ℕ) : Type 0 where
      pub wide : answer_width ≤ length before
      pub counted : rules ≡ entry_count sheet
      pub few : rules ≤ 65535
      pub reached : k ≤ rules
      pub fits : sum ≤ k * 4294967295
      pub untouched : buffer ≡ before
      pub trying : trial ≡ try_each own k sum (drop k parts)

-- what the own answer of the part of index k comes to
abbrev stop_of : ℕ → ℕ → Result Answer Refusal → Result RuleAnswer Fault
stop_of k sum (Ok (Answer.Bound n)) = Ok (Bound k (sum + n))
stop_of k sum (Ok (Answer.None n)) = Ok (None (sum + n))
stop_of k sum (Ok (Answer.Spent n)) = Ok (Spent k (sum + n))
stop_of k sum (Err r) = Err (fault_at r k)

-- it is not none
abbrev Stops : Result Answer Refusal → Type 0
Stops (Ok (Answer.Bound n)) = Unit {0}
Stops (Ok (Answer.None n)) = ⊥
Stops (Ok (Answer.Spent n)) = Unit {0}
Stops (Err r) = Unit {0}

stop_told : (k sum : ℕ) (o : Matching) (next : ℕ → Trial) (before : List ℕ) → Stops (own_told o)
    → (stop_of k sum (own_told o) ≡ told (try_one k sum o next)) × (written (own_parts o) before ≡ written (bound_parts (try_one k sum o next)) before)
stop_told k sum (bound parts n) next before h = (refl, refl)
stop_told k sum (nothing n) next before h = absurd h
stop_told k sum (spent n) next before h = (refl, refl)

none_told : (k sum : ℕ) (o : Matching) (next : ℕ → Trial) (n : ℕ) (before : List ℕ) → own_told o ≡ Ok (Answer.None n)
    → (try_one k sum o next ≡ next (sum + n)) × (written (own_parts o) before ≡ before)
none_told k sum (bound parts m) next n before e = let z : ◌≡◌ {A = ℕ} 0 1 = cc in absurd (omega arith)
none_told k sum (nothing m) next n before e = let z : m ≡ n = cc in (ap (λ (x : ℕ). next (sum + x)) z, refl)
none_told k sum (spent m) next n before e = let z : ◌≡◌ {A = ℕ} 0 1 = cc in absurd (omega arith)

-- on accepted input trying the parts is trying the rules

module _ (brought : Brought) (sheet bytes : List ℕ) (allowance : ℕ) where
  abbrev l : Language
  l = language_of brought

  trial_accepted : Alike l.table l.classes → (qs : List Pattern) (t : Term) → Input brought sheet bytes qs t
      → try_parts l.table l.classes sheet bytes allowance ≡ try_rules l qs t allowance
  trial_accepted alike qs t i =
      let d = input_directed brought sheet bytes qs t i in
      let rule = own l.table l.classes sheet bytes allowance in
      same_trial rule (λ q. answer l q t allowance) [] (name 0) (parts_from sheet (entry_count sheet) 0) qs 0 0
      (parts_length sheet (entry_count sheet) 0 ∙ d.counted)
      (λ k h.
      let low : k < length qs = omega (arith, parts_length sheet (entry_count sheet) 0, d.counted) in
      ap rule (parts_at sheet (entry_count sheet) 0 k (omega (arith, d.counted)) ∙ ap (part_at sheet) (omega arith))
      ∙ sym (linked l (part_at sheet k) bytes alike (rule_at qs k) t (rule_input brought sheet bytes qs t i k low) allowance))

  pub answer_answered : (width : ℕ) → answer_width ≤ width → Alike l.table l.classes → (qs : List Pattern) (t : Term) → Input brought sheet bytes qs t
      → answer_on_bytes l.table l.classes sheet bytes allowance width ≡ told (try_rules l qs t allowance)
  unfolding answer_on_bytes
  answer_answered width wide alike qs t i = rw (le-ltb width answer_width wide) (ap told (trial_accepted alike qs t i))

  pub bytes_answered : (before : List ℕ) → answer_width ≤ length before → Alike l.table l.classes → (qs : List Pattern) (t : Term) → Input brought sheet bytes qs t
      → (answer_on_bytes l.table l.classes sheet bytes allowance (length before) ≡ told (try_rules l qs t allowance))
      × (buffer_on_bytes l.table l.classes sheet bytes allowance before ≡ written (bound_parts (try_rules l qs t allowance)) before)
  unfolding buffer_on_bytes
  bytes_answered before wide alike qs t i = (
    answer_answered (length before) wide alike qs t i,
    rw (le-ltb (length before) answer_width wide) (ap (λ (y : Trial). written (bound_parts y) before) (trial_accepted alike qs t i)),
  )

module _ {table classes sheet bytes : List ℕ} {allowance : ℕ} {before : List ℕ} {rules : ℕ} {buffer : List ℕ} {sum k : ℕ}
    (turn : Turn table classes sheet bytes allowance before rules buffer sum k) where
  all_counted : length (parts table classes sheet bytes allowance) ≡ rules
  all_counted = parts_length sheet (entry_count sheet) 0 ∙ sym turn.counted

  -- past the last
  pub turn_ends : rules ≤ k → OnBytes table classes sheet bytes allowance before (Ok (None sum)) buffer
  unfolding try_each
  turn_ends h =
      tried table classes sheet bytes allowance before turn.wide (none_of sum)
      (turn.trying ∙ ap (try_each (own table classes sheet bytes allowance) k sum)
      (drop_of_length-le (parts table classes sheet bytes allowance) {i = k} (omega (arith, all_counted))))
      (Ok (None sum)) buffer refl turn.untouched

  module _ (part : List ℕ) (is_part : part ≡ part_at sheet k) (a : Result Answer Refusal) (after : List ℕ)
      (called : (a ≡ own_answer table classes part bytes allowance (length buffer)) × (after ≡ own_buffer table classes part bytes allowance buffer))
      (below : k < rules) where
    -- the own answer of the part, and the parts past it
    abbrev outcome : Matching
    outcome = own table classes sheet bytes allowance (part_at sheet k)

    abbrev later : ℕ → Trial
    later s = try_each (own table classes sheet bytes allowance) (k + 1) s (drop (k + 1) (parts table classes sheet bytes allowance))

    answers : (a ≡ own_told outcome) × (after ≡ written (own_parts outcome) before)
    unfolding own_answer own_buffer
    answers =
        let c = rw (is_part, turn.untouched, le-ltb (length before) answer_width turn.wide) at called in
        c

    next_part : trial table classes sheet bytes allowance ≡ try_one k sum outcome later
    unfolding try_each
    next_part =
        let ps = parts table classes sheet bytes allowance in
        let at : get_or ps k [] ≡ part_at sheet k = parts_at sheet (entry_count sheet) 0 k (omega (arith, turn.counted)) ∙ ap (part_at sheet) (omega arith) in
        let d : drop k ps ≡ part_at sheet k ∷ drop (k + 1) ps = rw (← at, add-one) (drop-cons ps k [] (omega (arith, all_counted))) in
        turn.trying ∙ ap (try_each (own table classes sheet bytes allowance) k sum) d

    -- a part that is none
    pub turn_next : (n : ℕ) → n ≤ 4294967295 → a ≡ Ok (Answer.None n) → Turn table classes sheet bytes allowance before rules after (sum + n) (k + 1)
    turn_next n small e =
        let z = none_told k sum outcome later n before (sym answers.0 ∙ e) in
        record {
          wide = turn.wide;
          counted = turn.counted;
          few = turn.few;
          reached = omega arith;
          fits = omega (arith, turn.fits);
          untouched = answers.1 ∙ z.1;
          trying = next_part ∙ z.0;
        }

    -- the first that is not
    pub turn_stops : (b : Result Answer Refusal) → a ≡ b → Stops b → OnBytes table classes sheet bytes allowance before (stop_of k sum b) after
    turn_stops b e stops =
        let z = sym e ∙ answers.0 in
        let s = stop_told k sum outcome later before (rw z at stops) in
        tried table classes sheet bytes allowance before turn.wide _ next_part (stop_of k sum b) after (ap (stop_of k sum) z ∙ s.0) (answers.1 ∙ s.1)
