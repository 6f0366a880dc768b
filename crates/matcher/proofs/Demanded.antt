-- The call's answer and final buffer meet every demand.
use Prim.Native.Nat.{ℕ}
use mathlib.Core.Path.{◌≡◌, refl, sym, ◌∙◌, ap₂}
use mathlib.Core.List.{List}
use lib.ListN.{length}
use Rattle.answers.specs.Refusal.{number_of}
use Rattle.answers.specs.Answers.{answer_number, answer_count}
use Rattle.answers.specs.declared.Part.{Part}
use Rattle.answers.specs.declared.Refusal.{Refusal}
use Rattle.answers.specs.declared.Answer.{Answer}
use Rattle.term.specs.Term.{Term}
use Rattle.term.specs.Pattern.{Pattern}
use Rattle.term.specs.Limits.{Octets}
use Rattle.answers.proofs.Numbers.{word_or_refusal}
use Rattle.anti_pattern.specs.Answer.{Matching, bound, nothing, spent, answer}
use Rattle.anti_pattern.proofs.Demands.{answer_exact}
use Rattle.anti_pattern.proofs.Within.{accepted_of}
use Rattle.reader.specs.Brought.{Brought, classes_of, language_of}
use Rattle.call.proofs.Brought.{brought_alike}
use Rattle.call.proofs.Handled.{handled, fails, passes}
use Rattle.matcher.specs.Call.{AcceptedTrees, trees, checked, check_of, refusal, told, answer_of, bound_parts, buffer_of, answer_on_bytes, buffer_on_bytes}
use Rattle.term.specs.Language.{Language, language}
use Rattle.matcher.specs.Demands.{Demanded, Called, AsChecked}
use Rattle.matcher.proofs.Answered.{same_call, answered, published}
use Rattle.matcher.proofs.Checks.{reads, checked_exactly, check_failed, check_passed}
use Rattle.matcher.proofs.Cost.{bounded}
use Rattle.matcher.proofs.Matched.{bytes_answered}
use Rattle.std.specs.Prelude.{Result, Err, Ok, Option, None}

-- what is told is no refusal
pub told_refused : (o : Matching) (r : Refusal) → answer_number (told o) ≡ number_of r → ⊥
told_refused (bound ps n) r e = word_or_refusal 0 refl r e
told_refused (nothing n) r e = word_or_refusal 10 refl r e
told_refused (spent n) r e = word_or_refusal 11 refl r e

pub told_unbound : (o : Matching) → (answer_number (told o) ≡ 0 → ⊥) → bound_parts o ≡ None
told_unbound (bound ps n) h = absurd (h refl)
told_unbound (nothing n) h = refl
told_unbound (spent n) h = refl

module _ (brought : Brought) (pattern bytes before : List ℕ) (allowance : ℕ) (pattern_octets : Octets pattern) (record_octets : Octets bytes) where
  -- the work on trees
  abbrev work : Pattern × Term → Matching
  work x = answer (language_of brought) x.0 x.1 allowance

  abbrev tells : Pattern × Term → Result Answer Refusal
  tells x = told (work x)

  abbrev binds : Pattern × Term → Option (List Part)
  binds x = bound_parts (work x)

  demanded_of : length (buffer_of brought pattern bytes allowance before) ≡ length before
      → Demanded brought pattern bytes before allowance (answer_of brought pattern bytes allowance (length before))
      (buffer_of brought pattern bytes allowance before)
  unfolding answer_of buffer_of
  demanded_of same = record {
    answered = λ wide a q t i.
        let z = same_call brought pattern bytes (brought_alike brought a) q t i allowance before pattern_octets record_octets wide a allowance refl in
        rw (z.0, z.1) (answered brought pattern bytes (brought_alike brought a) q t i allowance before pattern_octets record_octets wide a);
    published = λ wide a q t i n.
        let z = same_call brought pattern bytes (brought_alike brought a) q t i allowance before pattern_octets record_octets wide a allowance refl in
        rw (z.0, z.1) (published brought pattern bytes (brought_alike brought a) q t i allowance before pattern_octets record_octets wide a n);
    bounded = λ wide a q t i n.
        let k = brought_alike brought a in
        let z = same_call brought pattern bytes k q t i allowance before pattern_octets record_octets wide a allowance refl in
        let l = language_of brought in
        rw z.0 (bounded l q i.pattern_accepted n t allowance (answer_exact l k q t (accepted_of l t i.record_accepted) allowance));
    handled = handled refusal tells binds before brought (trees (language_of brought) pattern bytes) (AcceptedTrees (language_of brought) pattern bytes) (λ x. ⊥)
        (reads brought pattern bytes pattern_octets record_octets) answer_number answer_count
        (record {
          numbered = λ r i. refl;
          uncounted = λ r i. refl;
          told_uncounted = λ x r e. absurd (told_refused (work x) r e);
          unbound = λ x. told_unbound (work x);
        })
        (λ wide a x i. (λ e. told_refused (work x) e.0 e.1, λ h. absurd h)) same;
  }

  -- the whole contract
  -- where a check fails
  pub fails_called : {k : (Result (Unit {0}) Refusal)} {r : Refusal} → k ≡ check_of (checked brought pattern bytes (length before)) → k ≡ Err r → Called brought pattern bytes before allowance (Err r) before
  unfolding answer_of buffer_of
  fails_called {k} {r} e f =
      let c = check_failed (checked brought pattern bytes (length before)) r (sym f ∙ e) in
      fails refusal tells binds before (checked brought pattern bytes (length before)) (Demanded brought pattern bytes before allowance) demanded_of r c.0 c.1

  -- where all pass, and the search is in the language of the call
  pub passes_called : {k : (Result (Unit {0}) Refusal)} → k ≡ check_of (checked brought pattern bytes (length before)) → k ≡ Ok tt
      → (l : Language) → l ≡ language_of brought → (a : Result Answer Refusal) (after : List ℕ)
      → (a ≡ answer_on_bytes l.table l.classes pattern bytes allowance (length before))
      × (after ≡ buffer_on_bytes l.table l.classes pattern bytes allowance before)
      → length after ≡ length before → Called brought pattern bytes before allowance a after
  unfolding answer_of buffer_of
  passes_called e f l same a after m =
      let c = check_passed (checked brought pattern bytes (length before)) (sym f ∙ e) in
      let i = (checked_exactly brought pattern bytes pattern_octets record_octets (length before) c.0.0 c.0.1).0 c.1 in
      let g = bytes_answered brought.table (classes_of brought) pattern bytes before allowance i.0 brought.edition (brought_alike brought i.1) c.0.0 c.0.1 i.2 in
      let n = rw same at m in
      passes refusal tells binds before (checked brought pattern bytes (length before)) (Demanded brought pattern bytes before allowance) demanded_of
      c.0 c.1 a after (n.0 ∙ g.0) (n.1 ∙ g.1)

-- on bytes as they are, with what that comes to where they passed every check
pub on_bytes : (table classes pattern bytes before : List ℕ) (allowance : ℕ) → Octets pattern → Octets bytes → (a : Result Answer Refusal) (after : List ℕ)
    → (a ≡ answer_on_bytes table classes pattern bytes allowance (length before)) × (after ≡ buffer_on_bytes table classes pattern bytes allowance before)
    → length after ≡ length before
    → (a ≡ answer_on_bytes table classes pattern bytes allowance (length before))
    × ((after ≡ buffer_on_bytes table classes pattern bytes allowance before) × AsChecked table classes pattern bytes before allowance a after)
on_bytes table classes pattern bytes before allowance p o a after m same = (
  m.0,
  (
    m.1,
    record {
      as_called = λ brought t c passed.
          let z = passes_called brought pattern bytes before allowance p o refl passed (language brought.edition table classes) (ap₂ (language brought.edition) (sym t) (sym c)) a after m same in
          (z.0, z.1.0);
    },
  ),
)
