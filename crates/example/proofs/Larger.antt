-- A larger allowance: what trying the candidates comes to stays, unless it is spent.
use Prim.Native.Nat.{ℕ, ◌≤◌}
use native.Mathlib.Omega.{arith}
use mathlib.Core.Path.{◌≡◌, refl, sym, ◌∙◌, ap}
use mathlib.Core.List.{List, [], ◌∷◌}
use Rattle.term.specs.Pattern.{Pattern}
use Rattle.term.specs.Term.{Term}
use Rattle.reader.specs.Reading.{Parsed, refused, read, read_record}
use Rattle.anti_pattern.specs.Answer.{Matching, bound, nothing, spent, count_of, answer}
use Rattle.anti_pattern.specs.Language.{Language}
use Rattle.anti_pattern.proofs.Allowance.{answer_over, answer_within}
use Rattle.anti_pattern.proofs.Metering.{Split, enough, over, split}
use Rattle.example.specs.Strings.{up_to}
use Rattle.example.specs.Trial.{Trial, spent_at, by_answer, try_one, try_each, example}

module _ (l : Language) (q : Pattern) (allowance more : ℕ) (h : allowance ≤ more) where
  abbrev Unspent : Trial → Type 0
  Unspent x = (n : ℕ) → x ≡ spent_at n → ⊥

  abbrev Larger : List (List ℕ) → Type 0
  Larger ss = Unspent (try_each l q allowance ss) → try_each l q more ss ≡ try_each l q allowance ss

  larger_each : (ss : List (List ℕ)) → Larger ss
  unfolding try_each
  larger_each [] d = refl
  larger_each (s ∷ ss) d = by_reading (read_record l s) d (larger_each ss)
    where
      by_answer_holds : (x : Matching) → Unspent (by_answer s x (λ y. try_each l q allowance ss)) → Larger ss
          → by_answer s x (λ y. try_each l q more ss) ≡ by_answer s x (λ y. try_each l q allowance ss)
      by_answer_holds (bound ps n) d rest = refl
      by_answer_holds (nothing n) d rest = rest d
      by_answer_holds (spent n) d rest = absurd (d n refl)

      by_count : (t : Term) → Unspent (by_answer s (answer l q t allowance) (λ y. try_each l q allowance ss)) → Larger ss → Split (count_of l q t) allowance
          → by_answer s (answer l q t more) (λ y. try_each l q more ss) ≡ by_answer s (answer l q t allowance) (λ y. try_each l q allowance ss)
      by_count t d rest (enough i) =
          ap (λ (x : Matching). by_answer s x (λ y. try_each l q more ss)) (answer_within l q t more (omega (arith, h, i)) ∙ sym (answer_within l q t allowance i))
          ∙ by_answer_holds (answer l q t allowance) d rest
      by_count t d rest (over i) = absurd (d allowance (ap (λ (x : Matching). by_answer s x (λ y. try_each l q allowance ss)) (answer_over l q t allowance i)))

      by_reading : (x : Parsed Term) → Unspent (try_one l q allowance s x (λ y. try_each l q allowance ss)) → Larger ss
          → try_one l q more s x (λ y. try_each l q more ss) ≡ try_one l q allowance s x (λ y. try_each l q allowance ss)
      by_reading (refused r) d rest = rest d
      by_reading (read t n) d rest = by_count t d rest (split (count_of l q t) allowance)

  pub larger_example : (size : ℕ) → Unspent (example l q allowance size) → example l q more size ≡ example l q allowance size
  larger_example size = larger_each (up_to size)
