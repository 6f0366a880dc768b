-- The answer under an allowance, by the count.
use Prim.Native.Nat.{ℕ, suc, ◌-◌, ◌<◌, ◌≤◌}
use mathlib.Core.Path.{◌≡◌, refl, sym, ◌∙◌, ap}
use mathlib.Core.List.{List}
use mathlib.Core.Bool.{true}
use native.Mathlib.Omega.{arith}
use Rattle.answers.specs.declared.Part.{Part}
use Rattle.term.specs.Pattern.{Pattern}
use Rattle.term.specs.Term.{Term}
use Rattle.anti_pattern.specs.Answer.{bound, nothing, spent, parts, count_of, matching_of, answer}
use Rattle.anti_pattern.specs.Language.{Language}
use Rattle.anti_pattern.proofs.Meter.{metered, meter, answered}
use Rattle.anti_pattern.specs.Search.{Env, Answers, found, failed, first_answer, whole}
use Rattle.anti_pattern.proofs.Metering.{leb_true, leb_false, Split, enough, over, split, meter_spent, meter_within}
use Rattle.std.specs.Prelude.{Some}

module _ (l : Language) (q : Pattern) (t : Term) (n : ℕ) where
  pub answer_over : n < count_of l q t → answer l q t n ≡ spent n
  unfolding answer
  answer_over h = rw (leb_true (suc n) (count_of l q t) h)

  pub answer_within : count_of l q t ≤ n → answer l q t n ≡ matching_of l.table (whole l q t).out (count_of l q t)
  unfolding answer
  answer_within h = rw (leb_false (suc n) (count_of l q t) (omega arith))

  -- it is what the search under the allowance comes to
  pub answer_metered : answer l q t n ≡ answered l.table n (meter n (whole l q t))
  answer_metered = go (split (count_of l q t) n)
    where
      same : (o : Answers) (c : ℕ) → c ≤ n → matching_of l.table o c ≡ answered l.table n (metered true o (n - c))
      same (found e m o) c h = ap (bound (parts l.table e)) (omega arith)
      same failed c h = ap nothing (omega arith)

      go : Split (count_of l q t) n → answer l q t n ≡ answered l.table n (meter n (whole l q t))
      go (over h) = answer_over h ∙ sym (ap (answered l.table n) (meter_spent n (whole l q t) h))
      go (enough h) =
          answer_within h ∙ same (whole l q t).out (count_of l q t) h ∙ sym (ap (answered l.table n) (meter_within n (whole l q t) h))

  -- a bound answer has the parts of what the search finds
  pub bound_found : (ps : List Part) (m : ℕ) → answer l q t n ≡ bound ps m
      → (count_of l q t ≤ n) × ((e : Env) × (first_answer (whole l q t).out ≡ Some e) × (ps ≡ parts l.table e))
  bound_found ps m h = go (split (count_of l q t) n)
    where
      by : (o : Answers) → (whole l q t).out ≡ o → matching_of l.table o (count_of l q t) ≡ bound ps m
          → (e : Env) × (first_answer (whole l q t).out ≡ Some e) × (ps ≡ parts l.table e)
      by (found e x o) z k = (e, ap first_answer z, cc)
      by failed z k = let y : ◌≡◌ {A = ℕ} 0 1 = cc in absurd (omega arith)

      go : Split (count_of l q t) n → (count_of l q t ≤ n) × ((e : Env) × (first_answer (whole l q t).out ≡ Some e) × (ps ≡ parts l.table e))
      go (over l) = let k = sym (answer_over l) ∙ h in let y : ◌≡◌ {A = ℕ} 0 1 = cc in absurd (omega arith)
      go (enough i) = (i, by (whole l q t).out refl (sym (answer_within i) ∙ h))
