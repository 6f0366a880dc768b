-- Rules tried in order: "rule by rule, each with the whole allowance; it stops at the first that is bound or spent".
use Rattle.std.specs.Prelude.{ℕ, ◌+◌, List, [], ◌∷◌}
use Rattle.answers.specs.declared.Part.{Part}
use Rattle.term.specs.Term.{Term}
use Rattle.term.specs.Pattern.{Pattern}
use Rattle.anti_pattern.specs.Answer.{Matching, bound, nothing, spent, answer}
use Rattle.anti_pattern.specs.Language.{Language}

-- bound at the rule of an index, with the part of each variable; none; or spent at the rule of an index; each with "the sum of counts
-- so far"
pub data Trial : Type 0 where
  bound_at : ℕ → List Part → ℕ → Trial
  none_of : ℕ → Trial
  spent_at : ℕ → ℕ → Trial

-- the rule of an index, by its own answer and the sum of the counts before it: a spent rule adds the allowance, which its answer shows
abbrev pub try_one : ℕ → ℕ → Matching → (ℕ → Trial) → Trial
try_one i sum (bound parts n) next = bound_at i parts (sum + n)
try_one i sum (nothing n) next = next (sum + n)
try_one i sum (spent n) next = spent_at i (sum + n)

-- rules from index i on, by what each answers
unfoldable pub try_each : {A : Type 0} → (A → Matching) → ℕ → ℕ → List A → Trial
try_each own i sum [] = none_of sum
try_each own i sum (q ∷ qs) = try_one i sum (own q) (λ s. try_each own (i + 1) s qs)

-- all rules on a term
abbrev pub try_rules : Language → List Pattern → Term → ℕ → Trial
try_rules l qs t allowance = try_each (λ q. answer l q t allowance) 0 0 qs
