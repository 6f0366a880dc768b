-- The answer under an allowance: document 01's bound, none and spent.
use Rattle.std.specs.Prelude.{ℕ, List, Bool, true, false, ltb}
use Rattle.answers.specs.declared.Part.{Part}
use Rattle.term.specs.Term.{Term}
use Rattle.term.specs.Pattern.{Pattern}
use Rattle.anti_pattern.specs.Language.{Language}
use Rattle.anti_pattern.specs.Search.{Env, Answers, found, failed, whole}
use Rattle.anti_pattern.specs.Place.{assigned_part, each_variable}

-- bound, with the part of each variable and the count; none, with the count; spent, with the allowance
pub data Matching : Type 0 where
  bound : List Part → ℕ → Matching
  nothing : ℕ → Matching
  spent : ℕ → Matching

-- the parts of the variables that the search assigned, each at the offset where it did
abbrev pub parts : List ℕ → Env → List Part
parts table e = each_variable (λ v. assigned_part table (e.value v) (e.offset v))

-- "The count of a pattern and record is that of the search run, under no allowance, to its first answer or its end."
abbrev pub count_of : Language → Pattern → Term → ℕ
count_of l q t = (whole l q t).cost

abbrev pub matching_of : List ℕ → Answers → ℕ → Matching
matching_of table (found e m o) n = bound (parts table e) n
matching_of table failed n = nothing n

-- "if the count is over it the answer is spent and shows the allowance"
abbrev pub limit : Bool → ℕ → Matching → Matching
limit true allowance a = spent allowance
limit false allowance a = a

unfoldable pub answer : Language → Pattern → Term → ℕ → Matching
answer l q t allowance = limit (ltb allowance (count_of l q t)) allowance (matching_of l.table (whole l q t).out (count_of l q t))
