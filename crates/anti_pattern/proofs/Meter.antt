-- A search under a remaining allowance: it stops where one more is to be counted and nothing is left.
use Prim.Native.Nat.{ℕ, ◌-◌}
use mathlib.Core.List.{List}
use mathlib.Core.Bool.{Bool, true, false}
use lib.Dec.{leb}
use Rattle.anti_pattern.specs.Search.{Env, Answers, found, failed, Result}
use Rattle.anti_pattern.specs.Answer.{Matching, bound, nothing, spent, parts}

-- found or failed, with what is left of the allowance; or used up
pub data Metered : Type 0 where
  met : Env → ℕ → Metered
  missed : ℕ → Metered
  used_up : Metered

abbrev pub metered : Bool → Answers → ℕ → Metered
metered true (found e m o) left = met e left
metered true failed left = missed left
metered false o left = used_up

unfoldable pub meter : ℕ → Result → Metered
meter n r = metered (leb r.cost n) r.out (n - r.cost)

-- the answer under the allowance n, from what the search under it comes to
abbrev pub answered : List ℕ → ℕ → Metered → Matching
answered table n (met e left) = bound (parts table e) (n - left)
answered table n (missed left) = nothing (n - left)
answered table n used_up = spent n

-- what comes after a failure starts with what is left
abbrev pub then_meter : Metered → (Unit {0} → Result) → Metered
then_meter (met e left) f = met e left
then_meter (missed left) f = meter left (f tt)
then_meter used_up f = used_up

-- what comes after a complement: if its inside was found, the level has failed
abbrev pub refute_meter : Metered → (Unit {0} → Result) → Metered
refute_meter (met e left) f = missed left
refute_meter (missed left) f = meter left (f tt)
refute_meter used_up f = used_up
