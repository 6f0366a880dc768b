-- `sheet::count` meets its contract.
use native.Mathlib.Omega.{arith}
use Prim.Native.Nat.{ℕ, ◌%◌}
use mathlib.Core.Path.{sym, ap, ◌∙◌}
use Rattle.sheet.specs.Sheet.{edition_mark}
use Rattle.sheet.specs.Check.{entry_count}
use Rattle.sheet.proofs.Words.{count_none, count_one}
use Rattle.sheet.proofs.count.Goals as goal

pub returns-in-empty : goal.returns-in-empty
returns-in-empty c = sym (count_none _ (omega arith))

pub returns-in-len1 : goal.returns-in-len1
returns-in-len1 c = c.from.ensures ∙ sym (count_one _ (λ i. omega (arith, c.type_inv.sheet i)) (omega arith))

pub returns-in_default : goal.returns-in_default
unfolding entry_count
returns-in_default c = ap (λ (n : ℕ). n % edition_mark) c.word_at.ensures
