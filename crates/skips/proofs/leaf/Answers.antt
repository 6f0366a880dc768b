-- `skips::leaf` meets its contract. Assumes nothing.
use native.Mathlib.Omega.{arith}
use Prim.Native.Nat.{ℕ}
use mathlib.Core.Path.{ap, ◌∙◌}
use lib.Dec.{eqb}
use borrow.Author.Tests.{le-ltb}
use Rattle.skips.proofs.Passing.{leaf_none, leaf_some}
use Rattle.skips.proofs.leaf.Goals as goal

pub returns-then-i-s : goal.returns-then-i-s
returns-then-i-s c = ap (λ (e : ℕ). eqb e 0) c.entry_of.ensures ∙ leaf_some _ _ _ (omega arith)

pub returns-else-i-s : goal.returns-else-i-s
returns-else-i-s c = le-ltb _ _ c.if-i-s.false ∙ leaf_none _ _ _ c.if-i-s.false
