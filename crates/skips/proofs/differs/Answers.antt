-- `skips::differs` meets its contract. Assumes nothing.
use native.Mathlib.Omega.{arith}
use mathlib.Core.Path.{sym, ◌∙◌}
use Rattle.skips.proofs.Chains.{agree_all, agree_none, agree_short, agree_differs, agree_more}
use Rattle.skips.proofs.differs.Goals as goal
use Rattle.skips.proofs.differs.Goals.{then-x-i-via-then-x-i, then-x-i-via-else-x-i+then-y-i}

pub returns-then-x-i : goal.returns-then-x-i
returns-then-x-i c = elim c.then-x-i.branch [
  | then-x-i-via-then-x-i w ↦ agree_none _ _ _ _ c.loop-n.invariant (omega (arith, c.from-i.ensures, w.if-x-i.true))
  | then-x-i-via-else-x-i+then-y-i w ↦ agree_short _ _ _ _ c.loop-n.invariant (omega (arith, c.from-i.ensures, w.if-y-i.true))
]

pub returns-then-not-same_symbol : goal.returns-then-not-same_symbol
returns-then-not-same_symbol c = agree_differs _ _ _ _ c.loop-n.invariant (omega arith) c.from-i.ensures (omega arith) (omega arith) (sym c.same_symbol.ensures ∙ c.if-not-same_symbol.true)

pub loop-n-preserved : goal.loop-n-preserved
loop-n-preserved c = agree_more _ _ _ _ c.loop-n.invariant (omega arith) c.from-i.ensures (omega arith) (omega arith) (sym c.same_symbol.ensures ∙ c.if-not-same_symbol.false)

pub returns : goal.returns
returns c = agree_all _ _ _ _ c.loop-n.invariant (omega arith)
