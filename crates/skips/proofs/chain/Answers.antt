-- `skips::chain` meets its contract. Assumes nothing.
use native.Mathlib.Omega.{arith}
use mathlib.Core.Path.{sym, ◌∙◌}
use Rattle.skips.proofs.Chains.{chain_full, chain_out, chain_other, chain_last, chain_more}
use Rattle.skips.proofs.chain.Goals as goal
use Rattle.skips.proofs.chain.Goals.{then-q-i-via-then-q-i, then-q-i-via-else-q-i+then-not-is_symbol}

pub returns-then-q-i : goal.returns-then-q-i
returns-then-q-i c = elim c.then-q-i.branch [
  | then-q-i-via-then-q-i w ↦ chain_out _ _ _ c.loop-n.invariant (omega (arith, c.from-i.ensures, w.if-q-i.true))
  | then-q-i-via-else-q-i+then-not-is_symbol w ↦ chain_other _ _ _ c.loop-n.invariant (omega arith) c.from-i.ensures (omega arith) (sym w.is_symbol.ensures ∙ w.if-not-is_symbol.true)
]

pub returns-then-ends : goal.returns-then-ends
returns-then-ends c = chain_last _ _ _ c.loop-n.invariant (omega arith) c.from-i.ensures (omega arith) (sym c.is_symbol.ensures ∙ c.if-not-is_symbol.false) (sym c.ends.ensures ∙ c.if-ends.true)

pub loop-n-preserved : goal.loop-n-preserved
loop-n-preserved c = chain_more _ _ _ c.loop-n.invariant (omega arith) c.from-i.ensures (omega arith) (sym c.is_symbol.ensures ∙ c.if-not-is_symbol.false) (sym c.ends.ensures ∙ c.if-ends.false)

pub returns : goal.returns
returns c = omega (arith, c.loop-n.invariant.few, chain_full _ _ _ c.loop-n.invariant (omega arith))
