-- `stored::stored_length` meets its contract. The invariant: what the bytes from `i` on add is still to come.
use native.Mathlib.Omega.{arith}
use Rattle.stored.proofs.Passing.{stretch_ends, stretch_list, stretch_other}
use Rattle.stored.proofs.stored_length.Goals.{then-counting, else-counting}
use Rattle.stored.proofs.stored_length.Goals as goal

pub loop-i-preserved : goal.loop-i-preserved
loop-i-preserved c = let h = c.loop-i.invariant in (
  h.0,
  elim c.if-counting.branch [
    | then-counting w ↦ rw w.size-is (stretch_list h.1 c.loop-i-test.true _ c.count_next-counting.ensures w.if-counting.true)
    | else-counting w ↦ rw w.size-is (stretch_other h.1 c.loop-i-test.true _ c.count_next-counting.ensures w.if-counting.false)
  ],
)

pub returns : goal.returns
returns c = stretch_ends c.loop-i.invariant.1 (omega (arith, c.loop-i-test.false))
