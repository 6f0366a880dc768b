-- `parts::clear` meets its contract. The invariant: the first v entries are absent marks. Assumes nothing.
use native.Mathlib.Omega.{arith}
use Rattle.parts.proofs.Shown.{clear_next}
use Rattle.parts.proofs.clear.Goals as goal

pub loop-v-preserved : goal.loop-v-preserved
loop-v-preserved c = rw c.put_entry.ensures (clear_next _ (omega arith) c.loop-v.invariant (omega arith))
