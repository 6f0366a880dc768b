-- `replace::free_in` meets its contract.
use Rattle.replace.proofs.Marks.{Marking}
use lib.ListN.{length}
use Prim.Native.Nat.{◌-◌}
use Rattle.replace.proofs.free_in.Given as goal

abbrev pub invariant-loop-at : goal.invariant-loop-at
invariant-loop-at l = Marking l.table l.pattern l.free l.at

abbrev pub decreases-loop-at : goal.decreases-loop-at
decreases-loop-at l = length l.pattern - l.at
