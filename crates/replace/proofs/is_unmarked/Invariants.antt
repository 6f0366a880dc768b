-- `replace::is_unmarked` meets its contract.
use Rattle.replace.proofs.Marks.{Loosening}
use lib.ListN.{length}
use Prim.Native.Nat.{◌-◌}
use Rattle.replace.proofs.is_unmarked.Given as goal

abbrev pub invariant-loop-at : goal.invariant-loop-at
invariant-loop-at l = Loosening l.table l.pattern l.free l.at

abbrev pub decreases-loop-at : goal.decreases-loop-at
decreases-loop-at l = length l.pattern - l.at
