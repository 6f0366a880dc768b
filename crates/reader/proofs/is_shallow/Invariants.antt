-- `reader::is_shallow` meets its contract. The invariant: some frames with enough nesting left are still to come. The measure is what is left of the bytes.
use Rattle.term.specs.Limits.{longest_record}
use Rattle.reader.proofs.Shallow.{Passing}
use Prim.Native.Nat.{◌-◌, ◌≤◌}
use lib.ListN.{length}
use Rattle.reader.proofs.is_shallow.Given as goal

abbrev pub invariant-loop-at : goal.invariant-loop-at
invariant-loop-at l = (length l.s ≤ longest_record) × (l.at ≤ length l.s) × Passing l.table l.s l.at l.end l.parents

abbrev pub decreases-loop-at : goal.decreases-loop-at
decreases-loop-at l = length l.s - l.at
