-- `stored::strip` meets its contract. The invariant: the old form of the bytes from `at` on is still to be put.
use Rattle.stored.proofs.Passing.{Stripping}
use Rattle.stored.specs.Form.{longest_stored}
use lib.ListN.{length}
use Prim.Native.Nat.{◌-◌, ◌≤◌}
use Rattle.stored.proofs.strip.Given as goal

abbrev pub invariant-loop-at : goal.invariant-loop-at
invariant-loop-at l = (length l.s ≤ longest_stored) × Stripping l.table l.s l.initial.output l.output l.to l.at

abbrev pub decreases-loop-at : goal.decreases-loop-at
decreases-loop-at l = length l.s - l.at
