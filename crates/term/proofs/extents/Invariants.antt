-- `term::extents` meets its contract. The invariant: what is sought is the place reached, and how far the trees that are still to come go from there.
-- The measure is what is left of the bytes. Assumes nothing.
use Rattle.term.specs.Extent.{span_of}
use lib.ListN.{length, drop}
use mathlib.Core.Bool.{false}
use Prim.Native.Nat.{◌≤◌, ◌-◌, ◌+◌}
use mathlib.Core.Path.{◌≡◌}
use Rattle.term.proofs.extents.Given as goal

abbrev pub invariant-loop-at : goal.invariant-loop-at
invariant-loop-at l = (l.at ≤ l.end) × (l.at ≤ length l.s) × (span_of l.table l.s false l.count ≡ l.at + span_of l.table (drop l.at l.s) false (l.end - l.at))

abbrev pub decreases-loop-at : goal.decreases-loop-at
decreases-loop-at l = length l.s - l.at
