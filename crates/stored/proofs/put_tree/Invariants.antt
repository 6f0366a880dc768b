-- `stored::put_tree` meets its contract. The invariant: the trees of the levels are owed. What falls is twice the bytes left, and the depth.
use Rattle.stored.proofs.Frames.{levels_in}
use Rattle.stored.proofs.Puts.{Writing}
use Rattle.term.specs.Language.{simple}
use Rattle.term.specs.Limits.{nesting}
use Prim.Native.Nat.{◌+◌, ◌-◌, ◌*◌}
use mathlib.Core.Path.{◌≡◌}
use lib.ListN.{length}
use Rattle.stored.proofs.put_tree.Given as goal

abbrev pub invariant-loop-stand : goal.invariant-loop-stand
invariant-loop-stand l = (length l.around ≡ nesting) × Writing (simple l.table) l.s l.initial.output (levels_in l.depth l.around) l.top l.at l.end l.output

abbrev pub decreases-loop-stand : goal.decreases-loop-stand
decreases-loop-stand l = 2 * (length l.s - l.at) + l.depth
