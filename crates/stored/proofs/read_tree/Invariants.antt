-- `stored::read_tree` meets its contract. The invariant: the trees of the levels are still to come. What falls is twice the bytes left, and the depth.
use Rattle.stored.proofs.Frames.{levels_in}
use Rattle.stored.proofs.Steps.{Reading}
use Rattle.term.specs.Lent.{language_by}
use Rattle.term.specs.Limits.{nesting}
use Prim.Native.Nat.{◌+◌, ◌-◌, ◌*◌}
use mathlib.Core.Path.{◌≡◌}
use lib.ListN.{length}
use Rattle.stored.proofs.read_tree.Given as goal

abbrev pub invariant-loop-stand : goal.invariant-loop-stand
invariant-loop-stand l = (length l.around ≡ nesting) × Reading (language_by l.language) l.s (levels_in l.depth l.around) l.top l.at

abbrev pub decreases-loop-stand : goal.decreases-loop-stand
decreases-loop-stand l = 2 * (length l.s - l.at) + l.depth
