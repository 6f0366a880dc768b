-- The search of levels meets its contracts. Each level within another has less of the pattern, or starts further on in it: `levels` falls.
-- Assumes nothing.
use Prim.Native.Nat.{◌+◌, ◌-◌, ◌*◌}
use lib.ListN.{length}
use Rattle.search.specs.Level.{levels}
use Rattle.search.specs.Inner.Lent.{input_of, lent_of}
use Rattle.search.proofs.Levels.{Turns, Testing}
use Rattle.search.proofs.level.+complement_complements_follow_lengths_level_rest_start_level.Given as goal

abbrev pub decreases-start_level : goal.decreases-start_level
decreases-start_level l = 5 * levels l.pattern.now l.start.at + 5

abbrev pub decreases-rest : goal.decreases-rest
decreases-rest l = 5 * levels l.pattern.now l.start.at + 3

abbrev pub decreases-level : goal.decreases-level
decreases-level l = 5 * levels l.pattern.now l.next.at + 4

abbrev pub decreases-lengths : goal.decreases-lengths
decreases-lengths l = 5 * levels l.pattern.now l.place.at + 1

abbrev pub decreases-follow : goal.decreases-follow
decreases-follow l = 5 * levels l.pattern.now l.place.at + 2

abbrev pub decreases-complements : goal.decreases-complements
decreases-complements l = 5 * levels l.pattern.now (length l.pattern.now) + 1

abbrev pub decreases-complement : goal.decreases-complement
decreases-complement l = 5 * levels l.pattern.now (length l.pattern.now)

abbrev pub invariant-complements-loop-i : goal.invariant-complements-loop-i
invariant-complements-loop-i l = Testing (input_of l.table l.classes l.pattern l.«record») (lent_of l.initial.assigned l.initial.left l.initial.parts l.initial.stack) l.marks l.assigned l.left l.parts l.stack l.i

abbrev pub decreases-complements-loop-i : goal.decreases-complements-loop-i
decreases-complements-loop-i l = l.marks.waiting - l.i

abbrev pub invariant-level-loop-place : goal.invariant-level-loop-place
invariant-level-loop-place l = Turns (input_of l.table l.classes l.pattern l.«record») (lent_of l.initial.assigned l.initial.left l.initial.parts l.initial.stack) l.v l.halts l.least l.marks l.initial.place l.left l.parts l.stack l.place

abbrev pub decreases-level-loop-place : goal.decreases-level-loop-place
decreases-level-loop-place l = l.place.elements
