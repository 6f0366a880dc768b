-- `search::walk::onward` meets its contract. The invariant: the level from the start is the one from the place reached. The measure is what is left of
-- the pattern. Assumes nothing.
use Prim.Native.Nat.{◌-◌}
use lib.ListN.{length}
use Rattle.search.specs.Inner.Lent.{input_of, lent_of}
use Rattle.search.proofs.Onwards.{Ongoing}
use Rattle.search.proofs.walk.onward.Given as goal

abbrev pub invariant-loop-v : goal.invariant-loop-v
invariant-loop-v l = Ongoing l.halts (input_of l.table l.classes l.pattern l.«record») (lent_of l.initial.assigned l.initial.left l.initial.parts l.initial.stack) l.initial.marks l.initial.place (lent_of l.assigned l.left l.parts l.stack) l.marks l.place

abbrev pub decreases-loop-v : goal.decreases-loop-v
decreases-loop-v l = length l.pattern - l.place.at
