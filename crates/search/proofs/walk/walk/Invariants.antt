-- `search::walk::walk` meets its contract. The invariant: whatever state the buffers hold at the start, the walk from it is the walk from the one that they
-- hold here. The measure: each turn takes a byte of the pattern, or closes a node for one further out. Assumes nothing.
use Prim.Native.Nat.{◌+◌, ◌-◌, ◌*◌}
use lib.ListN.{length}
use Rattle.search.specs.Inner.Memory.{LiesIn}
use Rattle.search.specs.State.{State}
use Rattle.search.proofs.Walks.{Walking}
use Rattle.search.proofs.walk.walk.Given as goal

abbrev pub invariant-loop-stop : goal.invariant-loop-stop
invariant-loop-stop l = (s₀ : State) → LiesIn (length l.pattern) (length l.«record») l.initial.assigned l.initial.parts l.initial.stack l.initial.marks l.initial.place s₀
    → Walking l.table l.classes l.pattern l.«record» l.initial.assigned l.initial.left l.initial.parts l.initial.stack l.initial.marks l.initial.place s₀ l.parts l.stack l.place l.marks l.assigned l.left

abbrev pub decreases-loop-stop : goal.decreases-loop-stop
decreases-loop-stop l = 512 * (length l.pattern - l.place.at) + l.marks.inner
