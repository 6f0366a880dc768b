-- `plain::tier::tier` meets its contract. The invariant: the tier is what the loop has so far and what is left of it.
use Prim.Native.Nat.{◌-◌}
use lib.ListN.{length}
use Rattle.plain.proofs.Turns.{Turning}
use Rattle.plain.proofs.tier.tier.Given as goal

abbrev pub invariant-loop-at : goal.invariant-loop-at
invariant-loop-at l = Turning l.language.table.now l.language.classes.now l.«record» l.pattern l.initial.parts l.lengths l.at l.node l.count l.assigned l.parts

abbrev pub decreases-loop-at : goal.decreases-loop-at
decreases-loop-at l = length l.pattern - l.at
