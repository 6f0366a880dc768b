-- `parts::show_from` meets its contract. The invariant: the buffer shows the variables of the mask below v. Assumes nothing.
use Rattle.parts.proofs.Shown.{Showing}
use Rattle.parts.proofs.show_from.Given as goal

abbrev pub invariant-loop-v : goal.invariant-loop-v
invariant-loop-v l = Showing l.parts l.assigned l.initial.answer l.answer l.v
