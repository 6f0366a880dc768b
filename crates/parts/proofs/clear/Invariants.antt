-- `parts::clear` meets its contract. The invariant: the first v entries are absent marks. Assumes nothing.
use Rattle.parts.proofs.Shown.{Clearing}
use Rattle.parts.proofs.clear.Given as goal

abbrev pub invariant-loop-v : goal.invariant-loop-v
invariant-loop-v l = Clearing l.initial.answer l.answer l.v
