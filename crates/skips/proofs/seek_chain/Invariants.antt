-- `skips::seek_chain` meets its contract. Assumes nothing.
use Rattle.skips.proofs.Passing.{Seeking}
use Rattle.skips.proofs.seek_chain.Given as goal

abbrev pub invariant-loop-elements : goal.invariant-loop-elements
invariant-loop-elements l = Seeking l.table l.classes l.symbols l.x l.r l.most l.elements l.size l.count
