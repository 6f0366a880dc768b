-- `skips::differs` meets its contract. Assumes nothing.
use Rattle.skips.proofs.Chains.{Agreeing}
use Rattle.skips.proofs.differs.Given as goal

abbrev pub invariant-loop-n : goal.invariant-loop-n
invariant-loop-n l = Agreeing l.classes l.symbols l.x l.y l.n
