-- `skips::chain` meets its contract. Assumes nothing.
use Rattle.skips.specs.Passed.{most_symbols}
use Rattle.skips.proofs.Chains.{Chaining}
use Rattle.skips.proofs.chain.Given as goal

abbrev pub invariant-loop-n : goal.invariant-loop-n
invariant-loop-n l = Chaining l.table most_symbols l.q l.n
