-- `plain::check::weights` meets its contract. The invariant: the weights are those found so far and those from here on.
use Rattle.plain.specs.Bytes.{weight_of}
use Rattle.plain.proofs.Among.{Summed}
use Rattle.plain.proofs.Sight.{weight_most}
use Rattle.plain.proofs.check.weights.Given as goal

abbrev pub invariant-loop-b : goal.invariant-loop-b
invariant-loop-b l = Summed weight_of 2 weight_most l.s l.found l.b-index
