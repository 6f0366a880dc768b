-- `plain::check::weights` meets its contract. The invariant: the weights are those found so far and those from here on.
use native.Mathlib.Omega.{arith}
use Rattle.plain.specs.Bytes.{weight_of}
use Rattle.plain.proofs.Among.{summed_first, summed_next, summed_end}
use Rattle.plain.proofs.Sight.{weight_most}
use Rattle.plain.proofs.check.weights.Goals as goal

pub loop-b-init : goal.loop-b-init
loop-b-init c = summed_first weight_of 2 weight_most _

pub overflow_add-found : goal.overflow_add-found
overflow_add-found c = omega (arith, c.requires, c.loop-b.invariant.few, c.loop-b-test.true, c.weight-found.ensures, weight_most c.decode.result)

pub loop-b-preserved : goal.loop-b-preserved
loop-b-preserved c = summed_next weight_of 2 weight_most _ _ _ c.loop-b.invariant c.loop-b-test.true _ c.decode.ensures _
    c.weight-found.ensures

pub returns : goal.returns
returns c = summed_end weight_of 2 weight_most _ _ _ c.loop-b.invariant c.loop-b-test.false
