-- `steps::complement_step` meets its contract. Assumes nothing.
use Rattle.steps.specs.Turn.{complement_step}
use Rattle.steps.proofs.complement_step.Goals as goal

pub returns-then-last : goal.returns-then-last
unfolding complement_step
returns-then-last c = rw c.if-last.true

pub returns : goal.returns
unfolding complement_step
returns c = rw (c.extent.ensures.is, c.extent-2.ensures.is, c.if-last.false)
