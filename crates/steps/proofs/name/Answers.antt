-- `steps::name` meets its contract. Assumes nothing.
use Rattle.steps.specs.Turn.{name_step}
use Rattle.steps.proofs.name.Goals as goal

pub returns-then-is_absent : goal.returns-then-is_absent
unfolding name_step
returns-then-is_absent c = rw (c.extent.ensures.is, ← c.is_absent.ensures, c.if-is_absent.true)

pub returns : goal.returns
unfolding name_step
returns c = rw (← c.is_absent.ensures, c.if-is_absent.false) c.assigned_step.ensures
