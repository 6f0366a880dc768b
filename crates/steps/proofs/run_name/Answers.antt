-- `steps::run_name` meets its contract. Assumes nothing.
use borrow.Author.Tests.{eq-eqb, ne_eqb}
use Rattle.steps.specs.Turn.{run_step}
use Rattle.steps.proofs.run_name.Goals as goal

pub returns-then-is_absent : goal.returns-then-is_absent
unfolding run_step
returns-then-is_absent c = rw (← c.is_absent.ensures, c.if-is_absent.true)

pub returns-then-left-eq0 : goal.returns-then-left-eq0
unfolding run_step
returns-then-left-eq0 c = rw (← c.is_absent.ensures, c.if-is_absent.false, eq-eqb _ _ c.if-left-eq0.true)

pub returns : goal.returns
unfolding run_step
returns c = rw (
  ← c.is_absent.ensures,
  c.if-is_absent.false,
  ne_eqb c.args.left 0 c.if-left-eq0.false,
) c.assigned_step.ensures
