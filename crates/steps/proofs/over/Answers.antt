-- `steps::over` meets its contract. Assumes nothing.
use native.Mathlib.Omega.{arith}
use borrow.Author.Tests.{eq-eqb, ne_eqb}
use Rattle.steps.specs.Turn.{over_step}
use Rattle.steps.proofs.over.Goals as goal

pub returns-then-elements-gt0 : goal.returns-then-elements-gt0
unfolding over_step
returns-then-elements-gt0 c = rw (ne_eqb c.args.elements 0 (λ e. omega arith))

pub returns-then-outermost : goal.returns-then-outermost
unfolding over_step
returns-then-outermost c = rw (eq-eqb c.args.elements 0 (omega arith), c.if-outermost.true)

pub returns : goal.returns
unfolding over_step
returns c = rw (eq-eqb c.args.elements 0 (omega arith), c.if-outermost.false)
