-- `steps::assigned_step` meets its contract. Assumes nothing.
use native.Mathlib.Omega.{arith}
use borrow.Author.Tests.{le-leb, lt-leb}
use Rattle.steps.specs.Turn.{assigned_step}
use Rattle.steps.proofs.assigned_step.Goals as goal

pub returns-then-elements-part : goal.returns-then-elements-part
unfolding assigned_step
returns-then-elements-part c = let args = c.args in
    simp (lt-leb args.part.elements args.elements (omega arith))

pub returns-then-stands : goal.returns-then-stands
unfolding assigned_step
returns-then-stands c = rw (
  le-leb c.args.part.elements
      c.args.elements (omega arith),
  ← c.stands.ensures,
  c.if-stands.true,
)

pub returns : goal.returns
unfolding assigned_step
returns c = rw (
  le-leb c.args.part.elements
      c.args.elements (omega arith),
  ← c.stands.ensures,
  c.if-stands.false,
)
