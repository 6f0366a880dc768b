-- `parts::part_of` meets its contract. Assumes nothing.
use native.Mathlib.Omega.{arith}
use borrow.Author.Tests.{lt-ltb, le-ltb}
use Rattle.term.specs.Code.{variables}
use Rattle.parts.specs.Packed.{part_of}
use Rattle.parts.proofs.part_of.Goals as goal

pub returns-then-i-ge-VARIABLES : goal.returns-then-i-ge-VARIABLES
unfolding part_of
returns-then-i-ge-VARIABLES c = rw (le-ltb c.args.v variables (omega (arith, c.from-i.ensures)))

pub returns-then-is_assigned : goal.returns-then-is_assigned
unfolding part_of
returns-then-is_assigned c = let w = c.from-i.ensures in
    rw (
      lt-ltb c.args.v variables (omega (arith, w)),
      ← c.is_assigned.ensures,
      c.if-is_assigned.true,
      c.unpacked.ensures,
      w,
    )

pub returns : goal.returns
unfolding part_of
returns c = rw (
  lt-ltb c.args.v variables (omega (arith, c.from-i.ensures)),
  ← c.is_assigned.ensures,
  c.if-is_assigned.false,
)
