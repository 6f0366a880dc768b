-- `skips::affordable` meets its contract. Assumes nothing.
use native.Mathlib.Omega.{arith}
use Rattle.skips.proofs.Passing.{afford_fits, afford_less, afford_all}
use Rattle.skips.proofs.affordable.Goals as goal

pub overflow_mul-each : goal.overflow_mul-each
overflow_mul-each c = omega (arith, afford_fits _ c.args.elements 0 _ c.dearest-each.ensures (omega arith) (omega arith))

pub returns-then-each-elements-clause-is : goal.returns-then-each-elements-clause-is
returns-then-each-elements-clause-is c = let e = afford_all _ c.args.elements c.args.left _ c.dearest-each.ensures (omega (arith, c.if-each-elements.true)) in e.0

pub returns-clause-is : goal.returns-clause-is
returns-clause-is c = let e = afford_less _ c.args.elements c.args.left _ c.dearest-each.ensures (omega (arith, c.if-each-elements.false)) in e.0
