-- `search::halt::stop_of` meets its contract. Assumes nothing.
use native.Mathlib.Omega.{arith}
use borrow.Author.Tests.{lt-ltb, le-ltb}
use Rattle.search.proofs.halt.stop_of.Goals as goal

pub returns-then-run-lt-VARIABLES : goal.returns-then-run-lt-VARIABLES
returns-then-run-lt-VARIABLES c = rw (c.in-Found.is, lt-ltb c.args.run 48 c.if-run-lt-VARIABLES.true)

pub returns-else-run-lt-VARIABLES : goal.returns-else-run-lt-VARIABLES
returns-else-run-lt-VARIABLES c = rw (c.in-Found.is, le-ltb c.args.run 48 (omega (arith, c.if-run-lt-VARIABLES.false)))
