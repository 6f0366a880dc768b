-- `search::skip::skip` meets its contract. Assumes nothing.
use native.Mathlib.Omega.{arith}
use Rattle.search.specs.Inner.Skips.{Skips}
use Rattle.search.proofs.Skips.{skips_symbol, skips_name, skips_run}
use Rattle.search.proofs.skip.skip.Goals as goal

pub returns-then-children-eq0 : goal.returns-then-children-eq0
returns-then-children-eq0 c = Skips.nothing c.none.ensures

pub returns-in-Symbol : goal.returns-in-Symbol
returns-in-Symbol c = skips_symbol (omega (arith, c.if-children-eq0.false)) (omega (arith, c.if-pattern-at.false)) _ c.decode-code.ensures c.in-Symbol.is c.chain.ensures c.skip_to.ensures

pub returns-in-Name : goal.returns-in-Name
returns-in-Name c = skips_name (omega (arith, c.if-children-eq0.false)) (omega (arith, c.if-pattern-at.false)) _ c.decode-code.ensures c.part_of.ensures c.bytes_of.ensures c.in-Name.is c.skip_to-in-Name.ensures

pub returns-in-Run : goal.returns-in-Run
returns-in-Run c = skips_run (omega (arith, c.if-children-eq0.false)) (omega (arith, c.if-pattern-at.false)) _ c.decode-code.ensures c.part_of-in-Run.ensures c.bytes_of-in-Run.ensures c.in-Run.is c.skip_to-in-Run.ensures

pub returns-in-Complement : goal.returns-in-Complement
returns-in-Complement c = Skips.nothing c.none-in-Complement.ensures
