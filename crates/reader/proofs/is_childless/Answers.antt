-- `reader::is_childless` meets its contract.
use borrow.Author.Tests.{lt-ltb, le-ltb}
use native.Mathlib.Omega.{arith}
use Rattle.reader.proofs.is_childless.Goals as goal

pub returns-then-table-i : goal.returns-then-table-i
returns-then-table-i c = rw (← c.wide-i.ensures, le-ltb _ _ c.if-table-i.true)

pub bounds-table-i : goal.bounds-table-i
bounds-table-i c = omega arith

pub returns : goal.returns
returns c = rw (← c.wide-i.ensures, lt-ltb _ _ c.if-table-i.false)
