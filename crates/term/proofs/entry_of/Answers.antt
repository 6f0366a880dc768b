-- `term::entry_of` meets its contract.
use Rattle.term.specs.Extent.{kids_of, entry_of}
use borrow.Author.Tests.{lt-ltb, le-ltb}
use native.Mathlib.Omega.{arith}
use mathlib.Core.Path.{ap, ◌∙◌}
use lib.ListN.{length}
use Rattle.term.proofs.entry_of.Goals as goal

pub returns-then-i-table : goal.returns-then-i-table
unfolding entry_of
returns-then-i-table c = let args = c.args in
    rw (c.from-i.ensures, lt-ltb args.b (length args.table.now) (omega arith))

pub returns : goal.returns
unfolding entry_of
returns c = let args = c.args in
    rw (le-ltb args.b (length args.table.now) (omega arith)) (c.kids_of.ensures ∙ ap kids_of c.decode.ensures)
