-- `steps::stands` meets its contract. Assumes nothing.
use lib.ListN.{length}
use borrow.Author.Tests.{le-leb, lt-leb}
use Rattle.steps.specs.Turn.{stands_of}
use Rattle.steps.proofs.stands.Goals as goal

pub returns-then-r-n : goal.returns-then-r-n
unfolding stands_of
returns-then-r-n c = simp (lt-leb c.args.part.length (length c.args.r.now)
    c.if-r-n.true)

pub returns : goal.returns
unfolding stands_of
returns c = let args = c.args in
    rw (le-leb args.part.length (length args.r.now) c.if-r-n.false, ← c.bytes_of.ensures)
    c.same.ensures.is
