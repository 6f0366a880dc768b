-- `term::bytes_of` meets its contract.
use native.Mathlib.Nat.{add-sub_cancel_left}
use Rattle.term.specs.Part.{part_bytes}
use borrow.Author.Tests.{le-leb, lt-leb}
use Rattle.term.proofs.bytes_of.Goals as goal

pub returns-then-end-bytes : goal.returns-then-end-bytes
unfolding part_bytes
returns-then-end-bytes c = simp (le-leb _ _ c.if-end-bytes.true, add-sub_cancel_left)

pub returns : goal.returns
unfolding part_bytes
returns c = simp (lt-leb _ _ c.if-end-bytes.false)
