-- `replace::part_of` meets its contract.
use Prim.Native.Nat.{◌+◌, ◌*◌}
use lib.ListN.{length}
use native.Mathlib.Omega.{arith}
use borrow.Author.Tests.{le-leb, lt-leb}
use Rattle.replace.proofs.Fillings.{part_is}
use Rattle.replace.specs.Filling.{part_in}
use Rattle.replace.proofs.part_of.Goals as goal

pub returns-then-answer-i-clause-is : goal.returns-then-answer-i-clause-is
unfolding part_in
returns-then-answer-i-clause-is c = rw (le-leb (length c.args.answer.now) (3 * c.args.v + 1) (omega (arith, c.from-i.ensures)))

pub returns-clause-is : goal.returns-clause-is
unfolding part_in
returns-clause-is c = rw (lt-leb (length c.args.answer.now) (3 * c.args.v + 1) (omega (arith, c.from-i.ensures)), ← c.from-i.ensures) c.bytes_of.ensures

pub returns-clause-short : goal.returns-clause-short
returns-clause-short c = (part_is _ c.args.answer.now _ _ (λ i. omega (arith, c.type_inv.answer i)) (returns-clause-is c)).1
