-- `replace::placed_bytes` meets its contract.
use Rattle.replace.specs.Filling.{PlacedBytes}
use Rattle.replace.proofs.placed_bytes.Goals as goal

pub returns-then-direct-clause-is : goal.returns-then-direct-clause-is
unfolding PlacedBytes
returns-then-direct-clause-is c = rw c.if-direct.true c.children_of.ensures.is

pub returns-clause-is : goal.returns-clause-is
unfolding PlacedBytes
returns-clause-is c = rw c.if-direct.false
