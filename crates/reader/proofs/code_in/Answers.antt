-- `reader::code_in` meets its contract.
use Rattle.reader.proofs.code_in.Goals as goal

pub returns-then-records : goal.returns-then-records
returns-then-records c = rw c.if-records.true

pub returns-else-records : goal.returns-else-records
returns-else-records c = rw c.if-records.false c.decode.ensures
