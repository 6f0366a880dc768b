-- `sheet::read_entry` meets its contract.
use Rattle.sheet.specs.Contents.{read_entry}
use Rattle.sheet.proofs.read_entry.Goals as goal

pub returns-then-records : goal.returns-then-records
unfolding read_entry
returns-then-records c = rw c.if-records.true c.read_record_in.ensures

pub returns : goal.returns
unfolding read_entry
returns c = rw c.if-records.false c.read_pattern_in.ensures
