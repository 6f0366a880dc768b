-- `splice::read_entry` meets its contract.
use mathlib.Core.Path.{◌∙◌}
use Rattle.reader.specs.Reading.{read_record, read_pattern}
use Rattle.reader.proofs.Typed.{shown_map}
use Rattle.splice.proofs.read_entry.Goals as goal

pub returns-then-records : goal.returns-then-records
unfolding read_record
returns-then-records c = rw c.if-records.true (c.read_record.ensures ∙ shown_map _ _)

pub returns-else-records : goal.returns-else-records
unfolding read_pattern
returns-else-records c = rw c.if-records.false (c.read_pattern.ensures ∙ shown_map _ _)
