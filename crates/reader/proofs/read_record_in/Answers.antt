-- `reader::read_record_in` meets its contract.
use Rattle.reader.proofs.Editions.{record_one}
use Rattle.reader.proofs.Typed.{shown_map}
use Rattle.reader.specs.Reading.{shown, read_record}
use mathlib.Core.Path.{sym, ap, ◌∙◌}
use Rattle.reader.proofs.read_record_in.Goals as goal

pub returns-in-One : goal.returns-in-One
returns-in-One c = rw c.in-One.is (c.read_record.ensures ∙ sym (ap shown (record_one _ _ _)))

pub returns-in-Two : goal.returns-in-Two
unfolding read_record
returns-in-Two c = c.read_whole.ensures ∙ sym (shown_map _ _)
