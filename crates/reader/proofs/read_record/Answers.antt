-- `reader::read_record` meets its contract.
use Rattle.reader.proofs.Typed.{shown_map}
use Rattle.reader.specs.Reading.{read_record}
use mathlib.Core.Path.{sym, ◌∙◌}
use Rattle.reader.proofs.read_record.Goals as goal

pub returns-then-is_shallow : goal.returns-then-is_shallow
unfolding read_record
returns-then-is_shallow c = sym (rw c.if-is_shallow.true at c.is_shallow.ensures) ∙ sym (shown_map _ _)

pub returns : goal.returns
unfolding read_record
returns c = c.read_whole.ensures ∙ sym (shown_map _ _)
