-- `reader::read_pattern_in` meets its contract.
use Rattle.reader.proofs.Editions.{pattern_one}
use Rattle.reader.proofs.Typed.{shown_map}
use Rattle.reader.specs.Reading.{shown, read_pattern}
use mathlib.Core.Path.{sym, ap, ◌∙◌}
use Rattle.reader.proofs.read_pattern_in.Goals as goal

pub returns-in-One : goal.returns-in-One
returns-in-One c = rw c.in-One.is (c.read_pattern.ensures ∙ sym (ap shown (pattern_one _ _ _)))

pub returns-in-Two : goal.returns-in-Two
unfolding read_pattern
returns-in-Two c = c.read_whole.ensures ∙ sym (shown_map _ _)
