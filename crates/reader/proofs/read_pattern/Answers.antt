-- `reader::read_pattern` meets its contract.
use Rattle.reader.proofs.Typed.{shown_map}
use Rattle.reader.specs.Reading.{read_pattern}
use mathlib.Core.Path.{sym, ◌∙◌}
use Rattle.reader.proofs.read_pattern.Goals as goal

pub returns-then-is_leaf : goal.returns-then-is_leaf
unfolding read_pattern
returns-then-is_leaf c = sym (rw c.if-is_leaf.true at c.is_leaf.ensures) ∙ sym (shown_map _ _)

pub returns : goal.returns
unfolding read_pattern
returns c = c.read_whole.ensures ∙ sym (shown_map _ _)
