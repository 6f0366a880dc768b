-- `term::extent` meets its contract. Assumes nothing.
use mathlib.Core.Path.{◌∙◌}
use Rattle.term.proofs.Spans.{one_span}
use Rattle.term.proofs.extent.Goals as goal

pub returns-clause-is : goal.returns-clause-is
returns-clause-is c = c.extents.ensures.is ∙ one_span _ _

pub returns-clause-within : goal.returns-clause-within
returns-clause-within c = c.extents.ensures.within
