-- `qonveshir::qonveshir_next` meets its contract.
use mathlib.Core.Path.{ap, ◌∙◌}
use Rattle.qonveshir.specs.Shown.{answer_shown}
use Rattle.qonveshir.proofs.Showing.{answer_told, no_index}
use Rattle.qonveshir.proofs.qonveshir_next.Goals as goal

pub outcome_of-requires : goal.outcome_of-requires
outcome_of-requires c = no_index _

pub returns-clause-is : goal.returns-clause-is
returns-clause-is c = c.outcome_of.ensures ∙ answer_told _ ∙ ap answer_shown c.next.ensures.is

pub returns-clause-buffer : goal.returns-clause-buffer
returns-clause-buffer c = c.next.ensures.buffer

pub returns-clause-demand : goal.returns-clause-demand
returns-clause-demand c = rw c.next.ensures.is at c.next.ensures.demand
