-- `qonveshir::qonveshir_cost` meets its contract.
use mathlib.Core.Path.{ap, ◌∙◌}
use Rattle.qonveshir.specs.Shown.{cost_shown}
use Rattle.qonveshir.proofs.Showing.{cost_told, no_index}
use Rattle.qonveshir.proofs.qonveshir_cost.Goals as goal

pub outcome_of-requires : goal.outcome_of-requires
outcome_of-requires c = no_index _

pub returns-clause-is : goal.returns-clause-is
returns-clause-is c = c.outcome_of.ensures ∙ cost_told _ ∙ ap cost_shown c.cost_of.ensures.is

pub returns-clause-demand : goal.returns-clause-demand
returns-clause-demand c = rw c.cost_of.ensures.is at c.cost_of.ensures.demand
