-- `qonveshir::qonveshir_cost_in` meets its contract.
use mathlib.Core.Path.{sym, ap, ◌∙◌}
use Rattle.qonveshir.specs.Shown.{cost_shown}
use Rattle.qonveshir.proofs.Showing.{cost_told, no_index}
use Rattle.qonveshir.proofs.qonveshir_cost_in.Goals as goal

pub returns-in_default-clause-is : goal.returns-in_default-clause-is
returns-in_default-clause-is c = let none = sym c.edition_of.ensures ∙ c.in_default.is in
    rw none c.no_edition.ensures

pub returns-in_default-clause-demand : goal.returns-in_default-clause-demand
returns-in_default-clause-demand c = let none = sym c.edition_of.ensures ∙ c.in_default.is in
    rw none tt

pub outcome_of-requires : goal.outcome_of-requires
outcome_of-requires c = no_index _

pub returns-clause-is : goal.returns-clause-is
returns-clause-is c = let told = sym c.edition_of.ensures ∙ c.in-Some.is in
    rw told (c.outcome_of.ensures ∙ cost_told _ ∙ ap cost_shown c.cost_in.ensures.is)

pub returns-clause-demand : goal.returns-clause-demand
returns-clause-demand c = let told = sym c.edition_of.ensures ∙ c.in-Some.is in
    rw told (rw c.cost_in.ensures.is at c.cost_in.ensures.demand)
