-- `qonveshir::qonveshir_match_in` meets its contract.
use mathlib.Core.Path.{refl, sym, ap, ◌∙◌}
use Rattle.qonveshir.specs.Shown.{answer_shown}
use Rattle.qonveshir.proofs.Showing.{answer_told, no_index}
use Rattle.qonveshir.proofs.qonveshir_match_in.Goals as goal

pub returns-in_default-clause-is : goal.returns-in_default-clause-is
returns-in_default-clause-is c = let none = sym c.edition_of.ensures ∙ c.in_default.is in
    rw none c.no_edition.ensures

pub returns-in_default-clause-buffer : goal.returns-in_default-clause-buffer
returns-in_default-clause-buffer c = let none = sym c.edition_of.ensures ∙ c.in_default.is in
    rw none refl

pub returns-in_default-clause-demand : goal.returns-in_default-clause-demand
returns-in_default-clause-demand c = let none = sym c.edition_of.ensures ∙ c.in_default.is in
    rw none tt

pub outcome_of-requires : goal.outcome_of-requires
outcome_of-requires c = no_index _

pub returns-clause-is : goal.returns-clause-is
returns-clause-is c = let told = sym c.edition_of.ensures ∙ c.in-Some.is in
    rw told (c.outcome_of.ensures ∙ answer_told _ ∙ ap answer_shown c.match_in.ensures.is)

pub returns-clause-buffer : goal.returns-clause-buffer
returns-clause-buffer c = let told = sym c.edition_of.ensures ∙ c.in-Some.is in
    rw told c.match_in.ensures.buffer

pub returns-clause-demand : goal.returns-clause-demand
returns-clause-demand c = let told = sym c.edition_of.ensures ∙ c.in-Some.is in
    rw told (rw c.match_in.ensures.is at c.match_in.ensures.demand)
