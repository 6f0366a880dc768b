-- `qonveshir::qonveshir_restore_in` meets its contract.
use mathlib.Core.Path.{refl, sym, ap, ◌∙◌}
use Rattle.qonveshir.specs.Shown.{move_shown}
use Rattle.qonveshir.proofs.Showing.{move_told, no_index}
use Rattle.qonveshir.proofs.qonveshir_restore_in.Goals as goal

pub returns-in_default-clause-shown : goal.returns-in_default-clause-shown
returns-in_default-clause-shown c = let none = sym c.edition_of.ensures ∙ c.in_default.is in
    rw none c.no_edition.ensures

pub returns-in_default-clause-contents : goal.returns-in_default-clause-contents
returns-in_default-clause-contents c = let none = sym c.edition_of.ensures ∙ c.in_default.is in
    rw none refl

pub returns-in_default-clause-demand : goal.returns-in_default-clause-demand
returns-in_default-clause-demand c = let none = sym c.edition_of.ensures ∙ c.in_default.is in
    rw none tt

pub outcome_of-requires : goal.outcome_of-requires
outcome_of-requires c = no_index _

pub returns-clause-shown : goal.returns-clause-shown
returns-clause-shown c = let told = sym c.edition_of.ensures ∙ c.in-Some.is in
    rw told (c.outcome_of.ensures ∙ move_told _ ∙ ap move_shown c.restore_in.ensures.answer)

pub returns-clause-contents : goal.returns-clause-contents
returns-clause-contents c = let told = sym c.edition_of.ensures ∙ c.in-Some.is in
    rw told c.restore_in.ensures.contents

pub returns-clause-demand : goal.returns-clause-demand
returns-clause-demand c = let told = sym c.edition_of.ensures ∙ c.in-Some.is in
    rw told (rw (c.outcome_of.ensures ∙ move_told _) c.restore_in.ensures.demand)
