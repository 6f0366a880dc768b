-- `qonveshir::qonveshir_restore` meets its contract.
use mathlib.Core.Path.{ap, ◌∙◌}
use Rattle.qonveshir.specs.Shown.{move_shown}
use Rattle.qonveshir.proofs.Showing.{move_told, no_index}
use Rattle.qonveshir.proofs.qonveshir_restore.Goals as goal

pub outcome_of-requires : goal.outcome_of-requires
outcome_of-requires c = no_index _

pub returns-clause-shown : goal.returns-clause-shown
returns-clause-shown c = c.outcome_of.ensures ∙ move_told _ ∙ ap move_shown c.restore.ensures.answer

pub returns-clause-contents : goal.returns-clause-contents
returns-clause-contents c = c.restore.ensures.contents

pub returns-clause-demand : goal.returns-clause-demand
returns-clause-demand c = rw (c.outcome_of.ensures ∙ move_told _) c.restore.ensures.demand
