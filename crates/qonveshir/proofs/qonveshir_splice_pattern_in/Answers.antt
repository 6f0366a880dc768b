-- `qonveshir::qonveshir_splice_pattern_in` meets its contract.
use mathlib.Core.Path.{ap, ◌∙◌}
use Rattle.qonveshir.specs.Shown.{move_shown}
use Rattle.qonveshir.proofs.Showing.{move_told, no_index}
use Rattle.qonveshir.proofs.qonveshir_splice_pattern_in.Goals as goal

pub outcome_of-requires : goal.outcome_of-requires
outcome_of-requires c = no_index _

pub returns-clause-shown : goal.returns-clause-shown
returns-clause-shown c = c.outcome_of.ensures ∙ move_told _ ∙ ap move_shown c.splice_pattern_in.ensures.answer

pub returns-clause-contents : goal.returns-clause-contents
returns-clause-contents c = c.splice_pattern_in.ensures.contents

pub returns-clause-demand : goal.returns-clause-demand
returns-clause-demand c = rw (c.outcome_of.ensures ∙ move_told _) c.splice_pattern_in.ensures.demand
