-- `qonveshir::game_calls::qonveshir_play` meets its contract.
use mathlib.Core.Path.{ap, ◌∙◌}
use Rattle.qonveshir.specs.Game.{played_shown}
use Rattle.qonveshir.proofs.Games.{played_fits}
use Rattle.qonveshir.proofs.Showing.{played_told}
use Rattle.qonveshir.proofs.game_calls.qonveshir_play.Goals as goal

pub outcome_of-requires : goal.outcome_of-requires
outcome_of-requires c = played_fits _ _ _ _ _ c.play.ensures.is

pub returns-clause-is : goal.returns-clause-is
returns-clause-is c = c.outcome_of.ensures ∙ played_told _ ∙ ap played_shown c.play.ensures.is

pub returns-clause-demand : goal.returns-clause-demand
returns-clause-demand c = rw c.play.ensures.is at c.play.ensures.demand
