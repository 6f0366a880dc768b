-- `game::play_checked` meets its contract.
use mathlib.Core.Path.{ap}
use Rattle.term.specs.declared.Edition.{Edition}
use Rattle.term.specs.Language.{language}
use Rattle.game.proofs.Steps.{plays_as}
use Rattle.game.proofs.play_checked.Goals as goal

pub returns : goal.returns
returns c = let a = c.args in
    plays_as (language c.edition_of.result a.table.now a.classes.now) _ (ap (λ (e : Edition). language e a.table.now a.classes.now) c.edition_of.ensures)
    _ _ c.of.ensures a.allowance a.turns a.state.now _ c.play_game.ensures
