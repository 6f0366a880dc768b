-- `game::play_game` meets its contract.
use Rattle.term.specs.Lent.{language_by}
use Rattle.game.specs.Lent.{sheets_by}
use Rattle.game.proofs.Steps.{plays_begun, plays_spent}
use Rattle.game.proofs.play_game.Goals as goal

pub returns-in-Ok : goal.returns-in-Ok
returns-in-Ok c = let g = c.args.game.now in plays_begun (language_by g.language) (sheets_by g.sheets) g.allowance c.args.turns c.args.state.now _ c.in-Ok.ensures

pub returns-in-Err : goal.returns-in-Err
returns-in-Err c = let g = c.args.game.now in plays_spent (language_by g.language) (sheets_by g.sheets) g.allowance c.args.turns c.args.state.now _ c.in-Err.ensures
