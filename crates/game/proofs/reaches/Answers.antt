-- `game::reaches` meets its contract.
use mathlib.Core.Path.{◌∙◌, ap}
use native.Mathlib.Omega.{arith}
use Rattle.std.specs.Prelude.{Ok, Err}
use Rattle.answers.specs.declared.Answer.{Answer}
use Rattle.term.specs.Lent.{language_by}
use Rattle.game.specs.Lent.{sheets_by}
use Rattle.game.proofs.Steps.{reached}
use Rattle.game.proofs.reaches.Goals as goal

pub returns-in-Ok-Bound : goal.returns-in-Ok-Bound
returns-in-Ok-Bound c = let g = c.args.game.now in
    reached (language_by g.language) (sheets_by g.sheets) g.allowance c.args.state.now _ (omega arith) c.match_checked.result c.match_checked.ensures.is
    (Ok (Answer.Bound c.in-Ok-Bound.field-0-0)) (c.in-Ok-Bound.is ∙ ap Ok c.in-Ok-Bound.field-0-is)

pub returns-in-Ok-None : goal.returns-in-Ok-None
returns-in-Ok-None c = let g = c.args.game.now in
    reached (language_by g.language) (sheets_by g.sheets) g.allowance c.args.state.now _ (omega arith) c.match_checked.result c.match_checked.ensures.is
    (Ok (Answer.None c.in-Ok-None.field-0-0)) (c.in-Ok-None.is ∙ ap Ok c.in-Ok-None.field-0-is)

pub returns-in-Ok-Spent : goal.returns-in-Ok-Spent
returns-in-Ok-Spent c = let g = c.args.game.now in
    reached (language_by g.language) (sheets_by g.sheets) g.allowance c.args.state.now _ (omega arith) c.match_checked.result c.match_checked.ensures.is
    (Ok (Answer.Spent c.in-Ok-Spent.field-0-0)) (c.in-Ok-Spent.is ∙ ap Ok c.in-Ok-Spent.field-0-is)

pub returns-in-Err : goal.returns-in-Err
returns-in-Err c = let g = c.args.game.now in
    reached (language_by g.language) (sheets_by g.sheets) g.allowance c.args.state.now _ (omega arith) c.match_checked.result c.match_checked.ensures.is
    (Err c.in-Err.field-0) c.in-Err.is
