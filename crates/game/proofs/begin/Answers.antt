-- `game::begin` meets its contract.
use native.Mathlib.Omega.{arith}
use mathlib.Core.Path.{◌∙◌, ap}
use Rattle.std.specs.Prelude.{Some, None}
use Rattle.std.proofs.lemmas.Result.{err_from_is_err_and}
use Rattle.term.specs.Lent.{language_by}
use Rattle.game.specs.Lent.{sheets_by}
use Rattle.game.specs.declared.First.TheVariants.{ByRule, ByPass}
use Rattle.game.proofs.Steps.{begins_spent, begins_reached, begins_over, begins_stopped, begins_moves}
use Rattle.game.proofs.begin.Goals as goal

pub returns-in_err-reached : goal.returns-in_err-reached
returns-in_err-reached c = let g = c.args.game.now in
    let p = err_from_is_err_and c.from_residual.result c.from_residual.ensures.1 in
    rw p.1 (begins_spent (language_by g.language) (sheets_by g.sheets) g.allowance c.args.turns c.args.state.now _ c.in_err-reached.ensures)

pub returns-then-reached : goal.returns-then-reached
returns-then-reached c = let g = c.args.game.now in
    begins_reached (language_by g.language) (sheets_by g.sheets) g.allowance c.args.turns c.args.state.now _ c.if-reached.true c.in_ok-reached.ensures

pub returns-then-turns-eq0 : goal.returns-then-turns-eq0
returns-then-turns-eq0 c = let g = c.args.game.now in
    begins_over (language_by g.language) (sheets_by g.sheets) g.allowance c.args.turns c.args.state.now _ c.if-reached.false c.in_ok-reached.ensures c.if-turns-eq0.true

pub returns-in_err-first : goal.returns-in_err-first
returns-in_err-first c = let g = c.args.game.now in
    let p = err_from_is_err_and c.from_residual-in_err-first.result c.from_residual-in_err-first.ensures.1 in
    rw p.1 (begins_stopped (language_by g.language) (sheets_by g.sheets) g.allowance c.args.turns c.args.state.now _ c.if-reached.false c.in_ok-reached.ensures
    _ (omega (arith, c.if-turns-eq0.false)) _ c.in_err-first.ensures)

pub returns-in_default : goal.returns-in_default
returns-in_default c = let g = c.args.game.now in
    begins_moves (language_by g.language) (sheets_by g.sheets) g.allowance c.args.turns c.args.state.now _ c.if-reached.false c.in_ok-reached.ensures
    _ (omega (arith, c.if-turns-eq0.false)) _ c.in_ok-first.ensures None c.in_default.is

pub returns-in-ByRule : goal.returns-in-ByRule
returns-in-ByRule c = let g = c.args.game.now in
    begins_moves (language_by g.language) (sheets_by g.sheets) g.allowance c.args.turns c.args.state.now _ c.if-reached.false c.in_ok-reached.ensures
    _ (omega (arith, c.if-turns-eq0.false)) _ c.in_ok-first.ensures (Some (ByRule c.in-ByRule.i)) (c.in-Some.is ∙ ap Some c.in-ByRule.is)

pub returns-in-ByPass : goal.returns-in-ByPass
returns-in-ByPass c = let g = c.args.game.now in
    begins_moves (language_by g.language) (sheets_by g.sheets) g.allowance c.args.turns c.args.state.now _ c.if-reached.false c.in_ok-reached.ensures
    _ (omega (arith, c.if-turns-eq0.false)) _ c.in_ok-first.ensures (Some ByPass) (c.in-Some.is ∙ ap Some c.in-ByPass.is)
