-- `game::play_brought` meets its contract.
use native.Mathlib.Omega.{arith}
use mathlib.Core.Path.{sym, ◌∙◌}
use Rattle.std.proofs.lemmas.Result.{err_from_is_err_and}
use Rattle.term.specs.Lent.{language_by}
use Rattle.reader.specs.Lent.{brought_of}
use Rattle.game.specs.Lent.{sheets_by}
use Rattle.game.proofs.Calls.{play_fails, play_passes}
use Rattle.game.proofs.play_brought.Goals as goal

pub returns-in_err-check_input : goal.returns-in_err-check_input
returns-in_err-check_input c = let a = c.args in
    let p = err_from_is_err_and c.from_residual.result c.from_residual.ensures.1 in
    λ b. rw (p.1, p.2) (play_fails a.turns (brought_of a.brought.now) (sheets_by a.sheets.now) a.state.now b.0 b.1 b.2 b.3 b.4
    (λ i. omega (arith, c.type_inv.state i)) a.allowance _ _ (sym c.check_input.ensures ∙ c.in_err-check_input.was))

pub returns : goal.returns
returns c = let a = c.args in
    λ b. play_passes a.turns (brought_of a.brought.now) (sheets_by a.sheets.now) a.state.now b.0 b.1 b.2 b.3 b.4
    (λ i. omega (arith, c.type_inv.state i)) a.allowance (language_by c.language.result) c.language.ensures
    (sym c.check_input.ensures ∙ c.in_ok-check_input.was) _ c.play_game.ensures
