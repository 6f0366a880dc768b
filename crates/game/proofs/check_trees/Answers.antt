-- `game::check_trees` meets its contract.
use mathlib.Core.Path.{sym, ◌∙◌}
use Rattle.std.proofs.lemmas.Result.{err_from_is_err_and}
use Rattle.reader.specs.Lent.{brought_of}
use Rattle.game.specs.Lent.{sheets_by}
use Rattle.game.proofs.Calls.{loader_fails, sender_fails, goal_fails, record_fails, trees_pass}
use Rattle.game.proofs.check_trees.Goals as goal

pub returns-in_err-check_side : goal.returns-in_err-check_side
returns-in_err-check_side c = let a = c.args in
    let p = err_from_is_err_and c.from_residual.result c.from_residual.ensures.1 in
    rw (p.1, p.2) (loader_fails (brought_of a.brought.now) (sheets_by a.sheets.now) a.state.now _ (sym c.check_side.ensures ∙ c.in_err-check_side.was))

pub returns-in_err-check_side-2 : goal.returns-in_err-check_side-2
returns-in_err-check_side-2 c = let a = c.args in
    let p = err_from_is_err_and c.from_residual-in_err-check_side-2.result c.from_residual-in_err-check_side-2.ensures.1 in
    rw (p.1, p.2) (sender_fails (brought_of a.brought.now) (sheets_by a.sheets.now) a.state.now (sym c.check_side.ensures ∙ c.in_ok-check_side.was) _
    (sym c.check_side-2.ensures ∙ c.in_err-check_side-2.was))

pub returns-in_err-read_pattern_in : goal.returns-in_err-read_pattern_in
returns-in_err-read_pattern_in c = let a = c.args in
    let p = err_from_is_err_and c.from_residual-in_err-read_pattern_in.result c.from_residual-in_err-read_pattern_in.ensures.1 in
    rw (p.1, p.2) (goal_fails (brought_of a.brought.now) (sheets_by a.sheets.now) a.state.now _ c.language-language.ensures
    (sym c.check_side.ensures ∙ c.in_ok-check_side.was) (sym c.check_side-2.ensures ∙ c.in_ok-check_side-2.was) _ (sym c.read_pattern_in.ensures ∙ c.in_err-read_pattern_in.was))

pub returns-in_err-read_record_in : goal.returns-in_err-read_record_in
returns-in_err-read_record_in c = let a = c.args in
    let p = err_from_is_err_and c.from_residual-in_err-read_record_in.result c.from_residual-in_err-read_record_in.ensures.1 in
    rw (p.1, p.2) (record_fails (brought_of a.brought.now) (sheets_by a.sheets.now) a.state.now _ c.language-language.ensures
    (sym c.check_side.ensures ∙ c.in_ok-check_side.was) (sym c.check_side-2.ensures ∙ c.in_ok-check_side-2.was) _ (sym c.read_pattern_in.ensures ∙ c.in_ok-read_pattern_in.was)
    _ (sym c.read_record_in.ensures ∙ c.in_err-read_record_in.was))

pub returns : goal.returns
returns c = let a = c.args in
    trees_pass (brought_of a.brought.now) (sheets_by a.sheets.now) a.state.now _ c.language-language.ensures
    (sym c.check_side.ensures ∙ c.in_ok-check_side.was) (sym c.check_side-2.ensures ∙ c.in_ok-check_side-2.was) _ (sym c.read_pattern_in.ensures ∙ c.in_ok-read_pattern_in.was)
    _ (sym c.read_record_in.ensures ∙ c.in_ok-read_record_in.was)
