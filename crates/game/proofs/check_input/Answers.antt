-- `game::check_input` meets its contract.
use mathlib.Core.Path.{sym, ◌∙◌}
use Rattle.reader.specs.Lent.{brought_of}
use Rattle.game.specs.Lent.{sheets_by}
use Rattle.game.proofs.Calls.{table_fails, class_fails, trees_tell}
use Rattle.game.proofs.check_input.Goals as goal

pub returns-then-not-check_table : goal.returns-then-not-check_table
returns-then-not-check_table c = let a = c.args in
    rw c.at-then-not-check_table.ensures (table_fails a.turns (brought_of a.brought.now) (sheets_by a.sheets.now) a.state.now c.if-turns-gt-MOST_TURNS.false
    (sym c.check_table.ensures ∙ c.if-not-check_table.true))

pub returns-then-not-accepts_list : goal.returns-then-not-accepts_list
returns-then-not-accepts_list c = let a = c.args in
    rw c.at-then-not-accepts_list.ensures (class_fails a.turns (brought_of a.brought.now) (sheets_by a.sheets.now) a.state.now c.if-turns-gt-MOST_TURNS.false
    (sym c.check_table.ensures ∙ c.if-not-check_table.false) (sym c.accepts_list.ensures ∙ c.if-not-accepts_list.true))

pub returns : goal.returns
returns c = let a = c.args in
    trees_tell a.turns (brought_of a.brought.now) (sheets_by a.sheets.now) a.state.now c.if-turns-gt-MOST_TURNS.false
    (sym c.check_table.ensures ∙ c.if-not-check_table.false) (sym c.accepts_list.ensures ∙ c.if-not-accepts_list.false) _ c.check_trees.ensures
