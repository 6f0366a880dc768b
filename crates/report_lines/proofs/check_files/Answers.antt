-- `report_lines::check_files` meets its contract.
use mathlib.Core.Path.{refl, sym, ◌∙◌}
use Rattle.report_lines.proofs.Verdicts.{table_unread, table_refused, rules_refused, states_refused, all_accepted}
use Rattle.report_lines.proofs.check_files.Goals as goal

pub returns-in_default : goal.returns-in_default
returns-in_default c = rw (c.in_default.is, c.at.ensures) (table_unread _ _ _ _ _ _ refl)

pub returns-then-not-check_table : goal.returns-then-not-check_table
returns-then-not-check_table c = rw (c.in-Some.is, c.at-then-not-check_table.ensures)
    (table_refused _ _ _ _ _ _ refl (sym c.check_table.ensures ∙ c.if-not-check_table.true))

pub returns-in-Err : goal.returns-in-Err
returns-in-Err c = rw c.in-Some.is
    (rules_refused _ _ _ _ _ _ refl (sym c.check_table.ensures ∙ c.if-not-check_table.false) _ (sym c.check_file.ensures ∙ c.in-Err.is))

pub returns-in-Ok : goal.returns-in-Ok
returns-in-Ok c = rw c.in-Some.is
    (all_accepted _ _ _ _ _ _ refl (sym c.check_table.ensures ∙ c.if-not-check_table.false) _ (sym c.check_file.ensures ∙ c.in_default-check_file.is) _
    (rw (c.edition_of.ensures, c.bytes_in.ensures) at (sym c.check_file-2.ensures ∙ c.in-Ok.is)))

pub returns-in-Err-check_file : goal.returns-in-Err-check_file
returns-in-Err-check_file c = rw c.in-Some.is
    (states_refused _ _ _ _ _ _ refl (sym c.check_table.ensures ∙ c.if-not-check_table.false) _ (sym c.check_file.ensures ∙ c.in_default-check_file.is) _
    (rw (c.edition_of.ensures, c.bytes_in.ensures) at (sym c.check_file-2.ensures ∙ c.in-Err-check_file.is)))
