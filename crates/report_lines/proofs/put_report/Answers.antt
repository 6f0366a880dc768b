-- `report_lines::put_report` meets its contract.
use mathlib.Core.Path.{◌≡◌, sym, ◌∙◌}
use borrow.Author.Rules.{rules}
use Rattle.std.specs.Prelude.{option_copied}
use Rattle.report_lines.specs.Report.{lines, report_on}
use Rattle.report_lines.proofs.Rooms.{refusal_short, text_put}
use Rattle.report_lines.proofs.Verdicts.{lines_accepted, report_by_holds}
use Rattle.report_lines.proofs.put_report.Goals as goal

pub put_lines-requires-clause-files_accepted : goal.put_lines-requires-clause-files_accepted
put_lines-requires-clause-files_accepted c = rw (c.bytes_in.ensures, c.bytes_in-in-Ok.ensures, c.bytes_in-in-Ok-2.ensures)
    (lines_accepted _ _ _ _ _ _ _ (sym c.check_files.ensures ∙ c.in-Ok.is)).2

pub put_refusal-requires : goal.put_refusal-requires
put_refusal-requires c = refusal_short _ _ _ _ (search rules)

pub returns-in-Ok : goal.returns-in-Ok
returns-in-Ok c = let args = c.args in
    let text : lines c.bytes_in.result.now c.bytes_in-in-Ok.result.now c.bytes_in-in-Ok-2.result.now
    ≡ report_on (option_copied args.table) (option_copied args.rules) (option_copied args.states) =
    rw (c.bytes_in.ensures, c.bytes_in-in-Ok.ensures, c.bytes_in-in-Ok-2.ensures) (report_by_holds _ _ _ _ _ _ _ (sym c.check_files.ensures ∙ c.in-Ok.is)) in
    let p = text_put _ _ _ _ _ _ _ _ _ _ text (search rules) c.put_lines.ensures.out_value c.put_lines.ensures.value in
    record { size = p.0; contents = p.1 }

pub returns-in-Err : goal.returns-in-Err
returns-in-Err c =
    let text = report_by_holds _ _ _ _ _ _ _ (sym c.check_files.ensures ∙ c.in-Err.is) in
    let p = text_put _ _ _ _ _ _ _ _ _ _ text (search rules) c.put_refusal.ensures.out_value c.put_refusal.ensures.value in
    record { size = p.0; contents = p.1 }
