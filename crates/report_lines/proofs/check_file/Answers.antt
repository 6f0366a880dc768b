-- `report_lines::check_file` meets its contract.
use mathlib.Core.Path.{ap, ◌∙◌}
use Rattle.reader.specs.Brought.{Brought}
use Rattle.sheet.specs.Contents.{check_contents}
use Rattle.report_lines.specs.Verdict.{readable}
use Rattle.report_lines.proofs.check_file.Goals as goal

pub returns-in-Some : goal.returns-in-Some
unfolding readable
returns-in-Some c = rw c.in-Some.is
    (c.check_contents.ensures ∙ ap (λ (b : Brought). check_contents c.args.records c.args.only b.table b.list c.in-Some.bytes.now) c.simply.ensures)

pub returns-in-None : goal.returns-in-None
unfolding readable
returns-in-None c = rw (c.in-None.is, c.at.ensures)
