-- `report_lines::put_answer` meets its contract.
use native.Mathlib.Omega.{arith}
use mathlib.Core.Path.{refl, ap, ◌∙◌}
use lib.ListN.{length}
use Rattle.std.specs.Prelude.{Ok}
use Rattle.report_lines.specs.Line.{answer_line}
use Rattle.report_lines.proofs.Fields.{bound_line, none_line, spent_line}
use Rattle.report_lines.proofs.Stores.{put_as}
use Rattle.report_lines.proofs.put_answer.Goals as goal

pub put_ruled-requires : goal.put_ruled-requires
put_ruled-requires c = omega (arith, c.requires, ap length (bound_line c.args.state c.args.answer _ _ (c.in-Ok.is ∙ ap Ok c.in-Bound.is)))

pub put_none-requires : goal.put_none-requires
put_none-requires c = omega (arith, c.requires, ap length (none_line c.args.state c.args.answer _ (c.in-Ok.is ∙ ap Ok c.in-None.is)))

pub put_ruled-requires-in-Spent : goal.put_ruled-requires-in-Spent
put_ruled-requires-in-Spent c = omega (arith, c.requires, ap length (spent_line c.args.state c.args.answer _ _ (c.in-Ok.is ∙ ap Ok c.in-Spent.is)))

pub returns-in-Bound : goal.returns-in-Bound
returns-in-Bound c =
    let line = bound_line c.args.state c.args.answer _ _ (c.in-Ok.is ∙ ap Ok c.in-Bound.is) in
    let p = put_as _ _ _ _ _ _ line (c.put_ruled.ensures.out_value, c.put_ruled.ensures.value) in
    record { out_value = p.0; value = p.1 }

pub returns-in-None : goal.returns-in-None
returns-in-None c =
    let line = none_line c.args.state c.args.answer _ (c.in-Ok.is ∙ ap Ok c.in-None.is) in
    let p = put_as _ _ _ _ _ _ line (c.put_none.ensures.out_value, c.put_none.ensures.value) in
    record { out_value = p.0; value = p.1 }

pub returns-in-Spent : goal.returns-in-Spent
returns-in-Spent c =
    let line = spent_line c.args.state c.args.answer _ _ (c.in-Ok.is ∙ ap Ok c.in-Spent.is) in
    let p = put_as _ _ _ _ _ _ line (c.put_ruled-in-Spent.ensures.out_value, c.put_ruled-in-Spent.ensures.value) in
    record { out_value = p.0; value = p.1 }

pub returns-in_default : goal.returns-in_default
unfolding answer_line
returns-in_default c = record { out_value = rw c.in_default.is refl; value = rw c.in_default.is (omega arith) }
