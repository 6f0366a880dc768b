-- `report_lines::put_refusal` meets its contract.
use native.Mathlib.Omega.{arith}
use native.Mathlib.Nat.{zero-add}
use mathlib.Core.Path.{ap, ◌∙◌}
use lib.ListN.{length}
use Rattle.output.specs.Decimal.{decimal}
use Rattle.output.specs.Field.{refused_word}
use Rattle.report_lines.proofs.Fields.{file_line}
use Rattle.report_lines.proofs.Stores.{line_put, front_as}
use Rattle.report_lines.proofs.put_refusal.Goals as goal

pub returns : goal.returns
returns c =
    let r = c.args.refused in
    let same = file_line r.fault.refusal r.file r.fault.index c.from.result c.word_of.result.now (c.from.ensures ∙ c.number.ensures) c.word_of.ensures in
    let put = line_put _ _ _ _ _ _ _ _ _ _ refused_word (decimal c.from.result) c.word_of.result.now (decimal r.fault.index) (omega (arith, c.requires, ap length same))
    (c.put_field-end.ensures.contents, c.put_field-end.ensures.end) (c.put_decimal-end.ensures.contents, c.put_decimal-end.ensures.end)
    (c.put_field-end-2.ensures.contents, c.put_field-end-2.ensures.end) (c.put_decimal.ensures.contents, c.put_decimal.ensures.end) in
    let p = front_as _ _ _ _ _ same (put.0, put.1 ∙ zero-add _) in
    record { out_value = p.0; value = p.1 }
