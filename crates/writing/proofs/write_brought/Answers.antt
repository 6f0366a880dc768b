-- `writing::write_brought` meets its contract.
use native.Mathlib.Omega.{arith}
use mathlib.Core.Path.{sym, ◌∙◌}
use Rattle.std.proofs.lemmas.Result.{err_from_is_err_and}
use Rattle.reader.specs.Lent.{brought_of}
use Rattle.writing.proofs.Writings.{records_passed, writing_refused, writing_full, writing_written}
use Rattle.writing.proofs.Lengths.{lengths_true}
use Rattle.writing.proofs.Demands.{writing_shown_holds}
use Rattle.writing.proofs.write_brought.Goals as goal

pub returns-in_err-check_records : goal.returns-in_err-check_records
returns-in_err-check_records c = let args = c.args in
    let p = err_from_is_err_and c.from_residual.result c.from_residual.ensures.1 in
    let b = brought_of args.brought.now in
    rw (p.1, p.2) (writing_shown_holds b args.records.now args.lengths.now args.output.now (λ i. omega (arith, c.type_inv.records i)) _ _
    (writing_refused b args.records.now args.lengths.now args.output.now _ (sym c.check_records.ensures ∙ c.in_err-check_records.was)))

pub overflow_add-size-2 : goal.overflow_add-size-2
overflow_add-size-2 c = let args = c.args in
    omega (arith, (records_passed (brought_of args.brought.now) args.records.now args.lengths.now _ (sym c.check_records.ensures ∙ c.in_ok-check_records.was)).short)

pub put_sheet-requires : goal.put_sheet-requires
put_sheet-requires c = let args = c.args in
    let p = records_passed (brought_of args.brought.now) args.records.now args.lengths.now _ (sym c.check_records.ensures ∙ c.in_ok-check_records.was) in
    record { records_len = (lengths_true args.lengths.now _ p.lengths).1; records_bound = p.short; records_in_bounds = omega arith }

pub returns-then-size-output : goal.returns-then-size-output
returns-then-size-output c = let args = c.args in
    let b = brought_of args.brought.now in
    let w = writing_written b args.records.now args.lengths.now args.output.now _ (sym c.check_records.ensures ∙ c.in_ok-check_records.was) (omega arith) in
    writing_shown_holds b args.records.now args.lengths.now args.output.now (λ i. omega (arith, c.type_inv.records i)) _ _ (w.0, c.put_sheet.ensures ∙ w.1)

pub returns : goal.returns
returns c = let args = c.args in
    let b = brought_of args.brought.now in
    rw c.at.ensures (writing_shown_holds b args.records.now args.lengths.now args.output.now (λ i. omega (arith, c.type_inv.records i)) _ _
    (writing_full b args.records.now args.lengths.now args.output.now _ (sym c.check_records.ensures ∙ c.in_ok-check_records.was) (omega arith)))
