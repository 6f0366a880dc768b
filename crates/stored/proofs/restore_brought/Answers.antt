-- `stored::restore_brought` meets its contract.
use native.Mathlib.Omega.{arith}
use mathlib.Core.Path.{sym, ◌∙◌}
use Rattle.std.proofs.lemmas.Result.{err_from_is_err_and}
use Rattle.term.specs.Limits.{Octets}
use Rattle.reader.specs.Lent.{brought_of}
use Rattle.stored.proofs.Demands.{restore_ties, is_refused, is_full, is_written, restoring_table, restoring_class, restoring_refused, restoring_long, restoring_old, form_short}
use Rattle.stored.proofs.restore_brought.Goals as goal

pub returns-then-not-check_table-clause-answer : goal.returns-then-not-check_table-clause-answer
returns-then-not-check_table-clause-answer c = let args = c.args in
    let b = brought_of args.brought.now in
    let octets : Octets args.stored.now = λ i. omega (arith, c.type_inv.stored i) in
    (is_refused args.output.now (restore_ties b args.stored.now octets) _ (restoring_table b args.stored.now (sym c.if-not-check_table.ensures))).0

pub returns-then-not-check_table-clause-contents : goal.returns-then-not-check_table-clause-contents
returns-then-not-check_table-clause-contents c = let args = c.args in
    let b = brought_of args.brought.now in
    let octets : Octets args.stored.now = λ i. omega (arith, c.type_inv.stored i) in
    (is_refused args.output.now (restore_ties b args.stored.now octets) _ (restoring_table b args.stored.now (sym c.if-not-check_table.ensures))).1.0

pub returns-then-not-check_table-clause-demand : goal.returns-then-not-check_table-clause-demand
returns-then-not-check_table-clause-demand c = let args = c.args in
    let b = brought_of args.brought.now in
    let octets : Octets args.stored.now = λ i. omega (arith, c.type_inv.stored i) in
    (is_refused args.output.now (restore_ties b args.stored.now octets) _ (restoring_table b args.stored.now (sym c.if-not-check_table.ensures))).1.1

pub returns-then-not-accepts_list-clause-answer : goal.returns-then-not-accepts_list-clause-answer
returns-then-not-accepts_list-clause-answer c = let args = c.args in
    let b = brought_of args.brought.now in
    let octets : Octets args.stored.now = λ i. omega (arith, c.type_inv.stored i) in
    (is_refused args.output.now (restore_ties b args.stored.now octets) _ (restoring_class b args.stored.now (sym c.if-not-check_table.ensures) (sym c.if-not-accepts_list.ensures))).0

pub returns-then-not-accepts_list-clause-contents : goal.returns-then-not-accepts_list-clause-contents
returns-then-not-accepts_list-clause-contents c = let args = c.args in
    let b = brought_of args.brought.now in
    let octets : Octets args.stored.now = λ i. omega (arith, c.type_inv.stored i) in
    (is_refused args.output.now (restore_ties b args.stored.now octets) _ (restoring_class b args.stored.now (sym c.if-not-check_table.ensures) (sym c.if-not-accepts_list.ensures))).1.0

pub returns-then-not-accepts_list-clause-demand : goal.returns-then-not-accepts_list-clause-demand
returns-then-not-accepts_list-clause-demand c = let args = c.args in
    let b = brought_of args.brought.now in
    let octets : Octets args.stored.now = λ i. omega (arith, c.type_inv.stored i) in
    (is_refused args.output.now (restore_ties b args.stored.now octets) _ (restoring_class b args.stored.now (sym c.if-not-check_table.ensures) (sym c.if-not-accepts_list.ensures))).1.1

pub returns-in_err-read_form-clause-answer : goal.returns-in_err-read_form-clause-answer
returns-in_err-read_form-clause-answer c = let args = c.args in
    let b = brought_of args.brought.now in
    let octets : Octets args.stored.now = λ i. omega (arith, c.type_inv.stored i) in
    let p = err_from_is_err_and c.from_residual.result c.from_residual.ensures.1 in
    rw (p.1, p.2) (is_refused args.output.now (restore_ties b args.stored.now octets) _
    (restoring_refused b args.stored.now octets (sym c.if-not-check_table.ensures) (sym c.if-not-accepts_list.ensures) _ (rw c.language.ensures at (sym c.read_form.ensures ∙ c.in_err-read_form.was)))).0

pub returns-in_err-read_form-clause-contents : goal.returns-in_err-read_form-clause-contents
returns-in_err-read_form-clause-contents c = let args = c.args in
    let b = brought_of args.brought.now in
    let octets : Octets args.stored.now = λ i. omega (arith, c.type_inv.stored i) in
    (is_refused args.output.now (restore_ties b args.stored.now octets) _
    (restoring_refused b args.stored.now octets (sym c.if-not-check_table.ensures) (sym c.if-not-accepts_list.ensures) _ (rw c.language.ensures at (sym c.read_form.ensures ∙ c.in_err-read_form.was)))).1.0

pub returns-in_err-read_form-clause-demand : goal.returns-in_err-read_form-clause-demand
returns-in_err-read_form-clause-demand c = let args = c.args in
    let b = brought_of args.brought.now in
    let octets : Octets args.stored.now = λ i. omega (arith, c.type_inv.stored i) in
    let p = err_from_is_err_and c.from_residual.result c.from_residual.ensures.1 in
    rw (p.1, p.2) (is_refused args.output.now (restore_ties b args.stored.now octets) _
    (restoring_refused b args.stored.now octets (sym c.if-not-check_table.ensures) (sym c.if-not-accepts_list.ensures) _ (rw c.language.ensures at (sym c.read_form.ensures ∙ c.in_err-read_form.was)))).1.1

pub strip-size-requires : goal.strip-size-requires
strip-size-requires c = form_short _ _ _ (sym c.read_form.ensures ∙ c.in_ok-read_form.was)

pub returns-then-size-gt-LONGEST_RECORD-clause-answer : goal.returns-then-size-gt-LONGEST_RECORD-clause-answer
returns-then-size-gt-LONGEST_RECORD-clause-answer c = let args = c.args in
    let b = brought_of args.brought.now in
    let octets : Octets args.stored.now = λ i. omega (arith, c.type_inv.stored i) in
    (is_refused args.output.now (restore_ties b args.stored.now octets) _
    (restoring_long b args.stored.now octets (sym c.if-not-check_table.ensures) (sym c.if-not-accepts_list.ensures) _ (rw c.language.ensures at (sym c.read_form.ensures ∙ c.in_ok-read_form.was))
    (omega (arith, c.if-size-gt-LONGEST_RECORD.true, c.strip-size.ensures.size)))).0

pub returns-then-size-gt-LONGEST_RECORD-clause-contents : goal.returns-then-size-gt-LONGEST_RECORD-clause-contents
returns-then-size-gt-LONGEST_RECORD-clause-contents c = let args = c.args in
    let b = brought_of args.brought.now in
    let octets : Octets args.stored.now = λ i. omega (arith, c.type_inv.stored i) in
    (is_refused args.output.now (restore_ties b args.stored.now octets) _
    (restoring_long b args.stored.now octets (sym c.if-not-check_table.ensures) (sym c.if-not-accepts_list.ensures) _ (rw c.language.ensures at (sym c.read_form.ensures ∙ c.in_ok-read_form.was))
    (omega (arith, c.if-size-gt-LONGEST_RECORD.true, c.strip-size.ensures.size)))).1.0

pub returns-then-size-gt-LONGEST_RECORD-clause-demand : goal.returns-then-size-gt-LONGEST_RECORD-clause-demand
returns-then-size-gt-LONGEST_RECORD-clause-demand c = let args = c.args in
    let b = brought_of args.brought.now in
    let octets : Octets args.stored.now = λ i. omega (arith, c.type_inv.stored i) in
    (is_refused args.output.now (restore_ties b args.stored.now octets) _
    (restoring_long b args.stored.now octets (sym c.if-not-check_table.ensures) (sym c.if-not-accepts_list.ensures) _ (rw c.language.ensures at (sym c.read_form.ensures ∙ c.in_ok-read_form.was))
    (omega (arith, c.if-size-gt-LONGEST_RECORD.true, c.strip-size.ensures.size)))).1.1

pub returns-then-output-size-clause-answer : goal.returns-then-output-size-clause-answer
returns-then-output-size-clause-answer c = let args = c.args in
    let b = brought_of args.brought.now in
    let octets : Octets args.stored.now = λ i. omega (arith, c.type_inv.stored i) in
    (is_full args.output.now (restore_ties b args.stored.now octets) _ _
    (restoring_old b args.stored.now octets (sym c.if-not-check_table.ensures) (sym c.if-not-accepts_list.ensures) _ (rw c.language.ensures at (sym c.read_form.ensures ∙ c.in_ok-read_form.was))
    (omega (arith, c.if-size-gt-LONGEST_RECORD.false, c.strip-size.ensures.size))) (omega (arith, c.if-output-size.true, c.strip-size.ensures.size))).0

pub returns-then-output-size-clause-contents : goal.returns-then-output-size-clause-contents
returns-then-output-size-clause-contents c = let args = c.args in
    let b = brought_of args.brought.now in
    let octets : Octets args.stored.now = λ i. omega (arith, c.type_inv.stored i) in
    (is_full args.output.now (restore_ties b args.stored.now octets) _ _
    (restoring_old b args.stored.now octets (sym c.if-not-check_table.ensures) (sym c.if-not-accepts_list.ensures) _ (rw c.language.ensures at (sym c.read_form.ensures ∙ c.in_ok-read_form.was))
    (omega (arith, c.if-size-gt-LONGEST_RECORD.false, c.strip-size.ensures.size))) (omega (arith, c.if-output-size.true, c.strip-size.ensures.size))).1.0

pub returns-then-output-size-clause-demand : goal.returns-then-output-size-clause-demand
returns-then-output-size-clause-demand c = let args = c.args in
    let b = brought_of args.brought.now in
    let octets : Octets args.stored.now = λ i. omega (arith, c.type_inv.stored i) in
    (is_full args.output.now (restore_ties b args.stored.now octets) _ _
    (restoring_old b args.stored.now octets (sym c.if-not-check_table.ensures) (sym c.if-not-accepts_list.ensures) _ (rw c.language.ensures at (sym c.read_form.ensures ∙ c.in_ok-read_form.was))
    (omega (arith, c.if-size-gt-LONGEST_RECORD.false, c.strip-size.ensures.size))) (omega (arith, c.if-output-size.true, c.strip-size.ensures.size))).1.1

pub strip-requires : goal.strip-requires
strip-requires c = form_short _ _ _ (sym c.read_form.ensures ∙ c.in_ok-read_form.was)

pub returns-clause-answer : goal.returns-clause-answer
returns-clause-answer c = let args = c.args in
    let b = brought_of args.brought.now in
    let octets : Octets args.stored.now = λ i. omega (arith, c.type_inv.stored i) in
    (is_written args.output.now (restore_ties b args.stored.now octets) _ _
    (restoring_old b args.stored.now octets (sym c.if-not-check_table.ensures) (sym c.if-not-accepts_list.ensures) _ (rw c.language.ensures at (sym c.read_form.ensures ∙ c.in_ok-read_form.was))
    (omega (arith, c.if-size-gt-LONGEST_RECORD.false, c.strip-size.ensures.size))) _ _ c.strip-size.ensures.size c.if-output-size.false c.strip.ensures.contents).0

pub returns-clause-contents : goal.returns-clause-contents
returns-clause-contents c = let args = c.args in
    let b = brought_of args.brought.now in
    let octets : Octets args.stored.now = λ i. omega (arith, c.type_inv.stored i) in
    (is_written args.output.now (restore_ties b args.stored.now octets) _ _
    (restoring_old b args.stored.now octets (sym c.if-not-check_table.ensures) (sym c.if-not-accepts_list.ensures) _ (rw c.language.ensures at (sym c.read_form.ensures ∙ c.in_ok-read_form.was))
    (omega (arith, c.if-size-gt-LONGEST_RECORD.false, c.strip-size.ensures.size))) _ _ c.strip-size.ensures.size c.if-output-size.false c.strip.ensures.contents).1.0

pub returns-clause-demand : goal.returns-clause-demand
returns-clause-demand c = let args = c.args in
    let b = brought_of args.brought.now in
    let octets : Octets args.stored.now = λ i. omega (arith, c.type_inv.stored i) in
    (is_written args.output.now (restore_ties b args.stored.now octets) _ _
    (restoring_old b args.stored.now octets (sym c.if-not-check_table.ensures) (sym c.if-not-accepts_list.ensures) _ (rw c.language.ensures at (sym c.read_form.ensures ∙ c.in_ok-read_form.was))
    (omega (arith, c.if-size-gt-LONGEST_RECORD.false, c.strip-size.ensures.size))) _ _ c.strip-size.ensures.size c.if-output-size.false c.strip.ensures.contents).1.1
