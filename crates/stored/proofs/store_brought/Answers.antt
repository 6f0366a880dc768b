-- `stored::store_brought` meets its contract.
use native.Mathlib.Omega.{arith}
use mathlib.Core.Path.{sym, ap, ◌∙◌}
use lib.Seq.{sets}
use Rattle.std.proofs.lemmas.Result.{err_from_is_err_and}
use Rattle.term.specs.Limits.{Octets}
use Rattle.reader.specs.Lent.{brought_of}
use Rattle.stored.proofs.Demands.{store_ties, is_refused, is_full, is_written, storing_table, storing_class, storing_refused, storable}
use Rattle.stored.proofs.store_brought.Goals as goal

pub returns-then-not-check_table-clause-answer : goal.returns-then-not-check_table-clause-answer
returns-then-not-check_table-clause-answer c = let args = c.args in
    let b = brought_of args.brought.now in
    let octets : Octets args.record.now = λ i. omega (arith, c.type_inv.«record» i) in
    (is_refused args.output.now (store_ties b args.record.now octets) _ (storing_table b args.record.now (sym c.if-not-check_table.ensures))).0

pub returns-then-not-check_table-clause-contents : goal.returns-then-not-check_table-clause-contents
returns-then-not-check_table-clause-contents c = let args = c.args in
    let b = brought_of args.brought.now in
    let octets : Octets args.record.now = λ i. omega (arith, c.type_inv.«record» i) in
    (is_refused args.output.now (store_ties b args.record.now octets) _ (storing_table b args.record.now (sym c.if-not-check_table.ensures))).1.0

pub returns-then-not-check_table-clause-demand : goal.returns-then-not-check_table-clause-demand
returns-then-not-check_table-clause-demand c = let args = c.args in
    let b = brought_of args.brought.now in
    let octets : Octets args.record.now = λ i. omega (arith, c.type_inv.«record» i) in
    (is_refused args.output.now (store_ties b args.record.now octets) _ (storing_table b args.record.now (sym c.if-not-check_table.ensures))).1.1

pub returns-then-not-accepts_list-clause-answer : goal.returns-then-not-accepts_list-clause-answer
returns-then-not-accepts_list-clause-answer c = let args = c.args in
    let b = brought_of args.brought.now in
    let octets : Octets args.record.now = λ i. omega (arith, c.type_inv.«record» i) in
    (is_refused args.output.now (store_ties b args.record.now octets) _ (storing_class b args.record.now (sym c.if-not-check_table.ensures) (sym c.if-not-accepts_list.ensures))).0

pub returns-then-not-accepts_list-clause-contents : goal.returns-then-not-accepts_list-clause-contents
returns-then-not-accepts_list-clause-contents c = let args = c.args in
    let b = brought_of args.brought.now in
    let octets : Octets args.record.now = λ i. omega (arith, c.type_inv.«record» i) in
    (is_refused args.output.now (store_ties b args.record.now octets) _ (storing_class b args.record.now (sym c.if-not-check_table.ensures) (sym c.if-not-accepts_list.ensures))).1.0

pub returns-then-not-accepts_list-clause-demand : goal.returns-then-not-accepts_list-clause-demand
returns-then-not-accepts_list-clause-demand c = let args = c.args in
    let b = brought_of args.brought.now in
    let octets : Octets args.record.now = λ i. omega (arith, c.type_inv.«record» i) in
    (is_refused args.output.now (store_ties b args.record.now octets) _ (storing_class b args.record.now (sym c.if-not-check_table.ensures) (sym c.if-not-accepts_list.ensures))).1.1

pub returns-in_err-read_record_in-clause-answer : goal.returns-in_err-read_record_in-clause-answer
returns-in_err-read_record_in-clause-answer c = let args = c.args in
    let b = brought_of args.brought.now in
    let octets : Octets args.record.now = λ i. omega (arith, c.type_inv.«record» i) in
    let p = err_from_is_err_and c.from_residual.result c.from_residual.ensures.1 in
    rw (p.1, p.2) (is_refused args.output.now (store_ties b args.record.now octets) _
    (storing_refused b args.record.now (sym c.if-not-check_table.ensures) (sym c.if-not-accepts_list.ensures) _ (rw c.language.ensures at (sym c.read_record_in.ensures ∙ c.in_err-read_record_in.was)))).0

pub returns-in_err-read_record_in-clause-contents : goal.returns-in_err-read_record_in-clause-contents
returns-in_err-read_record_in-clause-contents c = let args = c.args in
    let b = brought_of args.brought.now in
    let octets : Octets args.record.now = λ i. omega (arith, c.type_inv.«record» i) in
    (is_refused args.output.now (store_ties b args.record.now octets) _
    (storing_refused b args.record.now (sym c.if-not-check_table.ensures) (sym c.if-not-accepts_list.ensures) _ (rw c.language.ensures at (sym c.read_record_in.ensures ∙ c.in_err-read_record_in.was)))).1.0

pub returns-in_err-read_record_in-clause-demand : goal.returns-in_err-read_record_in-clause-demand
returns-in_err-read_record_in-clause-demand c = let args = c.args in
    let b = brought_of args.brought.now in
    let octets : Octets args.record.now = λ i. omega (arith, c.type_inv.«record» i) in
    let p = err_from_is_err_and c.from_residual.result c.from_residual.ensures.1 in
    rw (p.1, p.2) (is_refused args.output.now (store_ties b args.record.now octets) _
    (storing_refused b args.record.now (sym c.if-not-check_table.ensures) (sym c.if-not-accepts_list.ensures) _ (rw c.language.ensures at (sym c.read_record_in.ensures ∙ c.in_err-read_record_in.was)))).1.1

pub stored_length-size-requires : goal.stored_length-size-requires
stored_length-size-requires c = let args = c.args in
    let b = brought_of args.brought.now in
    let octets : Octets args.record.now = λ i. omega (arith, c.type_inv.«record» i) in
    (storable b args.record.now octets _ 0 (sym c.if-not-check_table.ensures) (sym c.if-not-accepts_list.ensures)
    (rw c.language.ensures at (sym c.read_record_in.ensures ∙ c.in_ok-read_record_in.was))).short

pub returns-then-output-size-clause-answer : goal.returns-then-output-size-clause-answer
returns-then-output-size-clause-answer c = let args = c.args in
    let b = brought_of args.brought.now in
    let octets : Octets args.record.now = λ i. omega (arith, c.type_inv.«record» i) in
    let o = storable b args.record.now octets _ 0 (sym c.if-not-check_table.ensures) (sym c.if-not-accepts_list.ensures)
    (rw c.language.ensures at (sym c.read_record_in.ensures ∙ c.in_ok-read_record_in.was)) in
    (is_full args.output.now (store_ties b args.record.now octets) _ _ o.is_stored (omega (arith, c.if-output-size.true, c.stored_length-size.ensures, o.size))).0

pub returns-then-output-size-clause-contents : goal.returns-then-output-size-clause-contents
returns-then-output-size-clause-contents c = let args = c.args in
    let b = brought_of args.brought.now in
    let octets : Octets args.record.now = λ i. omega (arith, c.type_inv.«record» i) in
    let o = storable b args.record.now octets _ 0 (sym c.if-not-check_table.ensures) (sym c.if-not-accepts_list.ensures)
    (rw c.language.ensures at (sym c.read_record_in.ensures ∙ c.in_ok-read_record_in.was)) in
    (is_full args.output.now (store_ties b args.record.now octets) _ _ o.is_stored (omega (arith, c.if-output-size.true, c.stored_length-size.ensures, o.size))).1.0

pub returns-then-output-size-clause-demand : goal.returns-then-output-size-clause-demand
returns-then-output-size-clause-demand c = let args = c.args in
    let b = brought_of args.brought.now in
    let octets : Octets args.record.now = λ i. omega (arith, c.type_inv.«record» i) in
    let o = storable b args.record.now octets _ 0 (sym c.if-not-check_table.ensures) (sym c.if-not-accepts_list.ensures)
    (rw c.language.ensures at (sym c.read_record_in.ensures ∙ c.in_ok-read_record_in.was)) in
    (is_full args.output.now (store_ties b args.record.now octets) _ _ o.is_stored (omega (arith, c.if-output-size.true, c.stored_length-size.ensures, o.size))).1.1

pub put_tree-requires : goal.put_tree-requires
put_tree-requires c = let args = c.args in
    let b = brought_of args.brought.now in
    let octets : Octets args.record.now = λ i. omega (arith, c.type_inv.«record» i) in
    let o = storable b args.record.now octets _ _ (sym c.if-not-check_table.ensures) (sym c.if-not-accepts_list.ensures)
    (rw c.language.ensures at (sym c.read_record_in.ensures ∙ c.in_ok-read_record_in.was)) in
    o.puts (omega (arith, c.if-output-size.false, c.stored_length-size.ensures, o.size))

pub returns-clause-answer : goal.returns-clause-answer
returns-clause-answer c = let args = c.args in
    let b = brought_of args.brought.now in
    let octets : Octets args.record.now = λ i. omega (arith, c.type_inv.«record» i) in
    let o = storable b args.record.now octets _ 0 (sym c.if-not-check_table.ensures) (sym c.if-not-accepts_list.ensures)
    (rw c.language.ensures at (sym c.read_record_in.ensures ∙ c.in_ok-read_record_in.was)) in
    (is_written args.output.now (store_ties b args.record.now octets) _ _ o.is_stored _ _ (c.stored_length-size.ensures ∙ o.size) c.if-output-size.false
    (c.put_tree.ensures ∙ ap (sets args.output.now 0) o.put)).0

pub returns-clause-contents : goal.returns-clause-contents
returns-clause-contents c = let args = c.args in
    let b = brought_of args.brought.now in
    let octets : Octets args.record.now = λ i. omega (arith, c.type_inv.«record» i) in
    let o = storable b args.record.now octets _ 0 (sym c.if-not-check_table.ensures) (sym c.if-not-accepts_list.ensures)
    (rw c.language.ensures at (sym c.read_record_in.ensures ∙ c.in_ok-read_record_in.was)) in
    (is_written args.output.now (store_ties b args.record.now octets) _ _ o.is_stored _ _ (c.stored_length-size.ensures ∙ o.size) c.if-output-size.false
    (c.put_tree.ensures ∙ ap (sets args.output.now 0) o.put)).1.0

pub returns-clause-demand : goal.returns-clause-demand
returns-clause-demand c = let args = c.args in
    let b = brought_of args.brought.now in
    let octets : Octets args.record.now = λ i. omega (arith, c.type_inv.«record» i) in
    let o = storable b args.record.now octets _ 0 (sym c.if-not-check_table.ensures) (sym c.if-not-accepts_list.ensures)
    (rw c.language.ensures at (sym c.read_record_in.ensures ∙ c.in_ok-read_record_in.was)) in
    (is_written args.output.now (store_ties b args.record.now octets) _ _ o.is_stored _ _ (c.stored_length-size.ensures ∙ o.size) c.if-output-size.false
    (c.put_tree.ensures ∙ ap (sets args.output.now 0) o.put)).1.1
