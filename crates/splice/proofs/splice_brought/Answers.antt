-- `splice::splice_brought` meets its contract.
use native.Mathlib.Omega.{arith}
use mathlib.Core.Path.{sym, ap}
use lib.ListN.{length}
use Rattle.term.specs.Language.{Language}
use Rattle.reader.specs.Lent.{brought_of}
use Rattle.splice.proofs.Conversions.{call_table, call_class, call_converted}
use Rattle.splice.proofs.Demands.{is_done, is_refused}
use Rattle.splice.proofs.splice_brought.Goals as goal

pub returns-then-not-check_table-clause-answer : goal.returns-then-not-check_table-clause-answer
returns-then-not-check_table-clause-answer c = let args = c.args in
    let table = args.brought.now.table.now in
    let list = (brought_of args.brought.now).list in
    (is_refused args.records table list args.bytes.now args.output.now (λ i. omega (arith, c.type_inv.bytes i)) _
    (call_table args.records table list args.bytes.now (length args.output.now) (sym c.if-not-check_table.ensures))).0

pub returns-then-not-check_table-clause-contents : goal.returns-then-not-check_table-clause-contents
returns-then-not-check_table-clause-contents c = let args = c.args in
    let table = args.brought.now.table.now in
    let list = (brought_of args.brought.now).list in
    (is_refused args.records table list args.bytes.now args.output.now (λ i. omega (arith, c.type_inv.bytes i)) _
    (call_table args.records table list args.bytes.now (length args.output.now) (sym c.if-not-check_table.ensures))).1.0

pub returns-then-not-check_table-clause-demand : goal.returns-then-not-check_table-clause-demand
returns-then-not-check_table-clause-demand c = let args = c.args in
    let table = args.brought.now.table.now in
    let list = (brought_of args.brought.now).list in
    (is_refused args.records table list args.bytes.now args.output.now (λ i. omega (arith, c.type_inv.bytes i)) _
    (call_table args.records table list args.bytes.now (length args.output.now) (sym c.if-not-check_table.ensures))).1.1

pub returns-then-not-accepts_list-clause-answer : goal.returns-then-not-accepts_list-clause-answer
returns-then-not-accepts_list-clause-answer c = let args = c.args in
    let table = args.brought.now.table.now in
    let list = (brought_of args.brought.now).list in
    (is_refused args.records table list args.bytes.now args.output.now (λ i. omega (arith, c.type_inv.bytes i)) _
    (call_class args.records table list args.bytes.now (length args.output.now) (sym c.if-not-check_table.ensures) (sym c.if-not-accepts_list.ensures))).0

pub returns-then-not-accepts_list-clause-contents : goal.returns-then-not-accepts_list-clause-contents
returns-then-not-accepts_list-clause-contents c = let args = c.args in
    let table = args.brought.now.table.now in
    let list = (brought_of args.brought.now).list in
    (is_refused args.records table list args.bytes.now args.output.now (λ i. omega (arith, c.type_inv.bytes i)) _
    (call_class args.records table list args.bytes.now (length args.output.now) (sym c.if-not-check_table.ensures) (sym c.if-not-accepts_list.ensures))).1.0

pub returns-then-not-accepts_list-clause-demand : goal.returns-then-not-accepts_list-clause-demand
returns-then-not-accepts_list-clause-demand c = let args = c.args in
    let table = args.brought.now.table.now in
    let list = (brought_of args.brought.now).list in
    (is_refused args.records table list args.bytes.now args.output.now (λ i. omega (arith, c.type_inv.bytes i)) _
    (call_class args.records table list args.bytes.now (length args.output.now) (sym c.if-not-check_table.ensures) (sym c.if-not-accepts_list.ensures))).1.1

pub splice_checked-requires : goal.splice_checked-requires
splice_checked-requires c = rw (ap (λ (l : Language). l.table) c.language.ensures) (sym c.if-not-check_table.ensures)

pub returns-clause-answer : goal.returns-clause-answer
returns-clause-answer c = let args = c.args in
    let table = args.brought.now.table.now in
    let list = (brought_of args.brought.now).list in
    let called = call_converted args.records table list args.bytes.now (length args.output.now) (sym c.if-not-check_table.ensures) (sym c.if-not-accepts_list.ensures) in
    let of_classes = ap (λ (l : Language). l.classes) c.language.ensures in
    let of_table = ap (λ (l : Language). l.table) c.language.ensures in
    (is_done args.records table list args.bytes.now args.output.now (λ i. omega (arith, c.type_inv.bytes i)) c.splice_checked.result c.splice_checked.new.output
    (rw (called, ← of_classes, ← of_table) c.splice_checked.ensures.answer) (rw (called, ← of_classes, ← of_table) c.splice_checked.ensures.contents)).0

pub returns-clause-contents : goal.returns-clause-contents
returns-clause-contents c = let args = c.args in
    let table = args.brought.now.table.now in
    let list = (brought_of args.brought.now).list in
    let called = call_converted args.records table list args.bytes.now (length args.output.now) (sym c.if-not-check_table.ensures) (sym c.if-not-accepts_list.ensures) in
    let of_classes = ap (λ (l : Language). l.classes) c.language.ensures in
    let of_table = ap (λ (l : Language). l.table) c.language.ensures in
    (is_done args.records table list args.bytes.now args.output.now (λ i. omega (arith, c.type_inv.bytes i)) c.splice_checked.result c.splice_checked.new.output
    (rw (called, ← of_classes, ← of_table) c.splice_checked.ensures.answer) (rw (called, ← of_classes, ← of_table) c.splice_checked.ensures.contents)).1.0

pub returns-clause-demand : goal.returns-clause-demand
returns-clause-demand c = let args = c.args in
    let table = args.brought.now.table.now in
    let list = (brought_of args.brought.now).list in
    let called = call_converted args.records table list args.bytes.now (length args.output.now) (sym c.if-not-check_table.ensures) (sym c.if-not-accepts_list.ensures) in
    let of_classes = ap (λ (l : Language). l.classes) c.language.ensures in
    let of_table = ap (λ (l : Language). l.table) c.language.ensures in
    (is_done args.records table list args.bytes.now args.output.now (λ i. omega (arith, c.type_inv.bytes i)) c.splice_checked.result c.splice_checked.new.output
    (rw (called, ← of_classes, ← of_table) c.splice_checked.ensures.answer) (rw (called, ← of_classes, ← of_table) c.splice_checked.ensures.contents)).1.1
