-- `sheet::check_contents` meets its contract.
use mathlib.Core.Path.{sym, ap, ◌∙◌}
use Rattle.std.proofs.lemmas.Result.{err_from_is_err_and}
use Rattle.term.specs.Language.{Language, language}
use Rattle.reader.specs.Lent.{brought_of}
use Rattle.sheet.proofs.Contents.{among_sheet, contents_table, contents_class, contents_refused, contents_many, contents_each}
use Rattle.sheet.proofs.check_contents.Goals as goal

pub returns-then-not-check_table : goal.returns-then-not-check_table
returns-then-not-check_table c = let b = brought_of c.args.brought.now in
    rw c.at.ensures (sym (contents_table c.args.records c.args.only b.table b.list c.args.sheet.now
    (sym c.check_table.ensures ∙ c.if-not-check_table.true)))

pub returns-then-not-accepts_list : goal.returns-then-not-accepts_list
returns-then-not-accepts_list c = let b = brought_of c.args.brought.now in
    rw c.at-then-not-accepts_list.ensures (sym (contents_class c.args.records c.args.only b.table b.list c.args.sheet.now
    (sym c.check_table.ensures ∙ c.if-not-check_table.false) (sym c.accepts_list.ensures ∙ c.if-not-accepts_list.true)))

pub returns-in_err-n : goal.returns-in_err-n
returns-in_err-n c = let b = brought_of c.args.brought.now in
    let p = err_from_is_err_and c.from_residual.result c.from_residual.ensures.1 in
    rw (p.1, p.2) (sym (contents_refused c.args.records c.args.only b.table b.list c.args.sheet.now
    (sym c.check_table.ensures ∙ c.if-not-check_table.false) (sym c.accepts_list.ensures ∙ c.if-not-accepts_list.false) _
    (sym c.check_among.ensures ∙ c.in_err-n.was)))

pub returns-then-not-few : goal.returns-then-not-few
returns-then-not-few c = let b = brought_of c.args.brought.now in
    rw c.at-then-not-few.ensures (sym (contents_many c.args.records c.args.only b.table b.list c.args.sheet.now
    (sym c.check_table.ensures ∙ c.if-not-check_table.false) (sym c.accepts_list.ensures ∙ c.if-not-accepts_list.false) _
    (sym c.check_among.ensures ∙ c.in_ok-n.was) (sym c.few.ensures ∙ c.if-not-few.true)))

pub check_entries-requires : goal.check_entries-requires
check_entries-requires c = let args = c.args in
    (among_sheet args.only args.sheet.now _ (sym c.check_among.ensures ∙ c.in_ok-n.was)).0

pub returns : goal.returns
returns c = let b = brought_of c.args.brought.now in
    let each = contents_each c.args.records c.args.only b.table b.list c.args.sheet.now
    (sym c.check_table.ensures ∙ c.if-not-check_table.false) (sym c.accepts_list.ensures ∙ c.if-not-accepts_list.false) _
    (sym c.check_among.ensures ∙ c.in_ok-n.was) (sym c.few.ensures ∙ c.if-not-few.false) in
    let own = ap (λ (l : Language). language c.edition_of.result l.table l.classes) c.language.ensures in
    c.check_entries.ensures ∙ rw (own, c.edition_of.ensures) (sym each)
