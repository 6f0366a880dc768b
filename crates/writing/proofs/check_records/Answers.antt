-- `writing::check_records` meets its contract.
use mathlib.Core.Path.{sym, ◌∙◌}
use Rattle.reader.specs.Lent.{brought_of}
use Rattle.writing.proofs.Writings.{joined_table, joined_class, joined_lengths, joined_long, joined_each}
use Rattle.writing.proofs.Lengths.{lengths_true}
use Rattle.writing.proofs.check_records.Goals as goal

pub returns-then-not-check_table : goal.returns-then-not-check_table
returns-then-not-check_table c =
    rw c.at.ensures (sym (joined_table (brought_of c.args.brought.now) c.args.records.now c.args.lengths.now (sym c.check_table.ensures ∙ c.if-not-check_table.true)))

pub returns-then-not-accepts_list : goal.returns-then-not-accepts_list
returns-then-not-accepts_list c =
    rw c.at-then-not-accepts_list.ensures (sym (joined_class (brought_of c.args.brought.now) c.args.records.now c.args.lengths.now
    (sym c.check_table.ensures ∙ c.if-not-check_table.false) (sym c.accepts_list.ensures ∙ c.if-not-accepts_list.true)))

pub returns-then-not-lengths_accepted : goal.returns-then-not-lengths_accepted
returns-then-not-lengths_accepted c =
    rw c.at-then-not-lengths_accepted.ensures (sym (joined_lengths (brought_of c.args.brought.now) c.args.records.now c.args.lengths.now
    (sym c.check_table.ensures ∙ c.if-not-check_table.false) (sym c.accepts_list.ensures ∙ c.if-not-accepts_list.false)
    (sym c.lengths_accepted.ensures ∙ c.if-not-lengths_accepted.true)))

pub returns-then-not-fits_sheet : goal.returns-then-not-fits_sheet
returns-then-not-fits_sheet c =
    rw c.at-then-not-fits_sheet.ensures (sym (joined_long (brought_of c.args.brought.now) c.args.records.now c.args.lengths.now
    (sym c.check_table.ensures ∙ c.if-not-check_table.false) (sym c.accepts_list.ensures ∙ c.if-not-accepts_list.false)
    (sym c.lengths_accepted.ensures ∙ c.if-not-lengths_accepted.false) (sym c.fits_sheet.ensures ∙ c.if-not-fits_sheet.true)))

pub check_each-requires : goal.check_each-requires
check_each-requires c = (lengths_true c.args.lengths.now _ (sym c.lengths_accepted.ensures ∙ c.if-not-lengths_accepted.false)).1

pub returns : goal.returns
returns c =
    (rw c.language.ensures at c.check_each.ensures)
    ∙ sym (joined_each (brought_of c.args.brought.now) c.args.records.now c.args.lengths.now
    (sym c.check_table.ensures ∙ c.if-not-check_table.false) (sym c.accepts_list.ensures ∙ c.if-not-accepts_list.false)
    (sym c.lengths_accepted.ensures ∙ c.if-not-lengths_accepted.false) (sym c.fits_sheet.ensures ∙ c.if-not-fits_sheet.false))
