-- `station::check_record` meets its contract.
use mathlib.Core.Path.{sym, ap, ◌∙◌}
use Rattle.std.proofs.lemmas.Result.{err_from_is_err_and}
use Rattle.term.specs.Language.{Language}
use Rattle.reader.specs.Reading.{shown, read_record}
use Rattle.station.proofs.Changes.{record_table, record_class, record_refused, record_done}
use Rattle.station.proofs.check_record.Goals as goal

pub returns-then-not-check_table : goal.returns-then-not-check_table
returns-then-not-check_table c = record_table _ _ (sym c.check_table.ensures ∙ c.if-not-check_table.true)

pub returns-then-not-accepts_list : goal.returns-then-not-accepts_list
returns-then-not-accepts_list c = record_class _ _ (sym c.check_table.ensures ∙ c.if-not-check_table.false)
    (sym c.accepts_list.ensures ∙ c.if-not-accepts_list.true)

pub returns-in_err-read_record_in : goal.returns-in_err-read_record_in
returns-in_err-read_record_in c = let p = err_from_is_err_and c.from_residual.result c.from_residual.ensures.1 in
    rw (p.1, p.2) (record_refused _ _ (sym c.check_table.ensures ∙ c.if-not-check_table.false)
    (sym c.accepts_list.ensures ∙ c.if-not-accepts_list.false) _
    (ap (λ (l : Language). shown (read_record l c.args.bytes.now)) (sym c.language.ensures) ∙ sym c.read_record_in.ensures ∙ c.in_err-read_record_in.was))

pub returns : goal.returns
returns c = record_done _ _ (sym c.check_table.ensures ∙ c.if-not-check_table.false)
    (sym c.accepts_list.ensures ∙ c.if-not-accepts_list.false) _
    (ap (λ (l : Language). shown (read_record l c.args.bytes.now)) (sym c.language.ensures) ∙ sym c.read_record_in.ensures ∙ c.in_ok-read_record_in.was)
