-- `rules::check_input` meets its contract.
use mathlib.Core.Path.{sym, ap, ◌∙◌}
use Rattle.std.proofs.lemmas.Result.{err_from_is_err_and}
use Rattle.term.specs.Language.{Language}
use Rattle.reader.specs.Lent.{brought_of}
use Rattle.reader.specs.Reading.{shown, read_record}
use Rattle.call.proofs.Checks.{narrow_fails}
use Rattle.rules.specs.Call.{check_of}
use Rattle.rules.proofs.Checks.{sheet_fails, record_fails, all_pass}
use Rattle.rules.proofs.check_input.Goals as goal

pub returns-then-width-lt-ANSWER_WIDTH : goal.returns-then-width-lt-ANSWER_WIDTH
returns-then-width-lt-ANSWER_WIDTH c = rw c.at.ensures (narrow_fails _ _ _ check_of c.if-width-lt-ANSWER_WIDTH.true)

pub returns-in_err-rules : goal.returns-in_err-rules
returns-in_err-rules c = let a = c.args in
    let p = err_from_is_err_and c.from_residual.result c.from_residual.ensures.1 in
    rw (p.1, p.2) (sheet_fails (brought_of a.brought.now) a.sheet.now a.«record».now c.requires a.width c.if-width-lt-ANSWER_WIDTH.false _
    (sym c.check_contents.ensures ∙ c.in_err-rules.was))

pub returns-in_err-read_record_in : goal.returns-in_err-read_record_in
returns-in_err-read_record_in c = let a = c.args in
    let p = err_from_is_err_and c.from_residual-in_err-read_record_in.result c.from_residual-in_err-read_record_in.ensures.1 in
    rw (p.1, p.2) (record_fails (brought_of a.brought.now) a.sheet.now a.«record».now c.requires a.width c.if-width-lt-ANSWER_WIDTH.false _
    (sym c.check_contents.ensures ∙ c.in_ok-rules.was) _
    (ap (λ (l : Language). shown (read_record l a.«record».now)) (sym c.language.ensures) ∙ sym c.read_record_in.ensures ∙ c.in_err-read_record_in.was))

pub returns : goal.returns
returns c = let a = c.args in
    all_pass (brought_of a.brought.now) a.sheet.now a.«record».now c.requires a.width c.if-width-lt-ANSWER_WIDTH.false _
    (sym c.check_contents.ensures ∙ c.in_ok-rules.was) _
    (ap (λ (l : Language). shown (read_record l a.«record».now)) (sym c.language.ensures) ∙ sym c.read_record_in.ensures ∙ c.in_ok-read_record_in.was)
