-- `matcher::check_rule` meets its contract.
use mathlib.Core.Path.{sym, ap, ◌∙◌}
use Rattle.std.proofs.lemmas.Result.{err_from_is_err_and}
use Rattle.term.specs.Language.{Language}
use Rattle.reader.specs.Reading.{shown, read_pattern}
use Rattle.call.proofs.Checks.{narrow_fails, table_fails, class_fails}
use Rattle.matcher.specs.Call.{check_of}
use Rattle.matcher.proofs.Checks.{pattern_fails, pattern_passes}
use Rattle.matcher.proofs.check_rule.Goals as goal

pub returns-then-width-lt-ANSWER_WIDTH : goal.returns-then-width-lt-ANSWER_WIDTH
returns-then-width-lt-ANSWER_WIDTH c = narrow_fails _ _ _ check_of c.if-width-lt-ANSWER_WIDTH.true

pub returns-then-not-check_table : goal.returns-then-not-check_table
returns-then-not-check_table c = table_fails _ _ _ check_of c.if-width-lt-ANSWER_WIDTH.false (sym c.check_table.ensures ∙ c.if-not-check_table.true)

pub returns-then-not-accepts_list : goal.returns-then-not-accepts_list
returns-then-not-accepts_list c = class_fails _ _ _ check_of c.if-width-lt-ANSWER_WIDTH.false (sym c.check_table.ensures ∙ c.if-not-check_table.false)
    (sym c.accepts_list.ensures ∙ c.if-not-accepts_list.true)

pub returns-in_err-read_pattern_in : goal.returns-in_err-read_pattern_in
returns-in_err-read_pattern_in c = let p = err_from_is_err_and c.from_residual.result c.from_residual.ensures.1 in
    rw (p.1, p.2) (pattern_fails _ _ _ c.if-width-lt-ANSWER_WIDTH.false (sym c.check_table.ensures ∙ c.if-not-check_table.false)
    (sym c.accepts_list.ensures ∙ c.if-not-accepts_list.false) _
    (ap (λ (l : Language). shown (read_pattern l c.args.pattern.now)) (sym c.language.ensures) ∙ sym c.read_pattern_in.ensures ∙ c.in_err-read_pattern_in.was))

pub returns : goal.returns
returns c = pattern_passes _ _ _ c.if-width-lt-ANSWER_WIDTH.false (sym c.check_table.ensures ∙ c.if-not-check_table.false)
    (sym c.accepts_list.ensures ∙ c.if-not-accepts_list.false) _
    (ap (λ (l : Language). shown (read_pattern l c.args.pattern.now)) (sym c.language.ensures) ∙ sym c.read_pattern_in.ensures ∙ c.in_ok-read_pattern_in.was)
