-- `matcher::check_input` meets its contract.
use mathlib.Core.Path.{sym, ap, ◌∙◌}
use Rattle.std.proofs.lemmas.Result.{err_from_is_err_and}
use Rattle.term.specs.Language.{Language}
use Rattle.reader.specs.Reading.{shown, read_record}
use Rattle.matcher.proofs.Checks.{first_fails, record_fails, all_pass}
use Rattle.matcher.proofs.check_input.Goals as goal

pub returns-in_err-check_rule : goal.returns-in_err-check_rule
returns-in_err-check_rule c = let p = err_from_is_err_and c.from_residual.result c.from_residual.ensures.1 in
    rw (p.1, p.2) (first_fails _ _ _ _ _ (sym c.in_err-check_rule.was ∙ c.check_rule.ensures))

pub returns-in_err-read_record_in : goal.returns-in_err-read_record_in
returns-in_err-read_record_in c = let p = err_from_is_err_and c.from_residual-in_err-read_record_in.result c.from_residual-in_err-read_record_in.ensures.1 in
    rw (p.1, p.2) (record_fails _ _ _ _ (sym c.in_ok-check_rule.was ∙ c.check_rule.ensures) _
    (ap (λ (l : Language). shown (read_record l c.args.«record».now)) (sym c.language.ensures) ∙ sym c.read_record_in.ensures ∙ c.in_err-read_record_in.was))

pub returns : goal.returns
returns c = all_pass _ _ _ _ (sym c.in_ok-check_rule.was ∙ c.check_rule.ensures) _
    (ap (λ (l : Language). shown (read_record l c.args.«record».now)) (sym c.language.ensures) ∙ sym c.read_record_in.ensures ∙ c.in_ok-read_record_in.was)
