-- `replace::apply_checked` meets its contract.
use mathlib.Core.Path.{ap, ◌∙◌}
use Rattle.std.specs.Prelude.{Ok}
use Rattle.std.proofs.lemmas.Result.{err_from_is_err_and}
use Rattle.term.specs.Lent.{language_by}
use Rattle.replace.proofs.Calls.{apply_full, apply_bound, apply_unbound, apply_refused}
use Rattle.replace.proofs.apply_checked.Goals as goal

pub returns-in_err-looked : goal.returns-in_err-looked
returns-in_err-looked c = let a = c.args in
    let p = err_from_is_err_and c.from_residual.result c.from_residual.ensures.1 in
    rw (p.1, p.2) (apply_refused (language_by a.language.now) a.rule.now a.template.now a.«record».now a.allowance a.output.now c.look_into.result c.look_into.new.answer c.look_into.ensures.is _ c.in_err-looked.was)

pub returns-in_default : goal.returns-in_default
returns-in_default c = let a = c.args in
    apply_unbound (language_by a.language.now) a.rule.now a.template.now a.«record».now a.allowance a.output.now c.look_into.result c.look_into.new.answer c.look_into.ensures.is
    c.in_ok-looked.looked c.in_ok-looked.was c.in_default.not-Bound

pub returns-then-output-length : goal.returns-then-output-length
returns-then-output-length c = let a = c.args in
    apply_full (language_by a.language.now) a.rule.now a.template.now a.«record».now a.allowance a.output.now c.look_into.result c.look_into.new.answer c.look_into.ensures.is
    _ _ (c.in_ok-looked.was ∙ ap Ok c.in-Bound.is) c.if-output-length.true

pub returns : goal.returns
returns c = let a = c.args in
    apply_bound (language_by a.language.now) a.rule.now a.template.now a.«record».now a.allowance a.output.now c.look_into.result c.look_into.new.answer c.look_into.ensures.is
    _ _ (c.in_ok-looked.was ∙ ap Ok c.in-Bound.is) c.fill_whole.new.out c.if-output-length.false c.fill_whole.ensures.stores
