-- `replace::look_into` meets its contract.
use mathlib.Core.Path.{ap, ◌∙◌}
use Rattle.std.specs.Prelude.{Ok}
use Rattle.std.proofs.lemmas.Result.{err_from_is_err_and}
use Rattle.term.specs.Lent.{language_by}
use Rattle.replace.proofs.Calls.{into_long, into_bound, into_none, into_spent, into_refused}
use Rattle.term.proofs.Pairs.{together}
use Rattle.replace.proofs.look_into.Goals as goal

pub returns-then-template-gt-LONGEST_PATTERN : goal.returns-then-template-gt-LONGEST_PATTERN
returns-then-template-gt-LONGEST_PATTERN c = let a = c.args in
    together (into_long (language_by a.language.now) a.rule.now a.template.now a.«record».now a.allowance _ c.if-template-gt-LONGEST_PATTERN.true) (λ first rest. record { is = first; short = rest })

pub returns-in_err-answered : goal.returns-in_err-answered
returns-in_err-answered c = let a = c.args in
    let p = err_from_is_err_and c.from_residual.result c.from_residual.ensures.1 in
    rw (p.1, p.2) (together (into_refused (language_by a.language.now) a.rule.now a.template.now a.«record».now a.allowance a.answer.now c.match_checked.new.answer c.requires c.match_checked.auto.answer c.match_checked.result (c.match_checked.ensures.is, c.match_checked.ensures.buffer) _ c.in_err-answered.was) (λ first rest. record { is = first; short = rest }))

pub returns-in-Bound : goal.returns-in-Bound
returns-in-Bound c = let a = c.args in
    together (into_bound (language_by a.language.now) a.rule.now a.template.now a.«record».now a.allowance a.answer.now c.match_checked.new.answer c.requires c.match_checked.auto.answer c.match_checked.result (c.match_checked.ensures.is, c.match_checked.ensures.buffer) _ (c.in_ok-answered.was ∙ ap Ok c.in-Bound.is) c.if-template-gt-LONGEST_PATTERN.false _ c.measured.ensures) (λ first rest. record { is = first; short = rest })

pub returns-in-None : goal.returns-in-None
returns-in-None c = let a = c.args in
    together (into_none (language_by a.language.now) a.rule.now a.template.now a.«record».now a.allowance a.answer.now c.match_checked.new.answer c.requires c.match_checked.auto.answer c.match_checked.result (c.match_checked.ensures.is, c.match_checked.ensures.buffer) _ (c.in_ok-answered.was ∙ ap Ok c.in-None.is)) (λ first rest. record { is = first; short = rest })

pub returns-in-Spent : goal.returns-in-Spent
returns-in-Spent c = let a = c.args in
    together (into_spent (language_by a.language.now) a.rule.now a.template.now a.«record».now a.allowance a.answer.now c.match_checked.new.answer c.requires c.match_checked.auto.answer c.match_checked.result (c.match_checked.ensures.is, c.match_checked.ensures.buffer) _ (c.in_ok-answered.was ∙ ap Ok c.in-Spent.is)) (λ first rest. record { is = first; short = rest })
