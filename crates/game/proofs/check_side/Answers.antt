-- `game::check_side` meets its contract.
use mathlib.Core.Path.{sym, ◌∙◌}
use Rattle.std.proofs.lemmas.Result.{err_from_is_err_and}
use Rattle.reader.specs.Lent.{brought_of}
use Rattle.game.proofs.Templates.{rules_fail, sheet_fails, numbers_fail, templates_tell}
use Rattle.game.proofs.check_side.Goals as goal

pub returns-in_err-rules : goal.returns-in_err-rules
returns-in_err-rules c = let a = c.args in
    let p = err_from_is_err_and c.from_residual.result c.from_residual.ensures.1 in
    rw (p.1, p.2) (rules_fail (brought_of a.brought.now) a.own.now.rules.now a.own.now.templates.now _ _ (sym c.check_contents.ensures ∙ c.in_err-rules.was))

pub returns-in_err-templates : goal.returns-in_err-templates
returns-in_err-templates c = let a = c.args in
    let p = err_from_is_err_and c.from_residual-in_err-templates.result c.from_residual-in_err-templates.ensures.1 in
    rw (p.1, p.2) (sheet_fails (brought_of a.brought.now) a.own.now.rules.now a.own.now.templates.now _ (sym c.check_contents.ensures ∙ c.in_ok-rules.was) _ _ (sym c.check_among.ensures ∙ c.in_err-templates.was))

pub returns-then-templates-rules : goal.returns-then-templates-rules
returns-then-templates-rules c = let a = c.args in
    rw c.at.ensures (numbers_fail (brought_of a.brought.now) a.own.now.rules.now a.own.now.templates.now _ (sym c.check_contents.ensures ∙ c.in_ok-rules.was) _ (sym c.check_among.ensures ∙ c.in_ok-templates.was)
    c.if-templates-rules.true)

pub returns : goal.returns
returns c = let a = c.args in
    templates_tell (brought_of a.brought.now) a.own.now.rules.now a.own.now.templates.now _ (sym c.check_contents.ensures ∙ c.in_ok-rules.was) _ (sym c.check_among.ensures ∙ c.in_ok-templates.was)
    c.if-templates-rules.false _ _ c.language.ensures c.check_templates.ensures
