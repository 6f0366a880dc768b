-- `game::check_templates` meets its contract.
use native.Mathlib.Omega.{arith}
use mathlib.Core.Path.{sym, ◌∙◌}
use Rattle.term.specs.Lent.{language_by}
use Rattle.game.proofs.Templates.{check_starts, check_ends, template_refused, template_loose, template_passes}
use Rattle.game.proofs.check_templates.Goals as goal

pub loop-i-init : goal.loop-i-init
loop-i-init c = let a = c.args in check_starts (language_by a.language.now) a.rules.now a.templates.now _ (c.from-n.ensures ∙ c.count.ensures)

pub returns-in-Err : goal.returns-in-Err
returns-in-Err c = let a = c.args in
    rw c.at.ensures (template_refused (language_by a.language.now) a.rules.now a.templates.now (λ i. omega (arith, c.type_inv.rules i)) (λ i. omega (arith, c.type_inv.templates i)) _ _
    c.loop-i.invariant c.loop-i-test.true _ _ c.part_at-rule.ensures.bytes c.part_at-template.ensures.bytes _ (sym c.read_pattern_in.ensures ∙ c.in-Err.is))

pub returns-then-is_loose : goal.returns-then-is_loose
returns-then-is_loose c = let a = c.args in
    rw c.at-then-is_loose.ensures (template_loose (language_by a.language.now) a.rules.now a.templates.now (λ i. omega (arith, c.type_inv.rules i)) (λ i. omega (arith, c.type_inv.templates i)) _ _
    c.loop-i.invariant c.loop-i-test.true _ _ c.part_at-rule.ensures.bytes c.part_at-template.ensures.bytes _ (sym c.read_pattern_in.ensures ∙ c.in_default.is)
    _ c.is_loose.ensures c.if-is_loose.true)

pub loop-i-preserved : goal.loop-i-preserved
loop-i-preserved c = let a = c.args in
    template_passes (language_by a.language.now) a.rules.now a.templates.now (λ i. omega (arith, c.type_inv.rules i)) (λ i. omega (arith, c.type_inv.templates i)) _ _
    c.loop-i.invariant c.loop-i-test.true _ _ c.part_at-rule.ensures.bytes c.part_at-template.ensures.bytes _ (sym c.read_pattern_in.ensures ∙ c.in_default.is)
    _ c.is_loose.ensures c.if-is_loose.false

pub returns : goal.returns
returns c = let a = c.args in
    check_ends (language_by a.language.now) a.rules.now a.templates.now (λ i. omega (arith, c.type_inv.rules i)) (λ i. omega (arith, c.type_inv.templates i)) _ _ c.loop-i.invariant c.loop-i-test.false
