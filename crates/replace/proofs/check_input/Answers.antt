-- `replace::check_input` meets its contract.
use native.Mathlib.Omega.{arith}
use mathlib.Core.Path.{sym, ap, ◌∙◌}
use Rattle.std.proofs.lemmas.Result.{err_from_is_err_and}
use Rattle.term.specs.Language.{Language}
use Rattle.reader.specs.Lent.{brought_of}
use Rattle.reader.specs.Reading.{shown, read_pattern, read_record}
use Rattle.replace.proofs.Checks.{rule_fails, template_fails, loose_fails, record_fails, all_pass}
use Rattle.replace.proofs.check_input.Goals as goal

pub returns-in_err-check_rule : goal.returns-in_err-check_rule
returns-in_err-check_rule c = let a = c.args in
    let p = err_from_is_err_and c.from_residual.result c.from_residual.ensures.1 in
    rw (p.1, p.2) (rule_fails (brought_of a.brought.now) a.rule.now a.template.now a.«record».now _ (sym c.in_err-check_rule.was ∙ c.check_rule.ensures))

pub returns-in_err-read_pattern_in : goal.returns-in_err-read_pattern_in
returns-in_err-read_pattern_in c = let a = c.args in
    let p = err_from_is_err_and c.from_residual-in_err-read_pattern_in.result c.from_residual-in_err-read_pattern_in.ensures.1 in
    rw (p.1, p.2) (template_fails (brought_of a.brought.now) a.rule.now a.template.now a.«record».now (sym c.in_ok-check_rule.was ∙ c.check_rule.ensures) _
    (ap (λ (l : Language). shown (read_pattern l a.template.now)) (sym c.language-language.ensures) ∙ sym c.read_pattern_in.ensures ∙ c.in_err-read_pattern_in.was))

pub returns-then-is_loose : goal.returns-then-is_loose
returns-then-is_loose c = let a = c.args in
    loose_fails (brought_of a.brought.now) a.rule.now a.template.now a.«record».now (sym c.in_ok-check_rule.was ∙ c.check_rule.ensures) _
    (ap (λ (l : Language). shown (read_pattern l a.template.now)) (sym c.language-language.ensures) ∙ sym c.read_pattern_in.ensures ∙ c.in_ok-read_pattern_in.was)
    (λ i. omega (arith, c.type_inv.rule i)) (λ i. omega (arith, c.type_inv.template i)) _ c.is_loose.ensures c.if-is_loose.true

pub returns-in_err-read_record_in : goal.returns-in_err-read_record_in
returns-in_err-read_record_in c = let a = c.args in
    let p = err_from_is_err_and c.from_residual-in_err-read_record_in.result c.from_residual-in_err-read_record_in.ensures.1 in
    rw (p.1, p.2) (record_fails (brought_of a.brought.now) a.rule.now a.template.now a.«record».now (sym c.in_ok-check_rule.was ∙ c.check_rule.ensures) _
    (ap (λ (l : Language). shown (read_pattern l a.template.now)) (sym c.language-language.ensures) ∙ sym c.read_pattern_in.ensures ∙ c.in_ok-read_pattern_in.was)
    (λ i. omega (arith, c.type_inv.rule i)) (λ i. omega (arith, c.type_inv.template i)) _ c.is_loose.ensures c.if-is_loose.false _
    (ap (λ (l : Language). shown (read_record l a.«record».now)) (sym c.language-language.ensures) ∙ sym c.read_record_in.ensures ∙ c.in_err-read_record_in.was))

pub returns : goal.returns
returns c = let a = c.args in
    all_pass (brought_of a.brought.now) a.rule.now a.template.now a.«record».now (sym c.in_ok-check_rule.was ∙ c.check_rule.ensures) _
    (ap (λ (l : Language). shown (read_pattern l a.template.now)) (sym c.language-language.ensures) ∙ sym c.read_pattern_in.ensures ∙ c.in_ok-read_pattern_in.was)
    (λ i. omega (arith, c.type_inv.rule i)) (λ i. omega (arith, c.type_inv.template i)) _ c.is_loose.ensures c.if-is_loose.false _
    (ap (λ (l : Language). shown (read_record l a.«record».now)) (sym c.language-language.ensures) ∙ sym c.read_record_in.ensures ∙ c.in_ok-read_record_in.was)
