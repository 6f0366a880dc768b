-- `plain::match_plain_brought` meets its contract.
use native.Mathlib.Omega.{arith}
use mathlib.Core.Path.{refl, sym, ap, ◌∙◌}
use lib.ListN.{length}
use borrow.Author.Rules.{rules}
use Rattle.std.proofs.lemmas.Result.{err_from_is_err_and}
use Rattle.term.specs.Language.{Language}
use Rattle.term.specs.Lent.{language_by}
use Rattle.reader.specs.Lent.{brought_of}
use Rattle.reader.specs.Reading.{shown, read_record}
use Rattle.plain.proofs.Checks.{rule_short}
use Rattle.plain.proofs.Demanded.{first_called, plain_called, record_called, passes_called, ended_first}
use Rattle.plain.proofs.match_plain_brought.Goals as goal

pub returns-in_err-check_rule : goal.returns-in_err-check_rule
returns-in_err-check_rule c = let a = c.args in
    let p = err_from_is_err_and c.from_residual.result c.from_residual.ensures.1 in
    rw (p.1, p.2) (first_called (brought_of a.brought.now) a.pattern.now a.«record».now a.answer.now
    (λ i. omega (arith, c.type_inv.pattern i)) (λ i. omega (arith, c.type_inv.«record» i)) c.check_rule.ensures c.in_err-check_rule.was)

pub returns-then-not-is_plain : goal.returns-then-not-is_plain
returns-then-not-is_plain c = let a = c.args in
    plain_called (brought_of a.brought.now) a.pattern.now a.«record».now a.answer.now
    (λ i. omega (arith, c.type_inv.pattern i)) (λ i. omega (arith, c.type_inv.«record» i))
    (sym c.in_ok-check_rule.was ∙ c.check_rule.ensures) (sym c.is_plain.ensures ∙ c.if-not-is_plain.true)

pub returns-in_err-read_record_in : goal.returns-in_err-read_record_in
returns-in_err-read_record_in c = let a = c.args in
    let p = err_from_is_err_and c.from_residual-in_err-read_record_in.result c.from_residual-in_err-read_record_in.ensures.1 in
    rw (p.1, p.2) (record_called (brought_of a.brought.now) a.pattern.now a.«record».now a.answer.now
    (λ i. omega (arith, c.type_inv.pattern i)) (λ i. omega (arith, c.type_inv.«record» i))
    (sym c.in_ok-check_rule.was ∙ c.check_rule.ensures) (sym c.is_plain.ensures ∙ c.if-not-is_plain.false) _
    (ap (λ (l : Language). shown (read_record l a.«record».now)) (sym c.language-language.ensures) ∙ sym c.read_record_in.ensures ∙ c.in_err-read_record_in.was))

pub returns-then-not-root_may_hold : goal.returns-then-not-root_may_hold
returns-then-not-root_may_hold c = let a = c.args in
    passes_called (brought_of a.brought.now) a.pattern.now a.«record».now a.answer.now
    (λ i. omega (arith, c.type_inv.pattern i)) (λ i. omega (arith, c.type_inv.«record» i))
    (sym c.in_ok-check_rule.was ∙ c.check_rule.ensures) (sym c.is_plain.ensures ∙ c.if-not-is_plain.false) _
    (ap (λ (l : Language). shown (read_record l a.«record».now)) (sym c.language-language.ensures) ∙ sym c.read_record_in.ensures ∙ c.in_ok-read_record_in.was)
    (language_by c.language-language.result) c.language-language.ensures _ _ (ended_first _ _ _ _ _ _ c.root_may_hold.ensures c.if-not-root_may_hold.true) refl

pub match_checked-requires : goal.match_checked-requires
match_checked-requires c = let a = c.args in
    rule_short (brought_of a.brought.now) a.pattern.now a.«record».now (length a.answer.now)
    (λ i. omega (arith, c.type_inv.pattern i)) (sym c.in_ok-check_rule.was ∙ c.check_rule.ensures)

pub shape_of-answer : goal.shape_of-answer
shape_of-answer c = search rules

pub returns : goal.returns
returns c = let a = c.args in
    passes_called (brought_of a.brought.now) a.pattern.now a.«record».now a.answer.now
    (λ i. omega (arith, c.type_inv.pattern i)) (λ i. omega (arith, c.type_inv.«record» i))
    (sym c.in_ok-check_rule.was ∙ c.check_rule.ensures) (sym c.is_plain.ensures ∙ c.if-not-is_plain.false) _
    (ap (λ (l : Language). shown (read_record l a.«record».now)) (sym c.language-language.ensures) ∙ sym c.read_record_in.ensures ∙ c.in_ok-read_record_in.was)
    (language_by c.language-language.result) c.language-language.ensures _ _
    (c.match_checked.ensures.is, c.match_checked.ensures.buffer) (shape_of-answer c)
