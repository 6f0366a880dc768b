-- `rules::match_rules_brought` meets its contract.
use native.Mathlib.Omega.{arith}
use Rattle.std.proofs.lemmas.Result.{err_from_is_err_and}
use Rattle.term.specs.Lent.{language_by}
use Rattle.reader.specs.Lent.{brought_of}
use Rattle.rules.proofs.Demanded.{fails_called, passes_called}
use borrow.Author.Rules.{rules}
use Rattle.rules.proofs.match_rules_brought.Goals as goal

pub returns-in_err-check_input : goal.returns-in_err-check_input
returns-in_err-check_input c = let a = c.args in
    let p = err_from_is_err_and c.from_residual.result c.from_residual.ensures.1 in
    rw (p.1, p.2) (fails_called (brought_of a.brought.now) a.sheet.now a.«record».now a.answer.now a.allowance
    (λ i. omega (arith, c.type_inv.sheet i))
    (λ i. omega (arith, c.type_inv.«record» i))
    c.requires c.check_input.ensures c.in_err-check_input.was)

pub shape_of-answer : goal.shape_of-answer
shape_of-answer c = search rules

pub returns : goal.returns
returns c = let a = c.args in
    passes_called (brought_of a.brought.now) a.sheet.now a.«record».now a.answer.now a.allowance
    (λ i. omega (arith, c.type_inv.sheet i))
    (λ i. omega (arith, c.type_inv.«record» i))
    c.requires c.check_input.ensures c.in_ok-check_input.was (language_by c.language-language.result) c.language-language.ensures _ _
    (c.match_rules_checked.ensures.is, c.match_rules_checked.ensures.buffer) (shape_of-answer c)
