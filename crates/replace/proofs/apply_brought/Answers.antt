-- `replace::apply_brought` meets its contract.
use native.Mathlib.Omega.{arith}
use Rattle.std.proofs.lemmas.Result.{err_from_is_err_and}
use Rattle.reader.specs.Lent.{brought_of}
use Rattle.replace.proofs.Calls.{apply_fails, apply_passes}
use Rattle.term.proofs.Pairs.{together}
use Rattle.replace.proofs.apply_brought.Goals as goal

pub returns-in_err-check_input : goal.returns-in_err-check_input
returns-in_err-check_input c = let a = c.args in
    let p = err_from_is_err_and c.from_residual.result c.from_residual.ensures.1 in
    rw (p.1, p.2) (together (apply_fails (brought_of a.brought.now) a.rule.now a.template.now a.«record».now a.allowance
    (λ i. omega (arith, c.type_inv.rule i)) (λ i. omega (arith, c.type_inv.template i)) (λ i. omega (arith, c.type_inv.«record» i))
    a.output.now c.check_input.ensures c.in_err-check_input.was) (λ first rest. record { is = first; contents = rest.0; demand = rest.1 }))

pub returns : goal.returns
returns c = let a = c.args in
    together (apply_passes (brought_of a.brought.now) a.rule.now a.template.now a.«record».now a.allowance
    (λ i. omega (arith, c.type_inv.rule i)) (λ i. omega (arith, c.type_inv.template i)) (λ i. omega (arith, c.type_inv.«record» i))
    a.output.now c.check_input.ensures c.in_ok-check_input.was _ c.language.ensures _ _ c.apply_checked.ensures) (λ first rest. record { is = first; contents = rest.0; demand = rest.1 })
