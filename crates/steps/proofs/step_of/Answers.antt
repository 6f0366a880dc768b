-- `steps::step_of` meets its contract. Assumes nothing.
use native.Mathlib.Omega.{arith}
use mathlib.Core.Path.{sym, ap, ◌∙◌}
use lib.ListN.{drop, length-drop}
use borrow.Author.Tests.{eq-eqb, ne_eqb}
use Rattle.term.proofs.Lists.{first_left, none_left}
use Rattle.term.specs.Code.{decode_of}
use Rattle.parts.specs.Packed.{part_of}
use Rattle.steps.specs.Turn.{step_of, code_step}
use Rattle.steps.proofs.Turns.{plain_code, step_at_holds}
use borrow.Enum.Refused.{opened}
use Rattle.steps.proofs.step_of.Goals as goal

pub returns-then-children-eq0 : goal.returns-then-children-eq0
unfolding step_of
returns-then-children-eq0 c = rw (eq-eqb _ _ c.if-children-eq0.true) c.over.ensures

pub returns-then-pattern-at : goal.returns-then-pattern-at
unfolding step_of
returns-then-pattern-at c = let args = c.args in
    simp (ne_eqb _ _ c.if-children-eq0.false, none_left args.pattern.now args.at c.if-pattern-at.true)

pub returns-in-Run : goal.returns-in-Run
unfolding code_step
returns-in-Run c = let args = c.args in
    step_at_holds _ _ _ _ (drop args.at args.pattern.now) (drop args.node args.«record».now) (part_of args.assigned args.parts.now) _ _ _
    c.decode-code.result c.run_name.result c.if-children-eq0.false (λ z. omega (arith, length-drop args.at args.pattern.now))
    (c.decode-code.ensures ∙ ap decode_of (sym (first_left args.pattern.now args.at)))
    (rw (c.in-Run.is, ← c.part_of.ensures, ← c.rest_of.ensures) c.run_name.ensures)

pub returns-in-Symbol : goal.returns-in-Symbol
returns-in-Symbol c = let args = c.args in
    step_at_holds _ _ _ _ (drop args.at args.pattern.now) (drop args.node args.«record».now) (part_of args.assigned args.parts.now) _ _ _
    c.decode-code.result c.plain.result c.if-children-eq0.false (λ z. omega (arith, length-drop args.at args.pattern.now))
    (c.decode-code.ensures ∙ ap decode_of (sym (first_left args.pattern.now args.at)))
    (plain_code _ c.decode-code.result _ _ _ _ _ _ _ _ c.plain.result (opened c.in-Symbol.in-Symbol-own.keys2) c.plain.ensures)

pub returns-in-Refused : goal.returns-in-Refused
unfolding code_step
returns-in-Refused c = let args = c.args in
    step_at_holds _ _ _ _ (drop args.at args.pattern.now) (drop args.node args.«record».now) (part_of args.assigned args.parts.now) _ _ _
    c.decode-code.result _ c.if-children-eq0.false (λ z. omega (arith, length-drop args.at args.pattern.now))
    (c.decode-code.ensures ∙ ap decode_of (sym (first_left args.pattern.now args.at)))
    (rw c.in-Refused.is)
