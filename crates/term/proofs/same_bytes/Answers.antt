-- `term::same_bytes` meets its contract. The invariant: the parts are the same exactly if what is left of them is.
use native.Mathlib.Omega.{arith}
use mathlib.Core.Path.{refl, sym, ◌∙◌}
use mathlib.Core.List.{[]}
use mathlib.Core.Bool.{true}
use borrow.Author.Tests.{eq-eqb, ne_eqb}
use Rattle.term.proofs.SameParts.{same_byte_step, same_end}
use Rattle.term.proofs.same_bytes.Goals as goal

pub loop-at-init : goal.loop-at-init
loop-at-init c = refl

pub bounds-x-at : goal.bounds-x-at
bounds-x-at c = omega arith

pub bounds-y-at : goal.bounds-y-at
bounds-y-at c = omega arith

pub returns-then-x-at : goal.returns-then-x-at
returns-then-x-at c = let args = c.args in
    let turn = c.loop-at in
    sym (turn.invariant ∙ same_byte_step args.x.now args.y.now turn.at (omega arith) (omega arith) ∙ simp (ne_eqb _ _ c.if-x-at.true))

pub loop-at-preserved : goal.loop-at-preserved
loop-at-preserved c = let args = c.args in
    let turn = c.loop-at in
    turn.invariant ∙ same_byte_step args.x.now args.y.now turn.at (omega arith) (omega arith) ∙ simp (eq-eqb _ _ c.if-x-at.false)

pub returns : goal.returns
returns c = let args = c.args in
    let turn = c.loop-at in
    sym (turn.invariant ∙ same_end [] [] true args.x.now args.y.now turn.at (omega arith) (omega arith))
