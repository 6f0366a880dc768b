-- `term::extents` meets its contract. The invariant: what is sought is the place reached, and how far the trees that are still to come go from there.
-- The measure is what is left of the bytes. Assumes nothing.
use Rattle.term.proofs.Spans.{extent_start, extent_over, extent_all, extent_fixed, extent_list}
use native.Mathlib.Omega.{arith}
use Prim.Native.Nat.{◌+◌}
use mathlib.Core.Path.{sym, ◌∙◌}
use Rattle.term.proofs.extents.Goals as goal

pub loop-at-init : goal.loop-at-init
loop-at-init c = (omega arith, omega arith, extent_start _ _ _ _ c.from-end.ensures)

pub returns-then-s-end-clause-is : goal.returns-then-s-end-clause-is
returns-then-s-end-clause-is c = let turn = c.loop-at in
    sym (turn.invariant.2 ∙ extent_all _ _ turn.at turn.end (omega arith) (omega arith))

pub returns-then-s-end-clause-within : goal.returns-then-s-end-clause-within
returns-then-s-end-clause-within c = let turn = c.loop-at in
    omega arith

pub bounds-s-at : goal.bounds-s-at
bounds-s-at c = omega arith

pub overflow_add-end : goal.overflow_add-end
overflow_add-end c = omega arith

pub overflow_add-at : goal.overflow_add-at
overflow_add-at c = omega arith

pub bounds-s-at-then-entry : goal.bounds-s-at-then-entry
bounds-s-at-then-entry c = omega arith

pub overflow_add-end-then-entry : goal.overflow_add-end-then-entry
overflow_add-end-then-entry c = omega (arith, c.type_inv.s (c.loop-at.at + 1))

pub overflow_add-at-then-entry : goal.overflow_add-at-then-entry
overflow_add-at-then-entry c = omega arith

pub loop-at-smaller-then-entry : goal.loop-at-smaller-then-entry
loop-at-smaller-then-entry c = omega arith

pub loop-at-preserved-then-entry : goal.loop-at-preserved-then-entry
loop-at-preserved-then-entry c = let turn = c.loop-at in
    (omega arith, omega arith, turn.invariant.2 ∙ extent_list _ _ turn.at turn.end c.from.result (omega arith) (omega arith) (sym c.entry_of-entry.ensures ∙ c.if-entry.true) c.from.ensures)

pub overflow_add-end-else-entry : goal.overflow_add-end-else-entry
overflow_add-end-else-entry c = omega arith

pub overflow_add-at-else-entry : goal.overflow_add-at-else-entry
overflow_add-at-else-entry c = omega arith

pub loop-at-smaller : goal.loop-at-smaller
loop-at-smaller c = omega arith

pub loop-at-preserved : goal.loop-at-preserved
loop-at-preserved c = let turn = c.loop-at in
    (omega arith, omega arith, turn.invariant.2 ∙ extent_fixed _ _ turn.at turn.end c.from-end-else-entry.result (omega arith) (omega arith) (c.from-end-else-entry.ensures ∙ c.entry_of-entry.ensures) (λ e. c.if-entry.false (sym c.from-end-else-entry.ensures ∙ e)))

pub returns-clause-is : goal.returns-clause-is
returns-clause-is c = let turn = c.loop-at in
    sym (turn.invariant.2 ∙ extent_over _ _ turn.at turn.end (omega arith))

pub returns-clause-within : goal.returns-clause-within
returns-clause-within c = let turn = c.loop-at in
    omega arith
