-- `reader::is_shallow` meets its contract. The invariant: some frames with enough nesting left are still to come. The measure is what is left of the bytes.
use Rattle.reader.proofs.Shallow.{passing_starts, passing_ends, pass_leaf, pass_fixed, pass_list}
use Prim.Native.Nat.{◌+◌}
use native.Mathlib.Omega.{arith}
use mathlib.Core.Path.{refl}
use Rattle.reader.proofs.is_shallow.Goals as goal

pub loop-at-init : goal.loop-at-init
loop-at-init c = (omega arith, omega arith, passing_starts _ _)

pub bounds-s-at : goal.bounds-s-at
bounds-s-at c = omega arith

pub bounds-table-entry_at : goal.bounds-table-entry_at
bounds-table-entry_at c = omega arith

pub overflow_add-at : goal.overflow_add-at
overflow_add-at c = omega arith

pub loop-at-smaller-then-entry-eq0 : goal.loop-at-smaller-then-entry-eq0
loop-at-smaller-then-entry-eq0 c = omega arith

pub loop-at-preserved-then-entry-eq0 : goal.loop-at-preserved-then-entry-eq0
loop-at-preserved-then-entry-eq0 c = let turn = c.loop-at in (
  turn.invariant.0,
  omega arith,
  pass_leaf _ _ turn.invariant.2 c.loop-at-test.true _ _ (omega arith) c.wide-entry_at.ensures (omega arith) refl c.if-entry-eq0.true,
)

pub overflow_add-parents : goal.overflow_add-parents
overflow_add-parents c = omega (arith, c.loop-at.invariant.2.few)

pub overflow_add-at-then-entry-lt-LIST : goal.overflow_add-at-then-entry-lt-LIST
overflow_add-at-then-entry-lt-LIST c = omega arith

pub overflow_add-end : goal.overflow_add-end
overflow_add-end c = omega arith

pub loop-at-smaller-then-entry-lt-LIST : goal.loop-at-smaller-then-entry-lt-LIST
loop-at-smaller-then-entry-lt-LIST c = omega arith

pub loop-at-preserved-then-entry-lt-LIST : goal.loop-at-preserved-then-entry-lt-LIST
loop-at-preserved-then-entry-lt-LIST c = let turn = c.loop-at in (
  turn.invariant.0,
  omega arith,
  rw c.wide-end.ensures
      (pass_fixed _ _ turn.invariant.2 c.loop-at-test.true _ _ (omega arith) c.wide-entry_at.ensures (omega arith) refl
      (omega (arith, turn.invariant.2.few)) c.if-entry-lt-LIST.true),
)

pub overflow_add-end-in-loop-at : goal.overflow_add-end-in-loop-at
overflow_add-end-in-loop-at c = omega arith

pub overflow_add-at-in-loop-at : goal.overflow_add-at-in-loop-at
overflow_add-at-in-loop-at c = omega arith

pub bounds-s-at-in-loop-at : goal.bounds-s-at-in-loop-at
bounds-s-at-in-loop-at c = omega arith

pub overflow_add-end-in-loop-at-2 : goal.overflow_add-end-in-loop-at-2
overflow_add-end-in-loop-at-2 c = omega (arith, c.type_inv.s (c.loop-at.at + 1))

pub overflow_add-at-in-loop-at-2 : goal.overflow_add-at-in-loop-at-2
overflow_add-at-in-loop-at-2 c = omega arith

pub loop-at-smaller : goal.loop-at-smaller
loop-at-smaller c = omega arith

pub loop-at-preserved : goal.loop-at-preserved
loop-at-preserved c = let turn = c.loop-at in (
  turn.invariant.0,
  omega arith,
  pass_list _ _ turn.invariant.2 c.loop-at-test.true _ _ (omega arith) c.wide-entry_at.ensures (omega arith) refl _
      (omega (arith, turn.invariant.2.few)) (omega (arith, c.if-entry-lt-LIST.false, c.type_inv.table c.wide-entry_at.result))
      (omega arith) c.wide.ensures,
)

pub returns : goal.returns
returns c = passing_ends _ _ c.loop-at.invariant.2 (omega arith) c.loop-at.invariant.0
