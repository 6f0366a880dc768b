-- `term::same` meets its contract. The invariant: the parts are the same exactly if what is left of them is.
-- The measure is what is left of the bytes.
use native.Mathlib.Omega.{arith}
use mathlib.Core.Path.{refl, sym, ◌∙◌}
use mathlib.Core.Bool.{false}
use Rattle.term.proofs.SameParts.{same_next, same_differs, same_lengths, same_end, same_none}
use Rattle.term.proofs.Demands.{compared}
use Rattle.term.proofs.same.Goals as goal

pub returns-then-x-y-clause-is : goal.returns-then-x-y-clause-is
returns-then-x-y-clause-is c = (compared _ _ _ _ _ (sym (same_lengths _ _ false _ _ c.if-x-y.true))).0

pub returns-then-x-y-clause-demand : goal.returns-then-x-y-clause-demand
returns-then-x-y-clause-demand c = (compared _ _ _ _ _ (sym (same_lengths _ _ false _ _ c.if-x-y.true))).1

pub same_bytes-requires : goal.same_bytes-requires
same_bytes-requires c = omega arith

pub returns-then-classes-eq0-clause-is : goal.returns-then-classes-eq0-clause-is
returns-then-classes-eq0-clause-is c = let args = c.args in
    (compared _ _ _ _ _
    (c.same_bytes.ensures ∙ sym (same_none args.table.now args.classes.now args.x.now args.y.now (omega arith)))).0

pub returns-then-classes-eq0-clause-demand : goal.returns-then-classes-eq0-clause-demand
returns-then-classes-eq0-clause-demand c = let args = c.args in
    (compared _ _ _ _ _
    (c.same_bytes.ensures ∙ sym (same_none args.table.now args.classes.now args.x.now args.y.now (omega arith)))).1

pub loop-i-init : goal.loop-i-init
loop-i-init c = refl

pub bounds-x-i : goal.bounds-x-i
bounds-x-i c = omega arith

pub bounds-y-i : goal.bounds-y-i
bounds-y-i c = omega arith

pub returns-then-not-same_byte-clause-is : goal.returns-then-not-same_byte-clause-is
returns-then-not-same_byte-clause-is c = let args = c.args in
    let turn = c.loop-i in
    (compared _ _ _ _ _
    (sym (turn.invariant ∙ same_differs args.table.now args.classes.now turn.counting args.x.now args.y.now turn.i (omega arith) (omega arith)
    (sym c.same_byte.ensures ∙ c.if-not-same_byte.true)))).0

pub returns-then-not-same_byte-clause-demand : goal.returns-then-not-same_byte-clause-demand
returns-then-not-same_byte-clause-demand c = let args = c.args in
    let turn = c.loop-i in
    (compared _ _ _ _ _
    (sym (turn.invariant ∙ same_differs args.table.now args.classes.now turn.counting args.x.now args.y.now turn.i (omega arith) (omega arith)
    (sym c.same_byte.ensures ∙ c.if-not-same_byte.true)))).1

pub bounds-x-i-in-loop-i : goal.bounds-x-i-in-loop-i
bounds-x-i-in-loop-i c = omega arith

pub loop-i-preserved : goal.loop-i-preserved
loop-i-preserved c = let args = c.args in
    let turn = c.loop-i in turn.invariant ∙ same_next args.table.now args.classes.now turn.counting args.x.now args.y.now turn.i (omega arith)
    (omega arith) (sym c.same_byte.ensures ∙ c.if-not-same_byte.false) _ c.count_next-counting.ensures

pub returns-clause-is : goal.returns-clause-is
returns-clause-is c = let args = c.args in
    let turn = c.loop-i in
    (compared _ _ _ _ _
    (sym (turn.invariant ∙ same_end args.table.now args.classes.now turn.counting args.x.now args.y.now turn.i (omega arith) (omega arith)))).0

pub returns-clause-demand : goal.returns-clause-demand
returns-clause-demand c = let args = c.args in
    let turn = c.loop-i in
    (compared _ _ _ _ _
    (sym (turn.invariant ∙ same_end args.table.now args.classes.now turn.counting args.x.now args.y.now turn.i (omega arith) (omega arith)))).1
