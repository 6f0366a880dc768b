-- `example::look_at` meets its contract.
use lib.ListN.{get_or}
use mathlib.Core.Path.{sym, ◌∙◌, subst}
use native.Mathlib.Omega.{arith}
use Rattle.example.specs.Inner.{NeedlessBy}
use Rattle.example.proofs.Walks.{walk_start, stops_over, stops_code, stops_needless, stops_stuck, walks_at}
use Rattle.example.proofs.look_at.Goals as goal

pub loop-at-init : goal.loop-at-init
loop-at-init c = let a = c.args in walk_start a.table.now a.classes.now a.s.now

pub returns-then-table-i-clause-looks_at : goal.returns-then-table-i-clause-looks_at
returns-then-table-i-clause-looks_at c = let a = c.args in let n = c.loop-at in
    stops_code a.table.now a.classes.now a.lower.now a.s.now n.seen n.at n.trees n.invariant (omega arith) (omega (arith, c.if-table-i.true, c.from-i.ensures))

pub returns-then-trees-eq0-clause-looks_at : goal.returns-then-trees-eq0-clause-looks_at
returns-then-trees-eq0-clause-looks_at c = let a = c.args in let n = c.loop-at in
    stops_over a.table.now a.classes.now a.lower.now a.s.now n.seen n.at n.trees n.invariant (omega arith) c.if-trees-eq0.true

pub returns-then-is_needless-clause-looks_at : goal.returns-then-is_needless-clause-looks_at
returns-then-is_needless-clause-looks_at c = let a = c.args in let n = c.loop-at in stops_needless a.table.now a.classes.now a.lower.now a.s.now n.seen n.at n.trees n.invariant (omega arith) c.if-trees-eq0.false
    (subst (NeedlessBy a.classes.now a.lower.now n.seen (get_or a.s.now n.at 0)) c.if-is_needless.true c.is_needless.ensures)

pub returns-in_default-clause-looks_at : goal.returns-in_default-clause-looks_at
returns-in_default-clause-looks_at c = let a = c.args in let n = c.loop-at in stops_stuck a.table.now a.classes.now a.lower.now a.s.now n.seen n.at n.trees n.invariant (omega arith) c.if-trees-eq0.false
    (subst (NeedlessBy a.classes.now a.lower.now n.seen (get_or a.s.now n.at 0)) c.if-is_needless.false c.is_needless.ensures)
    (omega (arith, c.type_inv.s n.at))
    (omega (arith, c.if-table-i.false, c.from-i.ensures))
    (sym c.step_over.ensures ∙ c.in_default.is)

pub loop-at-smaller : goal.loop-at-smaller
loop-at-smaller c = let a = c.args in let n = c.loop-at in
    omega (
      arith,
      (walks_at a.table.now a.classes.now a.lower.now a.s.now n.seen n.at n.trees n.invariant (omega arith) c.if-trees-eq0.false
          (subst (NeedlessBy a.classes.now a.lower.now n.seen (get_or a.s.now n.at 0)) c.if-is_needless.false c.is_needless.ensures)
          (omega (arith, c.type_inv.s n.at))
          (omega (arith, c.if-table-i.false, c.from-i.ensures))
          _ _ _ c.from-i.ensures (sym c.step_over.ensures ∙ c.in-Some.is)).1,
    )

pub loop-at-preserved : goal.loop-at-preserved
loop-at-preserved c = let a = c.args in let n = c.loop-at in
    (walks_at a.table.now a.classes.now a.lower.now a.s.now n.seen n.at n.trees n.invariant (omega arith) c.if-trees-eq0.false
    (subst (NeedlessBy a.classes.now a.lower.now n.seen (get_or a.s.now n.at 0)) c.if-is_needless.false c.is_needless.ensures)
    (omega (arith, c.type_inv.s n.at))
    (omega (arith, c.if-table-i.false, c.from-i.ensures))
    _ _ _ c.from-i.ensures (sym c.step_over.ensures ∙ c.in-Some.is)).0
