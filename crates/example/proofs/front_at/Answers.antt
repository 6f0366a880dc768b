-- `example::front_at` meets its contract.
use mathlib.Core.Path.{sym, ◌∙◌}
use borrow.Author.Tests.{not-true, not-false}
use native.Mathlib.Omega.{arith}
use Rattle.example.proofs.Fronts.{fronted_start, fronted_dead, fronted_on}
use mathlib.Core.Bool.{not}
use mathlib.Core.Path.{ap}
use Rattle.example.proofs.front_at.Goals as goal

pub loop-at-init : goal.loop-at-init
loop-at-init c = let a = c.args in fronted_start a.table.now a.classes.now a.pattern.now a.s.now a.allowance

pub returns-then-not-same_symbol-clause-front_at : goal.returns-then-not-same_symbol-clause-front_at
returns-then-not-same_symbol-clause-front_at c = let a = c.args in let n = c.loop-at in fronted_dead a.table.now a.classes.now a.pattern.now a.s.now a.allowance n.i n.at n.left n.invariant c.if-left-eq0.false (omega arith) (omega arith)
    (sym c.same_symbol.ensures ∙ not-true c.same_symbol.result (ap not c.if-not-same_symbol.true))

pub loop-at-preserved : goal.loop-at-preserved
loop-at-preserved c = let a = c.args in let n = c.loop-at in
    fronted_on a.table.now a.classes.now a.pattern.now a.s.now a.allowance n.i n.at n.left n.invariant
    c.if-left-eq0.false (omega arith) (omega arith)
    (sym c.same_symbol.ensures ∙ not-false c.same_symbol.result (ap not c.if-not-same_symbol.false)) _ c.in_ok-step.ensures
