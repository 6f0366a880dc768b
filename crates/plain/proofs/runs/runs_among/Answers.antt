-- `plain::runs::runs_among` meets its contract. The invariant: the run names are those found so far and those among the children left.
use native.Mathlib.Omega.{arith}
use mathlib.Core.Path.{sym, ◌∙◌, ap}
use Rattle.term.proofs.Lists.{rest_length}
use Rattle.term.specs.declared.Code.{Code}
use Rattle.plain.specs.Bytes.{also_run, is_leaf}
use Rattle.plain.proofs.Among.{among_first, among_short, among_end, among_next}
use Rattle.plain.proofs.Holding.{among_leaf}
use Rattle.plain.proofs.runs.runs_among.Goals as goal

pub loop-i-init : goal.loop-i-init
loop-i-init c = among_first _ _ _

pub returns-then-s-at-clause-is : goal.returns-then-s-at-clause-is
returns-then-s-at-clause-is c = (among_short _ _ _ c.loop-i.invariant c.if-s-at.true).0

pub returns-then-s-at-clause-few : goal.returns-then-s-at-clause-few
returns-then-s-at-clause-few c = (among_short _ _ _ c.loop-i.invariant c.if-s-at.true).1

pub loop-i-preserved-then-is_leaf : goal.loop-i-preserved-then-is_leaf
loop-i-preserved-then-is_leaf c = among_leaf c.loop-i.invariant c.loop-i-test.true c.if-s-at.false
    (ap (is_leaf c.args.table.now) (sym c.decode-code.ensures) ∙ sym c.is_leaf.ensures ∙ c.if-is_leaf.true)

pub also_run-found-requires : goal.also_run-found-requires
also_run-found-requires c = omega (arith, c.loop-i.invariant.few, c.loop-i-test.true, c.ranges.n)

pub loop-i-preserved : goal.loop-i-preserved
loop-i-preserved c =
    among_next _ _ _ c.loop-i.invariant c.loop-i-test.true c.if-s-at.false _ c.tree_bytes-at.ensures.is
    (omega (arith, c.loop-i.invariant.within, c.tree_bytes-at.ensures.within, rest_length c.loop-i.at c.args.s.now)) _
    (c.also_run-found.ensures ∙ ap (λ (x : Code). also_run x c.loop-i.found) c.decode-code.ensures)

pub returns-clause-is : goal.returns-clause-is
returns-clause-is c = (among_end _ _ _ c.loop-i.invariant c.loop-i-test.false).0

pub returns-clause-few : goal.returns-clause-few
returns-clause-few c = (among_end _ _ _ c.loop-i.invariant c.loop-i-test.false).1
