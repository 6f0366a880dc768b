-- `replace::terms_nest` meets its contract.
use Rattle.replace.proofs.Forests.{extent_some_at, part_length}
use Rattle.replace.proofs.Parts.{short_tells, deep_tells, nesting_next, nesting_stops, nesting_last}
use mathlib.Core.Path.{refl}
use native.Mathlib.Omega.{arith}
use Rattle.replace.proofs.+terms_nest.Goals as goal

pub returns-then-s-from : goal.returns-then-s-from
returns-then-s-from t c = short_tells c.args.table.now c.args.s.now c.args.left (omega (arith, c.if-s-from.true, c.from.ensures))

pub returns-then-left-eq0 : goal.returns-then-left-eq0
returns-then-left-eq0 t c = deep_tells c.args.table.now c.args.s.now c.args.left (λ z. omega (arith, c.if-s-from.false, c.from.ensures)) c.if-left-eq0.true

pub returns-then-not-terms_nest : goal.returns-then-not-terms_nest
returns-then-not-terms_nest t c = nesting_stops c.args.table.now c.args.s.now c.args.left c.loop-at.at c.extent-n.result _ _ _ (omega (arith, c.if-left-eq0.false)) c.loop-at-test.true c.extent-n.ensures.is refl c.children_of-inside.ensures.is c.terms_nest.ensures c.loop-at.invariant c.if-not-terms_nest.true

pub loop-at-smaller : goal.loop-at-smaller
loop-at-smaller t c = omega (arith, c.loop-at-test.true, c.extent-n.ensures.within, part_length c.args.s.now c.loop-at.at, extent_some_at c.args.table.now c.args.s.now c.loop-at.at _ c.loop-at-test.true c.extent-n.ensures.is)

pub loop-at-preserved : goal.loop-at-preserved
loop-at-preserved t c = nesting_next c.args.table.now c.args.s.now c.args.left c.loop-at.at c.extent-n.result _ _ _ (omega (arith, c.if-left-eq0.false)) c.loop-at-test.true c.extent-n.ensures.is refl c.children_of-inside.ensures.is c.terms_nest.ensures c.loop-at.invariant c.if-not-terms_nest.false (omega (arith, c.loop-at-test.true, c.extent-n.ensures.within, part_length c.args.s.now c.loop-at.at))

pub returns : goal.returns
returns t c = nesting_last c.args.table.now c.args.s.now c.args.left c.loop-at.at c.loop-at-test.false c.loop-at.invariant
