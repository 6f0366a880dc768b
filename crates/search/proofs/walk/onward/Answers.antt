-- `search::walk::onward` meets its contract. The invariant: the level from the start is the one from the place reached. The measure is what is left of
-- the pattern. Assumes nothing.
use native.Mathlib.Omega.{arith}
use mathlib.Core.Path.{ap}
use Rattle.term.proofs.Lists.{rest_length}
use Rattle.search.specs.declared.place.Place.{Place}
use Rattle.search.proofs.Onwards.{on_first, on_holding, on_within, on_further, on_ready, on_ends, on_spent, on_takes}
use Rattle.search.proofs.walk.onward.Goals as goal

pub loop-v-init : goal.loop-v-init
loop-v-init c = on_first _ _ _ _ _

pub walk-w-requires-clause-holding : goal.walk-w-requires-clause-holding
walk-w-requires-clause-holding c = on_holding _ _ _ _ _ c.loop-v.invariant c.requires.holding

pub walk-w-requires-clause-short : goal.walk-w-requires-clause-short
walk-w-requires-clause-short c = c.requires.short

pub returns-in_default : goal.returns-in_default
returns-in_default c = on_ends _ _ _ _ _ c.loop-v.invariant c.walk-w.ensures c.requires.holding

pub returns-then-halts : goal.returns-then-halts
returns-then-halts c = on_ends _ _ _ _ _ c.loop-v.invariant c.walk-w.ensures c.requires.holding

pub overflow_cast-n : goal.overflow_cast-n
overflow_cast-n c = omega (arith, c.struct_known-1.given)

pub returns-then-w-n : goal.returns-then-w-n
returns-then-w-n c = (on_spent _ _ _ _ _ c.loop-v.invariant c.walk-w.ensures c.if-halts.false _ c.in-RunName.is (omega (arith, c.if-end-ne1.false)) c.requires.holding (omega (arith, c.if-w-n.true)))

pub slice_bounds-extents-count : goal.slice_bounds-extents-count
slice_bounds-extents-count c = on_within _ _ _ _ _ c.loop-v.invariant c.walk-w.ensures c.requires.holding

pub slice_bounds-extents-start : goal.slice_bounds-extents-start
slice_bounds-extents-start c = on_within _ _ _ _ _ c.loop-v.invariant c.walk-w.ensures c.requires.holding

pub slice_bounds-extents-end : goal.slice_bounds-extents-end
slice_bounds-extents-end c = omega arith

pub overflow_sub-left : goal.overflow_sub-left
overflow_sub-left c = omega (arith, c.if-w-n.false)

pub overflow_cast-left : goal.overflow_cast-left
overflow_cast-left c = omega (arith, c.struct_known-in-loop-v-1.given)

pub overflow_sub-left-in-loop-v : goal.overflow_sub-left-in-loop-v
overflow_sub-left-in-loop-v c = omega (arith, c.if-w-n.false)

pub bind-assigned-requires : goal.bind-assigned-requires
bind-assigned-requires c = (on_ready _ _ _ _ _ c.loop-v.invariant c.walk-w.ensures _ c.in-RunName.is c.requires.holding).variable

pub passed-place-requires : goal.passed-place-requires
passed-place-requires c = let inv = c.loop-v.invariant in
    let ready = on_ready _ _ _ _ _ inv c.walk-w.ensures _ c.in-RunName.is c.requires.holding in
    (ready.children, omega arith, omega (arith, ready.at, c.requires.short.of_pattern), omega (arith, c.extents-size.ensures.within, rest_length c.walk-w.result.place.node c.args.«record».now, on_within _ _ _ _ _ inv c.walk-w.ensures c.requires.holding, c.requires.short.of_record))

pub loop-v-smaller : goal.loop-v-smaller
loop-v-smaller c = let inv = c.loop-v.invariant in
    let ready = on_ready _ _ _ _ _ inv c.walk-w.ensures _ c.in-RunName.is c.requires.holding in
    omega (arith, ready.at, on_further _ _ _ _ _ inv c.walk-w.ensures c.requires.holding, ap (λ (x : Place). x.at) c.passed-place.ensures)

pub loop-v-preserved : goal.loop-v-preserved
loop-v-preserved c = let inv = c.loop-v.invariant in
    rw (c.passed-place.ensures, c.bind-assigned.ensures.0, c.bind-assigned.ensures.1)
    (on_takes _ _ _ _ _ inv c.walk-w.ensures c.if-halts.false _ c.in-RunName.is (omega (arith, c.if-end-ne1.false)) (omega (arith, c.if-w-n.false)) (omega (arith, c.struct_known-1.given)) c.requires.short.of_record _ c.extents-size.ensures.is
    (omega (arith, c.extents-size.ensures.within, rest_length c.walk-w.result.place.node c.args.«record».now, on_within _ _ _ _ _ inv c.walk-w.ensures c.requires.holding)) c.requires.holding)
