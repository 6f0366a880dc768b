-- `search::skip::lengthen` meets its contract. Assumes nothing.
use native.Mathlib.Omega.{arith}
use mathlib.Core.Path.{ap}
use Rattle.term.proofs.Lists.{rest_length}
use Rattle.search.specs.declared.place.Place.{Place}
use Rattle.search.proofs.Skips.{skips_fair, lengthens}
use Rattle.search.proofs.skip.lengthen.Goals as goal

pub slice_bounds-extent-count : goal.slice_bounds-extent-count
slice_bounds-extent-count c = c.requires.within

pub slice_bounds-extent-start : goal.slice_bounds-extent-start
slice_bounds-extent-start c = c.requires.within

pub slice_bounds-extent-end : goal.slice_bounds-extent-end
slice_bounds-extent-end c = omega arith

pub overflow_add-node : goal.overflow_add-node
overflow_add-node c = omega (arith, c.extent.ensures.within, rest_length c.args.place.node c.args.«record».now, c.requires.within, c.requires.short)

pub behind-one-requires : goal.behind-one-requires
behind-one-requires c = omega (arith, c.requires.element)

pub skip_where-k-requires : goal.skip_where-k-requires
skip_where-k-requires c = (omega (arith, ap (λ (x : Place). x.node) c.behind-one.ensures, c.extent.ensures.within, rest_length c.args.place.node c.args.«record».now, c.requires.within), c.requires.short)

pub offset_bounds-parts-v : goal.offset_bounds-parts-v
offset_bounds-parts-v c = omega (arith, c.requires.variable)

pub bounds-parts-v : goal.bounds-parts-v
bounds-parts-v c = omega (arith, c.requires.variable)

pub overflow_add-k : goal.overflow_add-k
overflow_add-k c = let fair = skips_fair c.skip_where-k.ensures in omega (arith, fair.few, ap (λ (x : Place). x.elements) c.behind-one.ensures, c.requires.element, c.well_formed)

pub overflow_sub-k : goal.overflow_sub-k
overflow_sub-k c = let fair = skips_fair c.skip_where-k.ensures in omega (arith, fair.further, ap (λ (x : Place). x.node) c.behind-one.ensures)

pub longer-requires : goal.longer-requires
longer-requires c = let fair = skips_fair c.skip_where-k.ensures in (c.requires.room, omega (arith, fair.within (omega (arith, ap (λ (x : Place). x.node) c.behind-one.ensures, c.extent.ensures.within, rest_length c.args.place.node c.args.«record».now, c.requires.within)), c.requires.short))

pub offset_bounds-parts-v-2 : goal.offset_bounds-parts-v-2
offset_bounds-parts-v-2 c = omega (arith, c.requires.variable)

pub bounds-parts-v-2 : goal.bounds-parts-v-2
bounds-parts-v-2 c = omega (arith, c.requires.variable)

pub behind-requires : goal.behind-requires
behind-requires c = (skips_fair c.skip_where-k.ensures).few

pub overflow_sub-result : goal.overflow_sub-result
overflow_sub-result c = omega (arith, (skips_fair c.skip_where-k.ensures).paid)

pub returns : goal.returns
returns c = lengthens c.extent.ensures.is c.behind-one.ensures c.skip_where-k.ensures c.behind.ensures c.longer.ensures
