-- `search::given::further` meets its contract. Assumes nothing.
use native.Mathlib.Omega.{arith}
use mathlib.Core.Path.{refl, ap, ◌∙◌}
use Rattle.term.proofs.Lists.{rest_length}
use Rattle.parts.specs.Packed.{packed}
use Rattle.search.proofs.Begins.{level_from, run_begun}
use Rattle.search.proofs.Levels.{level_run}
use Rattle.search.proofs.Givens.{further_none, further_spent, further_level}
use Rattle.search.proofs.given.further.Goals as goal

pub returns-then-place-n : goal.returns-then-place-n
returns-then-place-n c = further_none _ _ _ _ _ _ _ c.if-place-n.true

pub returns-then-left-eq0 : goal.returns-then-left-eq0
returns-then-left-eq0 c = further_spent _ _ _ _ _ _ _ (omega (arith, c.if-place-n.false)) c.if-left-eq0.true

pub offset_bounds-parts-v : goal.offset_bounds-parts-v
offset_bounds-parts-v c = omega (arith, c.requires.ready.0.variable)

pub bounds-parts-v : goal.bounds-parts-v
bounds-parts-v c = omega (arith, c.requires.ready.0.variable)

pub level-requires-clause-begun_at : goal.level-requires-clause-begun_at
level-requires-clause-begun_at c = let few = c.if-place-n.false in
    let end = rest_length c.args.node c.args.«record».now in
    let is_part = c.packed.ensures ∙ ap packed c.bound.ensures in
    rw (
      c.next.ensures,
      c.remaining.ensures,
      c.queue.ensures,
      c.nodes.ensures,
      c.passed-next.ensures,
    ) (run_begun _ _ _ _ c.requires.holding c.requires.ready.0.at c.requires.ready.0.variable c.requires.ready.1 (omega (arith, few)) (omega (arith, c.struct_known-1.given))
    (omega (arith, c.requires.n_le_elements.1, c.requires.n_le_elements.2, c.extent.ensures.within, end)) is_part)

pub level-requires-clause-short : goal.level-requires-clause-short
level-requires-clause-short c = c.requires.short

pub returns : goal.returns
returns c = let few = c.if-place-n.false in
    let end = rest_length c.args.node c.args.«record».now in
    let is_part = c.packed.ensures ∙ ap packed c.bound.ensures in
    further_level _ _ _ (omega (arith, few)) c.if-left-eq0.false c.requires.ready.0.at c.requires.n_le_elements.1 c.extent.result c.extent.ensures.is
    (level_run _ _ _ _ _ refl c.requires.holding c.requires.ready.0.at c.requires.ready.0.variable c.requires.ready.1 (omega (arith, few)) (omega (arith, c.struct_known-1.given))
    (omega (arith, c.requires.n_le_elements.1, c.requires.n_le_elements.2, c.extent.ensures.within, end)) is_part _ c.passed-next.ensures
    (level_from (rw (c.queue.ensures, c.nodes.ensures)) (rw (c.next.ensures, c.remaining.ensures)) c.level.ensures))
