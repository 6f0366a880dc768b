-- `stored::put_tree` meets its contract. The invariant: the trees of the levels are owed. What falls is twice the bytes left, and the depth.
use native.Mathlib.Omega.{arith}
use mathlib.Core.Path.{refl, ap, ◌∙◌}
use lib.ListN.{length-set}
use Rattle.reader.specs.Brought.{language_of}
use Rattle.stored.proofs.Frames.{levels_pushed, levels_popped, levels_length, depth_within}
use Rattle.stored.proofs.Puts.{writing_starts, length_fits, all_put, put_around, never_refused, node_ends, place_free, own_fits, put_leaf, put_level}
use Rattle.stored.proofs.put_tree.Goals as goal

pub loop-stand-init : goal.loop-stand-init
loop-stand-init c = (refl, writing_starts _ _ _ c.requires refl)

pub put_length-requires : goal.put_length-requires
put_length-requires c = rw c.in_list.ensures (length_fits c.loop-stand.invariant.1)

pub returns-then-depth-eq0 : goal.returns-then-depth-eq0
returns-then-depth-eq0 c = all_put c.loop-stand.invariant.1 c.if-count-eq0.true _ (rw c.in_list.ensures at c.put_length.ensures) (rw c.if-depth-eq0.true)

pub offset_bounds-around-depth : goal.offset_bounds-around-depth
offset_bounds-around-depth c = omega (arith, depth_within c.loop-stand.invariant.1.standing, levels_length c.loop-stand.depth c.loop-stand.around)

pub bounds-around-depth : goal.bounds-around-depth
bounds-around-depth c = omega (arith, c.if-depth-eq0.false, depth_within c.loop-stand.invariant.1.standing, levels_length c.loop-stand.depth c.loop-stand.around)

pub loop-stand-preserved-then-count-eq0 : goal.loop-stand-preserved-then-count-eq0
loop-stand-preserved-then-count-eq0 c = (
  c.loop-stand.invariant.0,
  put_around c.loop-stand.invariant.1 c.if-count-eq0.true _ (rw c.in_list.ensures at c.put_length.ensures)
      (levels_popped c.loop-stand.depth c.loop-stand.around c.if-depth-eq0.false)
      (c.put_length.auto.output ∙ c.loop-stand.invariant.1.kept),
)

pub returns-in_default : goal.returns-in_default
returns-in_default c = let l = c.language-language.ensures ∙ ap language_of c.simply.ensures in
    let node = rw l at c.node_at.ensures in
    absurd (never_refused c.loop-stand.invariant.1 c.if-count-eq0.false node c.in_default.is)

pub put_own-end-requires : goal.put_own-end-requires
put_own-end-requires c = let l = c.language-language.ensures ∙ ap language_of c.simply.ensures in
    let node = rw l at c.node_at.ensures in
    rw c.in_list-list.ensures (own_fits c.loop-stand.invariant.1 c.if-count-eq0.false node c.in-Ok.is)

pub overflow_add-at : goal.overflow_add-at
overflow_add-at c = let l = c.language-language.ensures ∙ ap language_of c.simply.ensures in
    let node = rw l at c.node_at.ensures in
    omega (arith, node_ends c.loop-stand.invariant.1 c.if-count-eq0.false node c.in-Ok.is, c.well_formed)

pub offset_bounds-around-depth-then-list-node : goal.offset_bounds-around-depth-then-list-node
offset_bounds-around-depth-then-list-node c = omega (arith, depth_within c.loop-stand.invariant.1.standing, levels_length c.loop-stand.depth c.loop-stand.around)

pub bounds-around-depth-then-list-node : goal.bounds-around-depth-then-list-node
bounds-around-depth-then-list-node c = let l = c.language-language.ensures ∙ ap language_of c.simply.ensures in
    let node = rw l at c.node_at.ensures in
    omega (arith, place_free c.loop-stand.invariant.1 c.if-count-eq0.false node c.in-Ok.is, levels_length c.loop-stand.depth c.loop-stand.around)

pub overflow_add-depth : goal.overflow_add-depth
overflow_add-depth c = omega (arith, depth_within c.loop-stand.invariant.1.standing, levels_length c.loop-stand.depth c.loop-stand.around)

pub loop-stand-smaller-then-list-node : goal.loop-stand-smaller-then-list-node
loop-stand-smaller-then-list-node c = let l = c.language-language.ensures ∙ ap language_of c.simply.ensures in
    let node = rw l at c.node_at.ensures in
    omega (arith, node_ends c.loop-stand.invariant.1 c.if-count-eq0.false node c.in-Ok.is)

pub loop-stand-preserved-then-list-node : goal.loop-stand-preserved-then-list-node
loop-stand-preserved-then-list-node c = let l = c.language-language.ensures ∙ ap language_of c.simply.ensures in
    let node = rw l at c.node_at.ensures in
    let free = place_free c.loop-stand.invariant.1 c.if-count-eq0.false node c.in-Ok.is in (
      length-set c.loop-stand.around c.loop-stand.depth _ ∙ c.loop-stand.invariant.0,
      put_level c.loop-stand.invariant.1 c.if-count-eq0.false node c.in-Ok.is _ (rw c.in_list-list.ensures at c.put_own-end.ensures.end) _ (rw c.in_list-list.ensures at c.put_own-end.ensures.contents)
          (c.put_own-end.auto.output ∙ c.loop-stand.invariant.1.kept)
          _ c.of.ensures
          (levels_pushed c.loop-stand.depth c.loop-stand.around _ (omega (arith, free, levels_length c.loop-stand.depth c.loop-stand.around, c.loop-stand.invariant.0))),
    )

pub loop-stand-smaller : goal.loop-stand-smaller
loop-stand-smaller c = let l = c.language-language.ensures ∙ ap language_of c.simply.ensures in
    let node = rw l at c.node_at.ensures in
    omega (arith, node_ends c.loop-stand.invariant.1 c.if-count-eq0.false node c.in-Ok.is)

pub loop-stand-preserved : goal.loop-stand-preserved
loop-stand-preserved c = let l = c.language-language.ensures ∙ ap language_of c.simply.ensures in
    let node = rw l at c.node_at.ensures in (
      c.loop-stand.invariant.0,
      put_leaf c.loop-stand.invariant.1 c.if-count-eq0.false node c.in-Ok.is _ (rw c.in_list-list.ensures at c.put_own-end.ensures.end) _ (rw c.in_list-list.ensures at c.put_own-end.ensures.contents)
          (c.put_own-end.auto.output ∙ c.loop-stand.invariant.1.kept)
          (rw c.in_list-list.ensures at c.if-list-node.false),
    )
