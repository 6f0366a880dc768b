-- `stored::read_tree` meets its contract. The invariant: the trees of the levels are still to come. What falls is twice the bytes left, and the depth.
use native.Mathlib.Omega.{arith}
use mathlib.Core.Path.{refl, ◌∙◌}
use lib.ListN.{length-set}
use Rattle.std.proofs.lemmas.Result.{err_from_is_err_and}
use Rattle.stored.proofs.Frames.{levels_pushed, levels_popped, levels_length, depth_within}
use Rattle.stored.proofs.Steps.{reading_starts, disagrees, no_more, read_around, node_refuses, node_ends, place_free, read_leaf, read_level}
use Rattle.stored.proofs.read_tree.Goals as goal

pub loop-stand-init : goal.loop-stand-init
loop-stand-init c = (refl, reading_starts _ _ refl)

pub returns-then-not-agrees : goal.returns-then-not-agrees
returns-then-not-agrees c = disagrees c.loop-stand.invariant.1 c.if-count-eq0.true (rw c.in_list.ensures at c.agrees.ensures) c.if-not-agrees.true

pub returns-then-depth-eq0 : goal.returns-then-depth-eq0
returns-then-depth-eq0 c = no_more c.loop-stand.invariant.1 c.if-count-eq0.true (rw c.in_list.ensures at c.agrees.ensures) c.if-not-agrees.false
    (rw c.if-depth-eq0.true)

pub offset_bounds-around-depth : goal.offset_bounds-around-depth
offset_bounds-around-depth c = omega (arith, depth_within c.loop-stand.invariant.1.standing, levels_length c.loop-stand.depth c.loop-stand.around)

pub bounds-around-depth : goal.bounds-around-depth
bounds-around-depth c = omega (arith, c.if-depth-eq0.false, depth_within c.loop-stand.invariant.1.standing, levels_length c.loop-stand.depth c.loop-stand.around)

pub loop-stand-preserved-then-count-eq0 : goal.loop-stand-preserved-then-count-eq0
loop-stand-preserved-then-count-eq0 c = (
  c.loop-stand.invariant.0,
  read_around c.loop-stand.invariant.1 c.if-count-eq0.true (rw c.in_list.ensures at c.agrees.ensures) c.if-not-agrees.false
      (levels_popped c.loop-stand.depth c.loop-stand.around c.if-depth-eq0.false),
)

pub returns-in_err-size : goal.returns-in_err-size
returns-in_err-size c = let p = err_from_is_err_and c.from_residual.result c.from_residual.ensures.1 in
    rw (p.1, p.2) (node_refuses c.loop-stand.invariant.1 c.if-count-eq0.false c.stored_node.ensures c.in_err-size.was)

pub overflow_add-at : goal.overflow_add-at
overflow_add-at c = omega (arith, node_ends c.loop-stand.invariant.1 c.if-count-eq0.false c.stored_node.ensures c.in_ok-size.was)

pub offset_bounds-around-depth-then-list-kids : goal.offset_bounds-around-depth-then-list-kids
offset_bounds-around-depth-then-list-kids c = omega (arith, depth_within c.loop-stand.invariant.1.standing, levels_length c.loop-stand.depth c.loop-stand.around)

pub bounds-around-depth-then-list-kids : goal.bounds-around-depth-then-list-kids
bounds-around-depth-then-list-kids c = omega (arith, place_free c.loop-stand.invariant.1 c.if-count-eq0.false c.stored_node.ensures c.in_ok-size.was, levels_length c.loop-stand.depth c.loop-stand.around)

pub overflow_add-depth : goal.overflow_add-depth
overflow_add-depth c = omega (arith, depth_within c.loop-stand.invariant.1.standing, levels_length c.loop-stand.depth c.loop-stand.around)

pub loop-stand-smaller-then-list-kids : goal.loop-stand-smaller-then-list-kids
loop-stand-smaller-then-list-kids c =
    omega (arith, node_ends c.loop-stand.invariant.1 c.if-count-eq0.false c.stored_node.ensures c.in_ok-size.was)

pub loop-stand-preserved-then-list-kids : goal.loop-stand-preserved-then-list-kids
loop-stand-preserved-then-list-kids c = let free = place_free c.loop-stand.invariant.1 c.if-count-eq0.false c.stored_node.ensures c.in_ok-size.was in (
  length-set c.loop-stand.around c.loop-stand.depth _ ∙ c.loop-stand.invariant.0,
  read_level c.loop-stand.invariant.1 c.if-count-eq0.false c.stored_node.ensures c.in_ok-size.was _ c.of.ensures
      (levels_pushed c.loop-stand.depth c.loop-stand.around _ (omega (arith, free, levels_length c.loop-stand.depth c.loop-stand.around, c.loop-stand.invariant.0))),
)

pub loop-stand-smaller : goal.loop-stand-smaller
loop-stand-smaller c = omega (arith, node_ends c.loop-stand.invariant.1 c.if-count-eq0.false c.stored_node.ensures c.in_ok-size.was)

pub loop-stand-preserved : goal.loop-stand-preserved
loop-stand-preserved c = (
  c.loop-stand.invariant.0,
  read_leaf c.loop-stand.invariant.1 c.if-count-eq0.false c.stored_node.ensures c.in_ok-size.was (rw c.in_list-list.ensures at c.if-list-kids.false),
)
