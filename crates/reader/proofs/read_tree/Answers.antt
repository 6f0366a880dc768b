-- `reader::read_tree` meets its contract. The invariant: the trees of the frames are still to come. The measure is what is left of the bytes.
use Rattle.reader.proofs.Frames.{read_to_told, read_to_starts, node_refuses, node_ends, node_held, depth_within, next_tree, next_around, no_more, child_last, place_free, child_first}
use Rattle.std.proofs.lemmas.Result.{err_from_is_err_and}
use native.Mathlib.Omega.{arith}
use mathlib.Core.Path.{refl, sym}
use Rattle.reader.proofs.read_tree.Goals as goal
use Rattle.reader.proofs.read_tree.Goals.{then-top-gt1, else-top-gt1}

pub loop-size-init : goal.loop-size-init
loop-size-init g c = read_to_starts _ _ _ _ _ refl c.of-top.ensures

pub returns-in_err-size : goal.returns-in_err-size
returns-in_err-size g c = let p = err_from_is_err_and c.from_residual.result c.from_residual.ensures.1 in
    rw (p.1, p.2) (node_refuses c.loop-size.invariant c.node_in.ensures c.in_err-size.was)

pub slice_bounds-rest-count : goal.slice_bounds-rest-count
slice_bounds-rest-count g c = node_held c.loop-size.invariant c.node_in.ensures c.in_ok-size.was

pub slice_bounds-rest-start : goal.slice_bounds-rest-start
slice_bounds-rest-start g c = node_held c.loop-size.invariant c.node_in.ensures c.in_ok-size.was

pub overflow_sub-top : goal.overflow_sub-top
overflow_sub-top g c = c.loop-size.invariant.1.some

pub bounds-around-depth : goal.bounds-around-depth
bounds-around-depth g c = place_free c.loop-size.invariant c.node_in.ensures c.in_ok-size.was
    (omega (arith, c.if-top-gt1.true))

pub loop-size-smaller-then-kids-gt0 : goal.loop-size-smaller-then-kids-gt0
loop-size-smaller-then-kids-gt0 g c = omega (arith, node_ends c.loop-size.invariant c.node_in.ensures c.in_ok-size.was)

pub loop-size-preserved-then-kids-gt0 : goal.loop-size-preserved-then-kids-gt0
loop-size-preserved-then-kids-gt0 g c = let of = c.of-top-then-kids-gt0.ensures in
    let told = c.told.ensures in
    let some = c.if-kids-gt0.true in
    elim c.if-top-gt1.branch [
      | then-top-gt1 w ↦ rw (w.around-is, w.depth-is, of, told) (read_to_told _ _ _ (child_first c.loop-size.invariant c.node_in.ensures c.in_ok-size.was _ refl some (omega (arith, w.if-top-gt1.true))))
      | else-top-gt1 w ↦ rw (w.around-is, w.depth-is, of, told) (read_to_told _ _ _ (child_last c.loop-size.invariant c.node_in.ensures c.in_ok-size.was _ refl some (omega (arith, w.if-top-gt1.false))))
    ]

pub loop-size-smaller-then-top-gt1-2 : goal.loop-size-smaller-then-top-gt1-2
loop-size-smaller-then-top-gt1-2 g c = omega (arith, node_ends c.loop-size.invariant c.node_in.ensures c.in_ok-size.was)

pub loop-size-preserved-then-top-gt1-2 : goal.loop-size-preserved-then-top-gt1-2
loop-size-preserved-then-top-gt1-2 g c = next_tree c.loop-size.invariant c.node_in.ensures c.in_ok-size.was
    c.if-kids-gt0.false (λ z. omega (arith, z, c.if-top-gt1-2.true))

pub returns-then-depth-eq0 : goal.returns-then-depth-eq0
returns-then-depth-eq0 g c = sym
    (no_more c.loop-size.invariant c.node_in.ensures c.in_ok-size.was
    c.if-kids-gt0.false (omega (arith, c.if-top-gt1-2.false)) c.if-depth-eq0.true)

pub bounds-around-depth-in-loop-size : goal.bounds-around-depth-in-loop-size
bounds-around-depth-in-loop-size g c = omega (arith, c.if-depth-eq0.false, depth_within c.loop-size.invariant c.node_in.ensures c.in_ok-size.was)

pub loop-size-smaller : goal.loop-size-smaller
loop-size-smaller g c = omega (arith, node_ends c.loop-size.invariant c.node_in.ensures c.in_ok-size.was)

pub loop-size-preserved : goal.loop-size-preserved
loop-size-preserved g c = rw (c.of-top-in-loop-size.ensures, c.told-in-loop-size.ensures)
    (read_to_told _ _ _
    (next_around c.loop-size.invariant c.node_in.ensures c.in_ok-size.was c.if-kids-gt0.false (omega (arith, c.if-top-gt1-2.false)) c.if-depth-eq0.false))
