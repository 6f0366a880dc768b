-- The pass meets its contracts: a node that stays, and so many trees. A node's children have fewer bytes than it: the measure falls there.
use native.Mathlib.Omega.{arith}
use mathlib.Core.Path.{refl, sym, ◌∙◌}
use Rattle.splice.proofs.Nodes.{node_unanswered, node_answered, leaf_answered}
use Rattle.splice.proofs.Passes.{pass_first, pass_last, pass_stop, pass_direct, pass_node, pass_wide}
use Rattle.splice.proofs.+put_node_put_trees.Goals as goal

pub put_node-returns-then-head-eq0-clause-is : goal.put_node-returns-then-head-eq0-clause-is
put_node-returns-then-head-eq0-clause-is t c = let a = c.args in
    let l = a.language.now in
    (leaf_answered l.table.now l.classes.now a.s.now a.at a.out.now a.head c.requires.is c.requires.within.0 c.requires.within.1
    _ c.store.ensures c.if-head-eq0.true _ _ (c.close_node.ensures.is, c.close_node.ensures.stores)).0

pub put_node-returns-then-head-eq0-clause-stores : goal.put_node-returns-then-head-eq0-clause-stores
put_node-returns-then-head-eq0-clause-stores t c = let a = c.args in
    let l = a.language.now in
    (leaf_answered l.table.now l.classes.now a.s.now a.at a.out.now a.head c.requires.is c.requires.within.0 c.requires.within.1
    _ c.store.ensures c.if-head-eq0.true _ _ (c.close_node.ensures.is, c.close_node.ensures.stores)).1.1

pub put_node-returns-in_err-inside-clause-is : goal.put_node-returns-in_err-inside-clause-is
put_node-returns-in_err-inside-clause-is t c = let a = c.args in
    let l = a.language.now in
    rw c.from_residual.ensures
    (node_unanswered l.table.now l.classes.now a.s.now a.at a.out.now a.head c.requires.is c.requires.within.0 c.requires.within.1
    _ _ _ (c.in_err-inside.ensures.is, (c.in_err-inside.ensures.within, c.in_err-inside.ensures.stores)) refl c.put_trees.new.out).0

pub put_node-returns-in_err-inside-clause-stores : goal.put_node-returns-in_err-inside-clause-stores
put_node-returns-in_err-inside-clause-stores t c = let a = c.args in
    let l = a.language.now in
    (node_unanswered l.table.now l.classes.now a.s.now a.at a.out.now a.head c.requires.is c.requires.within.0 c.requires.within.1
    _ _ _ (c.in_err-inside.ensures.is, (c.in_err-inside.ensures.within, c.in_err-inside.ensures.stores)) refl _).1.1

pub put_node-returns-clause-is : goal.put_node-returns-clause-is
put_node-returns-clause-is t c = let a = c.args in
    let l = a.language.now in
    (node_answered l.table.now l.classes.now a.s.now a.at a.out.now a.head c.requires.is c.requires.within.0 c.requires.within.1
    _ _ _ (c.in_ok-inside.ensures.is, (c.in_ok-inside.ensures.within, c.in_ok-inside.ensures.stores)) c.in_ok-inside.inside refl c.store.ensures
    _ _ (c.close_node-2.ensures.is, c.close_node-2.ensures.stores)).0

pub put_node-returns-clause-stores : goal.put_node-returns-clause-stores
put_node-returns-clause-stores t c = let a = c.args in
    let l = a.language.now in
    (node_answered l.table.now l.classes.now a.s.now a.at a.out.now a.head c.requires.is c.requires.within.0 c.requires.within.1
    _ _ _ (c.in_ok-inside.ensures.is, (c.in_ok-inside.ensures.within, c.in_ok-inside.ensures.stores)) c.in_ok-inside.inside refl c.store.ensures
    _ _ (c.close_node-2.ensures.is, c.close_node-2.ensures.stores)).1.1

pub put_trees-loop-trees-init : goal.put_trees-loop-trees-init
put_trees-loop-trees-init t c = let a = c.args in
    rw c.from-trees.ensures (pass_first a.language.now.table.now a.language.now.classes.now a.s.now a.count a.around a.at a.out.now
    (omega (arith, c.ranges.count)))

pub put_trees-returns-in_err-head-clause-is : goal.put_trees-returns-in_err-head-clause-is
put_trees-returns-in_err-head-clause-is t c =
    rw c.from_residual.ensures (pass_stop c.loop-trees.invariant c.loop-trees-test.true c.in_err-head.ensures.is).0

pub put_trees-returns-in_err-head-clause-stores : goal.put_trees-returns-in_err-head-clause-stores
put_trees-returns-in_err-head-clause-stores t c = (pass_stop c.loop-trees.invariant c.loop-trees-test.true c.in_err-head.ensures.is).1.1

pub put_trees-loop-trees-preserved-then-is_direct : goal.put_trees-loop-trees-preserved-then-is_direct
put_trees-loop-trees-preserved-then-is_direct t c =
    rw c.from.ensures (pass_direct c.loop-trees.invariant c.loop-trees-test.true c.in_ok-head.ensures.is c.in_ok-head.ensures.within.0 c.in_ok-head.ensures.within.1
    (omega arith) (sym c.is_direct.ensures ∙ c.if-is_direct.true))

pub put_trees-returns-in_err-node-clause-is : goal.put_trees-returns-in_err-node-clause-is
put_trees-returns-in_err-node-clause-is t c =
    rw c.from_residual-in_err-node.ensures
    (pass_wide c.loop-trees.invariant c.loop-trees-test.true c.in_ok-head.ensures.is (sym c.is_direct.ensures ∙ c.if-is_direct.false) c.in_err-node.ensures.is c.put_node.new.out).0

pub put_trees-returns-in_err-node-clause-stores : goal.put_trees-returns-in_err-node-clause-stores
put_trees-returns-in_err-node-clause-stores t c =
    (pass_wide c.loop-trees.invariant c.loop-trees-test.true c.in_ok-head.ensures.is (sym c.is_direct.ensures ∙ c.if-is_direct.false) c.in_err-node.ensures.is _).1.1

pub put_trees-loop-trees-preserved : goal.put_trees-loop-trees-preserved
put_trees-loop-trees-preserved t c =
    pass_node c.loop-trees.invariant c.loop-trees-test.true c.in_ok-head.ensures.is c.in_ok-node.node _
    (sym c.is_direct.ensures ∙ c.if-is_direct.false) c.put_node.auto.out (c.in_ok-node.ensures.is, (c.in_ok-node.ensures.within, c.in_ok-node.ensures.stores))

pub put_trees-returns-clause-is : goal.put_trees-returns-clause-is
put_trees-returns-clause-is t c = (pass_last c.loop-trees.invariant c.loop-trees-test.false).0

pub put_trees-returns-clause-stores : goal.put_trees-returns-clause-stores
put_trees-returns-clause-stores t c = (pass_last c.loop-trees.invariant c.loop-trees-test.false).1.1
