-- The pass meets its contracts: a node that stays, and so many trees. A node's children have fewer bytes than it: the measure falls there.
use Prim.Native.Nat.{◌+◌, ◌-◌, ◌*◌}
use lib.ListN.{length}
use Rattle.splice.proofs.Passes.{Passing}
use Rattle.splice.proofs.+put_node_put_trees.Given as goal

abbrev pub decreases-put_trees : goal.decreases-put_trees
decreases-put_trees l = 2 * length l.s.now + 1

abbrev pub decreases-put_node : goal.decreases-put_node
decreases-put_node l = 2 * length l.s.now

abbrev pub invariant-put_trees-loop-trees : goal.invariant-put_trees-loop-trees
invariant-put_trees-loop-trees l = Passing l.language.table.now l.language.classes.now l.s l.count l.around l.at l.initial.out l.out l.trees l.done

abbrev pub decreases-put_trees-loop-trees : goal.decreases-put_trees-loop-trees
decreases-put_trees-loop-trees l = length l.s - l.done.used
