-- The filling of a template meets its contracts. What stands below a symbol nests one less deep: the measure falls there.
use Prim.Native.Nat.{◌+◌, ◌-◌, ◌*◌}
use lib.ListN.{length}
use Rattle.term.specs.Lent.{language_by}
use Rattle.replace.specs.Splice.{listed_in}
use Rattle.replace.proofs.Fillings.{Passing}
use Rattle.replace.proofs.+fill_fill_node_fill_tree.Given as goal

abbrev pub decreases-fill_tree : goal.decreases-fill_tree
decreases-fill_tree l = 3 * l.left + 1

abbrev pub decreases-fill_node : goal.decreases-fill_node
decreases-fill_node l = 3 * l.left

abbrev pub decreases-fill : goal.decreases-fill
decreases-fill l = 3 * l.left + 2

abbrev pub invariant-fill-loop-used : goal.invariant-fill-loop-used
invariant-fill-loop-used l = Passing l.language.table.now (listed_in (language_by l.language)) l.around l.s l.matched.bytes.now l.matched.answer.now l.left l.at l.initial.out l.out l.used l.put l.count

abbrev pub decreases-fill-loop-used : goal.decreases-fill-loop-used
decreases-fill-loop-used l = length l.s - l.used
