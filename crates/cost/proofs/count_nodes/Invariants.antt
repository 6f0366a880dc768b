-- `cost::count_nodes` meets its contract. The invariant: the nodes are those counted so far and those from `at` on.
use Prim.Native.Nat.{◌≤◌, ◌-◌}
use mathlib.Core.Path.{◌≡◌}
use mathlib.Core.Bool.{false}
use lib.ListN.{length, drop}
use Rattle.cost.specs.Tally.{tally}
use Rattle.cost.proofs.count_nodes.Given as goal

abbrev pub invariant-loop-at : goal.invariant-loop-at
invariant-loop-at l = (l.nodes ≤ l.at) × (tally l.table l.pattern false 0 ≡ tally l.table (drop l.at l.pattern) false l.nodes)

abbrev pub decreases-loop-at : goal.decreases-loop-at
decreases-loop-at l = length l.pattern - l.at
