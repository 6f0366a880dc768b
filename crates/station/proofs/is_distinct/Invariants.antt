-- `station::is_distinct` meets its contract. The invariant: the names from `i` on decide.
use mathlib.Core.Path.{◌≡◌}
use lib.ListN.{drop}
use Rattle.station.specs.Check.{distinct}
use Rattle.station.proofs.is_distinct.Given as goal

abbrev pub invariant-loop-i : goal.invariant-loop-i
invariant-loop-i l = distinct l.names ≡ distinct (drop l.i l.names)
