-- `term::same` meets its contract. The invariant: the parts are the same exactly if what is left of them is.
use mathlib.Core.Path.{◌≡◌}
use mathlib.Core.Bool.{false}
use lib.ListN.{drop}
use Rattle.term.specs.Same.{same_part}
use Rattle.term.proofs.same.Given as goal

abbrev pub invariant-loop-i : goal.invariant-loop-i
invariant-loop-i l = same_part l.table l.classes false l.x l.y ≡ same_part l.table l.classes l.counting (drop l.i l.x) (drop l.i l.y)
