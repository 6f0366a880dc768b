-- `term::same_bytes` meets its contract. The invariant: the parts are the same exactly if what is left of them is.
use mathlib.Core.Path.{◌≡◌}
use mathlib.Core.List.{[]}
use mathlib.Core.Bool.{true}
use lib.ListN.{drop}
use Rattle.term.specs.Same.{same_part}
use Rattle.term.proofs.same_bytes.Given as goal

abbrev pub invariant-loop-at : goal.invariant-loop-at
invariant-loop-at l = same_part [] [] true l.x l.y ≡ same_part [] [] true (drop l.at l.x) (drop l.at l.y)
