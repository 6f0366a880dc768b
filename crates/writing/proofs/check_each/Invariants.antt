-- `writing::check_each` meets its contract. The invariant: the lengths from `i` on are those of the bytes left, whose records decide.
use mathlib.Core.Bool.{true}
use mathlib.Core.Path.{◌≡◌}
use lib.ListN.{length, drop}
use Rattle.term.specs.Lent.{language_by}
use Rattle.sheet.specs.Contents.{check_each}
use Rattle.writing.specs.Writing.{split, sum}
use Rattle.writing.proofs.check_each.Given as goal

abbrev pub invariant-loop-i : goal.invariant-loop-i
invariant-loop-i w = let l = language_by w.language in
    (length w.rest ≡ sum (drop w.i w.lengths)) × (check_each true l 0 (split w.records w.lengths) ≡ check_each true l w.i (split w.rest (drop w.i w.lengths)))
