-- `term::check_classes` meets its contract. The invariant: the entries before `i` are accepted.
use mathlib.Core.Path.{◌≡◌}
use mathlib.Core.Bool.{true}
use Rattle.term.specs.Class.{entries_classed}
use Rattle.term.proofs.check_classes.Given as goal

abbrev pub invariant-loop-i : goal.invariant-loop-i
invariant-loop-i l = entries_classed l.table l.classes l.i ≡ true
