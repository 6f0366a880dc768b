-- `sheet::check_entries` meets its contract. The invariant: the entries from `i` on decide.
use Prim.Native.Nat.{◌-◌}
use mathlib.Core.Path.{◌≡◌}
use Rattle.term.specs.Lent.{language_by}
use Rattle.sheet.specs.Contents.{check_each}
use Rattle.sheet.specs.Entry.{entries, entries_from}
use Rattle.sheet.proofs.check_entries.Given as goal

abbrev pub invariant-loop-i : goal.invariant-loop-i
invariant-loop-i w = let l = language_by w.language in
    check_each w.records l 0 (entries w.sheet) ≡ check_each w.records l w.i (entries_from w.sheet (w.n - w.i) w.i)
