-- `sheet::entries_follow` meets its contract. The invariant: the entries from `i` on decide, the first of which starts at `at`; an offset and
-- a length past the sheet keep the sum from wrapping.
use Prim.Native.Nat.{◌≤◌, ◌-◌, ◌+◌}
use mathlib.Core.Path.{◌≡◌}
use lib.ListN.{length}
use Rattle.sheet.specs.Sheet.{past_pairs}
use Rattle.sheet.specs.Check.{entries_follow}
use Rattle.sheet.proofs.Words.{largest_word}
use Rattle.sheet.proofs.entries_follow.Given as goal

abbrev pub invariant-loop-i : goal.invariant-loop-i
invariant-loop-i l = (l.at ≤ length l.sheet + largest_word + largest_word) × (entries_follow l.sheet l.n 0 (past_pairs l.n) ≡ entries_follow l.sheet (l.n - l.i) l.i l.at)
