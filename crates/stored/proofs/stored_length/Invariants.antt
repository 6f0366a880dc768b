-- `stored::stored_length` meets its contract. The invariant: what the bytes from `i` on add is still to come.
use Rattle.stored.proofs.Passing.{Stretching}
use Rattle.term.specs.Limits.{longest_record}
use lib.ListN.{length}
use Prim.Native.Nat.{◌≤◌}
use Rattle.stored.proofs.stored_length.Given as goal

abbrev pub invariant-loop-i : goal.invariant-loop-i
invariant-loop-i l = (length l.s ≤ longest_record) × Stretching l.table l.s l.size l.counting l.i
