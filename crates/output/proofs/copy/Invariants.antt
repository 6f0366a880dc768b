-- `output::copy` meets its contract. The invariant: the bytes from `i` on are still to be stored.
use Prim.Native.Nat.{◌+◌}
use mathlib.Core.Path.{◌≡◌}
use lib.Seq.{sets}
use lib.ListN.{length, drop}
use Rattle.output.proofs.copy.Given as goal

abbrev pub invariant-loop-i : goal.invariant-loop-i
invariant-loop-i l = (length l.out ≡ length l.initial.out) × (sets l.initial.out l.at l.bytes ≡ sets l.out (l.at + l.i) (drop l.i l.bytes))
