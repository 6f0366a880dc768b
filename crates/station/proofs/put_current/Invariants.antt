-- `station::put_current` meets its contract. The invariant: the bytes from `i` on are still to be stored.
use mathlib.Core.Path.{◌≡◌}
use lib.Seq.{sets}
use lib.ListN.{length, drop}
use Rattle.station.proofs.put_current.Given as goal

abbrev pub invariant-loop-i : goal.invariant-loop-i
invariant-loop-i l = (length l.records ≡ length l.initial.records) × (sets l.initial.records 0 l.bytes ≡ sets l.records l.i (drop l.i l.bytes))
