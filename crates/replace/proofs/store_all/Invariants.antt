-- `replace::store_all` meets its contract.
use lib.Seq.{sets}
use lib.ListN.{length, take}
use mathlib.Core.Path.{◌≡◌}
use Rattle.replace.proofs.store_all.Given as goal

abbrev pub invariant-loop-i : goal.invariant-loop-i
invariant-loop-i l = (length l.out ≡ length l.initial.out) × (l.out ≡ sets l.initial.out l.at (take l.i l.s))
