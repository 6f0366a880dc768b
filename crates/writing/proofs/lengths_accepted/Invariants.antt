-- `writing::lengths_accepted` meets its contract. The invariant: the lengths from the index on decide, of which the bytes left are to be the sum.
use Prim.Native.Nat.{◌≤◌}
use mathlib.Core.Path.{◌≡◌}
use lib.ListN.{drop}
use Rattle.writing.specs.Writing.{lengths_accepted}
use Rattle.writing.proofs.lengths_accepted.Given as goal

abbrev pub invariant-loop-length : goal.invariant-loop-length
invariant-loop-length l = (l.left ≤ l.total) × (lengths_accepted l.lengths l.total ≡ lengths_accepted (drop l.length-index l.lengths) l.left)
