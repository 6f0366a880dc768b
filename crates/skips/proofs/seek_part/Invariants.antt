-- `skips::seek_part` meets its contract. Assumes nothing.
use Prim.Native.Nat.{◌*◌}
use Rattle.skips.proofs.Passing.{Seeking}
use Rattle.skips.proofs.seek_part.Given as goal

abbrev pub invariant-loop-n : goal.invariant-loop-n
invariant-loop-n l = Seeking l.table l.classes 0 l.x l.r l.most l.n l.at (2 * l.n)
