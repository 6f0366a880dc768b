-- `parts::is_assigned` meets its contract. Assumes nothing.
use native.Mathlib.Omega.{arith}
use mathlib.Core.Path.{sym}
use Rattle.parts.proofs.Masks.{bit_none}
use Rattle.parts.proofs.is_assigned.Goals as goal

pub returns-then-v-ge-BITS : goal.returns-then-v-ge-BITS
returns-then-v-ge-BITS c = sym (bit_none c.args.assigned 64 c.args.v (omega arith) (omega arith))
