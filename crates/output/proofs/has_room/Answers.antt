-- `output::has_room` meets its contract.
use Prim.Native.Nat.{◌+◌}
use native.Mathlib.Omega.{arith}
use mathlib.Core.Path.{sym}
use borrow.Author.Tests.{lt-leb}
use Rattle.output.proofs.Puts.{room_left}
use Rattle.output.proofs.has_room.Goals as goal

pub returns-then-size-n : goal.returns-then-size-n
returns-then-size-n c = sym (lt-leb (c.args.at + c.args.n) c.args.size (omega arith))

pub returns : goal.returns
returns c = room_left c.args.size c.args.at c.args.n (omega arith)
