-- `output::put_bytes` meets its contract.
use native.Mathlib.Omega.{arith}
use mathlib.Core.Path.{refl}
use lib.ListN.{length}
use Rattle.output.proofs.Puts.{some_room, no_room, none_put, stored_put}
use Rattle.output.proofs.put_bytes.Goals as goal

pub returns-then-not-has_room-clause-contents : goal.returns-then-not-has_room-clause-contents
returns-then-not-has_room-clause-contents c = (none_put _ _ _ (no_room _ _ _ _ c.has_room.ensures c.if-not-has_room.true)).0

pub returns-then-not-has_room-clause-end : goal.returns-then-not-has_room-clause-end
returns-then-not-has_room-clause-end c = (none_put _ _ _ (no_room _ _ _ _ c.has_room.ensures c.if-not-has_room.true)).1

pub copy-requires : goal.copy-requires
copy-requires c = some_room _ _ _ _ c.has_room.ensures c.if-not-has_room.false

pub overflow_add-result : goal.overflow_add-result
overflow_add-result c = let args = c.args in
    omega (arith, some_room args.at (length args.bytes.now) (length args.out.now) _ c.has_room.ensures c.if-not-has_room.false)

pub returns-clause-contents : goal.returns-clause-contents
returns-clause-contents c = (stored_put _ _ _ _ _ (some_room _ _ _ _ c.has_room.ensures c.if-not-has_room.false) (c.copy.ensures, refl)).0

pub returns-clause-end : goal.returns-clause-end
returns-clause-end c = (stored_put _ _ _ _ _ (some_room _ _ _ _ c.has_room.ensures c.if-not-has_room.false) (c.copy.ensures, refl)).1
