-- `output::put_field` meets its contract.
use native.Mathlib.Omega.{arith}
use mathlib.Core.Path.{refl}
use lib.ListN.{length}
use Rattle.output.proofs.Puts.{some_room, no_room, none_put}
use Rattle.output.proofs.Fields.{field_length, field_put}
use Rattle.output.proofs.put_field.Goals as goal

pub returns-then-not-has_room-clause-contents : goal.returns-then-not-has_room-clause-contents
returns-then-not-has_room-clause-contents c = let args = c.args in
    (none_put _ _ _ (omega (arith, field_length args.text.now args.end, no_room args.at (length args.text.now) (length args.out.now) _ c.has_room.ensures c.if-not-has_room.true))).0

pub returns-then-not-has_room-clause-end : goal.returns-then-not-has_room-clause-end
returns-then-not-has_room-clause-end c = let args = c.args in
    (none_put _ _ _ (omega (arith, field_length args.text.now args.end, no_room args.at (length args.text.now) (length args.out.now) _ c.has_room.ensures c.if-not-has_room.true))).1

pub overflow_add-last : goal.overflow_add-last
overflow_add-last c = let args = c.args in
    omega (arith, some_room args.at (length args.text.now) (length args.out.now) _ c.has_room.ensures c.if-not-has_room.false)

pub returns-then-last-out-clause-contents : goal.returns-then-last-out-clause-contents
returns-then-last-out-clause-contents c = let args = c.args in
    (none_put _ _ _ (omega (arith, field_length args.text.now args.end))).0

pub returns-then-last-out-clause-end : goal.returns-then-last-out-clause-end
returns-then-last-out-clause-end c = let args = c.args in
    (none_put _ _ _ (omega (arith, field_length args.text.now args.end))).1

pub copy-requires : goal.copy-requires
copy-requires c = some_room _ _ _ _ c.has_room.ensures c.if-not-has_room.false

pub bounds-out-last : goal.bounds-out-last
bounds-out-last c = let args = c.args in
    omega (arith, some_room args.at (length args.text.now) (length args.out.now) _ c.has_room.ensures c.if-not-has_room.false)

pub overflow_add-result : goal.overflow_add-result
overflow_add-result c = let args = c.args in
    omega (arith, some_room args.at (length args.text.now) (length args.out.now) _ c.has_room.ensures c.if-not-has_room.false)

pub returns-clause-contents : goal.returns-clause-contents
returns-clause-contents c = let args = c.args in
    (field_put args.out.now _ args.text.now args.at _ args.end
    (omega (arith, some_room args.at (length args.text.now) (length args.out.now) _ c.has_room.ensures c.if-not-has_room.false))
    c.copy.ensures
    refl).0

pub returns-clause-end : goal.returns-clause-end
returns-clause-end c = let args = c.args in
    (field_put args.out.now _ args.text.now args.at _ args.end
    (omega (arith, some_room args.at (length args.text.now) (length args.out.now) _ c.has_room.ensures c.if-not-has_room.false))
    c.copy.ensures
    refl).1
