-- `station::check` meets its contract.
use mathlib.Core.Path.{sym, ◌∙◌}
use mathlib.Core.Bool.{true, false}
use Rattle.station.proofs.Checks.{check_full, check_order}
use Rattle.station.proofs.check.Goals as goal

pub returns-then-lent-lt-ROOM : goal.returns-then-lent-lt-ROOM
returns-then-lent-lt-ROOM c = sym (check_full c.args.station c.args.lent c.if-lent-lt-ROOM.true)

pub returns-then-not-is_in_order : goal.returns-then-not-is_in_order
returns-then-not-is_in_order c = let a = c.args in
    sym (check_order a.station a.lent false c.if-lent-lt-ROOM.false (sym c.is_in_order.ensures ∙ c.if-not-is_in_order.true))

pub returns : goal.returns
returns c = let a = c.args in
    sym (check_order a.station a.lent true c.if-lent-lt-ROOM.false (sym c.is_in_order.ensures ∙ c.if-not-is_in_order.false))
