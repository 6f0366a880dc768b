-- `station::is_distinct` meets its contract.
use native.Mathlib.Omega.{arith}
use mathlib.Core.Path.{sym, ◌∙◌}
use Rattle.station.proofs.Checks.{distinct_twice, distinct_next, distinct_end}
use Rattle.station.proofs.is_distinct.Goals as goal

pub returns-then-place-rest : goal.returns-then-place-rest
returns-then-place-rest c = let turn = c.loop-i in
    sym (turn.invariant ∙ distinct_twice c.args.names.now turn.i c.place.result c.place.ensures (omega arith) c.if-place-rest.true)

pub loop-i-preserved : goal.loop-i-preserved
loop-i-preserved c = let turn = c.loop-i in
    turn.invariant ∙ distinct_next c.args.names.now turn.i c.place.result c.place.ensures (omega arith) c.if-place-rest.false

pub returns : goal.returns
returns c = let turn = c.loop-i in
    sym (turn.invariant ∙ distinct_end c.args.names.now turn.i (omega arith))
