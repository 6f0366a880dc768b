-- `station::put_current` meets its contract. The invariant: the bytes from `i` on are still to be stored.
use native.Mathlib.Omega.{arith}
use mathlib.Core.Path.{refl, sym, ◌∙◌}
use lib.ListN.{get_or, length-set}
use Rattle.station.proofs.Copies.{front_next, front_end}
use Rattle.station.proofs.put_current.Goals as goal

pub loop-i-init : goal.loop-i-init
loop-i-init c = (refl, refl)

pub loop-i-preserved : goal.loop-i-preserved
loop-i-preserved c = let turn = c.loop-i in
    let a = c.args in
    (length-set turn.records turn.i (get_or a.bytes.now turn.i 0) ∙ turn.invariant.0, turn.invariant.1 ∙ front_next turn.records a.bytes.now turn.i (omega arith))

pub returns : goal.returns
returns c = sym (c.loop-i.invariant.1 ∙ front_end c.loop-i.records c.args.bytes.now c.loop-i.i (omega arith))
