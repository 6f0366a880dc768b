-- `parts::show_from` meets its contract. The invariant: the buffer shows the variables of the mask below v. Assumes nothing.
use native.Mathlib.Omega.{arith}
use mathlib.Core.Path.{◌∙◌}
use Rattle.term.specs.Code.{variables}
use Rattle.parts.proofs.Masks.{below}
use Rattle.parts.proofs.Shown.{part_below, show_next}
use Rattle.parts.proofs.show_from.Goals as goal

pub loop-v-preserved : goal.loop-v-preserved
loop-v-preserved c =
    let low = below c.args.assigned variables c.loop-v.v c.requires.assigned_bound (omega (arith, c.if-assigned-v-eq0.false)) in
    rw c.put_entry.ensures (show_next _ _ _ c.loop-v.invariant low _ _ c.from.ensures (c.part_of.ensures ∙ part_below _ _ _ low))
