-- `plain::check::is_plain` meets its contract. The invariant: whether the pattern is plain is whether it is from here on.
use mathlib.Core.Path.{sym, ◌∙◌}
use Rattle.plain.proofs.Turns.{plain_end, plain_stops, plain_passes}
use Rattle.plain.proofs.check.is_plain.Goals as goal

pub returns-in_default : goal.returns-in_default
returns-in_default c = sym (c.loop-at.invariant ∙ plain_stops _ _ _ _ c.loop-at-test.true _ c.look_at.ensures.is c.in_default.is)

pub loop-at-preserved : goal.loop-at-preserved
loop-at-preserved c = let w = c.in-Some.ensures.within in
    c.loop-at.invariant ∙ plain_passes _ _ _ _ c.loop-at-test.true _ c.look_at.ensures.is c.in-Some.look c.in-Some.is w.0 w.1

pub returns : goal.returns
returns c = sym (c.loop-at.invariant ∙ plain_end _ _ _ _ c.loop-at-test.false)
