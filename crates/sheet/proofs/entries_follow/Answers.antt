-- `sheet::entries_follow` meets its contract.
use native.Mathlib.Omega.{arith}
use mathlib.Core.Path.{sym, ◌∙◌}
use Rattle.sheet.proofs.Checks.{follow_apart, follow_empty, follow_next, follow_end}
use Rattle.sheet.proofs.entries_follow.Goals as goal

pub returns-then-from-at : goal.returns-then-from-at
returns-then-from-at c = let turn = c.loop-i in
    sym (turn.invariant.1 ∙ follow_apart c.args.sheet.now c.args.n turn.i turn.at (omega arith) (omega arith))

pub returns-then-length-eq0 : goal.returns-then-length-eq0
returns-then-length-eq0 c = let turn = c.loop-i in
    sym (turn.invariant.1 ∙ follow_empty c.args.sheet.now c.args.n turn.i turn.at (omega arith) (omega arith) (omega arith))

pub loop-i-preserved : goal.loop-i-preserved
loop-i-preserved c = let turn = c.loop-i in
    let next = follow_next c.args.sheet.now c.args.n turn.i turn.at (omega arith) (omega arith) (omega arith) in
    (omega arith, turn.invariant.1 ∙ next ∙ rw (c.from-length.ensures, c.length_at.ensures))

pub returns : goal.returns
returns c = sym (c.loop-i.invariant.1 ∙ follow_end c.args.sheet.now c.args.n c.loop-i.i c.loop-i.at (omega arith))
