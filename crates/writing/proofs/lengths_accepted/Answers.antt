-- `writing::lengths_accepted` meets its contract.
use native.Mathlib.Omega.{arith}
use mathlib.Core.Path.{sym, ◌∙◌}
use Rattle.writing.proofs.Lengths.{lengths_zero, lengths_over, lengths_next, lengths_end}
use Rattle.writing.proofs.lengths_accepted.Goals as goal
use Rattle.writing.proofs.lengths_accepted.Goals.{then-n-eq0-via-then-n-eq0, then-n-eq0-via-else-n-eq0+then-left-n}

pub returns-then-n-eq0 : goal.returns-then-n-eq0
returns-then-n-eq0 c = let turn = c.loop-length in
    let ns = c.args.lengths.now in
    elim c.then-n-eq0.branch [
      | then-n-eq0-via-then-n-eq0 w ↦ sym (turn.invariant.1 ∙ lengths_zero ns turn.length-index turn.left (omega arith) (omega arith))
      | then-n-eq0-via-else-n-eq0+then-left-n w ↦ sym (turn.invariant.1 ∙ lengths_over ns turn.length-index turn.left (omega arith) (omega arith))
    ]

pub loop-length-preserved : goal.loop-length-preserved
loop-length-preserved c = let turn = c.loop-length in
    let next = lengths_next c.args.lengths.now turn.length-index turn.left (omega arith) (omega arith) (omega arith) in
    (omega arith, turn.invariant.1 ∙ next ∙ rw c.from-n.ensures)

pub returns : goal.returns
returns c = let turn = c.loop-length in
    sym (turn.invariant.1 ∙ lengths_end c.args.lengths.now turn.length-index turn.left (omega arith))
