-- `writing::put_directory` meets its contract.
use native.Mathlib.Omega.{arith}
use mathlib.Core.Path.{sym, ◌∙◌}
use Rattle.writing.proofs.Stores.{pairs_next, pairs_end}
use Rattle.writing.proofs.Lengths.{sum_next}
use Rattle.writing.proofs.put_directory.Goals as goal

pub overflow_add-at-in-loop-i : goal.overflow_add-at-in-loop-i
overflow_add-at-in-loop-i c = omega (arith, sum_next c.args.lengths.now c.loop-i.i c.loop-i-test.true)

pub loop-i-preserved : goal.loop-i-preserved
loop-i-preserved c = let turn = c.loop-i in
    let ns = c.args.lengths.now in
    let h = c.loop-i-test.true in
    (omega (arith, sum_next ns turn.i h), rw (c.put_word-in-loop-i.ensures, c.put_word.ensures) (turn.invariant.1 ∙ pairs_next turn.output turn.i turn.at ns h))

pub returns : goal.returns
returns c = let turn = c.loop-i in
    sym (turn.invariant.1 ∙ pairs_end turn.output turn.i turn.at c.args.lengths.now (omega arith))
