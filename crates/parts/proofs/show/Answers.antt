-- `parts::show` meets its contract. Assumes nothing.
use native.Mathlib.Omega.{arith}
use Rattle.parts.proofs.Shown.{first_next, second_next, both_shown, narrow_unshown}
use Rattle.parts.proofs.show.Goals as goal

pub returns-then-answer-lt-ANSWER_WIDTH : goal.returns-then-answer-lt-ANSWER_WIDTH
returns-then-answer-lt-ANSWER_WIDTH c = narrow_unshown _ _ c.if-answer-lt-ANSWER_WIDTH.true

pub show_from-requires-clause-answer_value : goal.show_from-requires-clause-answer_value
show_from-requires-clause-answer_value c = let args = c.args in
    first_next _ args.answer.now _ c.clear.ensures _

pub show_from-requires-2-clause-answer_value : goal.show_from-requires-2-clause-answer_value
show_from-requires-2-clause-answer_value c = let args = c.args in
    second_next _ args.answer.now _ c.clear.ensures _ _ _ c.show_from.ensures (omega arith)

pub returns : goal.returns
returns c = both_shown _ _ _ c.clear.ensures _ _ _ c.show_from.ensures _ _
    (omega arith) (omega arith) c.show_from-2.ensures
