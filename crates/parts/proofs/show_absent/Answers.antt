-- `parts::show_absent` meets its contract. Assumes nothing.
use native.Mathlib.Omega.{arith}
use Rattle.parts.proofs.Shown.{absent_shown, narrow_unshown}
use Rattle.parts.proofs.show_absent.Goals as goal

pub returns-then-answer-lt-ANSWER_WIDTH : goal.returns-then-answer-lt-ANSWER_WIDTH
returns-then-answer-lt-ANSWER_WIDTH c = narrow_unshown _ _ c.if-answer-lt-ANSWER_WIDTH.true

pub returns : goal.returns
returns c = absent_shown _ _ (omega arith) c.clear.ensures
