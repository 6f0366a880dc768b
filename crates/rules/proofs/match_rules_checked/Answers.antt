-- `rules::match_rules_checked` meets its contract. The invariant: the rules before index i are none.
use borrow.Author.Rules.{rules}
use Rattle.std.specs.Prelude.{Ok}
use Rattle.answers.specs.declared.Answer.TheVariants.{Bound, Spent}
use Rattle.rules.proofs.Turns.{narrow_matched, turn_next, turn_stops, turn_ends}
use Rattle.rules.proofs.match_rules_checked.Goals as goal

pub returns-then-answer-lt-ANSWER_WIDTH-clause-is : goal.returns-then-answer-lt-ANSWER_WIDTH-clause-is
returns-then-answer-lt-ANSWER_WIDTH-clause-is c = rw c.at.ensures (narrow_matched _ _ _ _ _ _ c.if-answer-lt-ANSWER_WIDTH.true).0

pub returns-then-answer-lt-ANSWER_WIDTH-clause-buffer : goal.returns-then-answer-lt-ANSWER_WIDTH-clause-buffer
returns-then-answer-lt-ANSWER_WIDTH-clause-buffer c = (narrow_matched _ _ _ _ _ _ c.if-answer-lt-ANSWER_WIDTH.true).1

pub returns-in-Ok-Bound-clause-is : goal.returns-in-Ok-Bound-clause-is
returns-in-Ok-Bound-clause-is c = rw c.from.ensures (turn_stops c.loop-i.invariant _ c.part_at-rule.ensures.bytes _ _ (c.match_checked-own.ensures.is, c.match_checked-own.ensures.buffer) c.loop-i-test.true (Ok (Bound c.in-Ok-Bound.n))
    (search rules) tt).0

pub returns-in-Ok-Bound-clause-buffer : goal.returns-in-Ok-Bound-clause-buffer
returns-in-Ok-Bound-clause-buffer c = (turn_stops c.loop-i.invariant _ c.part_at-rule.ensures.bytes _ _ (c.match_checked-own.ensures.is, c.match_checked-own.ensures.buffer) c.loop-i-test.true (Ok (Bound c.in-Ok-Bound.n))
    (search rules) tt).1

pub returns-in-Ok-Spent-clause-is : goal.returns-in-Ok-Spent-clause-is
returns-in-Ok-Spent-clause-is c = rw c.from-in-Ok-Spent.ensures (turn_stops c.loop-i.invariant _ c.part_at-rule.ensures.bytes _ _ (c.match_checked-own.ensures.is, c.match_checked-own.ensures.buffer) c.loop-i-test.true (Ok (Spent c.in-Ok-Spent.n))
    (search rules) tt).0

pub returns-in-Ok-Spent-clause-buffer : goal.returns-in-Ok-Spent-clause-buffer
returns-in-Ok-Spent-clause-buffer c = (turn_stops c.loop-i.invariant _ c.part_at-rule.ensures.bytes _ _ (c.match_checked-own.ensures.is, c.match_checked-own.ensures.buffer) c.loop-i-test.true (Ok (Spent c.in-Ok-Spent.n))
    (search rules) tt).1

pub returns-in-Err-clause-is : goal.returns-in-Err-clause-is
returns-in-Err-clause-is c = rw c.at-in-Err.ensures (turn_stops c.loop-i.invariant _ c.part_at-rule.ensures.bytes _ _ (c.match_checked-own.ensures.is, c.match_checked-own.ensures.buffer) c.loop-i-test.true _
    c.in-Err.is tt).0

pub returns-in-Err-clause-buffer : goal.returns-in-Err-clause-buffer
returns-in-Err-clause-buffer c = (turn_stops c.loop-i.invariant _ c.part_at-rule.ensures.bytes _ _ (c.match_checked-own.ensures.is, c.match_checked-own.ensures.buffer) c.loop-i-test.true _
    c.in-Err.is tt).1

pub loop-i-preserved : goal.loop-i-preserved
loop-i-preserved c = rw c.from-sum.ensures (turn_next c.loop-i.invariant _ c.part_at-rule.ensures.bytes _ _ (c.match_checked-own.ensures.is, c.match_checked-own.ensures.buffer) c.loop-i-test.true c.in-Ok-None.n
    (search rules) (search rules))

pub returns-clause-is : goal.returns-clause-is
returns-clause-is c = (turn_ends c.loop-i.invariant c.loop-i-test.false).0

pub returns-clause-buffer : goal.returns-clause-buffer
returns-clause-buffer c = (turn_ends c.loop-i.invariant c.loop-i-test.false).1
