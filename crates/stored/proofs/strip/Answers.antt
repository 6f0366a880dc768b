-- `stored::strip` meets its contract. The invariant: the old form of the bytes from `at` on is still to be put.
use mathlib.Core.Path.{sym}
use Rattle.stored.proofs.Passing.{strip_ends, strip_other, strip_cut, strip_list}
use Rattle.stored.proofs.strip.Goals as goal

pub loop-at-preserved-then-not-count_next : goal.loop-at-preserved-then-not-count_next
loop-at-preserved-then-not-count_next c = let h = c.loop-at.invariant in
    (h.0, strip_other h.1 c.loop-at-test.true (sym c.if-not-count_next.ensures) _ c.store.ensures)

pub returns-then-s-at-clause-size : goal.returns-then-s-at-clause-size
returns-then-s-at-clause-size c =
    (strip_cut c.loop-at.invariant.1 c.loop-at-test.true (sym c.if-not-count_next.ensures) c.if-s-at.true _ c.store.ensures).0

pub returns-then-s-at-clause-contents : goal.returns-then-s-at-clause-contents
returns-then-s-at-clause-contents c =
    (strip_cut c.loop-at.invariant.1 c.loop-at-test.true (sym c.if-not-count_next.ensures) c.if-s-at.true _ c.store.ensures).1

pub loop-at-preserved : goal.loop-at-preserved
loop-at-preserved c = let h = c.loop-at.invariant in
    (h.0, strip_list h.1 c.loop-at-test.true (sym c.if-not-count_next.ensures) c.if-s-at.false _ _ c.store.ensures c.store-in-loop-at.ensures)

pub returns-clause-size : goal.returns-clause-size
returns-clause-size c = (strip_ends c.loop-at.invariant.1 c.loop-at-test.false).0

pub returns-clause-contents : goal.returns-clause-contents
returns-clause-contents c = (strip_ends c.loop-at.invariant.1 c.loop-at-test.false).1
