-- `steps::plain` meets its contract. Assumes nothing.
use native.Mathlib.Omega.{arith}
use mathlib.Core.Path.{◌∙◌}
use lib.ListN.{drop, length-drop}
use borrow.Author.Tests.{eq-eqb, ne_eqb}
use Rattle.term.proofs.Lists.{some_left, none_left, rest_part}
use Rattle.steps.specs.Turn.{plain_step}
use Rattle.steps.proofs.Turns.{plain_pair}
use Rattle.steps.proofs.plain.Goals as goal

pub returns-then-elements-eq0 : goal.returns-then-elements-eq0
unfolding plain_step
returns-then-elements-eq0 c = simp (eq-eqb _ _ c.if-elements-eq0.true)

pub returns-then-record-node : goal.returns-then-record-node
unfolding plain_step
returns-then-record-node c = let args = c.args in
    simp (ne_eqb _ _ c.if-elements-eq0.false, none_left args.«record».now args.node c.if-record-node.true)

pub returns-then-left-eq0 : goal.returns-then-left-eq0
unfolding plain_step
returns-then-left-eq0 c = let args = c.args in
    simp (ne_eqb _ _ c.if-elements-eq0.false, some_left args.«record».now args.node c.if-record-node.false, eq-eqb _ _ c.if-left-eq0.true)

pub returns : goal.returns
returns c = let args = c.args in
    plain_pair _ _ _ _ _ (drop args.at args.pattern.now) (drop args.node args.«record».now) _ _ _ _ c.if-elements-eq0.false
    (λ z. omega (arith, length-drop args.node args.«record».now)) c.if-left-eq0.false
    (c.pair.ensures ∙ rw (rest_part args.at args.pattern.now, rest_part args.node args.«record».now))
