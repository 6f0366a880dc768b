-- `matcher::match_checked` meets its contract.
use native.Mathlib.Omega.{arith}
use mathlib.Core.Path.{refl}
use Rattle.matcher.proofs.Demanded.{on_bytes}
use Rattle.matcher.proofs.Matched.{narrow_matched, left_within, search_matched}
use borrow.Author.Rules.{rules}
use Rattle.matcher.proofs.match_checked.Goals as goal

pub returns-then-answer-lt-ANSWER_WIDTH-clause-is : goal.returns-then-answer-lt-ANSWER_WIDTH-clause-is
returns-then-answer-lt-ANSWER_WIDTH-clause-is c = (on_bytes _ _ _ _ _ _ (λ i. omega (arith, c.type_inv.pattern i)) (λ i. omega (arith, c.type_inv.«record» i)) _ _
    (narrow_matched _ _ _ _ _ _ (omega arith)) refl).0

pub returns-then-answer-lt-ANSWER_WIDTH-clause-buffer : goal.returns-then-answer-lt-ANSWER_WIDTH-clause-buffer
returns-then-answer-lt-ANSWER_WIDTH-clause-buffer c = (on_bytes _ _ _ _ _ _ (λ i. omega (arith, c.type_inv.pattern i)) (λ i. omega (arith, c.type_inv.«record» i)) _ _
    (narrow_matched _ _ _ _ _ _ (omega arith)) refl).1.0

pub returns-then-answer-lt-ANSWER_WIDTH-clause-demand : goal.returns-then-answer-lt-ANSWER_WIDTH-clause-demand
returns-then-answer-lt-ANSWER_WIDTH-clause-demand c = (on_bytes _ _ _ _ _ _ (λ i. omega (arith, c.type_inv.pattern i)) (λ i. omega (arith, c.type_inv.«record» i)) _ _
    (narrow_matched _ _ _ _ _ _ (omega arith)) refl).1.1

pub ended-requires : goal.ended-requires
ended-requires c = left_within _ _ _ _ _ _ c.search-end.ensures.is

pub shape_of-answer : goal.shape_of-answer
shape_of-answer c = search rules

pub returns-clause-is : goal.returns-clause-is
returns-clause-is c = (on_bytes _ _ _ _ _ _ (λ i. omega (arith, c.type_inv.pattern i)) (λ i. omega (arith, c.type_inv.«record» i)) _ _
    (search_matched _ _ _ _ _ _ (omega arith) _ c.search-end.ensures.is _ c.ended.ensures _ c.search-end.ensures.shows) (shape_of-answer c)).0

pub returns-clause-buffer : goal.returns-clause-buffer
returns-clause-buffer c = (on_bytes _ _ _ _ _ _ (λ i. omega (arith, c.type_inv.pattern i)) (λ i. omega (arith, c.type_inv.«record» i)) _ _
    (search_matched _ _ _ _ _ _ (omega arith) _ c.search-end.ensures.is _ c.ended.ensures _ c.search-end.ensures.shows) (shape_of-answer c)).1.0

pub returns-clause-demand : goal.returns-clause-demand
returns-clause-demand c = (on_bytes _ _ _ _ _ _ (λ i. omega (arith, c.type_inv.pattern i)) (λ i. omega (arith, c.type_inv.«record» i)) _ _
    (search_matched _ _ _ _ _ _ (omega arith) _ c.search-end.ensures.is _ c.ended.ensures _ c.search-end.ensures.shows) (shape_of-answer c)).1.1
