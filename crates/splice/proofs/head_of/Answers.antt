-- `splice::head_of` meets its contract.
use native.Mathlib.Omega.{arith}
use mathlib.Core.Path.{sym, ◌∙◌}
use Rattle.splice.proofs.Heads.{head_nothing, head_plain, head_short, head_list}
use Rattle.splice.proofs.head_of.Goals as goal

pub returns-in_err-b-clause-is : goal.returns-in_err-b-clause-is
returns-in_err-b-clause-is c = c.from_residual.ensures ∙ head_nothing _ _ _ (omega (arith, c.in_err-b.ensures.item))

pub returns-then-entry-clause-is : goal.returns-then-entry-clause-is
returns-then-entry-clause-is c = let first = c.in_ok-b.ensures.item.3 in
    rw c.entry_of-entry.ensures (head_plain _ _ _ first.0 _ (first.1 0) (λ e. c.if-entry.true (c.entry_of-entry.ensures ∙ e)))

pub returns-in_err-kids-clause-is : goal.returns-in_err-kids-clause-is
returns-in_err-kids-clause-is c = let first = c.in_ok-b.ensures.item.3 in
    c.from_residual-in_err-kids.ensures
    ∙ head_short _ _ _ first.0 _ (first.1 0) (sym c.entry_of-entry.ensures ∙ c.if-entry.false) c.in_err-kids.ensures.lookup.3

pub returns-clause-is : goal.returns-clause-is
returns-clause-is c = let first = c.in_ok-b.ensures.item.3 in
    let second = c.in_ok-kids.ensures.lookup.3 in
    rw (second.1 0, c.class_of.ensures) (head_list _ _ _ first.0 _ (first.1 0) (sym c.entry_of-entry.ensures ∙ c.if-entry.false) second.0)
