-- `plain::root_may_hold` meets its contract.
use mathlib.Core.Path.{sym, ◌∙◌}
use borrow.Author.Tests.{eqb-true, eqb-false}
use Rattle.plain.proofs.Nodes.{root_no_pattern, root_no_record, root_by}
use Rattle.plain.proofs.root_may_hold.Goals as goal

pub returns-then-is_empty : goal.returns-then-is_empty
returns-then-is_empty c = root_no_pattern _ _ _ (eqb-true _ _ (sym c.is_empty.ensures ∙ c.if-is_empty.true))

pub returns-then-is_empty-2 : goal.returns-then-is_empty-2
returns-then-is_empty-2 c = root_no_record _ _ _ (eqb-false _ _ (sym c.is_empty.ensures ∙ c.if-is_empty.false)) (eqb-true _ _ (sym c.is_empty-2.ensures ∙ c.if-is_empty-2.true))

pub returns : goal.returns
returns c = root_by _ _ _ (eqb-false _ _ (sym c.is_empty.ensures ∙ c.if-is_empty.false)) (eqb-false _ _ (sym c.is_empty-2.ensures ∙ c.if-is_empty-2.false)) _ c.decode.ensures _
    c.may_hold.ensures
