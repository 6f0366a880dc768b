-- `plain::tier::symbol_step` meets its contract.
use mathlib.Core.Path.{sym, ◌∙◌}
use borrow.Author.Tests.{eqb-true, eqb-false}
use Rattle.plain.proofs.Nodes.{symbol_none, symbol_differs, symbol_list, symbol_other}
use Rattle.term.proofs.Pairs.{together}
use Rattle.plain.proofs.tier.symbol_step.Goals as goal

pub returns-then-is_empty : goal.returns-then-is_empty
returns-then-is_empty c = together (symbol_none _ _ _ _ _ (eqb-true _ _ (sym c.is_empty.ensures ∙ c.if-is_empty.true))) (λ first rest. record { is = first; within = rest })

pub returns-then-not-same_symbol : goal.returns-then-not-same_symbol
returns-then-not-same_symbol c = together (symbol_differs _ _ _ _ _ (eqb-false _ _ (sym c.is_empty.ensures ∙ c.if-is_empty.false)) (sym c.same_symbol.ensures ∙ c.if-not-same_symbol.true)) (λ first rest. record { is = first; within = rest })

pub returns-then-entry_of : goal.returns-then-entry_of
returns-then-entry_of c = together (symbol_list _ _ _ _ _ (eqb-false _ _ (sym c.is_empty.ensures ∙ c.if-is_empty.false)) (sym c.same_symbol.ensures ∙ c.if-not-same_symbol.false) _ c.entry_of.ensures
    c.if-entry_of.true _ (c.list_step.ensures.is, c.list_step.ensures.within)) (λ first rest. record { is = first; within = rest })

pub returns : goal.returns
returns c = together (symbol_other _ _ _ _ _ (eqb-false _ _ (sym c.is_empty.ensures ∙ c.if-is_empty.false)) (sym c.same_symbol.ensures ∙ c.if-not-same_symbol.false) _ c.entry_of.ensures
    c.if-entry_of.false c.requires) (λ first rest. record { is = first; within = rest })
