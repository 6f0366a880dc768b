-- `search::first::first_pair` meets its contract. Assumes nothing.
use native.Mathlib.Omega.{arith}
use mathlib.Core.Path.{sym, ◌∙◌}
use Rattle.search.proofs.FirstPairs.{symbol_differs, symbol_agrees}
use Rattle.search.proofs.first.first_pair.Goals as goal

pub returns-then-not-same_symbol : goal.returns-then-not-same_symbol
returns-then-not-same_symbol c = symbol_differs _ _ _ _ _ _ _ c.if-left-eq0.false
    (omega arith) (omega arith) _ c.decode.ensures
    c.in-Symbol.is (sym c.same_symbol.ensures ∙ c.if-not-same_symbol.true)

pub returns-then-entry_of-eq0 : goal.returns-then-entry_of-eq0
returns-then-entry_of-eq0 c = symbol_agrees _ _ _ _ _ _ _ c.if-left-eq0.false
    (omega arith) (omega arith) _ c.decode.ensures
    c.in-Symbol.is (sym c.same_symbol.ensures ∙ c.if-not-same_symbol.false) _ c.entry_of.ensures c.if-entry_of-eq0.true
