-- `steps::symbol` meets its contract. Assumes nothing.
use native.Mathlib.Omega.{arith}
use lib.ListN.{length}
use mathlib.Core.Path.{sym, ◌∙◌}
use borrow.Author.Tests.{le-leb, lt-leb, not-true}
use Rattle.steps.specs.Turn.{symbol_step}
use Rattle.steps.proofs.Turns.{symbol_leaf, symbol_fixed, symbol_list, symbol_short}
use mathlib.Core.Bool.{not}
use mathlib.Core.Path.{ap}
use Rattle.steps.proofs.symbol.Goals as goal

pub returns-then-not-same_symbol : goal.returns-then-not-same_symbol
unfolding symbol_step
returns-then-not-same_symbol c = rw (← c.same_symbol.ensures, not-true c.same_symbol.result (ap not c.if-not-same_symbol.true))

pub returns-then-entry-eq0 : goal.returns-then-entry-eq0
returns-then-entry-eq0 c = symbol_leaf _ _ _ _ _ (sym c.same_symbol.ensures ∙ c.if-not-same_symbol.false) _ c.entry_of-entry.ensures c.if-entry-eq0.true

pub returns-then-entry : goal.returns-then-entry
returns-then-entry c = symbol_fixed _ _ _ _ _ (sym c.same_symbol.ensures ∙ c.if-not-same_symbol.false) _ c.entry_of-entry.ensures c.if-entry-eq0.false
    c.if-entry.true

pub returns-then-q-lt2 : goal.returns-then-q-lt2
returns-then-q-lt2 c = symbol_short _ _ _ _ _ (sym c.same_symbol.ensures ∙ c.if-not-same_symbol.false) _ c.entry_of-entry.ensures
    c.if-entry-eq0.false (omega arith)
    (rw (lt-leb 2 (length c.args.q.now) c.if-q-lt2.true))

pub returns-then-r-lt2 : goal.returns-then-r-lt2
returns-then-r-lt2 c = symbol_short _ _ _ _ _ (sym c.same_symbol.ensures ∙ c.if-not-same_symbol.false) _ c.entry_of-entry.ensures
    c.if-entry-eq0.false (omega arith)
    (rw (
      le-leb 2 (length c.args.q.now) (omega arith),
      lt-leb 2 (length c.args.r.now) c.if-r-lt2.true,
    ))

pub returns : goal.returns
returns c = symbol_list _ _ _ _ _ (sym c.same_symbol.ensures ∙ c.if-not-same_symbol.false) _
    c.entry_of-entry.ensures c.if-entry-eq0.false (omega arith)
    (omega arith) (omega arith)
