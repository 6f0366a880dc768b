-- `skips::small_element` meets its contract. Assumes nothing.
use native.Mathlib.Omega.{arith}
use mathlib.Core.Path.{sym, ◌∙◌}
use Rattle.skips.proofs.Passing.{leaf_extent, one_leaf, two_leaves}
use Rattle.skips.proofs.small_element.Goals as goal

pub returns-then-entry-eq0-clause-is : goal.returns-then-entry-eq0-clause-is
returns-then-entry-eq0-clause-is c = leaf_extent _ _ (omega arith) (sym c.entry_of-entry.ensures ∙ c.if-entry-eq0.true)

pub returns-then-leaf-clause-is : goal.returns-then-leaf-clause-is
returns-then-leaf-clause-is c = (one_leaf _ _ (sym c.entry_of-entry.ensures ∙ c.if-entry-eq1.true) (sym c.leaf.ensures ∙ c.if-leaf.true)).0

pub returns-then-leaf-clause-within : goal.returns-then-leaf-clause-within
returns-then-leaf-clause-within c = (one_leaf _ _ (sym c.entry_of-entry.ensures ∙ c.if-entry-eq1.true) (sym c.leaf.ensures ∙ c.if-leaf.true)).1

pub returns-then-leaf-3-clause-is : goal.returns-then-leaf-3-clause-is
returns-then-leaf-3-clause-is c = (two_leaves _ _ (sym c.entry_of-entry.ensures ∙ c.if-entry-eq2.true) (sym c.leaf-then-entry-eq2.ensures ∙ c.if-leaf-2.true)
    (sym c.leaf-then-leaf-2.ensures ∙ c.if-leaf-3.true)).0

pub returns-then-leaf-3-clause-within : goal.returns-then-leaf-3-clause-within
returns-then-leaf-3-clause-within c = (two_leaves _ _ (sym c.entry_of-entry.ensures ∙ c.if-entry-eq2.true) (sym c.leaf-then-entry-eq2.ensures ∙ c.if-leaf-2.true)
    (sym c.leaf-then-leaf-2.ensures ∙ c.if-leaf-3.true)).1
