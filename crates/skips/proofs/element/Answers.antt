-- `skips::element` meets its contract. Assumes nothing.
use native.Mathlib.Omega.{arith}
use mathlib.Core.Path.{sym, ◌∙◌}
use Rattle.skips.proofs.Passing.{leaf_extent}
use Rattle.skips.proofs.element.Goals as goal

pub returns-then-entry_of-eq0-clause-is : goal.returns-then-entry_of-eq0-clause-is
returns-then-entry_of-eq0-clause-is c = leaf_extent _ _ (omega arith) (sym c.entry_of.ensures ∙ c.if-entry_of-eq0.true)
