-- `plain::runs::tree_bytes` meets its contract.
use mathlib.Core.Path.{sym, ◌∙◌}
use Rattle.plain.proofs.Among.{leaf_bytes}
use Rattle.term.proofs.Pairs.{together}
use Rattle.plain.proofs.runs.tree_bytes.Goals as goal

pub returns-then-entry_of-eq0 : goal.returns-then-entry_of-eq0
returns-then-entry_of-eq0 c = together (leaf_bytes _ _ c.requires (sym c.entry_of.ensures ∙ c.if-entry_of-eq0.true)) (λ first rest. record { is = first; within = rest })
