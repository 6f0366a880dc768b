-- `skips::ends` meets its contract. Assumes nothing.
use mathlib.Core.Path.{refl}
use Rattle.skips.specs.Passed.{ends_chain}
use Rattle.skips.proofs.ends.Goals as goal

pub returns : goal.returns
unfolding ends_chain
returns c = rw (← c.entry_of-entry.ensures) refl
