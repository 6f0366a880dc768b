-- `station::copy_bytes` meets its contract.
use mathlib.Core.Path.{◌∙◌}
use Rattle.station.proofs.Copies.{copied}
use Rattle.station.proofs.copy_bytes.Goals as goal

pub returns : goal.returns
returns c = let a = c.args in
    c.copy_within.ensures.after ∙ copied a.records.now a.from a.to a.n c.requires.0 c.requires.1
