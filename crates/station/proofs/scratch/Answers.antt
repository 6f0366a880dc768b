use mathlib.Core.Path.{refl}
use Rattle.station.specs.Call.{fresh}
use Rattle.station.proofs.scratch.Goals as goal

pub returns : goal.returns
unfolding fresh
returns c = refl
