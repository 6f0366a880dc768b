-- `station::begin` meets its contract.
use Rattle.station.specs.Call.{outcome}
use Rattle.std.specs.Prelude.{Ok}
use Rattle.station.proofs.begin.Goals as goal

pub returns : goal.returns
returns c = λ i. outcome (Ok (tt {0})) (c.lengthened_at.ensures i) (c.put_current.ensures i)
