-- `search::walk::also` meets its contract. Assumes nothing.
use mathlib.Core.Path.{ap}
use lib.Bits.{bit_or}
use Rattle.parts.proofs.Masks.{power_fits}
use Rattle.search.proofs.walk.also.Goals as goal

pub returns : goal.returns
returns c = ap (bit_or c.args.assigned) (power_fits c.args.v c.requires)
