-- `plain::check::with` meets its contract.
use native.Mathlib.Omega.{arith}
use mathlib.Core.Path.{ap}
use lib.Bits.{bit_or}
use Rattle.parts.proofs.Masks.{power_fits}
use Rattle.plain.proofs.check.with.Goals as goal

pub returns : goal.returns
returns c = ap (bit_or c.args.mask) (power_fits c.args.v (omega (arith, c.requires)))
