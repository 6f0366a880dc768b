-- `output::copy` meets its contract. The invariant: the bytes from `i` on are still to be stored.
use native.Mathlib.Omega.{arith}
use native.Mathlib.Nat.{add-zero}
use mathlib.Core.Path.{refl, sym, ◌∙◌}
use lib.ListN.{length-set}
use Rattle.term.proofs.Stores.{bytes_next, bytes_end}
use Rattle.output.proofs.copy.Goals as goal

pub loop-i-init : goal.loop-i-init
loop-i-init c = (refl, rw add-zero)

pub loop-i-preserved : goal.loop-i-preserved
loop-i-preserved c = (simp length-set c.loop-i.invariant.0, c.loop-i.invariant.1 ∙ bytes_next c.loop-i.out c.loop-i.i c.args.at c.args.bytes.now (omega arith))

pub returns : goal.returns
returns c = sym (c.loop-i.invariant.1 ∙ bytes_end c.loop-i.out c.loop-i.i c.args.at c.args.bytes.now (omega arith))
