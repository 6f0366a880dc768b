-- `replace::store_all` meets its contract.
use mathlib.Core.Path.{◌∙◌}
use native.Mathlib.Omega.{arith}
use Rattle.replace.proofs.Stored.{stored_next}
use Rattle.replace.proofs.store_all.Goals as goal

pub loop-i-preserved : goal.loop-i-preserved
loop-i-preserved c = (c.store.auto.out ∙ c.loop-i.invariant.0, c.store.ensures ∙ stored_next c.loop-i.out c.args.out.now c.args.at c.args.s.now c.loop-i.i (omega arith) c.loop-i.invariant.1)
