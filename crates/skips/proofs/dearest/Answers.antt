-- `skips::dearest` meets its contract. Assumes nothing.
use Rattle.skips.proofs.Passing.{dearest_part, dearest_chain}
use Rattle.skips.proofs.dearest.Goals as goal

pub returns-then-symbols-eq0 : goal.returns-then-symbols-eq0
returns-then-symbols-eq0 c = dearest_part _ c.if-symbols-eq0.true

pub returns : goal.returns
returns c = dearest_chain _ c.if-symbols-eq0.false
