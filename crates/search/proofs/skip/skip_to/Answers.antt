-- `search::skip::skip_to` meets its contract. Assumes nothing.
use native.Mathlib.Omega.{arith}
use Rattle.term.proofs.Lists.{rest_length}
use Rattle.skips.proofs.Passing.{passes_within}
use Rattle.search.proofs.Skips.{skips_to}
use Rattle.search.proofs.skip.skip_to.Goals as goal

pub overflow_add-result : goal.overflow_add-result
overflow_add-result c = omega (arith, passes_within c.seek-k.ensures.passes, rest_length c.args.node c.args.«record».now, c.requires.0, c.requires.1)

pub returns : goal.returns
returns c = skips_to c.seek-k.ensures.passes c.seek-k.ensures.few c.affordable.ensures.fits c.requires.0
