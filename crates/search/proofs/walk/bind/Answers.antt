-- `search::walk::bind` meets its contract. Assumes nothing.
use Rattle.search.proofs.walk.bind.Goals as goal

pub returns : goal.returns
returns c = (rw (← c.from-i.ensures) c.also.ensures, rw (c.packed.ensures, c.bound.ensures, c.from-i.ensures))
