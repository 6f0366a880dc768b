-- `search::halt::reported` meets its contract. Assumes nothing.
use Rattle.search.proofs.halt.reported.Goals as goal

pub returns : goal.returns
returns c = rw (c.stop_of.ensures, c.unpacked-put_by.ensures, c.unpacked-open.ensures, c.unpacked-here.ensures)
