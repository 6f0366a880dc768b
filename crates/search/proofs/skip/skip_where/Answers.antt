-- `search::skip::skip_where` meets its contract. Assumes nothing.
use Rattle.search.specs.Inner.Skips.{Skips}
use Rattle.search.proofs.skip.skip_where.Goals as goal

pub returns-then-not-scans : goal.returns-then-not-scans
returns-then-not-scans c = Skips.nothing c.none.ensures
