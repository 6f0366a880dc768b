-- `search::given::pairs` meets its contract. Assumes nothing.
use native.Mathlib.Omega.{arith}
use mathlib.Core.Bool.{true}
use Rattle.search.proofs.Begins.{level_from, none_begun}
use Rattle.search.proofs.Levels.{level_halts}
use Rattle.search.proofs.given.pairs.Goals as goal

pub level-outcome-requires-clause-begun_at : goal.level-outcome-requires-clause-begun_at
level-outcome-requires-clause-begun_at c = rw (
  c.next.ensures,
  c.remaining.ensures,
  c.queue.ensures,
  c.nodes.ensures,
) (none_begun true c.requires.holding (omega (arith, c.well_formed)))

pub level-outcome-requires-clause-short : goal.level-outcome-requires-clause-short
level-outcome-requires-clause-short c = c.requires.short

pub returns : goal.returns
returns c = record {
  outcome = c.level-outcome.result;
  assigned = _;
  left = _;
  halts =
      level_halts c.requires.holding (omega (arith, c.well_formed))
      (level_from (rw (c.queue.ensures, c.nodes.ensures)) (rw (c.next.ensures, c.remaining.ensures)) c.level-outcome.ensures);
  is = c.reported.ensures;
}
