-- The next answer on bytes meets its contracts. Each run name stands further on in the pattern: `levels` falls.
-- Assumes nothing.
use Prim.Native.Nat.{◌+◌, ◌*◌}
use Rattle.search.specs.Level.{levels}
use Rattle.search.proofs.given.+given_length_given_rest.Given as goal

abbrev pub decreases-given_rest : goal.decreases-given_rest
decreases-given_rest l = 2 * levels l.pattern.now l.start.at + 1

abbrev pub decreases-given_length : goal.decreases-given_length
decreases-given_length l = 2 * levels l.pattern.now l.place.at
