-- `plain::check::is_distinct` meets its contract. The invariant: from here on the bytes must be distinct after the variables seen so far.
use Rattle.plain.proofs.Sight.{Sighted}
use Rattle.plain.proofs.check.is_distinct.Given as goal

abbrev pub invariant-loop-b : goal.invariant-loop-b
invariant-loop-b l = Sighted l.b-items l.b-index l.seen l.runs
