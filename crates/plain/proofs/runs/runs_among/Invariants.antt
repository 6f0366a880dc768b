-- `plain::runs::runs_among` meets its contract. The invariant: the run names are those found so far and those among the children left.
use Rattle.plain.proofs.Among.{Among}
use Rattle.plain.proofs.runs.runs_among.Given as goal

abbrev pub invariant-loop-i : goal.invariant-loop-i
invariant-loop-i l = Among l.table l.s l.n l.found l.at l.i
