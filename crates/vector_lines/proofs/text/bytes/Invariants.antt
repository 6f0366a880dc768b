-- The measure is the length of what is left of the text; nothing has to hold from turn to turn.
use Rattle.std.proofs.Common.{length}
use Rattle.vector_lines.proofs.text.bytes.Given as goal

abbrev pub invariant-loop-rest : goal.invariant-loop-rest
invariant-loop-rest l = Unit {0}

abbrev pub decreases-loop-rest : goal.decreases-loop-rest
decreases-loop-rest l = length l.rest
