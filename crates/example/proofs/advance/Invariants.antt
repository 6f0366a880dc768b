-- `example::advance` meets its contract.
use Rattle.example.proofs.Stepping.{Turned}
use Rattle.example.proofs.advance.Given as goal

abbrev pub invariant-loop-i : goal.invariant-loop-i
invariant-loop-i l = Turned l.initial.s l.k l.s l.i
