-- `example::try_length` meets its contract.
use lib.ListN.{length}
use Prim.Native.Nat.{◌-◌}
use Rattle.term.specs.Lent.{language_by}
use Rattle.example.proofs.Ranks.{rank, power_of}
use Rattle.example.proofs.Trials.{Running}
use Rattle.example.proofs.try_length.Given as goal

abbrev pub invariant-loop-shared : goal.invariant-loop-shared
invariant-loop-shared l = Running (language_by l.search.language) l.search.lower l.search.pattern.now l.search.allowance l.initial.s l.s

abbrev pub decreases-loop-shared : goal.decreases-loop-shared
decreases-loop-shared l = power_of (length l.s) - rank l.s
