-- `example::try_sizes` meets its contract.
use Rattle.term.specs.Lent.{language_by}
use Rattle.example.proofs.Trials.{Sizing}
use Rattle.example.proofs.try_sizes.Given as goal

abbrev pub invariant-loop-length : goal.invariant-loop-length
invariant-loop-length l = Sizing (language_by l.search.language) l.search.lower l.search.pattern.now l.search.allowance l.size l.s l.length
