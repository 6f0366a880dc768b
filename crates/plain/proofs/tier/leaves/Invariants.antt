-- `plain::tier::leaves` meets its contract. The invariant: so many hold, and those from here on.
use Rattle.plain.proofs.Holding.{Held}
use Rattle.plain.proofs.tier.leaves.Given as goal

abbrev pub invariant-loop-n : goal.invariant-loop-n
invariant-loop-n l = Held l.language.table.now l.language.classes.now l.q l.r l.n
