-- `replace::put_each` meets its contract.
use Rattle.replace.proofs.Placings.{Placing}
use Rattle.replace.proofs.Splices.{lists}
use Rattle.replace.specs.Splice.{listed_in}
use Rattle.term.specs.Lent.{language_by}
use lib.ListN.{length}
use Prim.Native.Nat.{◌-◌}
use Rattle.replace.proofs.put_each.Given as goal

abbrev pub invariant-loop-used : goal.invariant-loop-used
invariant-loop-used l = Placing l.language.table.now (listed_in (language_by l.language)) (lists (language_by l.language)) l.around l.part l.left l.at l.initial.out l.out l.used l.put l.elements

abbrev pub decreases-loop-used : goal.decreases-loop-used
decreases-loop-used l = length l.part - l.used
