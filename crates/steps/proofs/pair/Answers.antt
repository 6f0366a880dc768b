-- `steps::pair` meets its contract. Assumes nothing.
use Rattle.steps.specs.Turn.{pair_step}
use Rattle.steps.proofs.pair.Goals as goal

pub returns-in-Symbol : goal.returns-in-Symbol
unfolding pair_step
returns-in-Symbol c = rw c.in-Symbol.is c.symbol.ensures

pub returns-in-Name : goal.returns-in-Name
unfolding pair_step
returns-in-Name c = rw (c.in-Name.is, ← c.part_of.ensures) c.name.ensures

pub returns-in-Run : goal.returns-in-Run
unfolding pair_step
returns-in-Run c = rw c.in-Run.is

pub returns-in-Complement : goal.returns-in-Complement
unfolding pair_step
returns-in-Complement c = rw c.in-Complement.is c.complement_step.ensures

pub returns-in-Refused : goal.returns-in-Refused
unfolding pair_step
returns-in-Refused c = rw c.in-Refused.is
