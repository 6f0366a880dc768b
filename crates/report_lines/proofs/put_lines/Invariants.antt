-- `report_lines::put_lines` meets its contract. The invariant: the lines of the states from `state` on are still to be stored.
use Rattle.report_lines.proofs.Turns.{Turn}
use Rattle.report_lines.proofs.put_lines.Given as goal

abbrev pub invariant-loop-state : goal.invariant-loop-state
invariant-loop-state l = Turn l.table l.rules l.states l.initial.out l.initial.at l.out l.state l.at
