-- `report_lines::word_of` meets its contract.
use Rattle.report_lines.proofs.word_of.Goals as goal

pub returns-in-Table : goal.returns-in-Table
returns-in-Table c = rw c.in-Table.is

pub returns-in-Rules : goal.returns-in-Rules
returns-in-Rules c = rw c.in-Rules.is

pub returns-in-States : goal.returns-in-States
returns-in-States c = rw c.in-States.is
