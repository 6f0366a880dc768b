-- `report_lines::bytes_in` meets its contract.
use Rattle.report_lines.proofs.bytes_in.Goals as goal

pub returns-in-Some : goal.returns-in-Some
returns-in-Some c = rw c.in-Some.is

pub returns-in-None : goal.returns-in-None
returns-in-None c = rw c.in-None.is
