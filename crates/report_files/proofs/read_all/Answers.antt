-- `report_files::read_all` meets its contract.
use mathlib.Core.Path.{refl}
use lib.ListN.{length}
use Rattle.report_files.proofs.Rooms.{ok_within}
use Rattle.report_files.proofs.read_all.Goals as goal

pub returns : goal.returns
returns g c = record { named = refl; within = rw c.ok.ensures.value (ok_within c.fill.result (length c.args.buffer.now) c.fill.ensures.within) }
