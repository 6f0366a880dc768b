-- `report_files::read_report` meets its contract.
use Rattle.report_files.proofs.Rooms.{rooms_reported}
use Rattle.report_files.proofs.read_report.Goals as goal

pub returns : goal.returns
returns g c = rooms_reported c.load-t.result.size c.load-r.result.size c.load-s.result.size _ _ _ _ c.load-t.ensures.held.within c.load-r.ensures.held.within c.load-s.ensures.held.within
    (c.put_loaded.ensures.value, c.put_loaded.ensures.out_value)
