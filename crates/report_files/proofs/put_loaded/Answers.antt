-- `report_files::put_loaded` meets its contract.
use Rattle.report_files.proofs.Rooms.{on_bytes}
use Rattle.report_files.proofs.put_loaded.Goals as goal

pub returns : goal.returns
returns c =
    let p = on_bytes _ _ _ _ _ _ _ _ _ c.bytes_of.ensures c.bytes_of-2.ensures c.bytes_of-3.ensures (c.put_report.ensures.size, c.put_report.ensures.contents) in
    record { value = p.0; out_value = p.1 }
