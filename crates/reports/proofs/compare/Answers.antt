-- `reports::compare` is safe: a report is no longer than its room.
use native.Mathlib.Omega.{arith}
use lib.ListN.{length-take}
use Rattle.report_files.proofs.Rooms.{reported_length, reported_size}
use Rattle.reports.proofs.compare.Goals as goal

pub slice_bounds-text-end : goal.slice_bounds-text-end
slice_bounds-text-end g c =
    let size = reported_size _ _ _ c.read_report-size.ensures in
    let same = reported_length _ _ _ c.read_report-size.ensures (omega arith) in
    omega arith

pub slice_bounds-tell-end-2 : goal.slice_bounds-tell-end-2
slice_bounds-tell-end-2 g c =
    let size = reported_size _ _ _ c.read_report-size.ensures in
    let same = reported_length _ _ _ c.read_report-size.ensures (omega arith) in
    simp length-take (omega arith)
