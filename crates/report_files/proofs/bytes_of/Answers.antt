-- `report_files::bytes_of` meets its contract.
use native.Mathlib.Omega.{arith}
use mathlib.Core.Path.{ap}
use Rattle.std.specs.Prelude.{Some}
use Rattle.report_files.proofs.Rooms.{room_within, part_bytes_holds}
use Rattle.report_files.proofs.bytes_of.Goals as goal

pub overflow_add-end : goal.overflow_add-end
overflow_add-end c =
    let bound = rw c.in_ok-end.was at c.requires.size_bound in
    record { fits = omega (arith, bound, c.start_of-start.ensures, room_within c.args.file) }

pub slice_bounds-result-end : goal.slice_bounds-result-end
slice_bounds-result-end c =
    let bound = rw c.in_ok-end.was at c.requires.size_bound in
    omega (arith, bound, c.start_of-start.ensures, c.requires.files_len, room_within c.args.file)

pub returns : goal.returns
returns c = rw c.in_ok-end.was (ap Some (part_bytes_holds c.args.file _ _ _ c.start_of-start.ensures))
