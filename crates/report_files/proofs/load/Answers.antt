-- `report_files::load` meets its contract.
use native.Mathlib.Omega.{arith}
use Rattle.report_files.proofs.Rooms.{room_within, room_loaded}
use Rattle.report_files.proofs.load.Goals as goal

pub overflow_add-end : goal.overflow_add-end
overflow_add-end g c = record { fits = omega (arith, c.room_of.ensures, c.start_of-start.ensures, room_within c.args.file) }

pub slice_bounds-read_all-end : goal.slice_bounds-read_all-end
slice_bounds-read_all-end g c = omega (arith, c.room_of.ensures, c.start_of-start.ensures, c.requires, room_within c.args.file)

pub returns : goal.returns
returns g c = room_loaded c.read_all.result c.args.file c.args.files.now c.read_all.new.buffer _ _ c.start_of-start.ensures c.room_of.ensures c.requires c.read_all.ensures c.read_all.auto.buffer
