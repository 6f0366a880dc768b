-- `example::find_twins` meets its contract.
use Rattle.example.proofs.Notes.{standing_start_holds}
use Rattle.example.proofs.find_twins.Goals as goal

pub loop-s-init : goal.loop-s-init
loop-s-init c = let a = c.args in standing_start_holds a.table.now a.classes.now a.kept.now
