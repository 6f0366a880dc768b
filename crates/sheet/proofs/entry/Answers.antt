-- `sheet::entry` meets its contract.
use mathlib.Core.Path.{sym, ap, ◌∙◌}
use Rattle.answers.specs.Shown.{fault_number}
use Rattle.sheet.proofs.Entries.{no_entry, entry_of_part}
use Rattle.sheet.proofs.entry.Goals as goal

pub returns-in-Err : goal.returns-in-Err
returns-in-Err c =
    let p = no_entry c.args.sheet c.args.index _ (sym c.check_entry.ensures ∙ c.in-Err.is) in
    record { bytes = p.0; place = p.1 }

pub returns-in-Ok : goal.returns-in-Ok
returns-in-Ok c =
    let p = entry_of_part c.args.sheet c.args.index (ap fault_number (sym c.check_entry.ensures ∙ c.in-Ok.is)) _ _ (c.part_at.ensures.bytes, c.part_at.ensures.place) in
    record { bytes = p.0; place = p.1 }
