-- `sheet::place_of` meets its contract.
use mathlib.Core.Path.{sym, ◌∙◌}
use Rattle.sheet.proofs.Entries.{pair_within_holds, place_passed, place_refused}
use Rattle.sheet.proofs.place_of.Goals as goal

pub offset_at-requires : goal.offset_at-requires
offset_at-requires c = pair_within_holds c.args.sheet.now c.args.index _ (sym c.check_entry.ensures ∙ c.in-Ok.is)

pub length_at-requires : goal.length_at-requires
length_at-requires c = pair_within_holds c.args.sheet.now c.args.index _ (sym c.check_entry.ensures ∙ c.in-Ok.is)

pub returns-in-Ok : goal.returns-in-Ok
returns-in-Ok c = rw (c.at.ensures, c.offset_at.ensures, c.length_at.ensures) (sym (place_passed c.args.sheet.now c.args.index _ (sym c.check_entry.ensures ∙ c.in-Ok.is)))

pub returns-in-Err : goal.returns-in-Err
returns-in-Err c = sym (place_refused c.args.sheet.now c.args.index _ (sym c.check_entry.ensures ∙ c.in-Err.is))
