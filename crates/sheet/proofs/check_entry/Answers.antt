-- `sheet::check_entry` meets its contract.
use mathlib.Core.Path.{sym, ◌∙◌}
use Rattle.std.proofs.lemmas.Result.{err_from_is_err_and}
use Rattle.sheet.proofs.Entries.{index_of_refused, index_below, index_past}
use Rattle.sheet.proofs.check_entry.Goals as goal

pub returns-in_err-n : goal.returns-in_err-n
returns-in_err-n c = let p = err_from_is_err_and c.from_residual.result c.from_residual.ensures.1 in
    rw (p.1, p.2) (sym (index_of_refused c.args.sheet.now c.args.index _ (sym c.check_sheet.ensures.is ∙ c.in_err-n.was)))

pub returns-then-index-n : goal.returns-then-index-n
returns-then-index-n c = sym (index_below c.args.sheet.now c.args.index _ (sym c.check_sheet.ensures.is ∙ c.in_ok-n.was) c.if-index-n.true)

pub returns : goal.returns
returns c = rw c.at.ensures (sym (index_past c.args.sheet.now c.args.index _ (sym c.check_sheet.ensures.is ∙ c.in_ok-n.was) c.if-index-n.false))
