-- `sheet::check_among` meets its contract.
use mathlib.Core.Bool.{true, false}
use mathlib.Core.Path.{sym, ap, ◌∙◌}
use Rattle.std.proofs.lemmas.Result.{err_from_is_err_and}
use Rattle.sheet.specs.Check.{allowed}
use Rattle.sheet.proofs.Contents.{among_refused, among_checked}
use Rattle.sheet.proofs.check_among.Goals as goal

pub returns-in_err-n : goal.returns-in_err-n
returns-in_err-n c = let p = err_from_is_err_and c.from_residual.result c.from_residual.ensures.1 in
    rw (p.1, p.2) (sym (among_refused c.args.only c.args.sheet.now _ (sym c.check_sheet.ensures.is ∙ c.in_err-n.was)))

pub returns-then-allows : goal.returns-then-allows
returns-then-allows c = let args = c.args in
    let allows = sym (ap (allowed args.only) c.edition_of.ensures) ∙ sym c.allows.ensures ∙ c.if-allows.true in
    sym (among_checked args.only args.sheet.now _ true (sym c.check_sheet.ensures.is ∙ c.in_ok-n.was) allows)

pub returns : goal.returns
returns c = let args = c.args in
    let allows = sym (ap (allowed args.only) c.edition_of.ensures) ∙ sym c.allows.ensures ∙ c.if-allows.false in
    rw c.at.ensures (sym (among_checked args.only args.sheet.now _ false (sym c.check_sheet.ensures.is ∙ c.in_ok-n.was) allows))
