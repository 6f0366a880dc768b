-- `replace::measured` meets its contract.
use mathlib.Core.Path.{◌≡◌, subst, ◌∙◌}
use native.Mathlib.Omega.{arith}
use Rattle.std.specs.Prelude.{Some, None}
use Rattle.std.proofs.lemmas.Result.{err_from_is_err_and}
use Rattle.answers.specs.declared.Refusal.TheVariants.{Outgrown}
use Rattle.term.specs.Lent.{language_by}
use Rattle.replace.specs.Filling.{Fills}
use Rattle.replace.specs.Splice.{listed_in}
use Rattle.replace.proofs.Looks.{measures_unfit, measures_long, measures_bound}
use Rattle.replace.proofs.measured.Goals as goal

pub returns-in_err-filled : goal.returns-in_err-filled
returns-in_err-filled c = let a = c.args in
    let p = err_from_is_err_and c.from_residual.result c.from_residual.ensures.1 in
    let none : c.fill_whole.result ≡ None = grind arith in
    let told : c.in_err-filled.field-0.0 ≡ Outgrown = grind arith in
    rw (p.1, p.2 ∙ told) (measures_unfit (language_by a.language.now) a.template.now a.matched.now.bytes.now a.matched.now.answer.now a.count
    (subst (Fills a.language.now.table.now (listed_in (language_by a.language.now)) None a.template.now a.matched.now.bytes.now a.matched.now.answer.now 32) none c.fill_whole.ensures.is))

pub returns-then-filled-gt-LONGEST_RECORD : goal.returns-then-filled-gt-LONGEST_RECORD
returns-then-filled-gt-LONGEST_RECORD c = let a = c.args in
    let some : c.fill_whole.result ≡ Some c.in_ok-filled.filled = grind arith in
    measures_long (language_by a.language.now) a.template.now a.matched.now.bytes.now a.matched.now.answer.now a.count c.in_ok-filled.filled.length c.in_ok-filled.filled.elements
    (subst (Fills a.language.now.table.now (listed_in (language_by a.language.now)) None a.template.now a.matched.now.bytes.now a.matched.now.answer.now 32) some c.fill_whole.ensures.is)
    c.if-filled-gt-LONGEST_RECORD.true

pub returns : goal.returns
returns c = let a = c.args in
    let some : c.fill_whole.result ≡ Some c.in_ok-filled.filled = grind arith in
    measures_bound (language_by a.language.now) a.template.now a.matched.now.bytes.now a.matched.now.answer.now a.count c.in_ok-filled.filled.length c.in_ok-filled.filled.elements
    (subst (Fills a.language.now.table.now (listed_in (language_by a.language.now)) None a.template.now a.matched.now.bytes.now a.matched.now.answer.now 32) some c.fill_whole.ensures.is)
    c.if-filled-gt-LONGEST_RECORD.false
