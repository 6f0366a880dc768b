-- `example::try_one` meets its contract.
use mathlib.Core.Path.{sym, ◌∙◌, ap}
use native.Mathlib.Omega.{arith}
use Rattle.std.specs.Prelude.{Ok, Err}
use Rattle.answers.specs.declared.Answer.{Answer}
use Rattle.example.proofs.Trials.{tries_refused, tries_answered}
use Rattle.term.specs.Lent.{language_by}
use Rattle.example.proofs.try_one.Goals as goal

pub returns-then-is_err : goal.returns-then-is_err
returns-then-is_err c = let a = c.args in
    tries_refused (language_by a.search.now.language) a.search.now.pattern.now a.s.now a.search.now.allowance
    c.read_record_in.result c.read_record_in.ensures (sym c.is_err.ensures.value ∙ c.if-is_err.true)

pub returns-in-Ok-Bound : goal.returns-in-Ok-Bound
returns-in-Ok-Bound c = let a = c.args in
    tries_answered (language_by a.search.now.language) a.search.now.pattern.now a.s.now a.search.now.allowance
    (λ i. omega (arith, c.type_inv.s i)) c.read_record_in.result c.read_record_in.ensures (sym c.is_err.ensures.value ∙ c.if-is_err.false) _ (omega arith)
    c.match_checked.result c.match_checked.ensures.is (Ok (Answer.Bound c.in-Ok-Bound.n)) (c.in-Ok-Bound.is ∙ ap Ok c.in-Ok-Bound.field-0-is)

pub returns-in-Ok-Spent : goal.returns-in-Ok-Spent
returns-in-Ok-Spent c = let a = c.args in
    tries_answered (language_by a.search.now.language) a.search.now.pattern.now a.s.now a.search.now.allowance
    (λ i. omega (arith, c.type_inv.s i)) c.read_record_in.result c.read_record_in.ensures (sym c.is_err.ensures.value ∙ c.if-is_err.false) _ (omega arith)
    c.match_checked.result c.match_checked.ensures.is (Ok (Answer.Spent c.in-Ok-Spent.field-0-0)) (c.in-Ok-Spent.is ∙ ap Ok c.in-Ok-Spent.field-0-is)

pub returns-in-Ok-None : goal.returns-in-Ok-None
returns-in-Ok-None c = let a = c.args in
    tries_answered (language_by a.search.now.language) a.search.now.pattern.now a.s.now a.search.now.allowance
    (λ i. omega (arith, c.type_inv.s i)) c.read_record_in.result c.read_record_in.ensures (sym c.is_err.ensures.value ∙ c.if-is_err.false) _ (omega arith)
    c.match_checked.result c.match_checked.ensures.is (Ok (Answer.None c.in-Ok-None.field-0-0)) (c.in-Ok-None.is ∙ ap Ok c.in-Ok-None.field-0-is)

pub returns-in-Err : goal.returns-in-Err
returns-in-Err c = let a = c.args in
    tries_answered (language_by a.search.now.language) a.search.now.pattern.now a.s.now a.search.now.allowance
    (λ i. omega (arith, c.type_inv.s i)) c.read_record_in.result c.read_record_in.ensures (sym c.is_err.ensures.value ∙ c.if-is_err.false) _ (omega arith)
    c.match_checked.result c.match_checked.ensures.is (Err c.in-Err.field-0) c.in-Err.is
