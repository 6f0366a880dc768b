-- `station::apply_brought` meets its contract: each way through it is one law of `Changes`.
use native.Mathlib.Omega.{arith}
use mathlib.Core.Path.{sym, ap, ◌∙◌}
use lib.ListN.{length}
use lib.Seq.{length-take-le}
use borrow.Author.Rules.{rules}
use Rattle.std.specs.Prelude.{Result}
use Rattle.answers.specs.declared.Applied.{Applied}
use Rattle.answers.specs.declared.Refusal.{Refusal}
use Rattle.reader.specs.Lent.{brought_of}
use Rattle.station.specs.Call.{Outcome}
use Rattle.station.proofs.Sound.{done_refused, sound, length_fits}
use Rattle.station.proofs.Shapes.{shaped}
use Rattle.station.proofs.Demands.{apply_demanded}
use Rattle.station.proofs.Changes.{apply_refused, apply_short, apply_done, apply_meant, taken_answer}
use Rattle.station.proofs.apply_brought.Goals as goal

pub returns-in-Err : goal.returns-in-Err
returns-in-Err c = let a = c.args in
    let refused = sym c.check.ensures ∙ c.in-Err.is in
    let is = apply_refused (brought_of a.brought.now) a.rule.now a.template.now a.allowance a.station a.records.now _ refused in
    (is, apply_demanded a.station a.records.now (shaped a.station c.well_formed.1.1.1.1.0) (brought_of a.brought.now) a.rule.now a.template.now a.allowance _ _ _ is (λ done. absurd (done_refused _ (sym refused ∙ done))))

pub slice_bounds-apply_brought-end : goal.slice_bounds-apply_brought-end
slice_bounds-apply_brought-end c = let a = c.args in
    let ok = sound a.station (length a.records.now) (sym c.check.ensures ∙ c.in_default.is) in
    let fits = length_fits a.station (length a.records.now) ok 0 (omega arith) in
    omega (arith, ok.lent, fits, c.from-n.ensures)

pub slice_bounds-apply_brought-end-2 : goal.slice_bounds-apply_brought-end-2
slice_bounds-apply_brought-end-2 c = let a = c.args in
    let ok = sound a.station (length a.records.now) (sym c.check.ensures ∙ c.in_default.is) in
    let fits = length_fits a.station (length a.records.now) ok 0 (omega arith) in
    sym (length-take-le c.from-n.result a.records.now (omega (arith, ok.lent, fits, c.from-n.ensures)))

pub take_up-requires : goal.take_up-requires
take_up-requires c = let a = c.args in
    let ok = sound a.station (length a.records.now) (sym c.check.ensures ∙ c.in_default.is) in (
      apply_short (brought_of a.brought.now) a.rule.now a.template.now a.allowance a.station a.records.now _ a.records.now _ c.scratch-result.ensures
          (rw c.from-n.ensures at c.apply_brought-answer.ensures.is),
      search rules,
      ok.lent,
    )

pub returns : goal.returns
returns c = let a = c.args in
    let brought = brought_of a.brought.now in
    let done = sym c.check.ensures ∙ c.in_default.is in
    let told = rw c.from-n.ensures at c.apply_brought-answer.ensures.is in
    let contents = rw c.from-n.ensures at c.apply_brought-answer.ensures.contents in
    let is = c.take_up.ensures ∙ apply_done brought a.rule.now a.template.now a.allowance a.station a.records.now _ _ _ c.scratch-result.ensures told done contents in
    let meant = apply_meant brought a.rule.now a.template.now a.allowance a.station a.records.now _ _ _ c.scratch-result.ensures told _
    (ap (λ (o : Outcome (Result Applied Refusal)). o.answer) c.take_up.ensures ∙ taken_answer _ _ a.station a.records.now) contents
    (rw c.from-n.ensures at c.apply_brought-answer.ensures.demand) in
    (is, apply_demanded a.station a.records.now (shaped a.station c.well_formed.1.1.1.1.0) brought a.rule.now a.template.now a.allowance _ _ _ is meant)
