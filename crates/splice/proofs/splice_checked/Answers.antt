-- `splice::splice_checked` meets its contract.
use native.Mathlib.Omega.{arith}
use mathlib.Core.Path.{refl, sym, ◌≡◌, ◌∙◌}
use lib.ListN.{length}
use Rattle.answers.specs.declared.Refusal.TheVariants.{Long}
use Rattle.std.proofs.lemmas.Result.{err_from_is_err_and}
use Rattle.splice.proofs.Conversions.{call_refused, not_long, call_long, call_full, written_shown, written_output}
use Rattle.splice.proofs.splice_checked.Goals as goal

pub returns-in_err-read_entry-clause-answer : goal.returns-in_err-read_entry-clause-answer
returns-in_err-read_entry-clause-answer c = let args = c.args in
    let l = args.language.now in
    let p = err_from_is_err_and c.from_residual.result c.from_residual.ensures.1 in
    rw (p.1, p.2, call_refused args.records l.table.now l.classes.now args.bytes.now c.requires (length args.output.now) _ (sym c.read_entry.ensures ∙ c.in_err-read_entry.was)) refl

pub returns-in_err-read_entry-clause-contents : goal.returns-in_err-read_entry-clause-contents
returns-in_err-read_entry-clause-contents c = let args = c.args in
    let l = args.language.now in
    rw (call_refused args.records l.table.now l.classes.now args.bytes.now c.requires (length args.output.now) _ (sym c.read_entry.ensures ∙ c.in_err-read_entry.was)) refl

pub put_trees-requires : goal.put_trees-requires
put_trees-requires c = let args = c.args in
    let l = args.language.now in
    omega (
      arith,
      not_long args.records l.table.now l.classes.now args.bytes.now c.requires
          (λ i. omega (arith, c.type_inv.bytes i)) _ (sym c.read_entry.ensures ∙ c.in_ok-read_entry.was),
    )

pub returns-in_err-plan-clause-answer : goal.returns-in_err-plan-clause-answer
returns-in_err-plan-clause-answer c = let args = c.args in
    let l = args.language.now in
    let p = err_from_is_err_and c.from_residual-in_err-plan.result c.from_residual-in_err-plan.ensures.1 in
    let value = rw c.in_err-plan.ensures.ok_part at c.in_err-plan.ensures.value in
    let long : c.in_err-plan.field-0.0 ≡ Long = cc in
    rw (
      p.1,
      p.2,
      long,
      call_long args.records l.table.now l.classes.now args.bytes.now c.requires
          (λ i. omega (arith, c.type_inv.bytes i)) _ (sym c.read_entry.ensures ∙ c.in_ok-read_entry.was) (length args.output.now) (rw c.in_err-plan.ensures.ok_part at c.put_trees.ensures.is),
    ) refl

pub returns-in_err-plan-clause-contents : goal.returns-in_err-plan-clause-contents
returns-in_err-plan-clause-contents c = let args = c.args in
    let l = args.language.now in
    rw (call_long args.records l.table.now l.classes.now args.bytes.now c.requires
    (λ i. omega (arith, c.type_inv.bytes i)) _ (sym c.read_entry.ensures ∙ c.in_ok-read_entry.was) (length args.output.now) (rw c.in_err-plan.ensures.ok_part at c.put_trees.ensures.is)) refl

pub returns-then-output-plan-clause-answer : goal.returns-then-output-plan-clause-answer
returns-then-output-plan-clause-answer c = let args = c.args in
    let l = args.language.now in
    rw (call_full args.records l.table.now l.classes.now args.bytes.now c.requires
    (λ i. omega (arith, c.type_inv.bytes i)) _ (sym c.read_entry.ensures ∙ c.in_ok-read_entry.was)
    c.in_ok-plan.plan (rw c.in_ok-plan.ensures.ok_part at c.put_trees.ensures.is) (length args.output.now) c.if-output-plan.true) refl

pub returns-then-output-plan-clause-contents : goal.returns-then-output-plan-clause-contents
returns-then-output-plan-clause-contents c = let args = c.args in
    let l = args.language.now in
    rw (call_full args.records l.table.now l.classes.now args.bytes.now c.requires
    (λ i. omega (arith, c.type_inv.bytes i)) _ (sym c.read_entry.ensures ∙ c.in_ok-read_entry.was)
    c.in_ok-plan.plan (rw c.in_ok-plan.ensures.ok_part at c.put_trees.ensures.is) (length args.output.now) c.if-output-plan.true) refl

pub put_trees-requires-2 : goal.put_trees-requires-2
put_trees-requires-2 c = let args = c.args in
    let l = args.language.now in
    omega (
      arith,
      not_long args.records l.table.now l.classes.now args.bytes.now c.requires
          (λ i. omega (arith, c.type_inv.bytes i)) _ (sym c.read_entry.ensures ∙ c.in_ok-read_entry.was),
    )

pub returns-clause-answer : goal.returns-clause-answer
returns-clause-answer c = let args = c.args in
    let l = args.language.now in
    written_shown args.records l.table.now l.classes.now args.bytes.now c.requires
    (λ i. omega (arith, c.type_inv.bytes i)) _ (sym c.read_entry.ensures ∙ c.in_ok-read_entry.was)
    c.in_ok-plan.plan (rw c.in_ok-plan.ensures.ok_part at c.put_trees.ensures.is) (length args.output.now) (omega (arith, c.if-output-plan.false))

pub returns-clause-contents : goal.returns-clause-contents
returns-clause-contents c = let args = c.args in
    let l = args.language.now in
    written_output args.records l.table.now l.classes.now args.bytes.now c.requires
    (λ i. omega (arith, c.type_inv.bytes i)) _ (sym c.read_entry.ensures ∙ c.in_ok-read_entry.was)
    c.in_ok-plan.plan (rw c.in_ok-plan.ensures.ok_part at c.put_trees.ensures.is) args.output.now c.put_trees-2.new.out (omega (arith, c.if-output-plan.false))
    c.put_trees-2.ensures.stores
