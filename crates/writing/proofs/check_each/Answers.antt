-- `writing::check_each` meets its contract.
use native.Mathlib.Omega.{arith}
use mathlib.Core.Bool.{true}
use mathlib.Core.Path.{◌≡◌, sym, ◌∙◌}
use lib.ListN.{length, get_or, take, drop}
use Rattle.std.specs.Prelude.{Ok, Err}
use Rattle.term.specs.Lent.{language_by}
use Rattle.sheet.specs.Contents.{read_entry}
use Rattle.writing.proofs.Writings.{records_refused, records_read, records_end}
use Rattle.writing.proofs.Lengths.{sum_next}
use Rattle.writing.proofs.check_each.Goals as goal

pub split_at-requires : goal.split_at-requires
split_at-requires c = omega (arith, sum_next c.args.lengths.now c.loop-i.i c.loop-i-test.true)

pub returns-in-Err : goal.returns-in-Err
unfolding read_entry
returns-in-Err c = let turn = c.loop-i in
    let l = language_by c.args.language.now in
    let ns = c.args.lengths.now in
    let front : c.split_at.result.0.now ≡ take (get_or ns turn.i 0) turn.rest.now = c.split_at.ensures.front ∙ rw c.from.ensures in
    let e : read_entry true l (take (get_or ns turn.i 0) turn.rest.now) ≡ Err c.in-Err.r = rw (← front) (sym c.read_record_in.ensures ∙ c.in-Err.is) in
    rw c.at.ensures (sym (turn.invariant.1 ∙ records_refused l turn.rest.now ns turn.i c.in-Err.r c.loop-i-test.true e))

pub loop-i-preserved : goal.loop-i-preserved
unfolding read_entry
loop-i-preserved c = let turn = c.loop-i in
    let l = language_by c.args.language.now in
    let ns = c.args.lengths.now in
    let front : c.split_at.result.0.now ≡ take (get_or ns turn.i 0) turn.rest.now = c.split_at.ensures.front ∙ rw c.from.ensures in
    let back : c.split_at.result.1.now ≡ drop (get_or ns turn.i 0) turn.rest.now = c.split_at.ensures.back ∙ rw c.from.ensures in
    let e : read_entry true l (take (get_or ns turn.i 0) turn.rest.now) ≡ Ok c.in_default.field-0 = rw (← front) (sym c.read_record_in.ensures ∙ c.in_default.is) in (
      omega (arith, c.split_at.ensures.back_len, sum_next ns turn.i c.loop-i-test.true),
      turn.invariant.1 ∙ records_read l turn.rest.now ns turn.i c.in_default.field-0 c.loop-i-test.true e ∙ rw back,
    )

pub returns : goal.returns
returns c = let turn = c.loop-i in
    let all : turn.i ≡ length c.args.lengths.now = omega arith in
    sym (turn.invariant.1 ∙ records_end (language_by c.args.language.now) turn.rest.now c.args.lengths.now turn.i c.loop-i-test.false ∙ rw all)
