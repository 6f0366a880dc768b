-- `sheet::check_entries` meets its contract.
use native.Mathlib.Omega.{arith}
use mathlib.Core.Path.{◌≡◌, sym, ap, ◌∙◌}
use Rattle.term.specs.Lent.{language_by}
use Rattle.sheet.specs.Contents.{read_entry}
use Rattle.sheet.proofs.Contents.{left_refused, left_read, left_end, left_start}
use Rattle.sheet.proofs.check_entries.Goals as goal

pub loop-i-init : goal.loop-i-init
loop-i-init c = let args = c.args in
    left_start args.records (language_by args.language.now) args.sheet.now args.n 0 c.requires

pub returns-in-Err : goal.returns-in-Err
returns-in-Err c = let args = c.args in
    let l = language_by args.language.now in
    let e = sym (c.read_entry.ensures ∙ ap (read_entry args.records l) c.part_at.ensures.bytes) ∙ c.in-Err.is in
    rw c.at.ensures (sym (c.loop-i.invariant ∙ left_refused args.records l args.sheet.now args.n c.loop-i.i _ c.requires c.loop-i-test.true e))

pub loop-i-preserved : goal.loop-i-preserved
loop-i-preserved c = let args = c.args in
    let l = language_by args.language.now in
    let e = sym (c.read_entry.ensures ∙ ap (read_entry args.records l) c.part_at.ensures.bytes) ∙ c.in_default.is in
    c.loop-i.invariant ∙ left_read args.records l args.sheet.now args.n c.loop-i.i _ c.requires c.loop-i-test.true e

pub returns : goal.returns
returns c = let args = c.args in
    let all : c.loop-i.i ≡ args.n = omega arith in
    sym (c.loop-i.invariant ∙ left_end args.records (language_by args.language.now) args.sheet.now args.n c.loop-i.i c.loop-i-test.false ∙ rw all)
