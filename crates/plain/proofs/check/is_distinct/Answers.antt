-- `plain::check::is_distinct` meets its contract. The invariant: from here on the bytes must be distinct after the variables seen so far.
use native.Mathlib.Omega.{arith}
use mathlib.Core.Path.{sym, ◌∙◌, ap, subst}
use Rattle.term.specs.Code.{VariableBelow}
use Rattle.term.proofs.Codes.{decode_below}
use Rattle.plain.specs.Bytes.{root_bytes}
use Rattle.plain.proofs.Among.{here_once}
use Rattle.plain.proofs.Sight.{root_within, sighted_first, sighted_next, sighted_end}
use Rattle.plain.proofs.check.is_distinct.Goals as goal

pub slice_bounds-b-items-count : goal.slice_bounds-b-items-count
slice_bounds-b-items-count c = let a = c.args in
    root_within a.table.now a.pattern.now (λ e. c.if-entry_of.false (c.entry_of.ensures ∙ e)) (omega (arith, c.if-n-eq0.false)) _
    (c.root_bytes-own.ensures ∙ ap (root_bytes a.table.now) c.decode.ensures)

pub slice_bounds-b-items-start : goal.slice_bounds-b-items-start
slice_bounds-b-items-start c = slice_bounds-b-items-count c

pub loop-b-init : goal.loop-b-init
loop-b-init c = sighted_first _

pub look_byte-requires : goal.look_byte-requires
look_byte-requires c = subst VariableBelow (sym c.decode-code.ensures) (decode_below _)

pub overflow_add-runs : goal.overflow_add-runs
overflow_add-runs c = omega (arith, c.loop-b.invariant.few, c.loop-b-test.true, c.run_here-runs.ensures, here_once c.decode-code.result)

pub loop-b-preserved : goal.loop-b-preserved
loop-b-preserved c = sighted_next _ c.loop-b.invariant c.loop-b-test.true _ c.decode-code.ensures c.in-Some.look c.in-Some.ensures _ c.run_here-runs.ensures

pub returns : goal.returns
returns c = let a = c.args in
    sighted_end a.table.now a.pattern.now (λ e. c.if-entry_of.false (c.entry_of.ensures ∙ e)) _
    (c.root_bytes-own.ensures ∙ ap (root_bytes a.table.now) c.decode.ensures) c.loop-b.invariant c.loop-b-test.false
