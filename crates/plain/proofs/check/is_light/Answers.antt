-- `plain::check::is_light` meets its contract.
use native.Mathlib.Omega.{arith}
use mathlib.Core.Path.{◌∙◌, ap}
use Rattle.plain.specs.Bytes.{root_bytes}
use Rattle.plain.proofs.Sight.{root_within, light_pattern}
use Rattle.plain.proofs.check.is_light.Goals as goal

pub slice_bounds-weights-count : goal.slice_bounds-weights-count
slice_bounds-weights-count c = let a = c.args in
    root_within a.table.now a.pattern.now (λ e. c.if-entry_of.false (c.entry_of.ensures ∙ e)) (omega (arith, c.if-n-eq0.false)) _
    (c.root_bytes-own.ensures ∙ ap (root_bytes a.table.now) c.decode.ensures)

pub slice_bounds-weights-start : goal.slice_bounds-weights-start
slice_bounds-weights-start c = slice_bounds-weights-count c

pub returns : goal.returns
returns c = let a = c.args in
    light_pattern a.table.now a.pattern.now (λ e. c.if-entry_of.false (c.entry_of.ensures ∙ e)) _
    (c.root_bytes-own.ensures ∙ ap (root_bytes a.table.now) c.decode.ensures) _ c.weights.ensures
