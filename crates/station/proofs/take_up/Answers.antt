-- `station::take_up` meets its contract.
use native.Mathlib.Omega.{arith}
use mathlib.Core.Path.{ap, ◌∙◌}
use Rattle.std.specs.Prelude.{Ok}
use Rattle.station.specs.Call.{outcome}
use Rattle.station.proofs.Changes.{take_bound, take_refused, take_unbound, bound_short}
use Rattle.station.proofs.take_up.Goals as goal

pub returns-in_default : goal.returns-in_default
returns-in_default c = let a = c.args in
    take_refused a.answer _ a.station a.records.now _ c.in_default.is

pub returns-in_default-applied : goal.returns-in_default-applied
returns-in_default-applied c = let a = c.args in
    take_unbound a.answer _ a.station a.records.now _ c.in-Ok.is c.in_default-applied.not-Bound

pub returns : goal.returns
returns c = let a = c.args in
    let e = c.in-Ok.is ∙ ap Ok c.in-Bound.is in
    (λ i. outcome (ap Ok c.in-Bound.is i) (c.lengthened_at.ensures i) (c.put_current.ensures i))
    ∙ take_bound a.answer a.output.now a.station a.records.now c.in-Bound.field-0 c.in-Bound.n e (omega (
      arith,
      bound_short a.answer a.output.now a.station a.records.now c.in-Bound.field-0 c.in-Bound.n 4096 e c.requires.0,
      c.requires.1,
    ))
