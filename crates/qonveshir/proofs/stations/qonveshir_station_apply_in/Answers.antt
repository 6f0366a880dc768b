-- `qonveshir::stations::qonveshir_station_apply_in` meets its contract.
use native.Mathlib.Omega.{arith}
use mathlib.Core.Path.{ap}
use Rattle.std.specs.Prelude.{Result}
use Rattle.answers.specs.Answers.{applied_length}
use Rattle.answers.specs.declared.Applied.{Applied}
use Rattle.answers.specs.declared.Refusal.{Refusal}
use Rattle.station.specs.Call.{Outcome}
use Rattle.station.proofs.Changes.{told_short}
use Rattle.reader.specs.Brought.{bringing}
use Rattle.qonveshir.proofs.stations.qonveshir_station_apply_in.Goals as goal

pub applied_shown-requires : goal.applied_shown-requires
applied_shown-requires c = let a = c.args in
    omega (
      arith,
      ap (λ (o : Outcome (Result Applied Refusal)). applied_length o.answer) c.apply_in.ensures.0,
      told_short (bringing c.in-Some.edition a.table.now a.classes.now) a.pattern.now a.template.now a.allowance a.station.now a.records.now,
    )
