-- `qonveshir::stations::qonveshir_station_apply` meets its contract.
use native.Mathlib.Omega.{arith}
use mathlib.Core.Path.{ap}
use Rattle.std.specs.Prelude.{Result}
use Rattle.answers.specs.Answers.{applied_length}
use Rattle.answers.specs.declared.Applied.{Applied}
use Rattle.answers.specs.declared.Refusal.{Refusal}
use Rattle.station.specs.Call.{Outcome}
use Rattle.station.proofs.Changes.{told_short}
use Rattle.reader.specs.Brought.{simply}
use Rattle.qonveshir.proofs.stations.qonveshir_station_apply.Goals as goal

pub applied_shown-requires : goal.applied_shown-requires
applied_shown-requires c = let a = c.args in
    omega (
      arith,
      ap (λ (o : Outcome (Result Applied Refusal)). applied_length o.answer) c.apply.ensures.0,
      told_short (simply a.table.now) a.pattern.now a.template.now a.allowance a.station.now a.records.now,
    )
