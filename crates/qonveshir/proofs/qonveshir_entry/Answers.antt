-- `qonveshir::qonveshir_entry` meets its contract.
use mathlib.Core.Path.{ap, ◌∙◌}
use Rattle.qonveshir.specs.Shown.{place_shown}
use Rattle.qonveshir.proofs.qonveshir_entry.Goals as goal

pub returns : goal.returns
returns c = c.place_shown.ensures ∙ ap place_shown c.place_of.ensures
