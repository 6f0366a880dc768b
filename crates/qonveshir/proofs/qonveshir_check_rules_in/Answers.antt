-- `qonveshir::qonveshir_check_rules_in` meets its contract.
use mathlib.Core.Path.{ap, ◌∙◌}
use native.Mathlib.Omega.{arith}
use mathlib.Core.Bool.{false}
use Rattle.answers.specs.Shown.{fault_index}
use Rattle.qonveshir.specs.Shown.{check_shown}
use Rattle.qonveshir.proofs.Indices.{contents_index}
use Rattle.qonveshir.proofs.qonveshir_check_rules_in.Goals as goal
use Rattle.std.specs.Prelude.{None, Some}

pub check_shown-requires : goal.check_shown-requires
check_shown-requires c = let a = c.args in
    omega (arith, ap fault_index c.check_rules_in.ensures, contents_index false None a.table.now (Some a.classes.now) a.sheet.now)

pub returns : goal.returns
returns c = c.check_shown.ensures ∙ ap check_shown c.check_rules_in.ensures
