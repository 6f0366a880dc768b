-- `qonveshir::qonveshir_look` meets its contract.
use native.Mathlib.Omega.{arith}
use mathlib.Core.Path.{ap, ◌∙◌}
use Rattle.answers.specs.Answers.{applied_length}
use Rattle.reader.specs.Brought.{simply}
use Rattle.replace.proofs.Demands.{look_short}
use Rattle.qonveshir.specs.Shown.{applied_shown}
use Rattle.qonveshir.proofs.qonveshir_look.Goals as goal

pub applied_shown-requires : goal.applied_shown-requires
applied_shown-requires c = let a = c.args in
    omega (arith, ap applied_length c.look.ensures.is, look_short (simply a.table.now) a.pattern.now a.template.now a.«record».now a.allowance)

pub returns-clause-is : goal.returns-clause-is
returns-clause-is c = c.applied_shown.ensures ∙ ap applied_shown c.look.ensures.is

pub returns-clause-demand : goal.returns-clause-demand
returns-clause-demand c = rw c.look.ensures.is at c.look.ensures.demand
