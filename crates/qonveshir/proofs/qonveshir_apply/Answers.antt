-- `qonveshir::qonveshir_apply` meets its contract.
use native.Mathlib.Omega.{arith}
use mathlib.Core.Path.{ap, ◌∙◌}
use lib.ListN.{length}
use Rattle.answers.specs.Answers.{applied_length}
use Rattle.reader.specs.Brought.{simply}
use Rattle.replace.proofs.Demands.{apply_short}
use Rattle.qonveshir.specs.Shown.{applied_shown}
use Rattle.qonveshir.proofs.qonveshir_apply.Goals as goal

pub applied_shown-requires : goal.applied_shown-requires
applied_shown-requires c = let a = c.args in
    omega (arith, ap applied_length c.apply.ensures.is, apply_short (simply a.table.now) a.pattern.now a.template.now a.«record».now a.allowance (length a.output.now))

pub returns-clause-is : goal.returns-clause-is
returns-clause-is c = c.applied_shown.ensures ∙ ap applied_shown c.apply.ensures.is

pub returns-clause-contents : goal.returns-clause-contents
returns-clause-contents c = c.apply.ensures.contents

pub returns-clause-demand : goal.returns-clause-demand
returns-clause-demand c = rw c.apply.ensures.is at c.apply.ensures.demand
