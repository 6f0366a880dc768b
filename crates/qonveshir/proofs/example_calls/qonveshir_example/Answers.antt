-- `qonveshir::example_calls::qonveshir_example` meets its contract.
use native.Mathlib.Omega.{arith}
use mathlib.Core.Path.{ap, ◌∙◌}
use lib.ListN.{length}
use Rattle.answers.specs.Answers.{applied_length}
use Rattle.reader.specs.Brought.{simply}
use Rattle.example.proofs.Lengths.{example_short}
use Rattle.qonveshir.specs.Shown.{applied_shown}
use Rattle.qonveshir.proofs.example_calls.qonveshir_example.Goals as goal

pub applied_shown-requires : goal.applied_shown-requires
applied_shown-requires c = let a = c.args in
    omega (arith, ap applied_length c.example.ensures.is, example_short (simply a.table.now) a.pattern.now a.size a.allowance (length a.output.now))

pub returns-clause-is : goal.returns-clause-is
returns-clause-is c = c.applied_shown.ensures ∙ ap applied_shown c.example.ensures.is

pub returns-clause-contents : goal.returns-clause-contents
returns-clause-contents c = c.example.ensures.contents

pub returns-clause-demand : goal.returns-clause-demand
returns-clause-demand c = rw c.example.ensures.is at c.example.ensures.demand
