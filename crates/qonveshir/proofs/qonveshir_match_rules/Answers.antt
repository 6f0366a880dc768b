-- `qonveshir::qonveshir_match_rules` meets its contract.
use mathlib.Core.Path.{ap, ◌∙◌}
use native.Mathlib.Omega.{arith}
use lib.ListN.{length}
use Rattle.answers.specs.Answers.{rule_index}
use Rattle.rules.specs.Call.{in_sheet}
use Rattle.qonveshir.specs.Shown.{rules_shown}
use Rattle.qonveshir.proofs.Indices.{rules_index}
use Rattle.qonveshir.proofs.Showing.{rules_told}
use Rattle.qonveshir.proofs.qonveshir_match_rules.Goals as goal
use Rattle.std.specs.Prelude.{None}

pub outcome_of-requires : goal.outcome_of-requires
outcome_of-requires c = let a = c.args in
    omega (arith, ap rule_index c.match_rules.ensures.is, rules_index (in_sheet a.rules.now a.table.now None) a.rules.now a.«record».now a.allowance (length a.answer.now))

pub returns-clause-is : goal.returns-clause-is
returns-clause-is c = c.outcome_of.ensures ∙ rules_told _ ∙ ap rules_shown c.match_rules.ensures.is

pub returns-clause-buffer : goal.returns-clause-buffer
returns-clause-buffer c = c.match_rules.ensures.buffer

pub returns-clause-demand : goal.returns-clause-demand
returns-clause-demand c = rw c.match_rules.ensures.is at c.match_rules.ensures.demand
