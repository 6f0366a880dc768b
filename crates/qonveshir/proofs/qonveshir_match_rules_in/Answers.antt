-- `qonveshir::qonveshir_match_rules_in` meets its contract.
use mathlib.Core.Path.{ap, ◌∙◌}
use native.Mathlib.Omega.{arith}
use lib.ListN.{length}
use Rattle.answers.specs.Answers.{rule_index}
use Rattle.rules.specs.Call.{in_sheet}
use Rattle.qonveshir.specs.Shown.{rules_shown}
use Rattle.qonveshir.proofs.Indices.{rules_index}
use Rattle.qonveshir.proofs.Showing.{rules_told}
use Rattle.qonveshir.proofs.qonveshir_match_rules_in.Goals as goal
use Rattle.std.specs.Prelude.{Some}

pub outcome_of-requires : goal.outcome_of-requires
outcome_of-requires c = let a = c.args in
    omega (arith, ap rule_index c.match_rules_in.ensures.is, rules_index (in_sheet a.rules.now a.table.now (Some a.classes.now)) a.rules.now a.«record».now a.allowance (length a.answer.now))

pub returns-clause-is : goal.returns-clause-is
returns-clause-is c = c.outcome_of.ensures ∙ rules_told _ ∙ ap rules_shown c.match_rules_in.ensures.is

pub returns-clause-buffer : goal.returns-clause-buffer
returns-clause-buffer c = c.match_rules_in.ensures.buffer

pub returns-clause-demand : goal.returns-clause-demand
returns-clause-demand c = rw c.match_rules_in.ensures.is at c.match_rules_in.ensures.demand
