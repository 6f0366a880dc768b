-- `qonveshir::qonveshir_write_sheet` meets its contract.
use mathlib.Core.Path.{ap, ◌∙◌}
use native.Mathlib.Omega.{arith}
use lib.ListN.{length}
use Rattle.answers.specs.Shown.{fault_index}
use Rattle.reader.specs.Brought.{simply}
use Rattle.qonveshir.specs.Shown.{writing_shown}
use Rattle.qonveshir.proofs.Indices.{writing_index_holds}
use Rattle.qonveshir.proofs.Showing.{writing_told}
use Rattle.qonveshir.proofs.qonveshir_write_sheet.Goals as goal

pub outcome_of-requires : goal.outcome_of-requires
outcome_of-requires c = let a = c.args in
    omega (arith, ap fault_index c.write_sheet.ensures.answer, writing_index_holds (simply a.table.now) a.records.now a.lengths.now (length a.output.now))

pub returns-clause-is : goal.returns-clause-is
returns-clause-is c = c.outcome_of.ensures ∙ writing_told _ ∙ ap writing_shown c.write_sheet.ensures.answer

pub returns-clause-contents : goal.returns-clause-contents
returns-clause-contents c = c.write_sheet.ensures.contents

pub returns-clause-demand : goal.returns-clause-demand
returns-clause-demand c = rw (c.outcome_of.ensures ∙ writing_told _) c.write_sheet.ensures.demand
