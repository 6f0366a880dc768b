-- `qonveshir::qonveshir_write_sheet_in` meets its contract.
use mathlib.Core.Path.{refl, sym, ap, ◌∙◌}
use native.Mathlib.Omega.{arith}
use lib.ListN.{length}
use Rattle.answers.specs.Shown.{fault_index}
use Rattle.reader.specs.Brought.{bringing}
use Rattle.qonveshir.specs.Shown.{writing_shown}
use Rattle.qonveshir.proofs.Indices.{writing_index_holds}
use Rattle.qonveshir.proofs.Showing.{writing_told}
use Rattle.qonveshir.proofs.qonveshir_write_sheet_in.Goals as goal

pub returns-in_default-clause-is : goal.returns-in_default-clause-is
returns-in_default-clause-is c = let none = sym c.edition_of.ensures ∙ c.in_default.is in
    rw none c.no_edition.ensures

pub returns-in_default-clause-contents : goal.returns-in_default-clause-contents
returns-in_default-clause-contents c = let none = sym c.edition_of.ensures ∙ c.in_default.is in
    rw none refl

pub returns-in_default-clause-demand : goal.returns-in_default-clause-demand
returns-in_default-clause-demand c = let none = sym c.edition_of.ensures ∙ c.in_default.is in
    rw none tt

pub outcome_of-requires : goal.outcome_of-requires
outcome_of-requires c = let a = c.args in
    omega (arith, ap fault_index c.write_sheet_in.ensures.answer, writing_index_holds (bringing c.in-Some.edition a.table.now a.classes.now) a.records.now a.lengths.now (length a.output.now))

pub returns-clause-is : goal.returns-clause-is
returns-clause-is c = let told = sym c.edition_of.ensures ∙ c.in-Some.is in
    rw told (c.outcome_of.ensures ∙ writing_told _ ∙ ap writing_shown c.write_sheet_in.ensures.answer)

pub returns-clause-contents : goal.returns-clause-contents
returns-clause-contents c = let told = sym c.edition_of.ensures ∙ c.in-Some.is in
    rw told c.write_sheet_in.ensures.contents

pub returns-clause-demand : goal.returns-clause-demand
returns-clause-demand c = let told = sym c.edition_of.ensures ∙ c.in-Some.is in
    rw told (rw (c.outcome_of.ensures ∙ writing_told _) c.write_sheet_in.ensures.demand)
