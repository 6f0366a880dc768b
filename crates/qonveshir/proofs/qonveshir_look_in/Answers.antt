-- `qonveshir::qonveshir_look_in` meets its contract.
use native.Mathlib.Omega.{arith}
use mathlib.Core.Path.{sym, ap, ◌∙◌}
use Rattle.answers.specs.Answers.{applied_length}
use Rattle.reader.specs.Brought.{bringing}
use Rattle.replace.proofs.Demands.{look_short}
use Rattle.qonveshir.specs.Shown.{applied_shown}
use Rattle.qonveshir.proofs.qonveshir_look_in.Goals as goal

pub returns-in_default-clause-is : goal.returns-in_default-clause-is
returns-in_default-clause-is c = let none = sym c.edition_of.ensures ∙ c.in_default.is in
    rw none c.none_written.ensures

pub returns-in_default-clause-demand : goal.returns-in_default-clause-demand
returns-in_default-clause-demand c = let none = sym c.edition_of.ensures ∙ c.in_default.is in
    rw none tt

pub applied_shown-requires : goal.applied_shown-requires
applied_shown-requires c = let a = c.args in
    omega (arith, ap applied_length c.look_in.ensures.is, look_short (bringing c.in-Some.edition a.table.now a.classes.now) a.pattern.now a.template.now a.«record».now a.allowance)

pub returns-clause-is : goal.returns-clause-is
returns-clause-is c = let told = sym c.edition_of.ensures ∙ c.in-Some.is in
    rw told (c.applied_shown.ensures ∙ ap applied_shown c.look_in.ensures.is)

pub returns-clause-demand : goal.returns-clause-demand
returns-clause-demand c = let told = sym c.edition_of.ensures ∙ c.in-Some.is in
    rw told (rw c.look_in.ensures.is at c.look_in.ensures.demand)
