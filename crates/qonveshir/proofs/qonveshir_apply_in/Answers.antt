-- `qonveshir::qonveshir_apply_in` meets its contract.
use native.Mathlib.Omega.{arith}
use mathlib.Core.Path.{refl, sym, ap, ◌∙◌}
use lib.ListN.{length}
use Rattle.answers.specs.Answers.{applied_length}
use Rattle.reader.specs.Brought.{bringing}
use Rattle.replace.proofs.Demands.{apply_short}
use Rattle.qonveshir.specs.Shown.{applied_shown}
use Rattle.qonveshir.proofs.qonveshir_apply_in.Goals as goal

pub returns-in_default-clause-is : goal.returns-in_default-clause-is
returns-in_default-clause-is c = let none = sym c.edition_of.ensures ∙ c.in_default.is in
    rw none c.none_written.ensures

pub returns-in_default-clause-contents : goal.returns-in_default-clause-contents
returns-in_default-clause-contents c = let none = sym c.edition_of.ensures ∙ c.in_default.is in
    rw none refl

pub returns-in_default-clause-demand : goal.returns-in_default-clause-demand
returns-in_default-clause-demand c = let none = sym c.edition_of.ensures ∙ c.in_default.is in
    rw none tt

pub applied_shown-requires : goal.applied_shown-requires
applied_shown-requires c = let a = c.args in
    omega (arith, ap applied_length c.apply_in.ensures.is, apply_short (bringing c.in-Some.edition a.table.now a.classes.now) a.pattern.now a.template.now a.«record».now a.allowance (length a.output.now))

pub returns-clause-is : goal.returns-clause-is
returns-clause-is c = let told = sym c.edition_of.ensures ∙ c.in-Some.is in
    rw told (c.applied_shown.ensures ∙ ap applied_shown c.apply_in.ensures.is)

pub returns-clause-contents : goal.returns-clause-contents
returns-clause-contents c = let told = sym c.edition_of.ensures ∙ c.in-Some.is in
    rw told c.apply_in.ensures.contents

pub returns-clause-demand : goal.returns-clause-demand
returns-clause-demand c = let told = sym c.edition_of.ensures ∙ c.in-Some.is in
    rw told (rw c.apply_in.ensures.is at c.apply_in.ensures.demand)
