-- `qonveshir::edition_of` meets its contract.
use mathlib.Core.Path.{refl}
use borrow.Author.Tests.{ne_eqb}
use Rattle.qonveshir.specs.Edition.{told_by}
use Rattle.qonveshir.proofs.edition_of.Goals as goal

pub returns-in-1 : goal.returns-in-1
unfolding told_by
returns-in-1 c = rw c.in-1.is refl

pub returns-in-2 : goal.returns-in-2
unfolding told_by
returns-in-2 c = rw c.in-2.is refl

pub returns-in_default : goal.returns-in_default
unfolding told_by
returns-in_default c = rw (ne_eqb c.args.number 1 c.in_default.in_default-own.rest.0.1, ne_eqb c.args.number 2 c.in_default.in_default-own.rest.1) refl
