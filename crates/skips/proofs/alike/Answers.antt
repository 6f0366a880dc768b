-- `skips::alike` meets its contract. Assumes nothing.
use native.Mathlib.Omega.{arith}
use mathlib.Core.Path.{ap, sym, ◌∙◌}
use lib.Dec.{eqb}
use borrow.Author.Tests.{eq-eqb, ne_eqb}
use Rattle.skips.proofs.Passing.{alike_short, alike_first, alike_last}
use Rattle.skips.proofs.alike.Goals as goal

pub returns-then-y-size : goal.returns-then-y-size
returns-then-y-size c = alike_short _ _ _ _ _ (omega arith)

pub returns-then-first-class_of : goal.returns-then-first-class_of
returns-then-first-class_of c = alike_first _ _ _ _ _ (omega arith) (ap (eqb _) (sym c.class_of.ensures) ∙ ne_eqb _ _ c.if-first-class_of.true)

pub returns : goal.returns
returns c = ap (eqb _) c.class_of-2.ensures ∙ alike_last _ _ _ _ _ (omega arith) (ap (eqb _) (sym c.class_of.ensures) ∙ eq-eqb _ _ c.if-first-class_of.false)
