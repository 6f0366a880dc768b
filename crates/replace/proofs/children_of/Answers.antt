-- `replace::children_of` meets its contract.
use Rattle.replace.proofs.Parts.{children_short, children_long, no_part}
use mathlib.Core.Path.{refl}
use native.Mathlib.Omega.{arith}
use Rattle.replace.proofs.children_of.Goals as goal

pub returns-then-t-lt2-clause-is : goal.returns-then-t-lt2-clause-is
returns-then-t-lt2-clause-is c = children_short c.args.table.now c.args.t.now _ (omega (arith, c.if-t-lt2.true)) (no_part c.args.t.now)

pub returns-clause-is : goal.returns-clause-is
returns-clause-is c = children_long c.args.table.now c.args.t.now _ _ c.own_size-own.ensures refl
