-- `replace::is_unmarked` meets its contract.
use Rattle.replace.proofs.Marks.{loosening_first, loosening_symbol, loosening_variable, variable_loose, other_loose, loosening_last, variable_below}
use lib.ListN.{get_or}
use mathlib.Core.Path.{sym, ap, ◌∙◌}
use Prim.Native.Nat.{ℕ}
use mathlib.Core.Bool.{false}
use native.Mathlib.Omega.{arith}
use Rattle.replace.proofs.is_unmarked.Goals as goal

pub loop-at-init : goal.loop-at-init
loop-at-init c = loosening_first c.args.table.now c.args.pattern.now c.args.free

pub loop-at-preserved-in-Symbol-1 : goal.loop-at-preserved-in-Symbol-1
loop-at-preserved-in-Symbol-1 c = rw c.own_size-at.ensures (loosening_symbol c.args.table.now c.args.pattern.now c.args.free c.loop-at.at c.loop-at-test.true c.loop-at.invariant _ (sym c.decode.ensures ∙ c.in-Symbol.is))

pub returns : goal.returns
returns c = loosening_last c.args.table.now c.args.pattern.now c.args.free c.loop-at.at c.loop-at-test.false c.loop-at.invariant

pub returns-in-Complement : goal.returns-in-Complement
returns-in-Complement c = other_loose c.args.table.now c.args.pattern.now c.args.free c.loop-at.at c.loop-at-test.true c.loop-at.invariant _ c.decode.ensures c.in-Complement.is

pub bounds-free-from : goal.bounds-free-from
bounds-free-from c = omega (arith, c.well_formed.1.1.0.1.0.1, c.from.ensures, variable_below _ _ c.decode.ensures _ c.in-Name.is)

pub returns-then-not-free-from : goal.returns-then-not-free-from
returns-then-not-free-from c = variable_loose c.args.table.now c.args.pattern.now c.args.free c.loop-at.at c.loop-at-test.true c.loop-at.invariant _ c.decode.ensures _ c.in-Name.is (ap (λ (i : ℕ). get_or c.args.free i false) (sym c.from.ensures) ∙ c.if-not-free-from.true)

pub loop-at-preserved : goal.loop-at-preserved
loop-at-preserved c = loosening_variable c.args.table.now c.args.pattern.now c.args.free c.loop-at.at c.loop-at-test.true c.loop-at.invariant _ c.decode.ensures _ c.in-Name.is (ap (λ (i : ℕ). get_or c.args.free i false) (sym c.from.ensures) ∙ c.if-not-free-from.false)
