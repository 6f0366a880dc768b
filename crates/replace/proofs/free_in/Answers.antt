-- `replace::free_in` meets its contract.
use Rattle.replace.proofs.Marks.{none_marked, unmarked_at, marking_first, marking_symbol, marking_variable, marking_complement, marking_refused, marking_last, variable_below}
use Rattle.replace.proofs.Forests.{extent_some_at, part_length}
use mathlib.Core.Path.{refl, sym, ◌∙◌}
use native.Mathlib.Omega.{arith}
use Rattle.replace.proofs.free_in.Goals as goal

pub loop-at-init : goal.loop-at-init
loop-at-init c = marking_first c.args.table.now c.args.pattern.now none_marked refl (λ v. unmarked_at none_marked v refl)

pub loop-at-preserved-in-Symbol-1 : goal.loop-at-preserved-in-Symbol-1
loop-at-preserved-in-Symbol-1 c = rw c.own_size-at.ensures (marking_symbol c.args.table.now c.args.pattern.now c.loop-at.free c.loop-at.at c.loop-at-test.true c.loop-at.invariant _ (sym c.decode.ensures ∙ c.in-Symbol.is))

pub loop-at-smaller-in-Complement-1 : goal.loop-at-smaller-in-Complement-1
loop-at-smaller-in-Complement-1 c = omega (arith, c.extent-at.ensures.within, part_length c.args.pattern.now c.loop-at.at, extent_some_at c.args.table.now c.args.pattern.now c.loop-at.at _ c.loop-at-test.true c.extent-at.ensures.is)

pub loop-at-preserved-in-Complement-1 : goal.loop-at-preserved-in-Complement-1
loop-at-preserved-in-Complement-1 c = marking_complement c.args.table.now c.args.pattern.now c.loop-at.free c.loop-at.at c.loop-at-test.true c.loop-at.invariant _ (sym c.decode.ensures ∙ c.in-Complement.is) c.extent-at.ensures.is

pub returns-in-Refused : goal.returns-in-Refused
returns-in-Refused c = marking_refused c.args.table.now c.args.pattern.now c.loop-at.free c.loop-at.at c.loop-at-test.true c.loop-at.invariant (sym c.decode.ensures ∙ c.in-Refused.is)

pub returns : goal.returns
returns c = marking_last c.args.table.now c.args.pattern.now c.loop-at.free c.loop-at.at c.loop-at-test.false c.loop-at.invariant

pub bounds-free-from : goal.bounds-free-from
bounds-free-from c = omega (arith, c.loop-at.invariant.long, c.from.ensures, variable_below _ _ c.decode.ensures _ c.in-Name.is)

pub loop-at-preserved : goal.loop-at-preserved
loop-at-preserved c = rw c.from.ensures (marking_variable c.args.table.now c.args.pattern.now c.loop-at.free c.loop-at.at c.loop-at-test.true c.loop-at.invariant _ c.decode.ensures _ c.in-Name.is)
