-- `term::check_classes` meets its contract. The invariant: the entries before `i` are accepted.
use Prim.Native.Nat.{ℕ}
use mathlib.Core.Path.{subst}
use Prim.Native.Nat.{zero-le}
use native.Mathlib.Omega.{arith}
use mathlib.Core.Path.{◌≡◌, sym, ◌∙◌}
use mathlib.Core.Bool.{true}
use lib.ListN.{length}
use Rattle.term.specs.Class.{entries_classed}
use Rattle.term.proofs.Classes.{classes_long, classes_checked, entries_none, entries_more, entries_fail}
use Rattle.term.proofs.check_classes.Goals as goal

pub returns-then-classes-table : goal.returns-then-classes-table
returns-then-classes-table c = sym (classes_long _ _ c.if-classes-table.true)

pub loop-i-init : goal.loop-i-init
loop-i-init c = entries_none _ _

pub accepts_class-requires : goal.accepts_class-requires
accepts_class-requires c = (omega arith, omega arith)

pub returns-then-not-accepts_class : goal.returns-then-not-accepts_class
returns-then-not-accepts_class c = let args = c.args in
    let turn = c.loop-i in
    sym (classes_checked args.table.now args.classes.now (omega arith)
    ∙ entries_fail args.table.now args.classes.now _ turn.i (omega arith) (sym c.accepts_class.ensures ∙ c.if-not-accepts_class.true))

pub loop-i-preserved : goal.loop-i-preserved
loop-i-preserved c = let args = c.args in
    let turn = c.loop-i in
    entries_more args.table.now args.classes.now turn.i (sym c.accepts_class.ensures ∙ c.if-not-accepts_class.false) turn.invariant

pub returns : goal.returns
returns c = let args = c.args in
    let turn = c.loop-i in
    let z : turn.i ≡ length args.table.now = omega arith in
    sym (classes_checked args.table.now args.classes.now (omega arith)
    ∙ subst (λ (n : ℕ). entries_classed args.table.now args.classes.now n ≡ true) z turn.invariant)
