-- `reader::is_leaf` meets its contract.
use Rattle.reader.proofs.Shallow.{leaf_read}
use Rattle.term.specs.Language.{simple}
use mathlib.Core.Path.{sym, ◌∙◌}
use native.Mathlib.Omega.{arith}
use Rattle.reader.proofs.is_leaf.Goals as goal

pub bounds-s-0 : goal.bounds-s-0
bounds-s-0 c = omega arith

pub returns-in-Symbol : goal.returns-in-Symbol
returns-in-Symbol c = let a = c.args in
    rw c.is_childless.ensures (leaf_read (simple a.table.now) a.s.now _ (omega (arith, c.if-s-ne1.false)) (sym c.decode-code.ensures ∙ c.in-Symbol.is))
