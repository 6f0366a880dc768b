-- `reader::symbol_node` meets its contract.
use Rattle.term.specs.Table.{list}
use Rattle.reader.specs.Node.{open_node, code_node}
use native.Mathlib.Omega.{arith}
use mathlib.Core.Path.{◌≡◌}
use lib.ListN.{length, get_or}
use borrow.Author.Tests.{lt-ltb, le-ltb, eq-eqb, ne_eqb}
use Rattle.reader.proofs.symbol_node.Goals as goal

pub returns-then-language-i : goal.returns-then-language-i
unfolding code_node
returns-then-language-i g c = let args = c.args in rw (le-ltb args.b (length args.language.now.table.now) (omega (arith, c.wide-i.ensures)))

pub returns-then-entry-eq0 : goal.returns-then-entry-eq0
unfolding code_node open_node
returns-then-entry-eq0 g c = let at = c.wide-i.ensures in
    let args = c.args in
    let z : get_or args.language.now.table.now args.b 0 ≡ 0 = rw at at c.if-entry-eq0.true in
    rw (
      lt-ltb args.b (length args.language.now.table.now) (omega (arith, at, c.if-language-i.false)),
      z,
    )
    c.plain_node.ensures

pub returns-then-entry : goal.returns-then-entry
unfolding code_node open_node
returns-then-entry g c = let at = c.wide-i.ensures in
    let args = c.args in
    rw (
      lt-ltb args.b (length args.language.now.table.now) (omega (arith, at, c.if-language-i.false)),
      eq-eqb (get_or args.language.now.table.now args.b 0) list (rw at at c.if-entry.true),
      ← c.is_unspliced.ensures,
    )
    c.list_node.ensures

pub returns : goal.returns
unfolding code_node open_node
returns g c = let at = c.wide-i.ensures in
    let args = c.args in
    rw (
      lt-ltb args.b (length args.language.now.table.now) (omega (arith, at, c.if-language-i.false)),
      ne_eqb (get_or args.language.now.table.now args.b 0) list (rw at at c.if-entry.false),
    )
    (rw at at c.plain_node-2.ensures)
