-- `term::check_table` meets its contract. The invariant: the entries so far and those from `i` on decide.
use Prim.Native.Nat.{zero-le}
use native.Mathlib.Omega.{arith}
use mathlib.Core.Path.{refl, sym}
use Rattle.term.proofs.Tables.{table_long, table_checked, entries_next}
use Rattle.term.proofs.check_table.Goals as goal

pub returns-then-table-gt-LARGEST_TABLE : goal.returns-then-table-gt-LARGEST_TABLE
returns-then-table-gt-LARGEST_TABLE c = sym (table_long _ c.if-table-gt-LARGEST_TABLE.true)

pub loop-entry-init : goal.loop-entry-init
loop-entry-init c = refl

pub loop-entry-preserved : goal.loop-entry-preserved
loop-entry-preserved c = let turn = c.loop-entry in
    (rw c.accepts_entry-accepted.ensures (entries_next _ _ turn.accepted c.loop-entry-test.true turn.invariant))

pub returns : goal.returns
returns c = table_checked _ _ _ c.if-table-gt-LARGEST_TABLE.false c.loop-entry-test.false c.loop-entry.invariant
