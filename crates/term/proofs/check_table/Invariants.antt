-- `term::check_table` meets its contract. The invariant: the entries so far and those that are left decide.
use mathlib.Core.Path.{◌≡◌}
use mathlib.Core.Bool.{◌&&◌}
use lib.ListN.{drop}
use Rattle.term.specs.Table.{entries_accepted}
use Rattle.term.proofs.check_table.Given as goal

abbrev pub invariant-loop-entry : goal.invariant-loop-entry
invariant-loop-entry l = l.accepted && entries_accepted (drop l.entry-index l.table) ≡ entries_accepted l.table
