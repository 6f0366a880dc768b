-- `example::keep_symbols` meets its contract.
use lib.ListN.{length}
use mathlib.Core.Path.{◌≡◌}
use Rattle.example.proofs.Notes.{MarksTo}
use Rattle.example.proofs.keep_symbols.Given as goal

abbrev pub invariant-loop-b : goal.invariant-loop-b
invariant-loop-b l = record { long : length l.kept ≡ 256; marks : MarksTo l.classes l.pattern l.kept l.b-index }
