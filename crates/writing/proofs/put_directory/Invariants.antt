-- `writing::put_directory` meets its contract. The invariant: the pairs from `i` on are still to be stored, and entries of their lengths end
-- within the longest sheet.
use Prim.Native.Nat.{◌≤◌, ◌+◌}
use mathlib.Core.Path.{◌≡◌}
use lib.Seq.{sets}
use lib.ListN.{length, drop}
use Rattle.sheet.specs.Word.{word_bytes}
use Rattle.sheet.specs.Check.{longest_sheet}
use Rattle.sheet.specs.Sheet.{past_pairs, directory}
use Rattle.writing.specs.Writing.{sum}
use Rattle.writing.proofs.put_directory.Given as goal

abbrev pub invariant-loop-i : goal.invariant-loop-i
invariant-loop-i l = (l.at + sum (drop l.i l.lengths) ≤ longest_sheet) × (sets l.initial.output word_bytes (directory (past_pairs (length l.lengths)) l.lengths) ≡ sets l.output (past_pairs l.i) (directory l.at (drop l.i l.lengths)))
