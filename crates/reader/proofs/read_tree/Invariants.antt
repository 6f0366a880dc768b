-- `reader::read_tree` meets its contract. The invariant: the trees of the frames are still to come. The measure is what is left of the bytes.
use Rattle.reader.proofs.Frames.{ReadTo}
use Rattle.reader.specs.Simple.{read_in}
use Rattle.term.specs.Lent.{language_by}
use mathlib.Core.Bool.{not}
use lib.Dec.{eqb}
use lib.ListN.{length}
use Rattle.reader.proofs.read_tree.Given as goal

abbrev pub invariant-loop-size : goal.invariant-loop-size
invariant-loop-size g l = ReadTo (read_in (not (eqb g.row.SIMPLE 0)) (language_by l.language)) (not (eqb g.row.RECORDS 0)) l.s l.around l.depth l.top l.rest

abbrev pub decreases-loop-size : goal.decreases-loop-size
decreases-loop-size g l = length l.rest
