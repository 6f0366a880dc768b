-- `sheet::part_at` meets its contract.
use native.Mathlib.Omega.{arith}
use mathlib.Core.Bool.{false}
use mathlib.Core.Path.{◌≡◌}
use Rattle.sheet.specs.Entry.{pair_within}
use Rattle.sheet.proofs.Entries.{no_pair, pair_past, pair_tells, no_part, part_between}
use Rattle.sheet.proofs.part_at.Goals as goal
use Rattle.sheet.proofs.part_at.Goals.{then-sheet-lt-WORD-via-then-sheet-lt-WORD, then-sheet-lt-WORD-via-else-sheet-lt-WORD+then-sheet-index}

pub returns-then-sheet-lt-WORD : goal.returns-then-sheet-lt-WORD
returns-then-sheet-lt-WORD c = let args = c.args in
    let w : pair_within args.sheet.now args.index ≡ false = elim c.then-sheet-lt-WORD.branch [
      | then-sheet-lt-WORD-via-then-sheet-lt-WORD w ↦ no_pair _ _ (omega arith)
      | then-sheet-lt-WORD-via-else-sheet-lt-WORD+then-sheet-index w ↦ no_pair _ _ (omega arith)
    ] in
    let p = no_part args.sheet args.index w in
    record { bytes = p.0; place = p.1 }

pub returns-then-sheet-end : goal.returns-then-sheet-end
returns-then-sheet-end c = let args = c.args in
    let p = no_part args.sheet args.index (pair_past args.sheet.now args.index (omega arith) (omega arith)) in
    record { bytes = p.0; place = p.1 }

pub returns : goal.returns
returns c = let args = c.args in
    let p = part_between args.sheet args.index c.from-start.result c.from.result (omega arith) (omega arith) (pair_tells args.sheet.now args.index (omega arith) (omega arith)) in
    record { bytes = p.0; place = p.1 }
