-- `sheet::edition_of` meets its contract.
use native.Mathlib.Omega.{arith}
use mathlib.Core.Path.{sym}
use Rattle.sheet.proofs.Words.{edition_short, edition_below, edition_above}
use Rattle.sheet.proofs.edition_of.Goals as goal
use Rattle.sheet.proofs.edition_of.Goals.{then-sheet-lt-WORD-via-then-sheet-lt-WORD, then-sheet-lt-WORD-via-else-sheet-lt-WORD+then-word_at-lt-EDITION_MARK}

pub returns-then-sheet-lt-WORD : goal.returns-then-sheet-lt-WORD
returns-then-sheet-lt-WORD c = elim c.then-sheet-lt-WORD.branch [
  | then-sheet-lt-WORD-via-then-sheet-lt-WORD w ↦ sym (edition_short _ (λ i. omega (arith, c.type_inv.sheet i)) (omega arith))
  | then-sheet-lt-WORD-via-else-sheet-lt-WORD+then-word_at-lt-EDITION_MARK w ↦ sym (edition_below _ (omega arith))
]

pub returns : goal.returns
returns c = sym (edition_above _ (omega arith))
