-- A sheet: the number of its entries, a directory of offset and length pairs, and the entries, one after the other.
use Rattle.std.specs.Prelude.{ℕ, ◌+◌, ◌*◌, ◌<◌, length}
use mathlib.Core.List.{List, [], ◌∷◌, ◌++◌, map, flatten}
use Rattle.term.specs.declared.Edition.{Edition}
use Rattle.term.specs.declared.Edition.TheVariants.{One, Two}
use Rattle.sheet.specs.Word.{word_bytes, word}

-- how many bytes a pair has: an offset and a length
abbrev pub pair_bytes : ℕ
pair_bytes = 4

-- the offset that follows the count and so many pairs: of the next pair, or of the first entry
abbrev pub past_pairs : ℕ → ℕ
past_pairs n = word_bytes + pair_bytes * n

-- the pairs of entries of these lengths, each of which starts where the one before ended
unfoldable pub directory : ℕ → List ℕ → List ℕ
directory at [] = []
directory at (n ∷ ns) = word at ++ word n ++ directory (at + n) ns

-- "Edition 2 sheets add 32,768 to their count"
abbrev pub edition_mark : ℕ
edition_mark = 32768

abbrev pub marked : Edition → ℕ → ℕ
marked One n = n
marked Two n = edition_mark + n

unfoldable pub sheet_bytes : Edition → List (List ℕ) → List ℕ
sheet_bytes edition es = word (marked edition (length es)) ++ directory (past_pairs (length es)) (map length es) ++ flatten es

-- no entry is empty
unfoldable pub NoneEmpty : List (List ℕ) → Type 0
NoneEmpty [] = Unit {0}
NoneEmpty (e ∷ es) = (0 < length e) × NoneEmpty es
