-- The extent of the term or pattern at the start of a part: its length in bytes, found by counting the trees that are still to come.
use Rattle.std.specs.Prelude.{ℕ, zero, suc, ◌+◌, List, [], ◌∷◌, Bool, true, false, cond, length, get_or, ltb, eqb}
use Rattle.term.specs.Table.{list}
use Rattle.term.specs.Code.{decode_of}
use Rattle.term.specs.declared.Code.{Code}
use Rattle.term.specs.declared.Code.TheVariants.{Symbol, Name, Run, Complement}

-- the children of a code that is no symbol of the table: a complement has one
abbrev pub kids_of : Code → ℕ
kids_of (Symbol b) = 0
kids_of (Name v) = 0
kids_of (Run v) = 0
kids_of Complement = 1
kids_of Code.Refused = 0

-- the entry of a code: its number of children, or 255 for a list
unfoldable pub entry_of : List ℕ → ℕ → ℕ
entry_of table b = cond (ltb b (length table)) (get_or table b 0) (kids_of (decode_of b))

-- how many bytes of s go by until so many trees are over; `counting` where the next byte is a list's number of children
unfoldable pub span_of : List ℕ → List ℕ → Bool → ℕ → ℕ
span_of table [] counting trees = 0
span_of table (b ∷ s) true trees = suc (span_of table s false (b + trees))
span_of table (b ∷ s) false zero = 0
span_of table (b ∷ s) false (suc trees) =
    suc (cond (eqb (entry_of table b) list) (span_of table s true trees) (span_of table s false (entry_of table b + trees)))

-- one tree; all of s where s ends before it
unfoldable pub extent_of : List ℕ → List ℕ → ℕ
extent_of table s = span_of table s false 1
