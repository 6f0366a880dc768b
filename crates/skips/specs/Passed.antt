-- Elements at the start of a part that are passed over: those before the first that may hold, each with what is counted for it.
use Rattle.std.specs.Prelude.{ℕ, zero, suc, ◌+◌, ◌-◌, ◌*◌, ◌/◌, ◌<◌, List, [], ◌∷◌, Bool, true, false, cond, ◌&&◌, ◌||◌, length, get_or, take, drop, leb, ltb, eqb}
use Rattle.term.specs.Class.{class_of}
use Rattle.term.specs.Code.{decode_of}
use Rattle.term.specs.Extent.{entry_of, extent_of}
use Rattle.term.specs.Same.{same_byte, same_part}
use Rattle.term.specs.Table.{list}
use Rattle.term.specs.declared.Code.{Code}
use Rattle.term.specs.declared.Code.TheVariants.{Symbol, Name, Run, Complement}
use Rattle.skips.specs.declared.Passed.{Passed}

-- whether x stands at the start of r
unfoldable pub starts_of : List ℕ → List ℕ → List ℕ → List ℕ → Bool
starts_of table classes x r = leb (length x) (length r) && same_part table classes false x (take (length x) r)

-- whether so many bytes at the start of r have a first and a last of these classes
unfoldable pub alike_of : List ℕ → ℕ → ℕ → ℕ → List ℕ → Bool
alike_of classes first last size r =
    leb size (length r) && (eqb first (class_of classes (get_or r 0 0)) && eqb last (class_of classes (get_or r (size - 1) 0)))

-- whether a symbol without children is at a place
unfoldable pub leaf_at : List ℕ → List ℕ → ℕ → Bool
leaf_at table s i = ltb i (length s) && eqb (entry_of table (get_or s i 0)) 0

-- Chains of symbols, each but the first the first child of the one before

abbrev pub most_symbols : ℕ
most_symbols = 255

abbrev pub is_symbol : Code → Bool
is_symbol (Symbol b) = true
is_symbol (Name v) = false
is_symbol (Run v) = false
is_symbol Complement = false
is_symbol Code.Refused = false

-- a symbol without children and a list symbol end a chain
unfoldable pub ends_chain : List ℕ → ℕ → Bool
ends_chain table a = eqb (entry_of table a) 0 || eqb (entry_of table a) list

-- the symbols of the chain at the start of q, at most so many
unfoldable pub chain_of : List ℕ → ℕ → List ℕ → ℕ
chain_of table zero q = 0
chain_of table (suc most) [] = 0
chain_of table (suc most) (a ∷ q) =
    cond (is_symbol (decode_of a)) (suc (cond (ends_chain table a) 0 (chain_of table most q))) 0

-- a count of pairs, after so many before; 0 stays 0
abbrev pub pairs_after : ℕ → ℕ → ℕ
pairs_after n zero = 0
pairs_after n (suc k) = suc (n + k)

-- the pairs counted where the element at the start of r is set against so many symbols of the chain x: up to and with the first that differs, 0 where
-- none does before x or r ends
unfoldable pub differs_at : List ℕ → ℕ → List ℕ → List ℕ → ℕ
differs_at classes zero x r = 0
differs_at classes (suc n) [] r = 0
differs_at classes (suc n) (a ∷ x) [] = 0
differs_at classes (suc n) (a ∷ x) (b ∷ r) = cond (same_byte classes false a b) (pairs_after 1 (differs_at classes n x r)) 1

-- Elements that are passed over

-- the pairs counted where the element at the start of r fails, 0 where it may hold: against so many symbols of the chain x, or where they are 0
-- against the part x, which is one pair
unfoldable pub failing_of : List ℕ → List ℕ → ℕ → List ℕ → List ℕ → ℕ
failing_of table classes zero x r = cond (starts_of table classes x r) 0 1
failing_of table classes (suc n) x r = differs_at classes (suc n) x r

abbrev pub passed_over : ℕ → ℕ → ℕ → Passed
passed_over elements size count = record { elements = elements; size = size; count = count }

-- so many elements of so many bytes and their count, and those of p after them
abbrev pub before : ℕ → ℕ → ℕ → Passed → Passed
before n size count p = passed_over (n + p.elements) (size + p.size) (count + p.count)

-- at most so many of the elements at the start of r, up to the first that may hold; a length counts one, and then the pairs
unfoldable pub passed_of : List ℕ → List ℕ → ℕ → List ℕ → List ℕ → ℕ → Passed
passed_of table classes symbols x r zero = passed_over 0 0 0
passed_of table classes symbols x r (suc most) =
    cond (eqb (length r) 0 || eqb (failing_of table classes symbols x r) 0) (passed_over 0 0 0)
    (before 1 (extent_of table r) (1 + failing_of table classes symbols x r) (passed_of table classes symbols x (drop (extent_of table r) r) most))

-- what callers rely on: r starts with so many elements of so many bytes, and each of them fails, with its pairs in the count
pub data Passes (table classes : List ℕ) (symbols : ℕ) (x : List ℕ) : List ℕ → ℕ → ℕ → ℕ → Type 0 where
  none : {r : List ℕ} → Passes table classes symbols x r 0 0 0
  more : {r : List ℕ} {k size count : ℕ} → 0 < length r → 0 < failing_of table classes symbols x r
      → Passes table classes symbols x (drop (extent_of table r) r) k size count
      → Passes table classes symbols x r (1 + k) (extent_of table r + size) (1 + failing_of table classes symbols x r + count)

-- the most that is counted for an element: its length, and the pairs up to the one that fails
unfoldable pub dearest_of : ℕ → ℕ
dearest_of zero = 2
dearest_of (suc n) = 1 + suc n

-- as many of the elements left as an allowance has for
unfoldable pub affordable_of : ℕ → ℕ → ℕ → ℕ
affordable_of symbols elements left = cond (leb (dearest_of symbols * elements) left) elements (left / dearest_of symbols)
