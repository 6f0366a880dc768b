-- "Before all else, under 36,864 bytes lent for records is 12; then, unless the call makes a new station, over eight kept, a length not 1 to 4,096
-- or a name twice is 9." Only lengths and names in use are checked.
use Rattle.std.specs.Prelude.{ℕ, suc, ◌+◌, List, [], ◌∷◌, Bool, true, cond, ◌&&◌, not, length, take, leb, ltb, eqb, Result, Ok, Err}
use Rattle.station.specs.Slot.{most_kept, apart, room, names_of}
use Rattle.station.specs.declared.Station.{Station}
use Rattle.answers.specs.declared.Refusal.TheVariants.{Full, Directory}
use Rattle.answers.specs.declared.Refusal.{Refusal}

-- where a name stands among names; their number, where it is none of them
unfoldable pub place_of : ℕ → List ℕ → ℕ
place_of name [] = 0
place_of name (m ∷ ms) = cond (eqb m name) 0 (suc (place_of name ms))

abbrev pub is_among : ℕ → List ℕ → Bool
is_among name ms = ltb (place_of name ms) (length ms)

-- no name twice
unfoldable pub distinct : List ℕ → Bool
distinct [] = true
distinct (m ∷ ms) = not (is_among m ms) && distinct ms

-- each length is 1 to 4,096
unfoldable pub all_fit : List ℕ → Bool
all_fit [] = true
all_fit (k ∷ ks) = ltb 0 k && leb k apart && all_fit ks

unfoldable pub in_order : Station → Bool
in_order s = leb s.kept most_kept && all_fit (take (s.kept + 1) s.lengths) && distinct (names_of s)

-- of a station and the number of bytes lent
unfoldable pub check_of : Station → ℕ → Result (Unit {0}) Refusal
check_of s n = cond (ltb n room) (Err Full) (cond (in_order s) (Ok tt) (Err Directory))
