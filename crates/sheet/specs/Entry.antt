-- The entries of a sheet: parts of it, at the directory's offset and length.
use Rattle.std.specs.Prelude.{ℕ, zero, suc, ◌+◌, List, [], ◌∷◌, Bool, cond, ◌&&◌, length, take, drop, leb, ltb, Result, Ok, Err}
use Rattle.std.specs.Borrow.{Bor}
use Rattle.answers.specs.declared.Refusal.TheVariants.{Directory}
use Rattle.byte_answers.specs.Answers.{place_offset, place_length}
use Rattle.byte_answers.specs.declared.Place.{Place}
use Rattle.sheet.specs.Sheet.{past_pairs}
use Rattle.sheet.specs.Check.{entry_count, offset_at, length_at, check_sheet, and_then}
use Rattle.answers.specs.declared.Refusal.{Refusal}
use Rattle.answers.specs.declared.Fault.{Fault}
use Rattle.answers.specs.Fault.{fault_at}
use Rattle.byte_answers.specs.Answers.{place_at}

unfoldable pub entry_at : List ℕ → ℕ → List ℕ
entry_at s i = take (length_at s i) (drop (offset_at s i) s)

-- so many entries from index i on, and all of them
unfoldable pub entries_from : List ℕ → ℕ → ℕ → List (List ℕ)
entries_from s zero i = []
entries_from s (suc k) i = entry_at s i ∷ entries_from s k (i + 1)

unfoldable pub entries : List ℕ → List (List ℕ)
entries s = entries_from s (entry_count s) 0

-- the check of a sheet and an index: 9 also where there is no such entry
unfoldable pub check_entry : List ℕ → ℕ → Result ℕ Fault
check_entry s i = and_then (check_sheet s) (λ n. cond (ltb i n) (Ok n) (Err (fault_at Directory 0)))

-- where an entry lies: the directory's offset and length where the check passes, or why it does not
abbrev pub place_by : Result ℕ Fault → ℕ → ℕ → Result Place Refusal
place_by (Ok n) offset length = Ok (place_at offset length)
place_by (Err f) offset length = Err f.refusal

unfoldable pub place_of : List ℕ → ℕ → Result Place Refusal
place_of s i = place_by (check_entry s i) (offset_at s i) (length_at s i)

-- reading an entry: the part at its place, and an empty part where the check gives 6 or 9
unfoldable pub shown_entry : List ℕ → ℕ → List ℕ
shown_entry s i = take (place_length (place_of s i)) (drop (place_offset (place_of s i)) s)

-- whether the pair of an index, and the part that it tells, lie within any bytes
unfoldable pub pair_within : List ℕ → ℕ → Bool
pair_within s i = leb (past_pairs (i + 1)) (length s) && leb (offset_at s i + length_at s i) (length s)

-- that part, or an empty one at their start
unfoldable pub part_at : List ℕ → ℕ → List ℕ
part_at s i = cond (pair_within s i) (entry_at s i) []

unfoldable pub part_offset : List ℕ → ℕ → ℕ
part_offset s i = cond (pair_within s i) (offset_at s i) 0

-- where a part of a slice points that starts at this offset: into the slice's own block of memory, so many bytes further on
abbrev pub points_into : Bor (List ℕ) → ℕ → ℕ × ℕ
points_into s offset = (s.ref_ptr.0, s.ref_ptr.1 + offset)
