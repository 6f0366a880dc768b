-- What is demanded of a writing, by the number and the length that it shows.
use Rattle.std.specs.Prelude.{ℕ, ◌≤◌, ◌<◌, ◌≡◌, ◌↔◌, length, get_or, Result}
use mathlib.Core.List.{List, [], map, flatten}
use Rattle.answers.specs.Shown.{fault_number, size_told}
use Rattle.byte_answers.specs.Answers.{Writes}
use Rattle.term.specs.Limits.{Octets}
use Rattle.reader.specs.Brought.{Brought}
use Rattle.sheet.specs.Check.{edition_of}
use Rattle.sheet.specs.Entry.{entries, shown_entry}
use Rattle.sheet.specs.Contents.{check_states}
use Rattle.writing.specs.Writing.{split, writing, output_after}
use Rattle.answers.specs.declared.Fault.{Fault}

-- a sheet of accepted records, in the edition and with the class list that are told, which joined are bs and have the lengths ns
pub record SheetOf (brought : Brought) (bs ns s : List ℕ) : Type 0 where
  pub bytes : Octets s
  pub accepted : fault_number (check_states brought.table brought.list s) ≡ 0
  pub edition : edition_of s ≡ brought.edition
  pub joined : flatten (entries s) ≡ bs
  pub lengths : map length (entries s) ≡ ns

-- a sheet that reads back as these records, entry by entry
pub record ReadsBack (brought : Brought) (bs ns s : List ℕ) : Type 0 where
  pub sheet : SheetOf brought bs ns s
  pub counted : size_told (check_states brought.table brought.list s) ≡ length ns
  pub same_entry : (i : ℕ) → i < length ns → shown_entry s i ≡ get_or (split bs ns) i []

-- What is demanded of a writing that shows this number and length and leaves `after` in the output, where `before` was
pub record Demanded (brought : Brought) (bs ns before : List ℕ) (number size : ℕ) (after : List ℕ) : Type 0 where
  -- "A sheet that was written reads back as its records"
  pub reads_back : number ≡ 0 → (s : List ℕ) × Writes before number size after s × ReadsBack brought bs ns s
  -- "an accepted sheet of accepted records, written anew from them, has the same bytes", where the output has the room
  pub written_anew : (s : List ℕ) → SheetOf brought bs ns s → length s ≤ length before → Writes before number size after s
  -- refused exactly if no sheet of these records has the room; then the length is 0 and the output as it was
  pub refused_exactly : (0 < number) ↔ ((s : List ℕ) → SheetOf brought bs ns s → length before < length s)
  pub untouched : 0 < number → (size ≡ 0) × (after ≡ before)

-- what is shown, the output and demands in one, which only a private function's contract cites
abbrev pub Called : Brought → List ℕ → List ℕ → List ℕ → Result ℕ Fault → List ℕ → Type 0
Called brought bs ns before x after =
    (x ≡ writing brought bs ns (length before))
    × ((after ≡ output_after brought bs ns before) × Demanded brought bs ns before (fault_number x) (size_told x) after)
