-- What is demanded of sheets, by the numbers that their answers show.
use Rattle.std.specs.Prelude.{ℕ, ◌≤◌, ◌≡◌, List, ◌↔◌, length}
use Rattle.term.specs.declared.Edition.{Edition}
use Rattle.sheet.specs.Sheet.{sheet_bytes, NoneEmpty}
use Rattle.sheet.specs.Check.{longest_sheet, edition_of}
use Rattle.sheet.specs.Entry.{entries}

-- a sheet of an edition with n entries, and its reading
pub record Reading (edition : Edition) (s : List ℕ) (n : ℕ) (es : List (List ℕ)) : Type 0 where
  pub short : length s ≤ longest_sheet
  pub counted : length es ≡ n
  pub none_empty : NoneEmpty es
  pub bytes : sheet_bytes edition es ≡ s

-- What is demanded of the check of a sheet: bytes are accepted exactly if they have a reading, which is their edition and entries and no other
pub record OneReading (s : List ℕ) (number count : ℕ) : Type 0 where
  pub accepted_exactly : (number ≡ 0) ↔ ((edition : Edition) × (n : ℕ) × (es : List (List ℕ)) × Reading edition s n es)
  pub its_entries : (edition : Edition) (n : ℕ) (es : List (List ℕ)) → Reading edition s n es → (edition ≡ edition_of s) × (count ≡ n) × (es ≡ entries s)
