-- The check of a sheet: 6 over 32,768 bytes, then 9 where its directory breaks a rule.
use Rattle.std.specs.Prelude.{ℕ, zero, suc, ◌+◌, ◌%◌, List, Bool, true, false, cond, ◌&&◌, length, leb, ltb, eqb, Result, Ok, Err, Option, Some, None}
use Rattle.answers.specs.declared.Refusal.TheVariants.{Long, Directory}
use Rattle.term.specs.declared.Edition.{Edition}
use Rattle.term.specs.declared.Edition.TheVariants.{One, Two}
use Rattle.sheet.specs.Word.{word_bytes, word_at}
use Rattle.sheet.specs.Sheet.{past_pairs, edition_mark}
use Rattle.answers.specs.declared.Fault.{Fault}
use Rattle.answers.specs.Fault.{fault_at}

abbrev pub longest_sheet : ℕ
longest_sheet = 32768

-- the number of entries that a sheet tells, and its edition
unfoldable pub entry_count : List ℕ → ℕ
entry_count s = word_at s 0 % edition_mark

unfoldable pub edition_of : List ℕ → Edition
edition_of s = cond (ltb (word_at s 0) edition_mark) One Two

-- the directory's pair of an index
abbrev pub offset_at : List ℕ → ℕ → ℕ
offset_at s i = word_at s (past_pairs i)

abbrev pub length_at : List ℕ → ℕ → ℕ
length_at s i = word_at s (past_pairs i + word_bytes)

-- so many entries from index i on: the first starts at this offset, each where the one before ended, no length is 0, and the last
-- ends with the sheet
unfoldable pub entries_follow : List ℕ → ℕ → ℕ → ℕ → Bool
entries_follow s zero i at = eqb at (length s)
entries_follow s (suc k) i at = eqb (offset_at s i) at && ltb 0 (length_at s i) && entries_follow s k (i + 1) (at + length_at s i)

-- count and pairs lie within the sheet, and the entries follow
unfoldable pub directory_accepted : List ℕ → Bool
directory_accepted s = leb (past_pairs (entry_count s)) (length s) && entries_follow s (entry_count s) 0 (past_pairs (entry_count s))

unfoldable pub check_sheet : List ℕ → Result ℕ Fault
check_sheet s =
    cond (leb (length s) longest_sheet)
    (cond (directory_accepted s) (Ok (entry_count s)) (Err (fault_at Directory 0)))
    (Err (fault_at Long 0))

-- a further check, by the number of entries
abbrev pub and_then : Result ℕ Fault → (ℕ → Result ℕ Fault) → Result ℕ Fault
and_then (Ok n) next = next n
and_then (Err f) next = Err f

-- "sheets of unlike editions in one call are 9 of the later one": any edition, or only that of the sheets before
abbrev pub same_edition : Edition → Edition → Bool
same_edition One One = true
same_edition One Two = false
same_edition Two One = false
same_edition Two Two = true

abbrev pub allowed : Option Edition → Edition → Bool
allowed None edition = true
allowed (Some wanted) edition = same_edition wanted edition

unfoldable pub check_among : Option Edition → List ℕ → Result ℕ Fault
check_among editions s = and_then (check_sheet s) (λ n. cond (allowed editions (edition_of s)) (Ok n) (Err (fault_at Directory 0)))
