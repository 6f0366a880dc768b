-- Writing a sheet of records, which come joined, with their lengths: 1, 14, then 9, 6 of the sheet, each record, 12. "the writer, is told the edition"
use Rattle.std.specs.Prelude.{ℕ, ◌+◌, List, [], ◌∷◌, ◌++◌, Bool, true, cond, ◌&&◌, length, take, drop, leb, ltb, eqb, Result, Ok, Err}
use Rattle.answers.specs.declared.Refusal.TheVariants.{Table, Class, Long, Directory, Full}
use Rattle.term.specs.Table.{table_accepted}
use Rattle.reader.specs.Brought.{Brought, language_of, brought_accepted}
use Rattle.sheet.specs.Sheet.{past_pairs, sheet_bytes}
use Rattle.sheet.specs.Check.{longest_sheet}
use Rattle.sheet.specs.Contents.{check_each}
use Rattle.answers.specs.declared.Fault.{Fault}
use Rattle.answers.specs.Fault.{fault_at}

-- the records
unfoldable pub split : List ℕ → List ℕ → List (List ℕ)
split bs [] = []
split bs (n ∷ ns) = take n bs ∷ split (drop n bs) ns

unfoldable pub sum : List ℕ → ℕ
sum [] = 0
sum (n ∷ ns) = n + sum ns

unfoldable pub none_zero : List ℕ → Bool
none_zero [] = true
none_zero (n ∷ ns) = ltb 0 n && none_zero ns

-- no length is 0, and together they are all the bytes
unfoldable pub lengths_accepted : List ℕ → ℕ → Bool
lengths_accepted ns total = none_zero ns && eqb total (sum ns)

-- the length of the sheet of n records of so many bytes
abbrev pub sheet_length : ℕ → ℕ → ℕ
sheet_length n total = past_pairs n + total

-- the checks of what is to be written
unfoldable pub check_records : Brought → List ℕ → List ℕ → Result ℕ Fault
check_records brought bs ns =
    cond (table_accepted brought.table)
    (cond (brought_accepted brought)
    (cond (lengths_accepted ns (length bs))
    (cond (leb (sheet_length (length ns) (length bs)) longest_sheet)
    (check_each true (language_of brought) 0 (split bs ns))
    (Err (fault_at Long 0)))
    (Err (fault_at Directory 0)))
    (Err (fault_at Class 0)))
    (Err (fault_at Table 0))

-- 12 where the output is too short
abbrev pub with_room : Result ℕ Fault → ℕ → ℕ → Result ℕ Fault
with_room (Ok n) size room = cond (leb size room) (Ok size) (Err (fault_at Full 0))
with_room (Err f) size room = Err f

-- what a writing into so much room shows
unfoldable pub writing : Brought → List ℕ → List ℕ → ℕ → Result ℕ Fault
writing brought bs ns room = with_room (check_records brought bs ns) (sheet_length (length ns) (length bs)) room

-- the output after it: the sheet, and past it what was there; all that was there after a refusal
abbrev pub after_writing : Result ℕ Fault → List ℕ → List ℕ → List ℕ
after_writing (Ok n) s out = s ++ drop n out
after_writing (Err f) s out = out

unfoldable pub output_after : Brought → List ℕ → List ℕ → List ℕ → List ℕ
output_after brought bs ns out = after_writing (writing brought bs ns (length out)) (sheet_bytes brought.edition (split bs ns)) out
