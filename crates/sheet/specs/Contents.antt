-- The check of what a sheet holds: 1, 14, the sheet's own checks, and then each entry in order, whose refusal shows its index.
use Rattle.std.specs.Prelude.{ℕ, ◌+◌, List, [], ◌∷◌, Bool, true, false, cond, leb, Result, Ok, Err, Option, None}
use Rattle.answers.specs.declared.Refusal.TheVariants.{Table, Long, Class}
use Rattle.term.specs.Language.{Language}
use Rattle.term.specs.Table.{table_accepted}
use Rattle.reader.specs.Brought.{language_in, list_accepted}
use Rattle.reader.specs.Reading.{shown, read_record, read_pattern}
use Rattle.sheet.specs.Check.{edition_of, check_among, and_then}
use Rattle.sheet.specs.Entry.{entries}
use Rattle.answers.specs.declared.Refusal.{Refusal}
use Rattle.answers.specs.declared.Fault.{Fault}
use Rattle.answers.specs.Fault.{fault_at}
use Rattle.term.specs.declared.Edition.{Edition}

-- an entry as a record or as a pattern
unfoldable pub read_entry : Bool → Language → List ℕ → Result ℕ Refusal
read_entry true l e = shown (read_record l e)
read_entry false l e = shown (read_pattern l e)

abbrev pub stop_at : ℕ → Result ℕ Refusal → Result ℕ Fault → Result ℕ Fault
stop_at i (Ok n) next = next
stop_at i (Err r) next = Err (fault_at r i)

-- the entries from index i on
unfoldable pub check_each : Bool → Language → ℕ → List (List ℕ) → Result ℕ Fault
check_each records l i [] = Ok i
check_each records l i (e ∷ es) = stop_at i (read_entry records l e) (check_each records l (i + 1) es)

abbrev pub most_rules : ℕ
most_rules = 64

-- a rule sheet holds at most so many patterns
abbrev pub few : Bool → ℕ → Bool
few true n = true
few false n = leb n most_rules

-- 1, 14, 6 of the sheet, 9, 6 of 64 rules, then each entry, in the sheet's edition
unfoldable pub check_contents : Bool → Option Edition → List ℕ → Option (List ℕ) → List ℕ → Result ℕ Fault
check_contents records editions table list s =
    cond (table_accepted table)
    (cond (list_accepted table list)
    (and_then (check_among editions s)
    (λ n. cond (few records n) (check_each records (language_in (edition_of s) table list) 0 (entries s)) (Err (fault_at Long 0))))
    (Err (fault_at Class 0)))
    (Err (fault_at Table 0))

-- a sheet of records, and a rule sheet
abbrev pub check_states : List ℕ → Option (List ℕ) → List ℕ → Result ℕ Fault
check_states table list s = check_contents true None table list s

abbrev pub check_rules : List ℕ → Option (List ℕ) → List ℕ → Result ℕ Fault
check_rules table list s = check_contents false None table list s
