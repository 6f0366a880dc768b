-- The checks of the three files, in their order, 13 before a file's other checks. `true` says that a file could be read.
use Rattle.std.specs.Prelude.{ℕ, ◌≡◌, List, [], Bool, true, cond, Result, Ok, Err, Option, None, Some, is_some}
use Rattle.answers.specs.declared.Refusal.{Refusal}
use Rattle.answers.specs.declared.Refusal.TheVariants.{Unread}
use Rattle.term.specs.Table.{table_accepted}
use Rattle.std.specs.Option.{unwrap_or}
use Rattle.sheet.specs.Contents.{check_contents, check_rules}
use Rattle.report_lines.specs.declared.File.{File}
use Rattle.report_lines.specs.declared.File.TheVariants.{Rules, States}
use Rattle.report_lines.specs.declared.FileFault.{FileFault}
use Rattle.sheet.specs.Check.{edition_of}
use Rattle.answers.specs.declared.Fault.{Fault}
use Rattle.answers.specs.Fault.{fault_at}

-- 13, or what the further checks of a sheet show
unfoldable pub readable : Bool → Result ℕ Fault → Result ℕ Fault
readable read checks = cond read checks (Err (fault_at Unread 0))

-- a refusal, and the file at fault
abbrev pub in_file : File → Fault → FileFault
in_file f e = record { file = f; fault = e }

-- a refusal of a sheet, or what follows from the number of its entries
abbrev pub sheet_of : File → Result ℕ Fault → (ℕ → Result ℕ FileFault) → Result ℕ FileFault
sheet_of f (Ok n) next = next n
sheet_of f (Err e) next = Err (in_file f e)

-- the checks of the states: "sheets of unlike editions in one call are 9 of the later one, in a report the states"
abbrev pub check_like : List ℕ → List ℕ → List ℕ → Result ℕ Fault
check_like table rules states = check_contents true (Some (edition_of rules)) table None states

-- the number of states, or the first refusal
unfoldable pub verdict : Bool → List ℕ → Bool → List ℕ → Bool → List ℕ → Result ℕ FileFault
verdict table_read table rules_read rules states_read states =
    cond table_read
    (cond (table_accepted table)
    (sheet_of Rules (readable rules_read (check_rules table None rules)) (λ m.
    sheet_of States (readable states_read (check_like table rules states)) (λ n. Ok n)))
    (Err (in_file File.Table (fault_at Refusal.Table 0))))
    (Err (in_file File.Table (fault_at Unread 0)))

-- the same of what is read of each file, if it could be read
abbrev pub verdict_on : Option (List ℕ) → Option (List ℕ) → Option (List ℕ) → Result ℕ FileFault
verdict_on table rules states =
    verdict (is_some table) (unwrap_or table []) (is_some rules) (unwrap_or rules []) (is_some states) (unwrap_or states [])

-- files that pass every check, with n states
abbrev pub FilesAccepted : List ℕ → List ℕ → List ℕ → ℕ → Type 0
FilesAccepted table rules states n = verdict true table true rules true states ≡ Ok n
