-- The report: "a refusal is the whole output"; else the header and a line for each state.
use Rattle.std.specs.Prelude.{ℕ, ◌+◌, ◌*◌, List, [], ◌∷◌, ◌++◌, Bool, length, drop, Result, Ok, Err, Option, None, is_some}
use Rattle.std.specs.Option.{unwrap_or}
use Rattle.sheet.specs.Entry.{entries}
use Rattle.call.specs.Call.{answer_width}
use Rattle.rules.specs.Call.{in_sheet, answer_of}
use Rattle.report_lines.specs.Line.{header, answer_line, refusal_line}
use Rattle.report_lines.specs.Verdict.{verdict}
use Rattle.report_lines.specs.declared.FileFault.{FileFault}

abbrev pub allowance : ℕ
allowance = 100000

-- the line of a state: its index, and what the rules answer on its record, without a class list and with a buffer of an answer's width
unfoldable pub state_line : List ℕ → List ℕ → ℕ → List ℕ → List ℕ
state_line table rules k «record» = answer_line k (answer_of (in_sheet rules table None) rules «record» allowance answer_width)

-- the lines of these records, the first of which has index k
unfoldable pub lines_from : List ℕ → List ℕ → ℕ → List (List ℕ) → List ℕ
lines_from table rules k [] = []
lines_from table rules k (e ∷ es) = state_line table rules k e ++ lines_from table rules (k + 1) es

-- the header and the lines of all states
unfoldable pub lines : List ℕ → List ℕ → List ℕ → List ℕ
lines table rules states = header ++ lines_from table rules 0 (entries states)

abbrev pub report_by : Result ℕ FileFault → List ℕ → List ℕ → List ℕ → List ℕ
report_by (Ok n) table rules states = lines table rules states
report_by (Err e) table rules states = refusal_line e.fault.refusal e.file e.fault.index

-- the report on three files, each with whether it could be read
unfoldable pub report : Bool → List ℕ → Bool → List ℕ → Bool → List ℕ → List ℕ
report table_read table rules_read rules states_read states =
    report_by (verdict table_read table rules_read rules states_read states) table rules states

-- the report on what is read of each file, if it could be read
abbrev pub report_on : Option (List ℕ) → Option (List ℕ) → Option (List ℕ) → List ℕ
report_on table rules states =
    report (is_some table) (unwrap_or table []) (is_some rules) (unwrap_or rules []) (is_some states) (unwrap_or states [])

-- The room that every report has its place in: a sheet holds at most 6,553 states, each with a pair and at least one byte, and a line has
-- at most 22 bytes: 4 of the state's index, 2 of the rule's, 5 of the word, 7 of the sum, and the 4 after them. The header has 22 too.

abbrev pub most_states : ℕ
most_states = 6553

abbrev pub line_room : ℕ
line_room = 22

abbrev pub report_room : ℕ
report_room = (most_states + 1) * line_room

-- an output with a text at its front; what lies past the text stays
unfoldable pub front : List ℕ → List ℕ → List ℕ
front text before = text ++ drop (length text) before
