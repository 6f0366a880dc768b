-- What is demanded of the lines of accepted files. The theorem is in proofs/Demands.
use Rattle.std.specs.Prelude.{ℕ, ◌+◌, ◌<◌, ◌≡◌, List, [], ◌++◌, true, take, drop, None}
use Rattle.term.specs.Term.{Term}
use Rattle.term.specs.Pattern.{Pattern}
use Rattle.anti_pattern.specs.Language.{language}
use Rattle.sheet.specs.Entry.{entries, shown_entry}
use Rattle.rules.specs.Trial.{try_rules}
use Rattle.rules.specs.Call.{in_sheet, Input, told}
use Rattle.report_lines.specs.Line.{header, answer_line}
use Rattle.report_lines.specs.Verdict.{FilesAccepted}
use Rattle.report_lines.specs.Report.{allowance, state_line, lines_from, report}
use Rattle.sheet.specs.Check.{edition_of}

-- a report that has this line for the state of index k, after the header and the lines of the states before it
abbrev pub with_line : List ℕ → List ℕ → List ℕ → ℕ → List ℕ → List ℕ
with_line table rules states k text =
    header
    ++ (lines_from table rules 0 (take k (entries states)) ++ (text ++ lines_from table rules (k + 1) (drop (k + 1) (entries states))))

pub record StateShown (table rules states : List ℕ) (k : ℕ) : Type 0 where
  -- its line stands in its place
  pub placed : report true table true rules true states ≡ with_line table rules states k (state_line table rules k (shown_entry states k))
  -- it shows what trying the rules on the record's term gives
  pub shown : (qs : List Pattern) × (t : Term) × Input (in_sheet rules table None) rules (shown_entry states k) qs t
      × (state_line table rules k (shown_entry states k) ≡ answer_line k (told (try_rules (language (edition_of rules) table []) qs t allowance)))
  -- it depends on its index, the table, the rules and that record only: the report on other accepted states with this record there has
  -- the same line there
  pub own : (others : List ℕ) (m : ℕ) → FilesAccepted table rules others m → k < m → shown_entry others k ≡ shown_entry states k
      → report true table true rules true others ≡ with_line table rules others k (state_line table rules k (shown_entry states k))
