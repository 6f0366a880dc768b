-- The call: what it answers, on all inputs.
use Rattle.std.specs.Prelude.{ℕ, List, cond, Result, Ok, Err, Option, Some, None}
use Rattle.answers.specs.declared.Refusal.TheVariants.{Table, Class}
use Rattle.term.specs.Pattern.{Pattern}
use Rattle.reader.specs.Brought.{Brought, language_of, brought_accepted}
use Rattle.reader.specs.Reading.{Parsed, refused, read, read_pattern}
use Rattle.term.specs.Table.{table_accepted}
use Rattle.anti_pattern.specs.Cost.{nodes, has_runs}
use Rattle.answers.specs.declared.Refusal.{Refusal}

-- the pattern's nodes, unless it has run names
abbrev pub cost_by : Parsed Pattern → Result (Option ℕ) Refusal
cost_by (refused r) = Err r
cost_by (read q n) = cond (has_runs q) (Ok None) (Ok (Some (nodes q)))

-- in order: 1, 14, the pattern's checks
unfoldable pub cost_of : Brought → List ℕ → Result (Option ℕ) Refusal
cost_of brought pattern =
    cond (table_accepted brought.table) (cond (brought_accepted brought) (cost_by (read_pattern (language_of brought) pattern)) (Err Class)) (Err Table)
