-- The call: what it answers, and what it leaves in the output, on all inputs.
use Rattle.std.specs.Prelude.{ℕ, List, ◌++◌, cond, leb, length, drop, Result, Ok, Err}
use Rattle.answers.specs.declared.Refusal.{Refusal}
use Rattle.answers.specs.declared.Refusal.TheVariants.{Table, Long, Class, Full, NoExample}
use Rattle.answers.specs.declared.Applied.{Applied}
use Rattle.answers.specs.declared.Applied.TheVariants.{Bound, Spent}
use Rattle.term.specs.Pattern.{Pattern}
use Rattle.term.specs.Table.{table_accepted}
use Rattle.reader.specs.Reading.{read_pattern}
use Rattle.reader.specs.Brought.{Brought, language_of, brought_accepted}
use Rattle.call.specs.Call.{answer_by}
use Rattle.call.specs.Verdict.{Verdict, check, reading}
use Rattle.example.specs.Trial.{Trial, shows, no_example, spent_at, example}

-- "a size up to 6 bytes"
abbrev pub largest_size : ℕ
largest_size = 6

-- "a size over 6 is 6, first", 1, 14, the pattern's checks
unfoldable pub checked : Brought → List ℕ → ℕ → Verdict Pattern
checked brought pattern size =
    check (leb size largest_size) Long
    (check (table_accepted brought.table) Table (check (brought_accepted brought) Class (reading (read_pattern (language_of brought) pattern))))

-- "22 (no example), after all candidates"; "a short output 12, last". (None does not come up.)
abbrev pub example_by : Trial → ℕ → Result Applied Refusal
example_by (shows s n) room = cond (leb (length s) room) (Ok (Bound n (length s))) (Err Full)
example_by no_example room = Err NoExample
example_by (spent_at n) room = Ok (Spent n)

abbrev pub refusal : Refusal → ℕ → Result Applied Refusal
refusal r i = Err r

unfoldable pub example_of : Brought → List ℕ → ℕ → ℕ → ℕ → Result Applied Refusal
example_of brought pattern size allowance room =
    answer_by refusal (λ q. example_by (example (language_of brought) q allowance size) room) (checked brought pattern size)

-- the output, which held `before`: the record at its front, and past it stays what was there
abbrev pub output_by : Trial → List ℕ → List ℕ
output_by (shows s n) before = cond (leb (length s) (length before)) (s ++ drop (length s) before) before
output_by no_example before = before
output_by (spent_at n) before = before

unfoldable pub output_of : Brought → List ℕ → ℕ → ℕ → List ℕ → List ℕ
output_of brought pattern size allowance before =
    answer_by (λ r i. before) (λ q. output_by (example (language_of brought) q allowance size) before) (checked brought pattern size)
