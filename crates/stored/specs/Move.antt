-- The move from the old form to the stored one and back: 1, 14, the checks of what is read, and "a short output is 12, last". It shows the length that
-- was written; the output past it stays, and all of it where the move is refused.
use Rattle.std.specs.Prelude.{ℕ, List, [], ◌++◌, cond, length, drop, leb, Result, Ok, Err}
use Rattle.answers.specs.declared.Refusal.TheVariants.{Table, Class, Full}
use Rattle.term.specs.Table.{table_accepted}
use Rattle.term.specs.Term.{Term, term_bytes}
use Rattle.reader.specs.Brought.{Brought, language_of, brought_accepted}
use Rattle.reader.specs.Reading.{Parsed, refused, read, read_record}
use Rattle.stored.specs.Form.{stored_bytes}
use Rattle.stored.specs.Reading.{read_stored}
use Rattle.answers.specs.declared.Refusal.{Refusal}

-- the bytes to be written, or why there are none
unfoldable pub bytes_by : (Term → List ℕ) → Parsed Term → Parsed (List ℕ)
bytes_by f (refused r) = refused r
bytes_by f (read t n) = read (f t) n

-- 1, 14, and then what is read
unfoldable pub unless_brought : Brought → Parsed (List ℕ) → Parsed (List ℕ)
unless_brought brought a = cond (table_accepted brought.table) (cond (brought_accepted brought) a (refused Class)) (refused Table)

unfoldable pub storing : Brought → List ℕ → Parsed (List ℕ)
storing brought s = unless_brought brought (bytes_by (λ t. stored_bytes brought.table t []) (read_record (language_of brought) s))

unfoldable pub restoring : Brought → List ℕ → Parsed (List ℕ)
restoring brought s = unless_brought brought (bytes_by (λ t. term_bytes brought.table t []) (read_stored (language_of brought) s))

-- what is shown of a move into so much room, and the output after it
unfoldable pub moved : Parsed (List ℕ) → ℕ → Result ℕ Refusal
moved (refused r) room = Err r
moved (read bs n) room = cond (leb (length bs) room) (Ok (length bs)) (Err Full)

unfoldable pub output_after : Parsed (List ℕ) → List ℕ → List ℕ
output_after (refused r) out = out
output_after (read bs n) out = cond (leb (length bs) (length out)) (bs ++ drop (length bs) out) out
