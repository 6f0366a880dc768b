-- What is demanded of the move from one form to the other, whichever way: `Of` says that bytes are an accepted input, `To` that they are the other form.
use Rattle.std.specs.Prelude.{ℕ, ◌≤◌, ◌<◌, ◌≡◌, List, [], ◌↔◌, true, length}
use Rattle.term.specs.Limits.{TermAccepted}
use Rattle.reader.specs.Brought.{Brought, language_of, brought_accepted}
use Rattle.reader.specs.Reading.{Parsed, read}
use Rattle.term.specs.Table.{table_accepted}
use Rattle.term.specs.Term.{Term, term_bytes}
use Rattle.byte_answers.specs.Answers.{Writes}
use Rattle.stored.specs.Form.{stored_bytes, longest_stored}
use Rattle.stored.specs.Move.{storing, restoring}

-- an accepted record of a term
pub record RecordOf (brought : Brought) (t : Term) (s : List ℕ) : Type 0 where
  pub table_accepted_holds : table_accepted brought.table ≡ true
  pub list_accepted_holds : brought_accepted brought ≡ true
  pub bytes : term_bytes brought.table t [] ≡ s
  pub accepted : TermAccepted (language_of brought) t

-- an accepted stored record of a term: "A stored record has at most 8,192 bytes", and its old form is accepted
pub record StoredOf (brought : Brought) (t : Term) (s : List ℕ) : Type 0 where
  pub table_accepted_holds : table_accepted brought.table ≡ true
  pub list_accepted_holds : brought_accepted brought ≡ true
  pub bytes : stored_bytes brought.table t [] ≡ s
  pub accepted : TermAccepted (language_of brought) t
  pub short : length s ≤ longest_stored

-- of a move of s that shows this number and length and leaves `after` in the output, where `before` was
pub record Demanded (Of To : Term → List ℕ → Type 0) (back : List ℕ → Parsed (List ℕ)) (s before : List ℕ) (number size : ℕ) (after : List ℕ) : Type 0 where
  -- the bytes are those of one term
  pub one_term : (t u : Term) → Of t s → Of u s → t ≡ u
  -- "There and back gives the old bytes for every accepted record, and back and there the new bytes for every accepted stored record."
  -- The other form is written where the output has the room
  pub there_and_back : (t : Term) → Of t s
      → (bs : List ℕ) × To t bs × (back bs ≡ read s (length bs)) × (length bs ≤ length before → Writes before number size after bs)
  -- refused exactly if s is not accepted or the output too short
  pub refused_exactly : (0 < number) ↔ ((t : Term) (bs : List ℕ) → Of t s → To t bs → length before < length bs)
  pub untouched : 0 < number → (size ≡ 0) × (after ≡ before)

-- of the move of a record to its stored form, and back
abbrev pub StoreDemanded : Brought → List ℕ → List ℕ → ℕ → ℕ → List ℕ → Type 0
StoreDemanded brought s before number size after = Demanded (RecordOf brought) (StoredOf brought) (restoring brought) s before number size after

abbrev pub RestoreDemanded : Brought → List ℕ → List ℕ → ℕ → ℕ → List ℕ → Type 0
RestoreDemanded brought s before number size after = Demanded (StoredOf brought) (RecordOf brought) (storing brought) s before number size after
