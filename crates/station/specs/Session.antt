-- Lists of calls: on a station and the bytes lent for its records, and on what is current and kept.
use Rattle.std.specs.Prelude.{ℕ, suc, ◌+◌, ◌*◌, ◌≤◌, ◌<◌, ◌≡◌, List, [], ◌∷◌, get_or}
use Rattle.answers.specs.Answers.{applied_number}
use Rattle.answers.specs.Shown.{refusal_number}
use Rattle.station.specs.Slot.{apart, record_at, names_of}
use Rattle.station.specs.Call.{Outcome, outcome, keep_of, return_of, apply_of}
use Rattle.station.specs.Shelf.{Entry, entry, Shelf, shelf, Call, Keep, Return, Apply, Told, change, apply, step_of}
use Rattle.station.specs.declared.Station.{Station}

-- the records that are kept under these names, from the i-th on
unfoldable pub entries_from : List ℕ → List ℕ → List ℕ → ℕ → List Entry
entries_from lengths bytes [] i = []
entries_from lengths bytes (m ∷ ms) i = entry m (record_at lengths bytes i) ∷ entries_from lengths bytes ms (suc i)

-- what a station holds, over the bytes lent for its records
unfoldable pub held_by : Station → List ℕ → Shelf
held_by s bytes = shelf (record_at s.lengths bytes 0) (entries_from s.lengths bytes (names_of s) 1)

-- what a call makes of a station
abbrev pub tell : {A : Type 0} → (A → Told) → Outcome A → Outcome Told
tell f o = outcome (f o.answer) o.station o.records

unfoldable pub call_of : Call → Station → List ℕ → Outcome Told
call_of (Keep name) s l = tell change (keep_of name s l)
call_of (Return name) s l = tell change (return_of name s l)
call_of (Apply brought rule template allowance) s l = tell apply (apply_of brought rule template allowance s l)

-- the answers, and what is there in the end
pub record Run (A : Type 0) : Type 0 where
  pub answers : List Told
  pub end : A

-- a station and the bytes lent for its records
abbrev pub Lent : Type 0
Lent = Station × List ℕ

unfoldable pub run_calls : Lent → List Call → Run Lent
run_calls h [] = record { answers = []; end = h }
run_calls h (c ∷ cs) =
    let o = call_of c h.0 h.1 in
    let r = run_calls (o.station, o.records) cs in
    record { answers = o.answer ∷ r.answers; end = r.end }

-- what the calls say
unfoldable pub told : Shelf → List Call → Run Shelf
told h [] = record { answers = []; end = h }
told h (c ∷ cs) =
    let o = step_of h c in
    let r = told o.after cs in
    record { answers = o.answer ∷ r.answers; end = r.end }

-- "After every list of keep, apply and return calls .. the current record and the kept ones are what the accepted calls say"
pub record AsTold (run : Run Lent) (said : Run Shelf) : Type 0 where
  pub answers : run.answers ≡ said.answers
  pub held : held_by run.end.0 run.end.1 ≡ said.end

-- the number that an answer shows
abbrev pub told_number : Told → ℕ
told_number (change c) = refusal_number c
told_number (apply a) = applied_number a

-- a byte of the j-th record, and one of no record
abbrev pub InRecord : Station → ℕ → ℕ → Type 0
InRecord s j at = (apart * j ≤ at) × (at < apart * j + get_or s.lengths j 0)

abbrev pub InNone : Station → ℕ → Type 0
InNone s at = (j : ℕ) → j ≤ s.kept → InRecord s j at → ⊥
