-- What a call answers, and what it makes of a station and of the bytes lent for its records, on all inputs.
use Rattle.std.specs.Prelude.{ℕ, suc, ◌+◌, ◌*◌, List, cond, length, take, set, replicate, ltb, Result, Ok, Err}
use Rattle.std.proofs.lemmas.List.Edits.{sets}
use Rattle.answers.specs.Answers.{applied_length}
use Rattle.answers.specs.declared.Refusal.{Refusal}
use Rattle.answers.specs.declared.Refusal.TheVariants.{Full, NoName, Shelf}
use Rattle.answers.specs.declared.Applied.{Applied}
use Rattle.term.specs.Limits.{longest_record}
use Rattle.reader.specs.Brought.{Brought, language_of}
use Rattle.reader.specs.Reading.{read_record}
use Rattle.parts.specs.Shown.{answer_width}
use Rattle.call.specs.Call.{checks}
use Rattle.call.specs.Verdict.{Verdict, passed, fault, reading}
use Rattle.replace.specs.Call.{apply_of as applying, output_of as applied}
use Rattle.station.specs.Slot.{most_kept, apart, room, record_at, names_of}
use Rattle.station.specs.Check.{place_of, check_of}
use Rattle.station.specs.declared.Station.{Station}

-- the answer, and the station and the bytes lent for records afterwards
pub record Outcome (A : Type 0) : Type 0 where
  pub answer : A
  pub station : Station
  pub records : List ℕ

abbrev pub outcome : {A : Type 0} → A → Station → List ℕ → Outcome A
outcome a s l = record { answer = a; station = s; records = l }

-- the station with another length for its i-th record
abbrev pub lengthened : Station → ℕ → ℕ → Station
lengthened s i n = record { kept = s.kept; names = s.names; lengths = set s.lengths i n }

-- the i-th record becomes that of these bytes; "other bytes stay"
abbrev pub with_record : {A : Type 0} → A → Station → List ℕ → ℕ → List ℕ → Outcome A
with_record a s l i bytes = outcome a (lengthened s i (length bytes)) (sets l (apart * i) bytes)

-- the station with a name at a place: one more is kept where the place is new
abbrev pub named : Station → ℕ → ℕ → Station
named s k name = record { kept = cond (ltb k s.kept) s.kept (s.kept + 1); names = set s.names k name; lengths = s.lengths }

-- what follows where a check passes: "a refused call alters neither"
unfoldable pub unless_refused : {A : Type 0} → (Refusal → A) → Result (Unit {0}) Refusal → Station → List ℕ → (Unit {0} → Outcome A) → Outcome A
unless_refused refused (Ok u) s l f = f tt
unless_refused refused (Err r) s l f = outcome (refused r) s l

-- "Keep copies the current record under the name, replacing what was there"; "21 (shelf) for a ninth name"
unfoldable pub keep_of : ℕ → Station → List ℕ → Outcome (Result (Unit {0}) Refusal)
keep_of name s l =
    let k = place_of name (names_of s) in
    unless_refused Err (check_of s (length l)) s l
    (λ _. cond (ltb k most_kept) (with_record (Ok tt) (named s k name) l (suc k) (record_at s.lengths l 0)) (outcome (Err Shelf) s l))

-- "return makes the kept one current and keeps it still"; "20 (no name) for a return to a name not kept"
unfoldable pub return_of : ℕ → Station → List ℕ → Outcome (Result (Unit {0}) Refusal)
return_of name s l =
    let k = place_of name (names_of s) in
    unless_refused Err (check_of s (length l)) s l
    (λ _. cond (ltb k s.kept) (with_record (Ok tt) s l 0 (record_at s.lengths l (suc k))) (outcome (Err NoName) s l))

-- An apply to a record (document 02's L8), with an output of 4,096 bytes: the answer, and what is written, which does not depend on what the output
-- held before

abbrev pub applied_to : Brought → List ℕ → List ℕ → ℕ → List ℕ → Result Applied Refusal
applied_to brought rule template allowance bytes = applying brought rule template bytes allowance longest_record

unfoldable pub fresh : List ℕ
fresh = replicate longest_record 0

unfoldable pub result_of : Brought → List ℕ → List ℕ → ℕ → List ℕ → List ℕ
result_of brought rule template allowance bytes =
    take (applied_length (applied_to brought rule template allowance bytes)) (applied brought rule template bytes allowance fresh)

-- "a bound apply makes its result current"; "An apply that isn't bound is refused here"
unfoldable pub taken_up : Result Applied Refusal → List ℕ → Station → List ℕ → Outcome (Result Applied Refusal)
taken_up (Ok (Applied.Bound n k)) result s l = with_record (Ok (Applied.Bound n k)) s l 0 result
taken_up (Ok (Applied.None n)) result s l = outcome (Ok (Applied.None n)) s l
taken_up (Ok (Applied.Spent n)) result s l = outcome (Ok (Applied.Spent n)) s l
taken_up (Err r) result s l = outcome (Err r) s l

unfoldable pub apply_of : Brought → List ℕ → List ℕ → ℕ → Station → List ℕ → Outcome (Result Applied Refusal)
apply_of brought rule template allowance s l =
    let bytes = record_at s.lengths l 0 in
    unless_refused Err (check_of s (length l)) s l
    (λ _. taken_up (applied_to brought rule template allowance bytes) (result_of brought rule template allowance bytes) s l)

-- the checks of a new station's record, in document 01's order: 1, 14, its own
abbrev pub change_of : {X : Type 0} → Verdict X → Result (Unit {0}) Refusal
change_of (passed x) = (Ok tt)
change_of (fault r i) = Err r

unfoldable pub record_check : Brought → List ℕ → Result (Unit {0}) Refusal
record_check brought bytes = change_of (checks brought answer_width (reading (read_record (language_of brought) bytes)))

-- the station that keeps none
abbrev pub emptied : Station → Station
emptied s = record { kept = 0; names = s.names; lengths = s.lengths }

-- "A new station takes an accepted record as current and keeps none"; "Before all else, under 36,864 bytes lent for records is 12"
unfoldable pub new_of : Brought → List ℕ → Station → List ℕ → Outcome (Result (Unit {0}) Refusal)
new_of brought bytes s l =
    cond (ltb (length l) room) (outcome (Err Full) s l)
    (unless_refused Err (record_check brought bytes) s l (λ _. with_record (Ok tt) (emptied s) l 0 bytes))
