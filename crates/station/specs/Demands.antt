-- What is demanded of the calls on a station that held the records' bytes l: of the answer, and of the station s' and the bytes l' afterwards.
use Rattle.std.specs.Prelude.{ℕ, ◌<◌, ◌≤◌, ◌≡◌, ◌↔◌, List, [], true, length, get_or, Result, Ok}
use Rattle.answers.specs.Answers.{applied_number}
use Rattle.answers.specs.Refusal.{number_of}
use Rattle.answers.specs.declared.Applied.{Applied}
use Rattle.answers.specs.declared.Refusal.TheVariants.{Full, Directory, NoName, Shelf as Ninth}
use Rattle.answers.specs.Shown.{refusal_number}
use Rattle.term.specs.Limits.{TermAccepted}
use Rattle.term.specs.Pattern.{Pattern}
use Rattle.term.specs.Term.{Term, term_bytes}
use Rattle.reader.specs.Brought.{Brought, language_of, brought_accepted}
use Rattle.replace.specs.Call.{Input, output_of}
use Rattle.replace.specs.Demands.{Replaced, Demanded as Applying}
use Rattle.station.specs.Slot.{most_kept, apart, room, record_at}
use Rattle.station.specs.Check.{check_of}
use Rattle.station.specs.Call.{outcome, new_of, keep_of, return_of, apply_of, record_check, fresh}
use Rattle.station.specs.Shelf.{Call, Keep, Return, Apply, Told, change, apply, shelf, step_of}
use Rattle.station.specs.Session.{held_by, run_calls, told, AsTold, told_number, InNone}
use Rattle.station.specs.declared.Station.{Station}
use Rattle.answers.specs.declared.Refusal.{Refusal}

-- not "over eight kept, a length not 1 to 4,096 or a name twice". Only lengths and names in use are checked
pub record InOrder (s : Station) : Type 0 where
  pub eight : s.kept ≤ most_kept
  pub fit : (j : ℕ) → j ≤ s.kept → (0 < get_or s.lengths j 0) × (get_or s.lengths j 0 ≤ apart)
  pub once : (i j : ℕ) → i < s.kept → j < s.kept → get_or s.names i 0 ≡ get_or s.names j 0 → i ≡ j

-- "a refused call alters neither"; "other bytes stay"
pub record Careful (s : Station) (l : List ℕ) (number : ℕ) (s' : Station) (l' : List ℕ) : Type 0 where
  pub refused_alters : (number ≡ 0 → ⊥) → (s' ≡ s) × (l' ≡ l)
  pub others_stay : (i : ℕ) → InNone s' i → get_or l' i 0 ≡ get_or l i 0
  pub same_room : length l' ≡ length l

-- Keep, return and apply
pub record Demanded (c : Call) (s : Station) (l : List ℕ) (a : Told) (s' : Station) (l' : List ℕ) : Type 0 where
  -- "Before all else, under 36,864 bytes lent for records is 12; then .. 9"
  pub full : length l < room → told_number a ≡ number_of Full
  pub directory : room ≤ length l → (InOrder s → ⊥) → told_number a ≡ number_of Directory
  -- "the current record and the kept ones are what the accepted calls say"
  pub answers : room ≤ length l → InOrder s → a ≡ (step_of (held_by s l) c).answer
  pub holds : room ≤ length l → InOrder s → held_by s' l' ≡ (step_of (held_by s l) c).after
  pub in_order_holds : room ≤ length l → InOrder s → InOrder s'
  pub careful : Careful s l (told_number a) s' l'

-- of a name
abbrev pub NotKept : ℕ → Station → Type 0
NotKept name s = (i : ℕ) → i < s.kept → get_or s.names i 0 ≡ name → ⊥

-- "21 (shelf) for a ninth name"
pub record KeepDemanded (name : ℕ) (s : Station) (l : List ℕ) (a : Result (Unit {0}) Refusal) (s' : Station) (l' : List ℕ) : Type 0 where
  pub called : Demanded (Keep name) s l (change a) s' l'
  pub ninth : room ≤ length l → InOrder s → (refusal_number a ≡ number_of Ninth) ↔ ((s.kept ≡ most_kept) × NotKept name s)

-- "20 (no name) for a return to a name not kept"
pub record ReturnDemanded (name : ℕ) (s : Station) (l : List ℕ) (a : Result (Unit {0}) Refusal) (s' : Station) (l' : List ℕ) : Type 0 where
  pub called : Demanded (Return name) s l (change a) s' l'
  pub no_name : room ≤ length l → InOrder s → (refusal_number a ≡ number_of NoName) ↔ NotKept name s

-- what L8 demands of applying to the current record with an output of 4,096 bytes
abbrev pub AsApplied : Brought → List ℕ → List ℕ → ℕ → Station → List ℕ → Result Applied Refusal → Type 0
AsApplied brought rule template allowance s l a =
    let bytes = record_at s.lengths l 0 in
    Applying brought rule template bytes fresh allowance a (output_of brought rule template bytes allowance fresh)

-- of a station that passes its checks
abbrev pub IfChecked : Station → List ℕ → Type 0 → Type 0
IfChecked s l claim = check_of s (length l) ≡ (Ok tt) → claim

-- "a bound apply makes its result current"; "An apply that isn't bound is refused here": its number is not 0, so it alters nothing
pub record ApplyDemanded (brought : Brought) (rule template : List ℕ) (allowance : ℕ) (s : Station) (l : List ℕ) (a : Result Applied Refusal) (s' : Station) (l' : List ℕ) : Type 0 where
  pub called : Demanded (Apply brought rule template allowance) s l (apply a) s' l'
  -- L8's checks, words and counts
  pub as_applied : room ≤ length l → InOrder s → AsApplied brought rule template allowance s l a
  -- the result is L8's replaced term, an accepted record
  pub result : applied_number a ≡ 0 → brought_accepted brought ≡ true → (p q : Pattern) (t : Term)
      → Input (language_of brought) rule template (record_at s.lengths l 0) p q t
      → (u : Term) × Replaced (language_of brought) p q t u × TermAccepted (language_of brought) u
      × (record_at s'.lengths l' 0 ≡ term_bytes brought.table u [])

-- "A new station takes an accepted record as current and keeps none."
pub record NewDemanded (brought : Brought) (bytes : List ℕ) (s : Station) (l : List ℕ) (a : Result (Unit {0}) Refusal) (s' : Station) (l' : List ℕ) : Type 0 where
  pub full : length l < room → refusal_number a ≡ number_of Full
  pub answers : room ≤ length l → a ≡ record_check brought bytes
  pub holds : refusal_number a ≡ 0 → held_by s' l' ≡ shelf bytes []
  pub in_order_holds : refusal_number a ≡ 0 → InOrder s'
  -- "After every list of keep, apply and return calls from a new station, with nothing else writing to it, the current record and the kept ones are what
  -- the accepted calls say"
  pub sessions : refusal_number a ≡ 0 → (cs : List Call) → AsTold (run_calls (s', l') cs) (told (shelf bytes []) cs)
  pub careful : Careful s l (refusal_number a) s' l'

-- What the calls owe: the answer, the station and the bytes as the definitions have them, and what is demanded of these
abbrev pub Begins : Brought → List ℕ → Station → List ℕ → Result (Unit {0}) Refusal → Station → List ℕ → Type 0
Begins brought bytes s l a s' l' = (outcome a s' l' ≡ new_of brought bytes s l) × NewDemanded brought bytes s l a s' l'

abbrev pub Keeps : ℕ → Station → List ℕ → Result (Unit {0}) Refusal → Station → List ℕ → Type 0
Keeps name s l a s' l' = (outcome a s' l' ≡ keep_of name s l) × KeepDemanded name s l a s' l'

abbrev pub Returns : ℕ → Station → List ℕ → Result (Unit {0}) Refusal → Station → List ℕ → Type 0
Returns name s l a s' l' = (outcome a s' l' ≡ return_of name s l) × ReturnDemanded name s l a s' l'

abbrev pub Applies : Brought → List ℕ → List ℕ → ℕ → Station → List ℕ → Result Applied Refusal → Station → List ℕ → Type 0
Applies brought rule template allowance s l a s' l' =
    (outcome a s' l' ≡ apply_of brought rule template allowance s l) × ApplyDemanded brought rule template allowance s l a s' l'
