-- "the current record and the kept ones are what the accepted calls say": what the calls say, with no word of bytes and places.
use Rattle.std.specs.Prelude.{ℕ, List, [], ◌∷◌, cond, length, ltb, eqb, Result, Ok, Err}
use Rattle.answers.specs.declared.Applied.{Applied}
use Rattle.answers.specs.declared.Refusal.TheVariants.{NoName, Shelf as Ninth}
use Rattle.reader.specs.Brought.{Brought}
use Rattle.station.specs.Slot.{most_kept}
use Rattle.station.specs.Call.{applied_to, result_of}
use Rattle.answers.specs.declared.Refusal.{Refusal}

-- a record kept under a name
pub record Entry : Type 0 where
  pub name : ℕ
  pub bytes : List ℕ

abbrev pub entry : ℕ → List ℕ → Entry
entry name bytes = record { name = name; bytes = bytes }

pub record Shelf : Type 0 where
  pub current : List ℕ
  pub kept : List Entry

abbrev pub shelf : List ℕ → List Entry → Shelf
shelf current kept = record { current = current; kept = kept }

-- what is kept under a name is replaced in place; a new name comes last
unfoldable pub keep_under : ℕ → List ℕ → List Entry → List Entry
keep_under name bytes [] = entry name bytes ∷ []
keep_under name bytes (e ∷ es) = cond (eqb e.name name) (entry name bytes ∷ es) (e ∷ keep_under name bytes es)

-- what is kept under a name, or that nothing is
pub data Found : Type 0 where
  Kept : List ℕ → Found
  Nothing : Found

unfoldable pub under : ℕ → List Entry → Found
under name [] = Nothing
under name (e ∷ es) = cond (eqb e.name name) (Kept e.bytes) (under name es)

-- a call: keep and return under a name; apply with an edition, a table and maybe a class list, a rule, its template and an allowance
pub data Call : Type 0 where
  Keep : ℕ → Call
  Return : ℕ → Call
  Apply : Brought → List ℕ → List ℕ → ℕ → Call

-- what a call answers
pub data Told : Type 0 where
  change : Result (Unit {0}) Refusal → Told
  apply : Result Applied Refusal → Told

-- a call's answer, and what is current and kept after it
pub record Step : Type 0 where
  pub answer : Told
  pub after : Shelf

abbrev pub step : Told → Shelf → Step
step a h = record { answer = a; after = h }

-- a name that is kept already, or one for which there is room: "21 (shelf) for a ninth name"
unfoldable pub keep_step : ℕ → Shelf → Found → Step
keep_step name h (Kept bytes) = step (change (Ok tt)) (shelf h.current (keep_under name h.current h.kept))
keep_step name h Nothing =
    cond (ltb (length h.kept) most_kept) (step (change (Ok tt)) (shelf h.current (keep_under name h.current h.kept))) (step (change (Err Ninth)) h)

unfoldable pub return_step : Shelf → Found → Step
return_step h (Kept bytes) = step (change (Ok tt)) (shelf bytes h.kept)
return_step h Nothing = step (change (Err NoName)) h

-- an apply's answer, and its result
unfoldable pub apply_step : Shelf → Result Applied Refusal → List ℕ → Step
apply_step h (Ok (Applied.Bound n k)) result = step (apply (Ok (Applied.Bound n k))) (shelf result h.kept)
apply_step h (Ok (Applied.None n)) result = step (apply (Ok (Applied.None n))) h
apply_step h (Ok (Applied.Spent n)) result = step (apply (Ok (Applied.Spent n))) h
apply_step h (Err r) result = step (apply (Err r)) h

unfoldable pub step_of : Shelf → Call → Step
step_of h (Keep name) = keep_step name h (under name h.kept)
step_of h (Return name) = return_step h (under name h.kept)
step_of h (Apply brought rule template allowance) =
    apply_step h (applied_to brought rule template allowance h.current) (result_of brought rule template allowance h.current)
