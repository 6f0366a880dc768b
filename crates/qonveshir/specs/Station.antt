-- What the interface shows of the calls on a station, what they leave of it and of the bytes lent for its records, and what is demanded of that.
use Rattle.std.specs.Prelude.{ℕ, ◌≡◌, List, Result, Option, Some, None}
use Rattle.answers.specs.declared.Applied.{Applied}
use Rattle.answers.specs.Shown.{refusal_number}
use Rattle.term.specs.declared.Edition.{Edition}
use Rattle.reader.specs.Brought.{Brought, bringing}
use Rattle.station.specs.Call.{Outcome as Ended, outcome as ended, new_of, keep_of, return_of, apply_of}
use Rattle.station.specs.Demands.{NewDemanded, KeepDemanded, ReturnDemanded, ApplyDemanded}
use Rattle.station.specs.declared.Station.{Station}
use Rattle.qonveshir.specs.Edition.{told_by, no_edition, none_written, DemandedIn}
use Rattle.qonveshir.specs.Shown.{outcome, applied_shown}
use Rattle.qonveshir.specs.declared.Outcome.{Outcome}
use Rattle.qonveshir.specs.declared.Written.{Written}
use Rattle.answers.specs.declared.Refusal.{Refusal}

-- a change has no index and no count
abbrev pub change_shown : Result (Unit {0}) Refusal → Outcome
change_shown c = outcome (refusal_number c) 0 0

-- what a call leaves, with its answer as it is shown
abbrev pub showing : {A B : Type 0} → (A → B) → Ended A → Ended B
showing f o = ended (f o.answer) o.station o.records

-- the same of a call that is told its edition by a number
abbrev pub showing_in : {A B : Type 0} → (A → B) → B → Option Edition → (Edition → Ended A) → Station → List ℕ → Ended B
showing_in f none None o s l = ended none s l
showing_in f none (Some e) o s l = showing f (o e)

-- Each call: what it shows and leaves, and what is demanded of its answer and of what it leaves

abbrev pub NewShown : Brought → List ℕ → Station → List ℕ → Outcome → Station → List ℕ → Type 0
NewShown brought bytes s l r s' l' =
    let o = new_of brought bytes s l in (ended r s' l' ≡ showing change_shown o) × NewDemanded brought bytes s l o.answer s' l'

abbrev pub KeepShown : ℕ → Station → List ℕ → Outcome → Station → List ℕ → Type 0
KeepShown name s l r s' l' = let o = keep_of name s l in (ended r s' l' ≡ showing change_shown o) × KeepDemanded name s l o.answer s' l'

abbrev pub ReturnShown : ℕ → Station → List ℕ → Outcome → Station → List ℕ → Type 0
ReturnShown name s l r s' l' = let o = return_of name s l in (ended r s' l' ≡ showing change_shown o) × ReturnDemanded name s l o.answer s' l'

abbrev pub ApplyShown : Brought → List ℕ → List ℕ → ℕ → Station → List ℕ → Written → Station → List ℕ → Type 0
ApplyShown brought rule template allowance s l r s' l' =
    let o = apply_of brought rule template allowance s l in
    (ended r s' l' ≡ showing applied_shown o) × ApplyDemanded brought rule template allowance s l o.answer s' l'

module _ (edition : ℕ) (table classes : List ℕ) where
  abbrev new_by : List ℕ → Station → List ℕ → Edition → Ended (Result (Unit {0}) Refusal)
  new_by bytes s l e = new_of (bringing e table classes) bytes s l

  abbrev pub NewShownIn : List ℕ → Station → List ℕ → Outcome → Station → List ℕ → Type 0
  NewShownIn bytes s l r s' l' =
      (ended r s' l' ≡ showing_in change_shown no_edition (told_by edition) (new_by bytes s l) s l)
      × DemandedIn (told_by edition) (λ e. NewDemanded (bringing e table classes) bytes s l (new_by bytes s l e).answer s' l')

  abbrev apply_by : List ℕ → List ℕ → ℕ → Station → List ℕ → Edition → Ended (Result Applied Refusal)
  apply_by rule template allowance s l e = apply_of (bringing e table classes) rule template allowance s l

  abbrev pub ApplyShownIn : List ℕ → List ℕ → ℕ → Station → List ℕ → Written → Station → List ℕ → Type 0
  ApplyShownIn rule template allowance s l r s' l' =
      (ended r s' l' ≡ showing_in applied_shown none_written (told_by edition) (apply_by rule template allowance s l) s l)
      × DemandedIn (told_by edition) (λ e. ApplyDemanded (bringing e table classes) rule template allowance s l (apply_by rule template allowance s l e).answer s' l')
