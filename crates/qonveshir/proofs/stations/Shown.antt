-- The calls on a station, as they are shown.
use Prim.Native.Nat.{ℕ}
use mathlib.Core.Path.{◌≡◌, ap, subst, ◌∙◌}
use mathlib.Core.List.{List}
use Rattle.answers.specs.declared.Applied.{Applied}
use Rattle.term.specs.declared.Edition.{Edition}
use Rattle.reader.specs.Brought.{Brought, bringing}
use Rattle.station.specs.Call.{Outcome as Ended, outcome as ended, new_of, keep_of, return_of, apply_of}
use Rattle.station.specs.Demands.{NewDemanded, KeepDemanded, ReturnDemanded, ApplyDemanded, Begins, Keeps, Returns, Applies}
use Rattle.station.specs.declared.Station.{Station}
use Rattle.qonveshir.specs.Edition.{told_by, no_edition, none_written}
use Rattle.qonveshir.specs.Shown.{applied_shown}
use Rattle.qonveshir.specs.Station.{change_shown, showing, NewShown, NewShownIn, KeepShown, ReturnShown, ApplyShown, ApplyShownIn}
use Rattle.qonveshir.specs.declared.Outcome.{Outcome}
use Rattle.qonveshir.specs.declared.Written.{Written}
use Rattle.std.specs.Prelude.{Result, Some, None}
use Rattle.answers.specs.declared.Refusal.{Refusal}

shown : {A B : Type 0} (f : A → B) (Demand : A → Type 0) (r : B) (a : A) (s : Station) (l : List ℕ) (o : Ended A) → r ≡ f a → (ended a s l ≡ o) × Demand a
    → (ended r s l ≡ showing f o) × Demand o.answer
shown f Demand r a s l o h k = (ap (λ x. ended x s l) h ∙ ap (showing f) k.0, subst Demand (ap (λ x. x.answer) k.0) k.1)

module _ (s : Station) (l : List ℕ) (r : Outcome) (a : Result (Unit {0}) Refusal) (s' : Station) (l' : List ℕ) (h : r ≡ change_shown a) where
  pub new_shown : (brought : Brought) (bytes : List ℕ) → Begins brought bytes s l a s' l' → NewShown brought bytes s l r s' l'
  new_shown brought bytes k = shown change_shown (λ (x : Result (Unit {0}) Refusal). NewDemanded brought bytes s l x s' l') r a s' l' (new_of brought bytes s l) h k

  pub keep_shown : (name : ℕ) → Keeps name s l a s' l' → KeepShown name s l r s' l'
  keep_shown name k = shown change_shown (λ (x : Result (Unit {0}) Refusal). KeepDemanded name s l x s' l') r a s' l' (keep_of name s l) h k

  pub return_shown : (name : ℕ) → Returns name s l a s' l' → ReturnShown name s l r s' l'
  return_shown name k = shown change_shown (λ (x : Result (Unit {0}) Refusal). ReturnDemanded name s l x s' l') r a s' l' (return_of name s l) h k

pub apply_shown : (s : Station) (l : List ℕ) (r : Written) (a : Result Applied Refusal) (s' : Station) (l' : List ℕ) → r ≡ applied_shown a
    → (brought : Brought) (rule template : List ℕ) (allowance : ℕ) → Applies brought rule template allowance s l a s' l'
    → ApplyShown brought rule template allowance s l r s' l'
apply_shown s l r a s' l' h brought rule template allowance k =
    shown applied_shown (λ (x : Result Applied Refusal). ApplyDemanded brought rule template allowance s l x s' l') r a s' l' (apply_of brought rule template allowance s l) h k

-- by the number that tells the edition
module _ (edition : ℕ) (table classes : List ℕ) (s : Station) (l : List ℕ) where
  module _ (e : told_by edition ≡ None) where
    pub new_untold : (bytes : List ℕ) (r : Outcome) → r ≡ no_edition → NewShownIn edition table classes bytes s l r s l
    new_untold bytes r h = rw e (ap (λ x. ended x s l) h, tt)

    pub apply_untold : (rule template : List ℕ) (allowance : ℕ) (r : Written) → r ≡ none_written
        → ApplyShownIn edition table classes rule template allowance s l r s l
    apply_untold rule template allowance r h = rw e (ap (λ x. ended x s l) h, tt)

  module _ (told : Edition) (e : told_by edition ≡ Some told) (s' : Station) (l' : List ℕ) where
    pub new_told : (bytes : List ℕ) (r : Outcome) → NewShown (bringing told table classes) bytes s l r s' l' → NewShownIn edition table classes bytes s l r s' l'
    new_told bytes r k = rw e k

    pub apply_told : (rule template : List ℕ) (allowance : ℕ) (r : Written) → ApplyShown (bringing told table classes) rule template allowance s l r s' l'
        → ApplyShownIn edition table classes rule template allowance s l r s' l'
    apply_told rule template allowance r k = rw e k
