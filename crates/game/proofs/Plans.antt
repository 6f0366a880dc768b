-- Forced turn by turn is forced by a plan.
use Prim.Native.Nat.{ℕ, zero, suc}
use mathlib.Core.Path.{◌≡◌, refl, sym, subst}
use mathlib.Core.Logic.{◌⊎◌, inl, inr, ◌↔◌}
use mathlib.Core.List.{List, [], ◌∷◌}
use mathlib.Core.Bool.{true}
use Rattle.term.specs.Class.{Alike}
use Rattle.term.specs.Limits.{TermAccepted, PatternAccepted}
use Rattle.term.specs.Table.{table_accepted}
use Rattle.term.specs.Term.{Term}
use Rattle.anti_pattern.specs.Language.{Language}
use Rattle.game.specs.Accepted.{EachAccepted}
use Rattle.game.specs.Move.{Rule, Game, Leads, Move, Stuck, Goal}
use Rattle.game.specs.Plan.{Step, Some, LoaderPlan, SenderPlan, LoaderPlay, SenderPlay, loader_states, sender_states, Forced, StillForced}
use Rattle.game.proofs.Forces.{LoaderForces, SenderForces}
use Rattle.game.proofs.Turns.{moves_told, goal_told, move_first, first_leads, move_later, later_move, no_rule}

-- accepted trees
pub record GameAccepted (l : Language) (g : Game) : Type 0 where
  pub loader : EachAccepted l g.loader
  pub sender : EachAccepted l g.sender
  pub goal : PatternAccepted l g.goal

-- a step leads to an accepted state
step_accepted : (lang : Language) (rules : List Rule) (t u : Term) → TermAccepted lang t → Step lang rules t u → TermAccepted lang u
step_accepted lang rules t u st (inl m) = m.1.leads.within
step_accepted lang rules t u st (inr k) = subst (TermAccepted lang) k.1 st

-- some step can always be taken
step_later : (lang : Language) (r : Rule) (rs : List Rule) (t : Term) → ((u : Term) → Leads lang r t u → ⊥) → ((u : Term) × Step lang rs t u)
    → (u : Term) × Step lang (r ∷ rs) t u
step_later lang r rs t n s = go s.0 s.1
  where
    stuck : Stuck lang rs t → Stuck lang (r ∷ rs) t
    stuck k zero u m = n u (first_leads lang r rs t u m)
    stuck k (suc i) u m = k i u (later_move lang r rs t i u m)

    go : (u : Term) → Step lang rs t u → (u : Term) × Step lang (r ∷ rs) t u
    go u (inl m) = (u, inl (suc m.0, move_later lang r rs t m.0 u m.1))
    go u (inr k) = (u, inr (stuck k.0, k.1))

not_first : (P R : Type 0) → (P → ⊥) → P ⊎ R → R
not_first P R d (inl s) = absurd (d s)
not_first P R d (inr s) = s

module _ (lang : Language) (alike : Alike lang.table lang.classes) (tabled : table_accepted lang.table ≡ true) where
  some_step : (rules : List Rule) → EachAccepted lang rules → (t : Term) → TermAccepted lang t → (u : Term) × Step lang rules t u
  some_step [] ok t st = (t, inr (no_rule lang t, refl))
  some_step (r ∷ rs) ok t st = by (moves_told lang alike tabled r ok.0 t st) (some_step rs ok.1 t st)
    where
      by : ((u : Term) × Leads lang r t u) ⊎ ((u : Term) → Leads lang r t u → ⊥) → ((u : Term) × Step lang rs t u) → (u : Term) × Step lang (r ∷ rs) t u
      by (inl d) s = (d.0, inl (0, move_first lang r rs t d.0 d.1))
      by (inr d) s = step_later lang r rs t d s

  module _ (g : Game) (ok : GameAccepted lang g) where
    mutual
      any_loader : (n : ℕ) (t : Term) → TermAccepted lang t → LoaderPlan lang g n t
      any_loader zero t st = tt
      any_loader (suc n) t st =
          let s = some_step g.loader ok.loader t st in (s.0, s.1, any_sender n s.0 (step_accepted lang g.loader t s.0 st s.1))

      any_sender : (n : ℕ) (t : Term) → TermAccepted lang t → SenderPlan lang g n t
      any_sender zero t st = tt
      any_sender (suc n) t st = λ u s. any_loader n u (step_accepted lang g.sender t u st s)

    -- what is left forced after a step of the sender's
    left_forced : (n : ℕ) (t : Term) → ((i : ℕ) (u : Term) → Move lang g.sender i t u → LoaderForces lang g n u)
        → (Stuck lang g.sender t → LoaderForces lang g n t) → (u : Term) → Step lang g.sender t u → LoaderForces lang g n u
    left_forced n t a b u (inl m) = a m.0 u m.1
    left_forced n t a b u (inr k) = subst (LoaderForces lang g n) k.1 (b k.0)

    mutual
      unfolding LoaderForces

      loader_plan : (n : ℕ) (t : Term) → TermAccepted lang t → LoaderForces lang g n t
          → (p : LoaderPlan lang g n t) × ((y : LoaderPlay lang g n t p) → Some (Goal lang g) (loader_states lang g n t p y))
      loader_plan zero t st s = (tt, λ y. inl s)
      loader_plan (suc n) t st (inl s) = (any_loader (suc n) t st, λ y. inl s)
      loader_plan (suc n) t st (inr (inl f)) =
          let r = sender_plan n f.1 f.2.leads.within f.3 in ((f.1, inl (f.0, f.2), r.0), λ y. inr (r.1 y))
      loader_plan (suc n) t st (inr (inr f)) = let r = sender_plan n t st f.1 in ((t, inr (f.0, refl), r.0), λ y. inr (r.1 y))

      sender_plan : (n : ℕ) (t : Term) → TermAccepted lang t → SenderForces lang g n t
          → (p : SenderPlan lang g n t) × ((y : SenderPlay lang g n t p) → Some (Goal lang g) (sender_states lang g n t p y))
      sender_plan zero t st s = (tt, λ y. inl s)
      sender_plan (suc n) t st (inl s) = (any_sender (suc n) t st, λ y. inl s)
      sender_plan (suc n) t st (inr f) = (
        λ u s. (loader_plan n u (step_accepted lang g.sender t u st s) (left_forced n t f.0 f.1 u s)).0,
        λ y. inr ((loader_plan n y.0 (step_accepted lang g.sender t y.0 st y.1) (left_forced n t f.0 f.1 y.0 y.1)).1 y.2),
      )

    mutual
      unfolding LoaderForces

      plan_loader : (n : ℕ) (t : Term) → TermAccepted lang t → (p : LoaderPlan lang g n t) → ((y : LoaderPlay lang g n t p) → Some (Goal lang g) (loader_states lang g n t p y))
          → LoaderForces lang g n t
      plan_loader zero t st p f = only (f tt)
        where
          only : Some (Goal lang g) (t ∷ []) → Goal lang g t
          only (inl s) = s
          only (inr s) = absurd s
      plan_loader (suc n) t st p f =
          go (goal_told lang alike tabled g t st) p.1
          (λ d. plan_sender n p.0 (step_accepted lang g.loader t p.0 st p.1) p.2 (λ y. not_first (Goal lang g t) (Some (Goal lang g) (sender_states lang g n p.0 p.2 y)) d (f y)))
        where
          go : Goal lang g t ⊎ (Goal lang g t → ⊥) → Step lang g.loader t p.0 → ((Goal lang g t → ⊥) → SenderForces lang g n p.0)
              → Goal lang g t ⊎ (((i : ℕ) × (u : Term) × Move lang g.loader i t u × SenderForces lang g n u) ⊎ (Stuck lang g.loader t × SenderForces lang g n t))
          go (inl s) step r = inl s
          go (inr d) (inl m) r = inr (inl (m.0, p.0, m.1, r d))
          go (inr d) (inr k) r = inr (inr (k.0, subst (SenderForces lang g n) (sym k.1) (r d)))

      plan_sender : (n : ℕ) (t : Term) → TermAccepted lang t → (p : SenderPlan lang g n t) → ((y : SenderPlay lang g n t p) → Some (Goal lang g) (sender_states lang g n t p y))
          → SenderForces lang g n t
      plan_sender zero t st p f = only (f tt)
        where
          only : Some (Goal lang g) (t ∷ []) → Goal lang g t
          only (inl s) = s
          only (inr s) = absurd s
      plan_sender (suc n) t st p f =
          go (goal_told lang alike tabled g t st) (λ d u s. plan_loader n u (step_accepted lang g.sender t u st s) (p u s) (λ y. not_first (Goal lang g t) (Some (Goal lang g) (loader_states lang g n u (p u s) y)) d (f (u, s, y))))
        where
          go : Goal lang g t ⊎ (Goal lang g t → ⊥) → ((Goal lang g t → ⊥) → (u : Term) → Step lang g.sender t u → LoaderForces lang g n u)
              → Goal lang g t ⊎ (((i : ℕ) (u : Term) → Move lang g.sender i t u → LoaderForces lang g n u) × (Stuck lang g.sender t → LoaderForces lang g n t))
          go (inl s) r = inl s
          go (inr d) r = inr (λ i u m. r d u (inl (i, m)), λ k. r d t (inr (k, refl)))

    pub forced_planned : (n : ℕ) (t : Term) → TermAccepted lang t → Forced lang g n t ↔ LoaderForces lang g n t
    forced_planned n t st = (
      λ f. plan_loader n t st f.plan f.reaches,
      λ f. let r = loader_plan n t st f in record { plan = r.0; reaches = r.1 },
    )

    pub still_planned : (n : ℕ) (t : Term) → TermAccepted lang t → StillForced lang g n t ↔ SenderForces lang g n t
    still_planned n t st = (
      λ f. plan_sender n t st f.plan f.reaches,
      λ f. let r = sender_plan n t st f in record { plan = r.0; reaches = r.1 },
    )
