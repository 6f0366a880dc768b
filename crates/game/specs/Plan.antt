-- The promise in the owner's words: "the loader has moves such that, however the sender moves, some state reached, the starting one
-- included, satisfies a goal pattern". A plan has the loader's moves, a play the sender's.
use Rattle.std.specs.Prelude.{ℕ, zero, suc, ◌≡◌, ◌⊎◌, List, [], ◌∷◌}
use Rattle.term.specs.Term.{Term}
use Rattle.anti_pattern.specs.Language.{Language}
use Rattle.game.specs.Move.{Rule, Game, Move, Stuck, Goal}

-- one turn: a move by one of one's rules; "whoever has no move passes"
abbrev pub Step : Language → List Rule → Term → Term → Type 0
Step l rules t u = ((i : ℕ) × Move l rules i t u) ⊎ (Stuck l rules t × (t ≡ u))

-- one of the states meets the condition
abbrev pub Some : (Term → Type 0) → List Term → Type 0
Some P [] = ⊥
Some P (t ∷ ts) = P t ⊎ Some P ts

module _ (l : Language) (g : Game) where
  -- the loader's moves for so many turns, "passes counted", from a state at the loader's turn and from one at the sender's, whatever the sender does
  abbrev mutual
    pub LoaderPlan : ℕ → Term → Type 0
    LoaderPlan zero t = Unit {0}
    LoaderPlan (suc n) t = (u : Term) × Step l g.loader t u × SenderPlan n u

    pub SenderPlan : ℕ → Term → Type 0
    SenderPlan zero t = Unit {0}
    SenderPlan (suc n) t = (u : Term) → Step l g.sender t u → LoaderPlan n u

  -- what the sender does against a plan
  abbrev mutual
    pub LoaderPlay : (n : ℕ) (t : Term) → LoaderPlan n t → Type 0
    LoaderPlay zero t p = Unit {0}
    LoaderPlay (suc n) t p = SenderPlay n p.0 p.2

    pub SenderPlay : (n : ℕ) (t : Term) → SenderPlan n t → Type 0
    SenderPlay zero t p = Unit {0}
    SenderPlay (suc n) t p = (u : Term) × (s : Step l g.sender t u) × LoaderPlay n u (p u s)

  -- the states reached, "the starting one included"
  abbrev mutual
    pub loader_states : (n : ℕ) (t : Term) (p : LoaderPlan n t) → LoaderPlay n t p → List Term
    loader_states zero t p y = t ∷ []
    loader_states (suc n) t p y = t ∷ sender_states n p.0 p.2 y

    pub sender_states : (n : ℕ) (t : Term) (p : SenderPlan n t) → SenderPlay n t p → List Term
    sender_states zero t p y = t ∷ []
    sender_states (suc n) t p y = t ∷ loader_states n y.0 (p y.0 y.1) y.2

  -- "The loader begins"
  pub record Forced (n : ℕ) (t : Term) : Type 0 where
    pub plan : LoaderPlan n t
    pub reaches : (y : LoaderPlay n t plan) → Some (Goal l g) (loader_states n t plan y)

  -- it is still forced from a state at the sender's turn
  pub record StillForced (n : ℕ) (t : Term) : Type 0 where
    pub plan : SenderPlan n t
    pub reaches : (y : SenderPlay n t plan) → Some (Goal l g) (sender_states n t plan y)

  -- a "first rule that still forces it", and a pass that does
  abbrev pub ForcedBy : ℕ → Term → ℕ → Type 0
  ForcedBy zero t i = ⊥
  ForcedBy (suc n) t i = (u : Term) × Move l g.loader i t u × StillForced n u

  abbrev pub ForcedByPass : ℕ → Term → Type 0
  ForcedByPass zero t = ⊥
  ForcedByPass (suc n) t = Stuck l g.loader t × StillForced n t
