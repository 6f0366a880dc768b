-- Forced, turn by turn.
use Prim.Native.Nat.{ℕ, zero, suc}
use mathlib.Core.Logic.{◌⊎◌}
use Rattle.term.specs.Term.{Term}
use Rattle.anti_pattern.specs.Language.{Language}
use Rattle.game.specs.Move.{Game, Move, Stuck, Goal}

module _ (l : Language) (g : Game) where
  unfoldable mutual
    -- at the loader's turn: the goal holds, or one of the loader's moves forces it, or the pass of one who has none
    pub LoaderForces : ℕ → Term → Type 0
    LoaderForces zero t = Goal l g t
    LoaderForces (suc n) t =
        Goal l g t ⊎ (((i : ℕ) × (u : Term) × Move l g.loader i t u × SenderForces n u) ⊎ (Stuck l g.loader t × SenderForces n t))

    -- at the sender's turn: the goal holds, or each of the sender's moves leaves it forced, and so does the pass of one who has none
    pub SenderForces : ℕ → Term → Type 0
    SenderForces zero t = Goal l g t
    SenderForces (suc n) t =
        Goal l g t ⊎ (((i : ℕ) (u : Term) → Move l g.sender i t u → LoaderForces n u) × (Stuck l g.sender t → LoaderForces n t))
