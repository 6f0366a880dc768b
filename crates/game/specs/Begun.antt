-- The searches of a game in their order, where none is spent: "the goal is tried at a state before its moves, rules are matched and followed one by
-- one by index, and a state is left at the first move that settles it".
use Rattle.std.specs.Prelude.{ℕ, zero, suc, ◌<◌, ◌⊎◌, List, [], ◌∷◌, ◌++◌, Bool, true, false, cond}
use Rattle.term.specs.Pattern.{Pattern}
use Rattle.term.specs.Term.{Term}
use Rattle.anti_pattern.specs.Answer.{Matching, bound, nothing, spent, count_of}
use Rattle.anti_pattern.specs.Language.{Language}
use Rattle.game.specs.Move.{Rule, Game}
use Rattle.game.specs.Search.{Ruling, forced, unforced, stopped, Opening, Turn, to, nowhere, spends, turn, goal_at, loader_turn, sender_turn}

-- each is a pattern and the state that it is matched against
abbrev pub Searches : Type 0
Searches = List (Pattern × Term)

-- one of them counts over the allowance
abbrev pub SomeOver : Language → ℕ → Searches → Type 0
SomeOver l allowance [] = ⊥
SomeOver l allowance (x ∷ xs) = (allowance < count_of l x.0 x.1) ⊎ SomeOver l allowance xs

-- a move that forces it settles the loader's state, one that doesn't settles the sender's
abbrev pub is_forced : Ruling (Unit {0}) → Bool
is_forced (forced x) = true
is_forced unforced = false
is_forced stopped = false

abbrev pub is_unforced : Ruling Opening → Bool
is_unforced (forced o) = false
is_unforced unforced = true
is_unforced stopped = false

abbrev pub unless_goal : Matching → Searches → Searches
unless_goal (bound ps n) moves = []
unless_goal (nothing n) moves = moves
unless_goal (spent n) moves = moves

abbrev pub if_move : Turn → (Term → Searches) → Searches → Searches
if_move (to u) follow rest = follow u
if_move nowhere follow rest = rest
if_move spends follow rest = rest

module _ (l : Language) where
  -- one's rules from one on: each is matched, and its move followed; `moved` where a rule before was a move, else the pass is followed
  unfoldable pub rules_begun : (Term → Bool) → (Term → Searches) → Term → Bool → List Rule → Searches
  rules_begun settles follow t moved [] = cond moved [] (follow t)
  rules_begun settles follow t moved (r ∷ rs) =
      (r.pattern, t) ∷ if_move (turn l (count_of l) r t) (λ u. follow u ++ cond (settles u) [] (rules_begun settles follow t true rs)) (rules_begun settles follow t moved rs)

  module _ (g : Game) where
    -- each search is allowed its own count, so that none is spent
    unfoldable mutual
      pub loader_begun : ℕ → Term → Searches
      loader_begun zero t = (g.goal, t) ∷ []
      loader_begun (suc n) t =
          (g.goal, t)
          ∷ unless_goal (goal_at l (count_of l) g t)
          (rules_begun (λ u. is_forced (sender_turn l (count_of l) g n u)) (λ u. sender_begun n u) t false g.loader)

      pub sender_begun : ℕ → Term → Searches
      sender_begun zero t = (g.goal, t) ∷ []
      sender_begun (suc n) t =
          (g.goal, t)
          ∷ unless_goal (goal_at l (count_of l) g t)
          (rules_begun (λ u. is_unforced (loader_turn l (count_of l) g n u)) (λ u. loader_begun n u) t false g.sender)

    -- "The loader begins"
    abbrev pub begun : ℕ → Term → Searches
    begun turns t = loader_begun turns t
