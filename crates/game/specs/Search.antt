-- The search of the game, "depth first: the goal is tried at a state before its moves, rules are matched and followed one by one by
-- index, and a state is left at the first move that settles it".
use Rattle.std.specs.Prelude.{ℕ, zero, suc, ◌+◌, List, [], ◌∷◌, Bool, true, false, cond}
use Rattle.term.specs.Pattern.{Pattern}
use Rattle.term.specs.Term.{Term}
use Rattle.anti_pattern.specs.Answer.{Matching, bound, nothing, spent, answer}
use Rattle.anti_pattern.specs.Language.{Language}
use Rattle.replace.specs.Call.{Replacement, result, nothing as unbound, spent as overspent, replacement}
use Rattle.replace.specs.Growth.{within_limits}
use Rattle.game.specs.Move.{Rule, Game}

-- forced, and how; not forced; or stopped: "the first spent one in this order makes the whole spent"
pub data Ruling (A : Type 0) : Type 0 where
  forced : A → Ruling A
  unforced : Ruling A
  stopped : Ruling A

-- how the loader begins: "no move is needed", by the rule of an index, or by "a pass"
pub data Opening : Type 0 where
  unneeded : Opening
  by_rule : ℕ → Opening
  by_pass : Opening

-- what a rule comes to at a state: it leads to another, it is no move, or its search is spent
pub data Turn : Type 0 where
  to : Term → Turn
  nowhere : Turn
  spends : Turn

abbrev pub turn_by : List ℕ → Replacement → Turn
turn_by table (result u n) = cond (within_limits table u) (to u) nowhere
turn_by table (unbound n) = nowhere
turn_by table (overspent n) = spends

-- what a pattern's search in a state is allowed
abbrev pub Allowing : Type 0
Allowing = Pattern → Term → ℕ

-- "Each search has the whole allowance"
abbrev pub each : ℕ → Allowing
each allowance q t = allowance

abbrev pub turn : Language → Allowing → Rule → Term → Turn
turn l allowed r t = turn_by l.table (replacement l r.pattern r.template t (allowed r.pattern t))

abbrev pub goal_at : Language → Allowing → Game → Term → Matching
goal_at l allowed g t = answer l g.goal t (allowed g.goal t)

abbrev pub goal_first : {A : Type 0} → A → Matching → (Unit {0} → Ruling A) → Ruling A
goal_first a (bound ps n) next = forced a
goal_first a (nothing n) next = next tt
goal_first a (spent n) next = stopped

abbrev pub at_turn : {A : Type 0} → Turn → (Term → Ruling A) → (Unit {0} → Ruling A) → Ruling A
at_turn (to u) move next = move u
at_turn nowhere move next = next tt
at_turn spends move next = stopped

-- a move that forces settles the loader's state, one that doesn't settles the sender's
abbrev pub unless_forced : Ruling (Unit {0}) → Opening → (Unit {0} → Ruling Opening) → Ruling Opening
unless_forced (forced x) o next = forced o
unless_forced unforced o next = next tt
unless_forced stopped o next = stopped

abbrev pub if_forced : Ruling Opening → (Unit {0} → Ruling (Unit {0})) → Ruling (Unit {0})
if_forced (forced o) next = next tt
if_forced unforced next = unforced
if_forced stopped next = stopped

-- "whoever has no move passes"
abbrev pub if_moved : {A : Type 0} → Bool → Ruling A → (Unit {0} → Ruling A) → Ruling A
if_moved true settled pass = settled
if_moved false settled pass = pass tt

module _ (l : Language) (allowed : Allowing) where
  -- the loader's rules from index i on, each move followed by the sender's turn; `moved` where a rule before was a move
  unfoldable pub loader_tries : (Term → Ruling (Unit {0})) → Term → ℕ → Bool → List Rule → Ruling Opening
  loader_tries follow t i moved [] = if_moved moved unforced (λ x. unless_forced (follow t) by_pass (λ y. unforced))
  loader_tries follow t i moved (r ∷ rs) =
      at_turn (turn l allowed r t)
      (λ u. unless_forced (follow u) (by_rule i) (λ x. loader_tries follow t (i + 1) true rs))
      (λ x. loader_tries follow t (i + 1) moved rs)

  -- the sender's rules, each move followed by the loader's turn
  unfoldable pub sender_tries : (Term → Ruling Opening) → Term → Bool → List Rule → Ruling (Unit {0})
  sender_tries follow t moved [] = if_moved moved (forced tt) (λ x. if_forced (follow t) (λ y. forced tt))
  sender_tries follow t moved (r ∷ rs) =
      at_turn (turn l allowed r t)
      (λ u. if_forced (follow u) (λ x. sender_tries follow t true rs))
      (λ x. sender_tries follow t moved rs)

  module _ (g : Game) where
    unfoldable mutual
      -- the loader's and the sender's turn at a state, with so many turns left
      pub loader_turn : ℕ → Term → Ruling Opening
      loader_turn zero t = goal_first unneeded (goal_at l allowed g t) (λ x. unforced)
      loader_turn (suc n) t = goal_first unneeded (goal_at l allowed g t) (λ x. loader_tries (λ u. sender_turn n u) t zero false g.loader)

      pub sender_turn : ℕ → Term → Ruling (Unit {0})
      sender_turn zero t = goal_first tt (goal_at l allowed g t) (λ x. unforced)
      sender_turn (suc n) t = goal_first tt (goal_at l allowed g t) (λ x. sender_tries (λ u. loader_turn n u) t false g.sender)

    -- the moves alone, where the goal does not hold
    abbrev pub loader_moves : ℕ → Term → Ruling Opening
    loader_moves zero t = unforced
    loader_moves (suc n) t = loader_tries (λ u. sender_turn n u) t zero false g.loader

    abbrev pub sender_moves : ℕ → Term → Ruling (Unit {0})
    sender_moves zero t = unforced
    sender_moves (suc n) t = sender_tries (λ u. loader_turn n u) t false g.sender

    -- "The loader begins"
    abbrev pub play : ℕ → Term → Ruling Opening
    play turns t = loader_turn turns t
