-- A game is stopped exactly if one of the searches begun counts over the allowance; else it is the game in which none is spent.
use Prim.Native.Nat.{ℕ, zero, suc, ◌+◌, ◌≤◌}
use native.Mathlib.Omega.{arith}
use mathlib.Core.Path.{◌≡◌, refl, sym, ◌∙◌, ap, subst}
use mathlib.Core.Logic.{inl, inr, ◌↔◌}
use mathlib.Core.List.{List, [], ◌∷◌, ◌++◌}
use mathlib.Core.Bool.{Bool, true, false, cond, ◌||◌, false≢true}
use lib.Dec.{ltb}
use borrow.Author.Tests.{lt-ltb, le-ltb, ltb-true, ltb-false}
use Rattle.term.specs.Term.{Term}
use Rattle.anti_pattern.specs.Answer.{Matching, bound, nothing, spent, count_of, matching_of}
use Rattle.anti_pattern.specs.Language.{Language}
use Rattle.anti_pattern.specs.Search.{Env, Answers, found, failed, first_answer, whole}
use Rattle.anti_pattern.proofs.Allowance.{answer_over, answer_within}
use Rattle.replace.specs.Call.{replaced_by, replacement}
use Rattle.replace.specs.Growth.{within_limits}
use Rattle.replace.specs.Instance.{instance}
use Rattle.replace.specs.Splice.{spliced_in}
use Rattle.game.specs.Move.{Rule, Game}
use Rattle.game.specs.Search.{Ruling, forced, unforced, stopped, Opening, unneeded, by_rule, by_pass, Turn, to, nowhere, spends, turn_by, Allowing, each, turn, goal_at, goal_first, at_turn, unless_forced, if_forced, loader_tries, sender_tries, loader_turn, sender_turn, play}
use Rattle.game.specs.Begun.{Searches, SomeOver, is_forced, is_unforced, unless_goal, if_move, rules_begun, loader_begun, sender_begun, begun}
use Rattle.std.specs.Prelude.{Option, Some, None}

abbrev stop_if : {A : Type 0} → Bool → Ruling A → Ruling A
stop_if true x = stopped
stop_if false x = x

stop_stopped : {A : Type 0} (b : Bool) → stop_if {A = A} b stopped ≡ stopped
stop_stopped true = refl
stop_stopped false = refl

-- whether one of the searches is over the allowance

abbrev over : Language → ℕ → Searches → Bool
over l a [] = false
over l a (x ∷ xs) = ltb a (count_of l x.0 x.1) || over l a xs

over_append : (l : Language) (a : ℕ) (xs ys : Searches) → over l a (xs ++ ys) ≡ over l a xs || over l a ys
over_append l a [] ys = refl
over_append l a (x ∷ xs) ys = go (ltb a (count_of l x.0 x.1)) (over_append l a xs ys)
  where
    go : (b : Bool) → over l a (xs ++ ys) ≡ over l a xs || over l a ys → b || over l a (xs ++ ys) ≡ (b || over l a xs) || over l a ys
    go true e = refl
    go false e = e

over_some : (l : Language) (a : ℕ) (xs : Searches) → over l a xs ≡ true → SomeOver l a xs
over_some l a [] e = absurd (false≢true e)
over_some l a (x ∷ xs) e = go (ltb a (count_of l x.0 x.1)) refl e (over_some l a xs)
  where
    go : (b : Bool) → ltb a (count_of l x.0 x.1) ≡ b → b || over l a xs ≡ true → (over l a xs ≡ true → SomeOver l a xs) → SomeOver l a (x ∷ xs)
    go true h e rest = inl (ltb-true a (count_of l x.0 x.1) h)
    go false h e rest = inr (rest e)

some_over : (l : Language) (a : ℕ) (xs : Searches) → SomeOver l a xs → over l a xs ≡ true
some_over l a [] s = absurd s
some_over l a (x ∷ xs) (inl h) = ap (λ (b : Bool). b || over l a xs) (lt-ltb a (count_of l x.0 x.1) h)
some_over l a (x ∷ xs) (inr s) = go (ltb a (count_of l x.0 x.1)) (some_over l a xs s)
  where
    go : (b : Bool) → over l a xs ≡ true → b || over l a xs ≡ true
    go true e = refl
    go false e = e

some_less : (l : Language) (a m : ℕ) → a ≤ m → (xs : Searches) → SomeOver l m xs → SomeOver l a xs
some_less l a m h [] s = s
some_less l a m h (x ∷ xs) (inl k) = inl (omega (arith, h, k))
some_less l a m h (x ∷ xs) (inr s) = inr (some_less l a m h xs s)

-- a search that is allowed its count, or more

abbrev settled_turn : Language → Rule → Term → Turn
settled_turn l r t = turn_by l.table (replaced_by l r.template (first_answer (whole l r.pattern t).out) (count_of l r.pattern t))

module _ (l : Language) (allowed : Allowing) where
  turn_over : (r : Rule) (t : Term) → ltb (allowed r.pattern t) (count_of l r.pattern t) ≡ true → turn l allowed r t ≡ spends
  unfolding replacement
  turn_over r t h = rw h

  turn_settled : (r : Rule) (t : Term) → count_of l r.pattern t ≤ allowed r.pattern t → turn l allowed r t ≡ settled_turn l r t
  unfolding replacement
  turn_settled r t h = rw (le-ltb (allowed r.pattern t) (count_of l r.pattern t) h)

turn_unspent : (l : Language) (r : Rule) (t : Term) → settled_turn l r t ≡ spends → ⊥
turn_unspent l r t e = by (first_answer (whole l r.pattern t).out) e
  where
    within : (b : Bool) (u : Term) → cond b (to u) nowhere ≡ spends → ⊥
    within true u h = let z : ◌≡◌ {A = ℕ} 0 1 = cc in omega arith
    within false u h = let z : ◌≡◌ {A = ℕ} 0 1 = cc in omega arith

    by : (o : Option Env) → turn_by l.table (replaced_by l r.template o (count_of l r.pattern t)) ≡ spends → ⊥
    by (Some e) h = within (within_limits l.table (spliced_in l (instance r.template e.value))) (spliced_in l (instance r.template e.value)) h
    by None h = let z : ◌≡◌ {A = ℕ} 0 1 = cc in omega arith

abbrev settled_goal : Language → Game → Term → Answers → Matching
settled_goal l g t o = matching_of l.table o (count_of l g.goal t)

-- The game in which none is spent is not stopped

abbrev Runs : {A : Type 0} → Ruling A → Type 0
Runs x = x ≡ stopped → ⊥

forced_runs : {A : Type 0} {a : A} → Runs (forced a)
forced_runs e = let z : ◌≡◌ {A = ℕ} 0 1 = cc in omega arith

unforced_runs : {A : Type 0} → Runs {A = A} unforced
unforced_runs e = let z : ◌≡◌ {A = ℕ} 0 1 = cc in omega arith

unless_runs : (x : Ruling (Unit {0})) (o : Opening) (next : Unit {0} → Ruling Opening) → Runs x → Runs (next tt) → Runs (unless_forced x o next)
unless_runs (forced a) o next h k = forced_runs
unless_runs unforced o next h k = k
unless_runs stopped o next h k = absurd (h refl)

if_runs : (x : Ruling Opening) (next : Unit {0} → Ruling (Unit {0})) → Runs x → Runs (next tt) → Runs (if_forced x next)
if_runs (forced a) next h k = k
if_runs unforced next h k = unforced_runs
if_runs stopped next h k = absurd (h refl)

module _ (l : Language) where
  goal_runs : (g : Game) (t : Term) {A : Type 0} (a : A) (next : Unit {0} → Ruling A) → Runs (next tt) → Runs (goal_first a (goal_at l (count_of l) g t) next)
  goal_runs g t a next h =
      subst (λ (x : Matching). Runs (goal_first a x next)) (sym (answer_within l g.goal t (count_of l g.goal t) (omega arith))) (by (whole l g.goal t).out)
    where
      by : (o : Answers) → Runs (goal_first a (settled_goal l g t o) next)
      by (found e m o) = forced_runs
      by failed = h

  at_runs : {A : Type 0} (r : Rule) (t : Term) (move : Term → Ruling A) (next : Unit {0} → Ruling A) → ((u : Term) → Runs (move u)) → Runs (next tt)
      → Runs (at_turn (turn l (count_of l) r t) move next)
  at_runs r t move next h k =
      subst (λ (x : Turn). Runs (at_turn x move next)) (sym (turn_settled l (count_of l) r t (omega arith))) (by (settled_turn l r t) (turn_unspent l r t))
    where
      by : (x : Turn) → (x ≡ spends → ⊥) → Runs (at_turn x move next)
      by (to u) d = h u
      by nowhere d = k
      by spends d = absurd (d refl)

  loader_runs : (follow : Term → Ruling (Unit {0})) → ((u : Term) → Runs (follow u)) → (t : Term) (i : ℕ) (moved : Bool) (rs : List Rule)
      → Runs (loader_tries l (count_of l) follow t i moved rs)
  unfolding loader_tries
  loader_runs follow h t i true [] = unforced_runs
  loader_runs follow h t i false [] = unless_runs (follow t) by_pass (λ y. unforced) (h t) unforced_runs
  loader_runs follow h t i moved (r ∷ rs) =
      at_runs r t (λ u. unless_forced (follow u) (by_rule i) (λ x. loader_tries l (count_of l) follow t (i + 1) true rs)) (λ x. loader_tries l (count_of l) follow t (i + 1) moved rs)
      (λ u. unless_runs (follow u) (by_rule i) (λ x. loader_tries l (count_of l) follow t (i + 1) true rs) (h u) (loader_runs follow h t (i + 1) true rs))
      (loader_runs follow h t (i + 1) moved rs)

  sender_runs : (follow : Term → Ruling Opening) → ((u : Term) → Runs (follow u)) → (t : Term) (moved : Bool) (rs : List Rule)
      → Runs (sender_tries l (count_of l) follow t moved rs)
  unfolding sender_tries
  sender_runs follow h t true [] = forced_runs
  sender_runs follow h t false [] = if_runs (follow t) (λ y. forced tt) (h t) forced_runs
  sender_runs follow h t moved (r ∷ rs) =
      at_runs r t (λ u. if_forced (follow u) (λ x. sender_tries l (count_of l) follow t true rs)) (λ x. sender_tries l (count_of l) follow t moved rs)
      (λ u. if_runs (follow u) (λ x. sender_tries l (count_of l) follow t true rs) (h u) (sender_runs follow h t true rs))
      (sender_runs follow h t moved rs)

  module _ (g : Game) where
    mutual
      unfolding loader_turn

      loader_turn_runs : (n : ℕ) (t : Term) → Runs (loader_turn l (count_of l) g n t)
      loader_turn_runs zero t = goal_runs g t unneeded (λ x. unforced) unforced_runs
      loader_turn_runs (suc n) t =
          goal_runs g t unneeded (λ x. loader_tries l (count_of l) (λ u. sender_turn l (count_of l) g n u) t zero false g.loader)
          (loader_runs (λ u. sender_turn l (count_of l) g n u) (λ u. sender_turn_runs n u) t zero false g.loader)

      sender_turn_runs : (n : ℕ) (t : Term) → Runs (sender_turn l (count_of l) g n t)
      sender_turn_runs zero t = goal_runs g t tt (λ x. unforced) unforced_runs
      sender_turn_runs (suc n) t =
          goal_runs g t tt (λ x. sender_tries l (count_of l) (λ u. loader_turn l (count_of l) g n u) t false g.sender)
          (sender_runs (λ u. loader_turn l (count_of l) g n u) (λ u. loader_turn_runs n u) t false g.sender)

-- Under an allowance it is that game, unless one of its searches is over

module _ (l : Language) (a : ℕ) where
  goal_begun : (g : Game) (t : Term) {A : Type 0} (x : A) (limited free : Unit {0} → Ruling A) (ys : Searches) → limited tt ≡ stop_if (over l a ys) (free tt)
      → goal_first x (goal_at l (each a) g t) limited
      ≡ stop_if (over l a ((g.goal, t) ∷ unless_goal (goal_at l (count_of l) g t) ys)) (goal_first x (goal_at l (count_of l) g t) free)
  goal_begun g t x limited free ys h = go (ltb a c) refl
    where
      c : ℕ
      c = count_of l g.goal t

      o : Answers
      o = (whole l g.goal t).out

      by : (o : Answers) → goal_first x (settled_goal l g t o) limited ≡ stop_if (over l a (unless_goal (settled_goal l g t o) ys)) (goal_first x (settled_goal l g t o) free)
      by (found e m o) = refl
      by failed = h

      go : (b : Bool) → ltb a c ≡ b → goal_first x (goal_at l (each a) g t) limited
          ≡ stop_if (ltb a c || over l a (unless_goal (goal_at l (count_of l) g t) ys)) (goal_first x (goal_at l (count_of l) g t) free)
      go true e = rw (answer_over l g.goal t a (ltb-true a c e), e) refl
      go false e =
          rw (answer_within l g.goal t a (ltb-false a c e), answer_within l g.goal t c (omega arith), e) (by o)

  -- a rule, by what follows its move and what comes after
  at_begun : {A : Type 0} (r : Rule) (t : Term) (limited free : Term → Ruling A) (limited_next free_next : Unit {0} → Ruling A) (follow : Term → Searches) (rest : Searches)
      → ((u : Term) → limited u ≡ stop_if (over l a (follow u)) (free u)) → limited_next tt ≡ stop_if (over l a rest) (free_next tt)
      → at_turn (turn l (each a) r t) limited limited_next
      ≡ stop_if (over l a ((r.pattern, t) ∷ if_move (turn l (count_of l) r t) follow rest)) (at_turn (turn l (count_of l) r t) free free_next)
  at_begun {A} r t limited free limited_next free_next follow rest h k = go (ltb a c) refl
    where
      c : ℕ
      c = count_of l r.pattern t

      by : (x : Turn) → at_turn x limited limited_next ≡ stop_if (over l a (if_move x follow rest)) (at_turn x free free_next)
      by (to u) = h u
      by nowhere = k
      by spends = sym (stop_stopped (over l a rest))

      go : (b : Bool) → ltb a c ≡ b → at_turn (turn l (each a) r t) limited limited_next
          ≡ stop_if (ltb a c || over l a (if_move (turn l (count_of l) r t) follow rest)) (at_turn (turn l (count_of l) r t) free free_next)
      go true e =
          ap (λ (x : Turn). at_turn x limited limited_next) (turn_over l (each a) r t e)
          ∙ sym (ap (λ (b : Bool). stop_if (b || over l a (if_move (turn l (count_of l) r t) follow rest)) (at_turn (turn l (count_of l) r t) free free_next)) e)
      go false e =
          ap (λ (x : Turn). at_turn x limited limited_next) (turn_settled l (each a) r t (ltb-false a c e) ∙ sym (turn_settled l (count_of l) r t (omega arith)))
          ∙ by (turn l (count_of l) r t)
          ∙ sym (ap (λ (b : Bool). stop_if (b || over l a (if_move (turn l (count_of l) r t) follow rest)) (at_turn (turn l (count_of l) r t) free free_next)) e)

  loader_begun_holds : (limited free : Term → Ruling (Unit {0})) (follow : Term → Searches) → ((u : Term) → limited u ≡ stop_if (over l a (follow u)) (free u))
      → (t : Term) (i : ℕ) (moved : Bool) (rs : List Rule)
      → loader_tries l (each a) limited t i moved rs ≡ stop_if (over l a (rules_begun l (λ u. is_forced (free u)) follow t moved rs)) (loader_tries l (count_of l) free t i moved rs)
  unfolding loader_tries rules_begun
  loader_begun_holds limited free follow h t i true [] = refl
  loader_begun_holds limited free follow h t i false [] =
      ap (λ (x : Ruling (Unit {0})). unless_forced x by_pass (λ y. unforced)) (h t) ∙ go (over l a (follow t)) (free t)
    where
      go : (b : Bool) (x : Ruling (Unit {0})) → unless_forced (stop_if b x) by_pass (λ y. unforced) ≡ stop_if b (unless_forced x by_pass (λ y. unforced))
      go true x = refl
      go false x = refl
  loader_begun_holds limited free follow h t i moved (r ∷ rs) =
      at_begun r t (λ u. unless_forced (limited u) (by_rule i) (λ x. loader_tries l (each a) limited t (i + 1) true rs))
      (λ u. unless_forced (free u) (by_rule i) (λ x. loader_tries l (count_of l) free t (i + 1) true rs))
      (λ x. loader_tries l (each a) limited t (i + 1) moved rs) (λ x. loader_tries l (count_of l) free t (i + 1) moved rs)
      (λ u. follow u ++ cond (is_forced (free u)) [] later) (rules_begun l (λ u. is_forced (free u)) follow t moved rs)
      (λ u.
      ap (λ (x : Ruling (Unit {0})). unless_forced x (by_rule i) (λ y. loader_tries l (each a) limited t (i + 1) true rs)) (h u)
      ∙ go (loader_tries l (each a) limited t (i + 1) true rs) (loader_tries l (count_of l) free t (i + 1) true rs) (over l a (follow u)) (free u) (loader_begun_holds limited free follow h t (i + 1) true rs)
      ∙ sym (ap (λ (b : Bool). stop_if b (unless_forced (free u) (by_rule i) (λ y. loader_tries l (count_of l) free t (i + 1) true rs))) (over_append l a (follow u) (cond (is_forced (free u)) [] later))))
      (loader_begun_holds limited free follow h t (i + 1) moved rs)
    where
      later : Searches
      later = rules_begun l (λ u. is_forced (free u)) follow t true rs

      go : (x' y' : Ruling Opening) (b : Bool) (x : Ruling (Unit {0})) → x' ≡ stop_if (over l a later) y'
          → unless_forced (stop_if b x) (by_rule i) (λ y. x') ≡ stop_if (b || over l a (cond (is_forced x) [] later)) (unless_forced x (by_rule i) (λ y. y'))
      go x' y' true x e = refl
      go x' y' false (forced y) e = refl
      go x' y' false unforced e = e
      go x' y' false stopped e = sym (stop_stopped (over l a later))

  sender_begun_holds : (limited free : Term → Ruling Opening) (follow : Term → Searches) → ((u : Term) → limited u ≡ stop_if (over l a (follow u)) (free u))
      → (t : Term) (moved : Bool) (rs : List Rule)
      → sender_tries l (each a) limited t moved rs ≡ stop_if (over l a (rules_begun l (λ u. is_unforced (free u)) follow t moved rs)) (sender_tries l (count_of l) free t moved rs)
  unfolding sender_tries rules_begun
  sender_begun_holds limited free follow h t true [] = refl
  sender_begun_holds limited free follow h t false [] =
      ap (λ (x : Ruling Opening). if_forced x (λ y. forced tt)) (h t) ∙ go (over l a (follow t)) (free t)
    where
      go : (b : Bool) (x : Ruling Opening) → if_forced (stop_if b x) (λ y. forced tt) ≡ stop_if b (if_forced x (λ y. forced tt))
      go true x = refl
      go false x = refl
  sender_begun_holds limited free follow h t moved (r ∷ rs) =
      at_begun r t (λ u. if_forced (limited u) (λ x. sender_tries l (each a) limited t true rs)) (λ u. if_forced (free u) (λ x. sender_tries l (count_of l) free t true rs))
      (λ x. sender_tries l (each a) limited t moved rs) (λ x. sender_tries l (count_of l) free t moved rs)
      (λ u. follow u ++ cond (is_unforced (free u)) [] later) (rules_begun l (λ u. is_unforced (free u)) follow t moved rs)
      (λ u.
      ap (λ (x : Ruling Opening). if_forced x (λ y. sender_tries l (each a) limited t true rs)) (h u)
      ∙ go (sender_tries l (each a) limited t true rs) (sender_tries l (count_of l) free t true rs) (over l a (follow u)) (free u) (sender_begun_holds limited free follow h t true rs)
      ∙ sym (ap (λ (b : Bool). stop_if b (if_forced (free u) (λ y. sender_tries l (count_of l) free t true rs))) (over_append l a (follow u) (cond (is_unforced (free u)) [] later))))
      (sender_begun_holds limited free follow h t moved rs)
    where
      later : Searches
      later = rules_begun l (λ u. is_unforced (free u)) follow t true rs

      go : (x' y' : Ruling (Unit {0})) (b : Bool) (x : Ruling Opening) → x' ≡ stop_if (over l a later) y'
          → if_forced (stop_if b x) (λ y. x') ≡ stop_if (b || over l a (cond (is_unforced x) [] later)) (if_forced x (λ y. y'))
      go x' y' true x e = refl
      go x' y' false (forced o) e = e
      go x' y' false unforced e = refl
      go x' y' false stopped e = sym (stop_stopped (over l a later))

  module _ (g : Game) where
    goal_over : {A : Type 0} (t : Term) (x : A) → goal_first x (goal_at l (each a) g t) (λ y. unforced)
        ≡ stop_if (over l a ((g.goal, t) ∷ [])) (goal_first x (goal_at l (count_of l) g t) (λ y. unforced))
    goal_over t x = goal_begun g t x (λ y. unforced) (λ y. unforced) [] refl ∙ go (goal_at l (count_of l) g t)
      where
        go : (m : Matching) → stop_if (over l a ((g.goal, t) ∷ unless_goal m [])) (goal_first x m (λ y. unforced)) ≡ stop_if (over l a ((g.goal, t) ∷ [])) (goal_first x m (λ y. unforced))
        go (bound ps n) = refl
        go (nothing n) = refl
        go (spent n) = refl

    mutual
      unfolding loader_turn loader_begun

      loader_turn_begun : (n : ℕ) (t : Term) → loader_turn l (each a) g n t ≡ stop_if (over l a (loader_begun l g n t)) (loader_turn l (count_of l) g n t)
      loader_turn_begun zero t = goal_over t unneeded
      loader_turn_begun (suc n) t =
          goal_begun g t unneeded (λ x. loader_tries l (each a) (λ u. sender_turn l (each a) g n u) t zero false g.loader)
          (λ x. loader_tries l (count_of l) (λ u. sender_turn l (count_of l) g n u) t zero false g.loader)
          (rules_begun l (λ u. is_forced (sender_turn l (count_of l) g n u)) (λ u. sender_begun l g n u) t false g.loader)
          (loader_begun_holds (λ u. sender_turn l (each a) g n u) (λ u. sender_turn l (count_of l) g n u) (λ u. sender_begun l g n u) (λ u. sender_turn_begun n u) t zero false g.loader)

      sender_turn_begun : (n : ℕ) (t : Term) → sender_turn l (each a) g n t ≡ stop_if (over l a (sender_begun l g n t)) (sender_turn l (count_of l) g n t)
      sender_turn_begun zero t = goal_over t tt
      sender_turn_begun (suc n) t =
          goal_begun g t tt (λ x. sender_tries l (each a) (λ u. loader_turn l (each a) g n u) t false g.sender)
          (λ x. sender_tries l (count_of l) (λ u. loader_turn l (count_of l) g n u) t false g.sender)
          (rules_begun l (λ u. is_unforced (loader_turn l (count_of l) g n u)) (λ u. loader_begun l g n u) t false g.sender)
          (sender_begun_holds (λ u. loader_turn l (each a) g n u) (λ u. loader_turn l (count_of l) g n u) (λ u. loader_begun l g n u) (λ u. loader_turn_begun n u) t false g.sender)

-- What is demanded

module _ (l : Language) (g : Game) (n : ℕ) (t : Term) where
  abbrev ends : ℕ → Ruling Opening
  ends a = play l (each a) g n t

  unstopped : (a : ℕ) → (SomeOver l a (begun l g n t) → ⊥) → ends a ≡ play l (count_of l) g n t
  unstopped a d = go (over l a (begun l g n t)) refl
    where
      go : (b : Bool) → over l a (begun l g n t) ≡ b → ends a ≡ play l (count_of l) g n t
      go true e = absurd (d (over_some l a (begun l g n t) e))
      go false e = loader_turn_begun l a g n t ∙ ap (λ (b : Bool). stop_if b (play l (count_of l) g n t)) e

  pub spent_begun : (a : ℕ) → (ends a ≡ stopped) ↔ SomeOver l a (begun l g n t)
  spent_begun a = (
    λ e. go (over l a (begun l g n t)) refl e,
    λ s. loader_turn_begun l a g n t ∙ ap (λ (b : Bool). stop_if b (play l (count_of l) g n t)) (some_over l a (begun l g n t) s),
  )
    where
      go : (b : Bool) → over l a (begun l g n t) ≡ b → ends a ≡ stopped → SomeOver l a (begun l g n t)
      go true z e = over_some l a (begun l g n t) z
      go false z e =
          absurd (loader_turn_runs l g n t (sym (loader_turn_begun l a g n t ∙ ap (λ (b : Bool). stop_if b (play l (count_of l) g n t)) z) ∙ e))

  pub larger : (a m : ℕ) → (ends a ≡ stopped → ⊥) → a ≤ m → ends m ≡ ends a
  larger a m u h = unstopped m (λ s. u ((spent_begun a).1 (some_less l a m h (begun l g n t) s))) ∙ sym (unstopped a (λ s. u ((spent_begun a).1 s)))
