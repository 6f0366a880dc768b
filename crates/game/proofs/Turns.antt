-- What a rule and the goal come to at an accepted state.
use Prim.Native.Nat.{ℕ, suc}
use mathlib.Core.Path.{◌≡◌, refl, sym, ◌∙◌, subst}
use mathlib.Core.Logic.{◌⊎◌, inl, inr}
use mathlib.Core.List.{List, [], ◌∷◌}
use mathlib.Core.Bool.{Bool, true, false, cond, false≢true}
use native.Mathlib.Omega.{arith}
use Rattle.term.specs.Class.{Alike}
use Rattle.term.specs.Limits.{TermAccepted}
use Rattle.term.specs.Pattern.{Pattern, pattern_bytes}
use Rattle.term.specs.Table.{table_accepted}
use Rattle.term.specs.Term.{Term, term_bytes}
use Rattle.anti_pattern.specs.Answer.{Matching, bound, nothing, spent, count_of}
use Rattle.anti_pattern.specs.Language.{Language, TermOf}
use Rattle.anti_pattern.specs.Variables.{free}
use Rattle.anti_pattern.specs.Search.{Env, first_answer, whole}
use Rattle.anti_pattern.proofs.Demands.{answer_exact, search_decides}
use Rattle.anti_pattern.proofs.Within.{accepted_of}
use Rattle.replace.specs.Call.{Replacement, result, nothing as unbound, spent as overspent, replacement}
use Rattle.replace.specs.Demands.{FirstShown, Replaced}
use Rattle.replace.specs.Growth.{within_limits}
use Rattle.replace.specs.Instance.{instance}
use Rattle.replace.specs.Loose.{loose}
use Rattle.replace.specs.Splice.{spliced_in}
use Rattle.replace.proofs.Replacements.{Came, came_spent, came_none, came_result, replacement_came, within_exactly}
use Rattle.replace.proofs.Templates.{template_exactly}
use Rattle.replace.proofs.Results.{one_result, instance_replaced, first_is_shown}
use Rattle.game.specs.Accepted.{RuleAccepted}
use Rattle.game.specs.Move.{Rule, Game, Leads, Move, Stuck, Goal}
use Rattle.game.specs.Search.{Ruling, forced, unforced, stopped, Turn, to, nowhere, spends, turn_by, turn, goal_first, Allowing, goal_at}
use Rattle.std.specs.Prelude.{Option, Some, None}

-- a ruling, where it is not stopped, decides P, and how it is forced meets Q
pub data Decided {A : Type 0} (P : Type 0) (Q : A → Type 0) : Ruling A → Type 0 where
  yes : {a : A} → P → Q a → Decided P Q (forced a)
  no : (P → ⊥) → Decided P Q unforced
  unknown : Decided P Q stopped

-- what a turn tells of its rule
pub data Told (l : Language) (r : Rule) (t : Term) : Turn → Type 0 where
  leads_to : {u : Term} → Leads l r t u → Told l r t (to u)
  no_move : ((u : Term) → Leads l r t u → ⊥) → Told l r t nowhere
  is_spent : Told l r t spends

module _ (l : Language) (k : Alike l.table l.classes) (tabled : table_accepted l.table ≡ true) where
  module _ (r : Rule) (ok : RuleAccepted l r) (t : Term) (st : TermAccepted l t) where
    abbrev p : Pattern
    p = r.pattern

    abbrev q : Pattern
    q = r.template

    firm : loose (free p) q ≡ false
    firm = (template_exactly p q).1 ok.of_rule

    of : TermOf l t
    of = accepted_of l t st

    shown : (e : Env) → first_answer (whole l p t).out ≡ Some e → FirstShown l p t e.value
    shown = first_is_shown l (pattern_bytes l.table p []) (term_bytes l.table t []) k p t (record {
      table_accepted_holds = tabled;
      pattern_bytes_holds = refl;
      pattern_accepted = ok.pattern;
      record_bytes = refl;
      record_accepted = st;
    })

    -- a rule leads to one state at most
    pub leads_once : (u w : Term) → Leads l r t u → Leads l r t w → u ≡ w
    leads_once u w x y = one_result l k p t of q ok.pattern ok.template firm u w x.applied y.applied

    came_told : (allowance : ℕ) (x : Replacement) → Came l k p q t of allowance x → Told l r t (turn_by l.table x)
    came_told n (overspent m) (came_spent h) = is_spent
    came_told n (unbound m) (came_none h f) = no_move (λ u d. f d.applied.answer d.applied.shown.first.satisfies)
    came_told n (result w m) (came_result h e f) = go (within_limits l.table u) refl
      where
        u : Term
        u = spliced_in l (instance q e.value)

        x : Replaced l p q t u
        x = instance_replaced l k p t of q ok.pattern ok.template firm e.value (shown e f)

        go : (b : Bool) → within_limits l.table u ≡ b → Told l r t (cond b (to u) nowhere)
        go true z = leads_to (record { applied = x; within = (within_exactly l k p q t of ok.pattern ok.template firm shown u x).0 z })
        go false z =
            no_move (λ y d.
            let i : TermAccepted l u = subst (TermAccepted l) (one_result l k p t of q ok.pattern ok.template firm y u d.applied x) d.within in
            false≢true (sym z ∙ (within_exactly l k p q t of ok.pattern ok.template firm shown u x).1 i))

    pub turn_told : (allowed : Allowing) → Told l r t (turn l allowed r t)
    turn_told allowed = came_told (allowed p t) (replacement l p q t (allowed p t)) (replacement_came l k p q t of (allowed p t))

    -- whether there is a move by the rule can be told
    pub moves_told : ((u : Term) × Leads l r t u) ⊎ ((u : Term) → Leads l r t u → ⊥)
    moves_told = go (turn l (count_of l) r t) (turn_told (count_of l)) (replacement_came l k p q t of (count_of l p t))
      where
        unspent : (x : Replacement) → Came l k p q t of (count_of l p t) x → turn_by l.table x ≡ spends → ⊥
        unspent (overspent m) (came_spent h) e = omega arith
        unspent (unbound m) (came_none h f) e = let z : ◌≡◌ {A = ℕ} 0 1 = cc in omega arith
        unspent (result w m) (came_result h e f) z = within (within_limits l.table w) z
          where
            within : (b : Bool) → cond b (to w) nowhere ≡ spends → ⊥
            within true z = let z : ◌≡◌ {A = ℕ} 0 1 = cc in omega arith
            within false z = let z : ◌≡◌ {A = ℕ} 0 1 = cc in omega arith

        by : (x : Turn) → Told l r t x → (x ≡ spends → ⊥) → ((u : Term) × Leads l r t u) ⊎ ((u : Term) → Leads l r t u → ⊥)
        by (to u) (leads_to d) n = inl (u, d)
        by nowhere (no_move d) n = inr d
        by spends is_spent n = absurd (n refl)

        go : (x : Turn) → Told l r t (turn l (count_of l) r t) → Came l k p q t of (count_of l p t) (replacement l p q t (count_of l p t))
            → ((u : Term) × Leads l r t u) ⊎ ((u : Term) → Leads l r t u → ⊥)
        go x d c = by (turn l (count_of l) r t) d (unspent (replacement l p q t (count_of l p t)) c)

  -- whether the goal holds can be told
  pub goal_told : (g : Game) (t : Term) → TermAccepted l t → Goal l g t ⊎ (Goal l g t → ⊥)
  goal_told g t st = go (first_answer (whole l g.goal t).out) refl
    where
      go : (o : Option Env) → first_answer (whole l g.goal t).out ≡ o → Goal l g t ⊎ (Goal l g t → ⊥)
      go (Some e) h = inl (e.value, ((search_decides l k g.goal t (accepted_of l t st)).found_first e h).satisfies)
      go None h = inr (λ s. (search_decides l k g.goal t (accepted_of l t st)).failed_none h s.0 s.1)

  -- the goal first: where it holds the ruling is forced; where it doesn't, the rest decides
  pub goal_decided : (allowed : Allowing) (g : Game) (t : Term) → TermAccepted l t → {A : Type 0} (a : A) (P : Type 0) (Q : A → Type 0)
      (next : Unit {0} → Ruling A) → (Goal l g t → P) → (Goal l g t → Q a) → ((Goal l g t → ⊥) → Decided P Q (next tt))
      → Decided P Q (goal_first a (goal_at l allowed g t) next)
  goal_decided allowed g t st {A} a P Q next p q rest = go (goal_at l allowed g t) refl
    where
      go : (x : Matching) → goal_at l allowed g t ≡ x → Decided P Q (goal_first a x next)
      go (bound ps n) h =
          let f = (((answer_exact l k g.goal t (accepted_of l t st) (allowed g.goal t)).bound_exactly ps n).0 h).2 in
          let s : Goal l g t = (f.0, f.1.satisfies) in
          yes (p s) (q s)
      go (nothing n) h = rest (λ s. (((answer_exact l k g.goal t (accepted_of l t st) (allowed g.goal t)).none_exactly n).0 h).2 s.0 s.1)
      go (spent n) h = unknown

-- the rules of a list, one by one

module _ (l : Language) (r : Rule) (rs : List Rule) (t : Term) where
  pub move_first : (u : Term) → Leads l r t u → Move l (r ∷ rs) 0 t u
  move_first u h = record { rule = r; own = refl; leads = h }

  pub first_leads : (u : Term) → Move l (r ∷ rs) 0 t u → Leads l r t u
  first_leads u m = subst (λ (x : Rule). Leads l x t u) (let i : r ≡ m.rule = some_rule m.own in sym i) m.leads
    where
      some_rule : {x y : Rule} → Some x ≡ Some y → x ≡ y
      some_rule h = cc

  pub move_later : (i : ℕ) (u : Term) → Move l rs i t u → Move l (r ∷ rs) (suc i) t u
  move_later i u m = record { rule = m.rule; own = m.own; leads = m.leads }

  pub later_move : (i : ℕ) (u : Term) → Move l (r ∷ rs) (suc i) t u → Move l rs i t u
  later_move i u m = record { rule = m.rule; own = m.own; leads = m.leads }

pub no_rule : (l : Language) (t : Term) → Stuck l [] t
no_rule l t i u m = let z = m.own in let y : ◌≡◌ {A = ℕ} 0 1 = cc in omega arith
