-- What a game rules: where it is not stopped, it is forced exactly if there is such a plan.
use Prim.Native.Nat.{ℕ, zero, suc}
use mathlib.Core.Path.{◌≡◌, refl, subst}
use mathlib.Core.Logic.{◌⊎◌, inl, inr, ◌↔◌}
use mathlib.Core.Bool.{true, false}
use native.Mathlib.Omega.{arith}
use Rattle.term.specs.Class.{Alike}
use Rattle.term.specs.Limits.{TermAccepted}
use Rattle.term.specs.Table.{table_accepted}
use Rattle.term.specs.Term.{Term}
use Rattle.anti_pattern.specs.Language.{Language}
use Rattle.game.specs.Move.{Game, Move, Stuck, Goal}
use Rattle.game.specs.Plan.{Forced, StillForced}
use Rattle.game.specs.Search.{Ruling, forced, unforced, stopped, Opening, unneeded, by_rule, by_pass, loader_tries, sender_tries, loader_turn, sender_turn, play, Allowing}
use Rattle.game.specs.Demands.{Shows}
use Rattle.game.proofs.Forces.{LoaderForces, SenderForces}
use Rattle.game.proofs.Turns.{Decided, yes, no, unknown, goal_decided}
use Rattle.game.proofs.Tries.{Loader, by_rule_holds, by_pass_holds, by_none, is_stopped, loader_tries_holds, Sender, all_leave, one_does_not, sender_tries_holds}
use Rattle.game.proofs.Plans.{GameAccepted, forced_planned, still_planned}

pub record GameExact (l : Language) (allowed : Allowing) (g : Game) (n : ℕ) (t : Term) : Type 0 where
  pub forced_exactly : (play l allowed g n t ≡ stopped → ⊥) → ((o : Opening) × (play l allowed g n t ≡ forced o)) ↔ Forced l g n t
  pub none_exactly : (play l allowed g n t ≡ stopped → ⊥) → (play l allowed g n t ≡ unforced) ↔ (Forced l g n t → ⊥)
  pub shows : (o : Opening) → play l allowed g n t ≡ forced o → Shows l g n t o

module _ (lang : Language) (alike : Alike lang.table lang.classes) (tabled : table_accepted lang.table ≡ true) (allowed : Allowing) (g : Game)
    (ok : GameAccepted lang g) where
  loader_decided : (n : ℕ) (t : Term) (st : TermAccepted lang t) {x : Ruling Opening} → (Goal lang g t → ⊥) → Loader lang alike tabled allowed t st (SenderForces lang g n) zero false g.loader x
      → Decided (LoaderForces lang g (suc n) t) (Shows lang g (suc n) t) x
  unfolding LoaderForces
  loader_decided n t st d (by_rule_holds j k u e m s l) =
      let i : j ≡ k = omega (arith, e) in
      yes {a = by_rule k} (inr (inl (j, u, m, s)))
      (subst (λ (i : ℕ). Shows lang g (suc n) t (by_rule i)) i (d, (u, m, (still u m.leads.within).1 s), λ h b f. l h f.0 b f.1 ((still f.0 f.1.leads.within).0 f.2)))
    where
      still : (u : Term) → TermAccepted lang u → StillForced lang g n u ↔ SenderForces lang g n u
      still u a = still_planned lang alike tabled g ok n u a
  loader_decided n t st d (by_pass_holds e k s) = yes {a = by_pass} (inr (inr (k, s))) (d, (k, (still_planned lang alike tabled g ok n t st).1 s))
  loader_decided n t st d (by_none l k) = no go
    where
      go : Goal lang g t ⊎ (((i : ℕ) × (u : Term) × Move lang g.loader i t u × SenderForces lang g n u) ⊎ (Stuck lang g.loader t × SenderForces lang g n t)) → ⊥
      go (inl s) = d s
      go (inr (inl s)) = l s.0 s.1 s.2 s.3
      go (inr (inr s)) = k refl s.0 s.1
  loader_decided n t st d is_stopped = unknown

  sender_decided : (n : ℕ) (t : Term) (st : TermAccepted lang t) {x : Ruling (Unit {0})} → (Goal lang g t → ⊥) → Sender lang alike tabled allowed t st (LoaderForces lang g n) false g.sender x
      → Decided (SenderForces lang g (suc n) t) (λ y. Unit {0}) x
  unfolding LoaderForces
  sender_decided n t st d (all_leave a b) = yes (inr (a, b refl)) tt
  sender_decided n t st d (one_does_not k) = no go
    where
      go : Goal lang g t ⊎ (((i : ℕ) (u : Term) → Move lang g.sender i t u → LoaderForces lang g n u) × (Stuck lang g.sender t → LoaderForces lang g n t)) → ⊥
      go (inl s) = d s
      go (inr s) = k s.0 (λ e. s.1)
  sender_decided n t st d is_stopped = unknown

  loader_goal : (n : ℕ) (t : Term) → Goal lang g t → LoaderForces lang g n t
  unfolding LoaderForces
  loader_goal zero t s = s
  loader_goal (suc n) t s = inl s

  sender_goal : (n : ℕ) (t : Term) → Goal lang g t → SenderForces lang g n t
  unfolding LoaderForces
  sender_goal zero t s = s
  sender_goal (suc n) t s = inl s

  last_turn : (t : Term) → (Goal lang g t → ⊥) → LoaderForces lang g zero t → ⊥
  unfolding LoaderForces
  last_turn t d s = d s

  last_sender : (t : Term) → (Goal lang g t → ⊥) → SenderForces lang g zero t → ⊥
  unfolding LoaderForces
  last_sender t d s = d s

  mutual
    unfolding loader_turn

    loader_turn_holds : (n : ℕ) (t : Term) → TermAccepted lang t → Decided (LoaderForces lang g n t) (Shows lang g n t) (loader_turn lang allowed g n t)
    loader_turn_holds zero t st =
        goal_decided lang alike tabled allowed g t st unneeded (LoaderForces lang g zero t) (Shows lang g zero t) (λ x. unforced) (loader_goal zero t) (λ s. s)
        (λ d. no (last_turn t d))
    loader_turn_holds (suc n) t st =
        goal_decided lang alike tabled allowed g t st unneeded (LoaderForces lang g (suc n) t) (Shows lang g (suc n) t)
        (λ x. loader_tries lang allowed (λ u. sender_turn lang allowed g n u) t zero false g.loader) (loader_goal (suc n) t) (λ s. s)
        (λ d. loader_decided n t st d (loader_tries_holds lang alike tabled allowed t st (SenderForces lang g n) (λ u. sender_turn lang allowed g n u) (λ u a. sender_turn_holds n u a)
        zero false g.loader ok.loader))

    sender_turn_holds : (n : ℕ) (t : Term) → TermAccepted lang t → Decided (SenderForces lang g n t) (λ y. Unit {0}) (sender_turn lang allowed g n t)
    sender_turn_holds zero t st =
        goal_decided lang alike tabled allowed g t st tt (SenderForces lang g zero t) (λ y. Unit {0}) (λ x. unforced) (sender_goal zero t) (λ s. tt)
        (λ d. no (last_sender t d))
    sender_turn_holds (suc n) t st =
        goal_decided lang alike tabled allowed g t st tt (SenderForces lang g (suc n) t) (λ y. Unit {0})
        (λ x. sender_tries lang allowed (λ u. loader_turn lang allowed g n u) t false g.sender) (sender_goal (suc n) t) (λ s. tt)
        (λ d. sender_decided n t st d (sender_tries_holds lang alike tabled allowed t st (LoaderForces lang g n) (Shows lang g n) (λ u. loader_turn lang allowed g n u)
        (λ u a. loader_turn_holds n u a) false g.sender ok.sender))

  module _ (n : ℕ) (t : Term) (st : TermAccepted lang t) where
    forced_there : {x : Ruling Opening} → Decided (LoaderForces lang g n t) (Shows lang g n t) x → (o : Opening) → x ≡ forced o
        → LoaderForces lang g n t × Shows lang g n t o
    forced_there (yes {a} p q) o e = (p, subst (Shows lang g n t) (let i : a ≡ o = forced_same e in i) q)
      where
        forced_same : {a b : Opening} → forced a ≡ forced b → a ≡ b
        forced_same h = cc
    forced_there (no d) o e = let z : ◌≡◌ {A = ℕ} 0 1 = cc in absurd (omega arith)
    forced_there unknown o e = let z : ◌≡◌ {A = ℕ} 0 1 = cc in absurd (omega arith)

    forced_back : {x : Ruling Opening} → Decided (LoaderForces lang g n t) (Shows lang g n t) x → (x ≡ stopped → ⊥) → LoaderForces lang g n t
        → (o : Opening) × (x ≡ forced o)
    forced_back (yes {a} p q) s f = (a, refl)
    forced_back (no d) s f = absurd (d f)
    forced_back unknown s f = absurd (s refl)

    none_there : {x : Ruling Opening} → Decided (LoaderForces lang g n t) (Shows lang g n t) x → x ≡ unforced → LoaderForces lang g n t → ⊥
    none_there (yes {a} p q) e f = let z : ◌≡◌ {A = ℕ} 0 1 = cc in absurd (omega arith)
    none_there (no d) e f = d f
    none_there unknown e f = let z : ◌≡◌ {A = ℕ} 0 1 = cc in absurd (omega arith)

    none_back : {x : Ruling Opening} → Decided (LoaderForces lang g n t) (Shows lang g n t) x → (x ≡ stopped → ⊥) → (LoaderForces lang g n t → ⊥)
        → x ≡ unforced
    none_back (yes p q) s f = absurd (f p)
    none_back (no d) s f = refl
    none_back unknown s f = absurd (s refl)

    pub game_exact : GameExact lang allowed g n t
    game_exact = record {
      forced_exactly = λ s. (
        λ h. (forced_planned lang alike tabled g ok n t st).1 (forced_there (loader_turn_holds n t st) h.0 h.1).0,
        λ f. forced_back (loader_turn_holds n t st) s ((forced_planned lang alike tabled g ok n t st).0 f),
      );
      none_exactly = λ s. (
        λ h f. none_there (loader_turn_holds n t st) h ((forced_planned lang alike tabled g ok n t st).0 f),
        λ d. none_back (loader_turn_holds n t st) s (λ f. d ((forced_planned lang alike tabled g ok n t st).1 f)),
      );
      shows = λ o h. (forced_there (loader_turn_holds n t st) o h).1;
    }
