-- The published definition of anti-pattern matching, with the rule of scope, is the meaning of a pattern without run names.
use Prim.Native.Nat.{ℕ}
use mathlib.Core.Path.{◌≡◌, refl, sym, ◌∙◌, ap, subst, fun_ext}
use mathlib.Core.Logic.{◌⊎◌, inl, inr, ite, ◌↔◌}
use mathlib.Core.List.{List, [], ◌∷◌, map}
use mathlib.Core.Bool.{Bool, true, false, cond, false≢true}
use native.Mathlib.Omega.{arith}
use lib.Dec.{eqb}
use borrow.Author.Tests.{eqb-true}
use Rattle.term.specs.Class.{Alike}
use Rattle.term.specs.Pattern.{Pattern, name, symbol, complement, Children, end, plain, run}
use Rattle.term.specs.Term.{Term, node, Terms, nil, ◌::◌, single}
use Rattle.anti_pattern.specs.AntiTerm.{Anti, var, neg, app, Antis, ε, ◌▸◌, Free, FreeIn, either?, free?, Occurs, OccursIn, replace, replace_all, Substitution, value, ◌⟨◌⟩}
use Rattle.anti_pattern.specs.Demands.{First, PublishedAgrees}
use Rattle.anti_pattern.specs.Language.{Language, TermOf, TermsOf, ◌⊢◌≈◌}
use Rattle.anti_pattern.specs.Meaning.{Assignment, unassigned, ExtendsAt, Extends, Holds, HoldAll, Satisfies, OneAt, CountAsOne}
use Rattle.anti_pattern.specs.Order.{length_of, run_lengths}
use Rattle.anti_pattern.specs.Place.{parts_at}
use Rattle.anti_pattern.specs.Published.{◌⊢◌∈⟦◌⟧, Solution, NoRuns, NoRunsIn, anti, antis, singly, assignment}
use Rattle.anti_pattern.specs.Variables.{vars, vars_all, free, among, runs, runs_all, firsts}
use Rattle.anti_pattern.proofs.Alike.{term_sym, term_trans, term_eq, single_same, single_open, some_one, one_trans, children_of_holds}
use Rattle.anti_pattern.proofs.Answers.{none_exactly, bound_exactly}
use Rattle.anti_pattern.proofs.Extensions.{extends_at}
use Rattle.anti_pattern.proofs.Facts.{eqb_same, head_same, none_some, some_same}
use Rattle.anti_pattern.proofs.First.{equal_lengths}
use Rattle.anti_pattern.proofs.Renamed.{member}
use Rattle.anti_pattern.proofs.Taken.{Fits, FitAll, ground_there, ground_fits, ground_none, free_occurs}
use Rattle.std.specs.Prelude.{Option, Some, None}

-- an anti-term as a pattern
abbrev mutual
  pattern : Anti ℕ → Pattern
  pattern (var x) = name x
  pattern (neg q) = complement (pattern q)
  pattern (app f qs) = symbol f (patterns qs)

  patterns : Antis ℕ → Children
  patterns ε = end
  patterns (q ▸ qs) = plain (pattern q) (patterns qs)

mutual
  pattern_anti : (q : Pattern) (n : NoRuns q) → pattern (anti q n) ≡ q
  pattern_anti (name v) n = refl
  pattern_anti (symbol s qs) n = ap (symbol s) (patterns_antis qs n)
  pattern_anti (complement q) n = ap complement (pattern_anti q n)

  patterns_antis : (qs : Children) (n : NoRunsIn qs) → patterns (antis qs n) ≡ qs
  patterns_antis end n = refl
  patterns_antis (plain q qs) n =
      let i : pattern (anti q n.0) ≡ q = pattern_anti q n.0 in let j : patterns (antis qs n.1) ≡ qs = patterns_antis qs n.1 in cc
  patterns_antis (run v qs) n = absurd n

-- the free variables, as a list and as a set

among_cons : (x v : ℕ) (vs : List ℕ) → among x (v ∷ vs) ≡ true → (x ≡ v) ⊎ (among x vs ≡ true)
among_cons x v vs = go (eqb v x) refl
  where
    go : (m : Bool) → eqb v x ≡ m → cond m true (among x vs) ≡ true → (x ≡ v) ⊎ (among x vs ≡ true)
    go true e h = inl (sym (eqb-true v x e))
    go false e h = inr h

cons_among : (x v : ℕ) (vs : List ℕ) → (x ≡ v) ⊎ (among x vs ≡ true) → among x (v ∷ vs) ≡ true
cons_among x v vs (inl e) = subst (λ (y : ℕ). cond (eqb y x) true (among x vs) ≡ true) e (rw (eqb_same x))
cons_among x v vs (inr h) = go (eqb v x)
  where
    go : (m : Bool) → cond m true (among x vs) ≡ true
    go true = refl
    go false = h

mutual
  among_free : (q : Anti ℕ) (x : ℕ) (vs : List ℕ) → among x (vars (pattern q) vs) ≡ true → Free x q ⊎ (among x vs ≡ true)
  among_free (var y) x vs h = among_cons x y vs h
  among_free (neg q) x vs h = inr h
  among_free (app f qs) x vs h = among_free_all qs x vs h

  among_free_all : (qs : Antis ℕ) (x : ℕ) (vs : List ℕ) → among x (vars_all (patterns qs) vs) ≡ true → FreeIn x qs ⊎ (among x vs ≡ true)
  among_free_all ε x vs h = inr h
  among_free_all (q ▸ qs) x vs h = go (among_free q x (vars_all (patterns qs) vs) h) (among_free_all qs x vs)
    where
      go : Free x q ⊎ (among x (vars_all (patterns qs) vs) ≡ true) → (among x (vars_all (patterns qs) vs) ≡ true → FreeIn x qs ⊎ (among x vs ≡ true))
          → FreeIn x (q ▸ qs) ⊎ (among x vs ≡ true)
      go (inl f) r = inl (inl f)
      go (inr k) r = elim (r k) [ inl f ↦ inl (inr f) | inr e ↦ inr e ]

mutual
  free_among : (q : Anti ℕ) (x : ℕ) (vs : List ℕ) → Free x q ⊎ (among x vs ≡ true) → among x (vars (pattern q) vs) ≡ true
  free_among (var y) x vs h = cons_among x y vs h
  free_among (neg q) x vs (inl h) = absurd h
  free_among (neg q) x vs (inr h) = h
  free_among (app f qs) x vs h = free_among_all qs x vs h

  free_among_all : (qs : Antis ℕ) (x : ℕ) (vs : List ℕ) → FreeIn x qs ⊎ (among x vs ≡ true) → among x (vars_all (patterns qs) vs) ≡ true
  free_among_all ε x vs (inl h) = absurd h
  free_among_all ε x vs (inr h) = h
  free_among_all (q ▸ qs) x vs (inl (inl h)) = free_among q x (vars_all (patterns qs) vs) (inl h)
  free_among_all (q ▸ qs) x vs (inl (inr h)) = free_among q x (vars_all (patterns qs) vs) (inr (free_among_all qs x vs (inl h)))
  free_among_all (q ▸ qs) x vs (inr h) = free_among q x (vars_all (patterns qs) vs) (inr (free_among_all qs x vs (inr h)))

-- a name is among the free variables, or it is not free
free_or : (q : Anti ℕ) (x : ℕ) (C : Bool → Type 0) → (Free x q → C true) → ((Free x q → ⊥) → C false) → C (among x (free (pattern q)))
free_or q x C f g = go (among x (free (pattern q))) refl
  where
    go : (m : Bool) → among x (free (pattern q)) ≡ m → C m
    go true e = f (elim (among_free q x [] e) [ inl h ↦ h | inr h ↦ absurd (false≢true h) ])
    go false e = g (λ h. false≢true (sym e ∙ free_among q x [] (inl h)))

-- a substitution applied everywhere: what stands in the outcome stood there before, and has no value

abbrev act : Substitution → Anti ℕ → Anti ℕ
act σ q = replace (λ x. value (σ x) x) q

abbrev acts : Substitution → Antis ℕ → Antis ℕ
acts σ qs = replace_all (λ x. value (σ x) x) qs

module _ (σ : Substitution) (x : ℕ) where
  value_occurs : (y : ℕ) (m : Option Term) → σ y ≡ m → Occurs x (value m y) → (x ≡ y) × (σ x ≡ None)
  value_occurs y None e h = (h, ap σ h ∙ e)
  value_occurs y (Some u) e h = absurd (ground_none u x h)

  mutual
    act_occurs : (q : Anti ℕ) → Occurs x (act σ q) → Occurs x q × (σ x ≡ None)
    act_occurs (var y) h = value_occurs y (σ y) refl h
    act_occurs (neg q) h = act_occurs q h
    act_occurs (app f qs) h = acts_occurs qs h

    acts_occurs : (qs : Antis ℕ) → OccursIn x (acts σ qs) → OccursIn x qs × (σ x ≡ None)
    acts_occurs ε h = absurd h
    acts_occurs (q ▸ qs) (inl h) = let r = act_occurs q h in (inl r.0, r.1)
    acts_occurs (q ▸ qs) (inr h) = let r = acts_occurs qs h in (inr r.0, r.1)

  mutual
    act_free : (q : Anti ℕ) → Free x (act σ q) → Free x q
    act_free (var y) h = (value_occurs y (σ y) refl (free_occurs (value (σ y) y) x h)).0
    act_free (neg q) h = h
    act_free (app f qs) h = acts_free qs h

    acts_free : (qs : Antis ℕ) → FreeIn x (acts σ qs) → FreeIn x qs
    acts_free ε h = h
    acts_free (q ▸ qs) (inl h) = inl (act_free q h)
    acts_free (q ▸ qs) (inr h) = inr (acts_free qs h)

  module _ (e : σ x ≡ None) where
    mutual
      occurs_act : (q : Anti ℕ) → Occurs x q → Occurs x (act σ q)
      occurs_act (var y) h = subst (λ (m : Option Term). Occurs x (value m y)) (sym e ∙ ap σ h) h
      occurs_act (neg q) h = occurs_act q h
      occurs_act (app f qs) h = occurs_acts qs h

      occurs_acts : (qs : Antis ℕ) → OccursIn x qs → OccursIn x (acts σ qs)
      occurs_acts ε h = h
      occurs_acts (q ▸ qs) (inl h) = inl (occurs_act q h)
      occurs_acts (q ▸ qs) (inr h) = inr (occurs_acts qs h)

    mutual
      free_act : (q : Anti ℕ) → Free x q → Free x (act σ q)
      free_act (var y) h = subst (λ (m : Option Term). Free x (value m y)) (sym e ∙ ap σ h) h
      free_act (neg q) h = h
      free_act (app f qs) h = free_acts qs h

      free_acts : (qs : Antis ℕ) → FreeIn x qs → FreeIn x (acts σ qs)
      free_acts ε h = h
      free_acts (q ▸ qs) (inl h) = inl (free_act q h)
      free_acts (q ▸ qs) (inr h) = inr (free_acts qs h)

-- an assignment has what the substitution has; else what the valuation has for the variables F; else nothing

abbrev known : {P : Type 0} → Option Term → Dec P → Term → Option Terms
known (Some u) d v = Some (single u)
known None (yes p) v = Some (single v)
known None (no n) v = None

known_yes : {P : Type 0} (d : Dec P) (v : Term) → P → known None d v ≡ Some (single v)
known_yes (yes p) v f = refl
known_yes (no n) v f = absurd (n f)

-- the term of a sequence of one, or else another
abbrev term_or : Term → Option Terms → Term
term_or d None = d
term_or d (Some nil) = d
term_or d (Some (t :: ts)) = t

-- what is assigned, or else the value, if the name is to be assigned
abbrev extended : Option Terms → Bool → Term → Option Terms
extended (Some w) m v = Some w
extended None true v = Some (single v)
extended None false v = None

module _ (q : Anti ℕ) (σ : Substitution) where
  replace_same : (ρ θ : ℕ → Anti ℕ) → ((x : ℕ) → ρ x ≡ θ x) → replace ρ q ≡ replace θ q
  replace_same ρ θ e = ap (λ (f : ℕ → Anti ℕ). replace f q) (fun_ext e)

  -- where only free variables have values, the substitution may act everywhere
  act_same : ((x : ℕ) (u : Term) → σ x ≡ Some u → Free x q) → σ ⟨ q ⟩ ≡ act σ q
  act_same d = replace_same (λ x. ite (free? x q) (value (σ x) x) (var x)) (λ x. value (σ x) x) (λ x. go x (free? x q) (σ x) refl)
    where
      go : (x : ℕ) (f : Dec (Free x q)) (m : Option Term) → σ x ≡ m → ite f (value m x) (var x) ≡ value m x
      go x (yes f) m e = refl
      go x (no n) None e = refl
      go x (no n) (Some u) e = absurd (n (d x u e))

abbrev first_of : Option Terms → Option Term
first_of None = None
first_of (Some nil) = None
first_of (Some (t :: ts)) = Some t

mutual
  pub no_runs_holds : (q : Pattern) → NoRuns q → (vs : List ℕ) → runs q vs ≡ vs
  no_runs_holds (name v) n vs = refl
  no_runs_holds (symbol s qs) n vs = no_runs_all qs n vs
  no_runs_holds (complement q) n vs = refl

  no_runs_all : (qs : Children) → NoRunsIn qs → (vs : List ℕ) → runs_all qs vs ≡ vs
  no_runs_all end n vs = refl
  no_runs_all (plain q qs) n vs = no_runs_holds q n.0 (runs_all qs vs) ∙ no_runs_all qs n.1 vs
  no_runs_all (run v qs) n vs = absurd n

module _ (l : Language) where
  -- the values of the free variables are single terms
  mutual
    holds_free : (q : Anti ℕ) (b : Assignment) (t : Term) (x : ℕ) → Holds l (TermsOf l) (pattern q) b t → Free x q → (v : Term) × (b x ≡ Some (single v))
    holds_free (var y) b t x h e = (h.0, ap b e ∙ h.1)
    holds_free (neg q) b t x h e = absurd e
    holds_free (app f qs) b (node r ts) x h e = holds_free_all qs b ts x h.1 e

    holds_free_all : (qs : Antis ℕ) (b : Assignment) (ts : Terms) (x : ℕ) → HoldAll l (TermsOf l) (patterns qs) b ts → FreeIn x qs → (v : Term) × (b x ≡ Some (single v))
    holds_free_all ε b ts x h e = absurd e
    holds_free_all (q ▸ qs) b nil x h e = absurd h
    holds_free_all (q ▸ qs) b (t :: ts) x h (inl e) = holds_free q b t x h.0 e
    holds_free_all (q ▸ qs) b (t :: ts) x h (inr e) = holds_free_all qs b ts x h.1 e

  -- every term that is assigned is of the language
  abbrev OfLanguage : Assignment → Type 0
  OfLanguage b = (v : ℕ) (w : Terms) → b v ≡ Some w → TermsOf l w

  extends_of : (a b : Assignment) (vs : List ℕ) → OfLanguage a → Extends (TermsOf l) a vs b → OfLanguage b
  unfolding Extends
  extends_of a b vs g x v w e = go (a v) (among v vs) refl (x v)
    where
      go : (o : Option Terms) (m : Bool) → a v ≡ o → ExtendsAt (TermsOf l) o m (b v) → TermsOf l w
      go (Some y) m i z = g v w (i ∙ sym z ∙ e)
      go None true i z = subst (TermsOf l) (some_same (sym z.2 ∙ e)) z.1
      go None false i z = absurd (none_some (sym z ∙ e))

  -- what counts as a single term, and as nothing
  one_single : (o : Option Terms) (v : Term) → OneAt l o (Some (single v)) → (u : Term) × (o ≡ Some (single u)) × (l ⊢ u ≈ v)
  one_single None v h = absurd h
  one_single (Some w) v h = let r = single_open l w v h in (r.0, ap Some r.1, r.2)

  single_one : (o : Option Terms) (u v : Term) → o ≡ Some (single u) → l ⊢ u ≈ v → OneAt l o (Some (single v))
  single_one o u v e h = some_one l o (Some (single v)) (single u) (single v) e refl (single_same l u v h)

  one_none : (o : Option Terms) → OneAt l o None → o ≡ None
  one_none None h = refl
  one_none (Some w) h = absurd h

  none_one : (o : Option Terms) → o ≡ None → OneAt l o None
  none_one o e = subst (λ (p : Option Terms). OneAt l p None) (sym e) tt

  module _ (σ : Substitution) where
    -- a complement, where its inside holds of the same terms
    module _ (q : Anti ℕ) (F : ℕ → Type 0) (F? : (x : ℕ) → Dec (F x)) (a : ℕ → Term) (b : Assignment) (t : Term) (g : TermOf l t) (of : OfLanguage b)
        (near : (x : ℕ) → Occurs x q → OneAt l (b x) (known (σ x) (F? x) (a x)))
        (ih : (c : ℕ → Term) (d : Assignment) → OfLanguage d
        → ((x : ℕ) → Occurs x q → OneAt l (d x) (known (σ x) (either? (F? x) (free? x (act σ q))) (c x)))
        → Fits l (λ x. F x ⊎ Free x (act σ q)) (act σ q) c t ↔ Holds l (TermsOf l) (pattern q) d t) where
      comp_there : Fits l F (neg (act σ q)) a t → Holds l (TermsOf l) (complement (pattern q)) b t
      unfolding Extends
      comp_there n d x h = n c valued agrees ((ih c d of_d (λ i u. linked i (σ i) (F? i) (free? i (act σ q)) refl (near i u))).1 h)
        where
          c : ℕ → Term
          c i = term_or t (d i)

          of_d : OfLanguage d
          of_d = extends_of b d (free (pattern q)) of x

          valued : (i : ℕ) → TermOf l (c i)
          valued i = go (d i) refl
            where
              go : (o : Option Terms) → d i ≡ o → TermOf l (term_or t o)
              go None e = g
              go (Some nil) e = g
              go (Some (u :: us)) e = (of_d i (u :: us) e).0

          stays : (i : ℕ) (v : Term) → b i ≡ Some (single v) → d i ≡ Some (single v)
          stays i v e = extends_at l b d (free (pattern q)) i (single v) e x

          fixed : (i : ℕ) (v : Term) → d i ≡ Some (single v) → OneAt l (d i) (Some (single (c i)))
          fixed i v e = single_one (d i) v (c i) e (term_eq l v (c i) (sym (ap (term_or t) e)))

          agrees : (i : ℕ) → Occurs i (act σ q) → F i → l ⊢ c i ≈ a i
          agrees i u f =
              let r = act_occurs σ i q u in
              let s = one_single (b i) (a i)
              (subst (OneAt l (b i)) (ap (λ (m : Option Term). known m (F? i) (a i)) r.1 ∙ known_yes (F? i) (a i) f) (near i r.0)) in
              subst (λ (v : Term). l ⊢ v ≈ a i) (sym (ap (term_or t) (stays i s.0 s.1))) s.2

          linked : (i : ℕ) (m : Option Term) (k : Dec (F i)) (f : Dec (Free i (act σ q))) → σ i ≡ m → OneAt l (b i) (known m k (a i))
              → OneAt l (d i) (known m (either? k f) (c i))
          linked i (Some v) k f e r = let s = one_single (b i) v r in single_one (d i) s.0 v (stays i s.0 s.1) s.2
          linked i None (yes y) f e r = let s = one_single (b i) (a i) r in fixed i s.0 (stays i s.0 s.1)
          linked i None (no y) (yes f) e r = let s = holds_free q d t i h (act_free σ i q f) in fixed i s.0 s.1
          linked i None (no y) (no f) e r =
              none_one (d i) (free_or q i (λ m. ExtendsAt (TermsOf l) None m (d i) → d i ≡ None) (λ g. absurd (f (free_act σ i e q g))) (λ g z. z)
              (subst (λ (m : Option Terms). ExtendsAt (TermsOf l) m (among i (free (pattern q))) (d i)) (one_none (b i) r) (x i)))

      comp_back : Holds l (TermsOf l) (complement (pattern q)) b t → Fits l F (neg (act σ q)) a t
      unfolding Extends
      comp_back n c valued agrees h =
          n d (λ i. extends i (b i) (among i (free (pattern q))))
          ((ih c d (extends_of b d (free (pattern q)) of (λ i. extends i (b i) (among i (free (pattern q)))))
          (λ i u. linked i u (σ i) (F? i) (free? i (act σ q)) refl (near i u))).0 h)
        where
          d : Assignment
          d i = extended (b i) (among i (free (pattern q))) (c i)

          extends : (i : ℕ) (m : Option Terms) (k : Bool) → ExtendsAt (TermsOf l) m k (extended m k (c i))
          extends i (Some w) k = refl
          extends i None true = (single (c i), (valued i, tt), refl)
          extends i None false = refl

          was : (i : ℕ) (m : Option Terms) → b i ≡ m → d i ≡ extended m (among i (free (pattern q))) (c i)
          was i m r = ap (λ (o : Option Terms). extended o (among i (free (pattern q))) (c i)) r

          stays : (i : ℕ) (v : Term) → OneAt l (b i) (Some (single v)) → OneAt l (d i) (Some (single v))
          stays i v r = let s = one_single (b i) v r in single_one (d i) s.0 v (was i (Some (single s.0)) s.1) s.2

          linked : (i : ℕ) → Occurs i q → (m : Option Term) (k : Dec (F i)) (f : Dec (Free i (act σ q))) → σ i ≡ m
              → OneAt l (b i) (known m k (a i)) → OneAt l (d i) (known m (either? k f) (c i))
          linked i u (Some v) k f e r = stays i v r
          linked i u None (yes y) f e r =
              one_trans l (d i) (Some (single (a i))) (Some (single (c i))) (stays i (a i) r)
              (single_same l (a i) (c i) (term_sym l (c i) (a i) (agrees i (occurs_act σ i e q u) y)))
          linked i u None (no y) (yes f) e r =
              single_one (d i) (c i) (c i) (was i None (one_none (b i) r)
              ∙ free_or q i (λ m. extended None m (c i) ≡ Some (single (c i))) (λ z. refl) (λ z. absurd (z (act_free σ i q f)))) (term_eq l (c i) (c i) refl)
          linked i u None (no y) (no f) e r =
              none_one (d i) (was i None (one_none (b i) r) ∙ free_or q i (λ m. extended None m (c i) ≡ None) (λ z. absurd (f (free_act σ i e q z))) (λ z. refl))

    -- a name
    named : (x : ℕ) (b : Assignment) (t v : Term) → OneAt l (b x) (Some (single v)) → (l ⊢ v ≈ t) ↔ Holds l (TermsOf l) (name x) b t
    named x b t v k =
        let r = one_single (b x) v k in (
          λ h. (r.0, r.1, term_trans l r.0 v t r.2 h),
          λ h. term_trans l v r.0 t (term_sym l r.0 v r.2)
              (subst (λ (u : Term). l ⊢ u ≈ t) (head_same (some_same (sym h.1 ∙ r.1))) h.2),
        )

    name_link : (x : ℕ) (F : ℕ → Type 0) (F? : (x : ℕ) → Dec (F x)) (a : ℕ → Term) (b : Assignment) (t : Term) (m : Option Term)
        → ((y : ℕ) → Free y (value m x) → F y) → OneAt l (b x) (known m (F? x) (a x)) → Fits l F (value m x) a t ↔ Holds l (TermsOf l) (name x) b t
    name_link x F F? a b t None s k = named x b t (a x) (subst (OneAt l (b x)) (known_yes (F? x) (a x) (s x refl)) k)
    name_link x F F? a b t (Some u) s k =
        let r = named x b t u k in (λ h. r.0 (ground_there l F a u t h), λ h. ground_fits l F a u t (r.1 h))

    mutual
      link : (q : Anti ℕ) (F : ℕ → Type 0) (F? : (x : ℕ) → Dec (F x)) (a : ℕ → Term) (b : Assignment) (t : Term) → TermOf l t → OfLanguage b
          → ((x : ℕ) → Free x (act σ q) → F x) → ((x : ℕ) → Occurs x q → OneAt l (b x) (known (σ x) (F? x) (a x)))
          → Fits l F (act σ q) a t ↔ Holds l (TermsOf l) (pattern q) b t
      link (var x) F F? a b t g of s k = name_link x F F? a b t (σ x) s (k x refl)
      link (neg q) F F? a b t g of s k =
          let ih : (c : ℕ → Term) (d : Assignment) → OfLanguage d
          → ((x : ℕ) → Occurs x q → OneAt l (d x) (known (σ x) (either? (F? x) (free? x (act σ q))) (c x)))
          → Fits l (λ x. F x ⊎ Free x (act σ q)) (act σ q) c t ↔ Holds l (TermsOf l) (pattern q) d t
          = λ c d o j. link q (λ x. F x ⊎ Free x (act σ q)) (λ x. either? (F? x) (free? x (act σ q))) c d t g o (λ x. inr) j in
          (comp_there q F F? a b t g of k ih, comp_back q F F? a b t g of k ih)
      link (app f qs) F F? a b (node r ts) g of s k =
          let i = link_all qs F F? a b ts (children_of_holds l r ts g) of s k in (λ h. (h.0, i.0 h.1), λ h. (h.0, i.1 h.1))

      link_all : (qs : Antis ℕ) (F : ℕ → Type 0) (F? : (x : ℕ) → Dec (F x)) (a : ℕ → Term) (b : Assignment) (ts : Terms) → TermsOf l ts → OfLanguage b
          → ((x : ℕ) → FreeIn x (acts σ qs) → F x) → ((x : ℕ) → OccursIn x qs → OneAt l (b x) (known (σ x) (F? x) (a x)))
          → FitAll l F (acts σ qs) a ts ↔ HoldAll l (TermsOf l) (patterns qs) b ts
      link_all ε F F? a b nil g of s k = (λ h. refl, λ h. tt)
      link_all ε F F? a b (t :: ts) g of s k = (λ h. absurd h, λ h. let z : ◌≡◌ {A = ℕ} 0 1 = cc in omega arith)
      link_all (q ▸ qs) F F? a b nil g of s k = (λ h. h, λ h. h)
      link_all (q ▸ qs) F F? a b (t :: ts) g of s k =
          let i = link q F F? a b t g.0 of (λ x f. s x (inl f)) (λ x u. k x (inl u)) in
          let j = link_all qs F F? a b ts g.1 of (λ x f. s x (inr f)) (λ x u. k x (inr u)) in
          (λ h. (i.0 h.0, j.0 h.1), λ h. (i.1 h.0, j.1 h.1))

  -- the whole pattern

  module _ (q : Anti ℕ) (σ : Substitution) (t : Term) (g : TermOf l t) where
    -- what is closed holds of a term or not, under any valuation
    module _ (o : (x : ℕ) → Free x (act σ q) → ⊥) (of : OfLanguage (assignment σ)) where
      closed : (a : ℕ → Term) → Fits l (λ x. Free x (act σ q)) (act σ q) a t ↔ Holds l (TermsOf l) (pattern q) (assignment σ) t
      closed a =
          link σ q (λ x. Free x (act σ q)) (λ x. free? x (act σ q)) a (assignment σ) t g of (λ x f. f) (λ x u. go x (σ x) (free? x (act σ q)))
        where
          go : (x : ℕ) (m : Option Term) (d : Dec (Free x (act σ q))) → OneAt l (singly m) (known m d (a x))
          go x (Some u) d = single_same l u u (term_eq l u u refl)
          go x None (yes f) = absurd (o x f)
          go x None (no n) = tt

      member_there : l ⊢ t ∈⟦ act σ q ⟧ → Holds l (TermsOf l) (pattern q) (assignment σ) t
      member_there m = let s = (member l (act σ q) t g).0 m in (closed s.0).0 s.2

      member_back : Holds l (TermsOf l) (pattern q) (assignment σ) t → l ⊢ t ∈⟦ act σ q ⟧
      member_back h = (member l (act σ q) t g).1 (λ x. t, λ x. g, (closed (λ x. t)).1 h)

    -- a solution by the published definition satisfies the pattern, and the other way round
    there : Solution l q t σ → Satisfies l (pattern q) t (assignment σ)
    unfolding Extends
    there s = record {
      exact = λ x. free_or q x (λ m. ExtendsAt (TermsOf l) None m (singly (σ x))) (is_free x (σ x) refl) (not_free x (σ x) refl);
      holds = member_there grounds' (λ x w e. of x (σ x) refl w e) (subst (λ (r : Anti ℕ). l ⊢ t ∈⟦ r ⟧) (act_same q σ (λ x u e. (s.domain x u e).0)) s.member);
    }
      where
        grounds' : (x : ℕ) → Free x (act σ q) → ⊥
        grounds' x f = s.grounding x (subst (λ (r : Anti ℕ). Free x r) (sym (act_same q σ (λ x u e. (s.domain x u e).0))) f)

        of : (x : ℕ) (m : Option Term) → σ x ≡ m → (w : Terms) → singly m ≡ Some w → TermsOf l w
        of x None e w i = absurd (none_some i)
        of x (Some u) e w i = subst (TermsOf l) (some_same i) ((s.domain x u e).1, tt)

        is_free : (x : ℕ) (m : Option Term) → σ x ≡ m → Free x q → (w : Terms) × TermsOf l w × (singly m ≡ Some w)
        is_free x None e f = absurd (grounds' x (free_act σ x e q f))
        is_free x (Some u) e f = (single u, ((s.domain x u e).1, tt), refl)

        not_free : (x : ℕ) (m : Option Term) → σ x ≡ m → (Free x q → ⊥) → singly m ≡ None
        not_free x None e n = refl
        not_free x (Some u) e n = absurd (n (s.domain x u e).0)

    back : Satisfies l (pattern q) t (assignment σ) → Solution l q t σ
    unfolding Extends
    back s = record {
      domain = has;
      grounding = λ x f. grounds' x (subst (λ (r : Anti ℕ). Free x r) (act_same q σ (λ x u e. (has x u e).0)) f);
      member = subst (λ (r : Anti ℕ). l ⊢ t ∈⟦ r ⟧) (sym (act_same q σ (λ x u e. (has x u e).0)))
          (member_back grounds' (extends_of unassigned (assignment σ) (free (pattern q)) (λ v w e. absurd (none_some e)) s.exact) s.holds);
    }
      where
        has : (x : ℕ) (u : Term) → σ x ≡ Some u → Free x q × TermOf l u
        has x u e =
            free_or q x (λ m. ExtendsAt (TermsOf l) None m (singly (σ x)) → Free x q × TermOf l u)
            (λ f y. (f, (subst (TermsOf l) (some_same (sym y.2 ∙ ap singly e)) y.1).0))
            (λ n y. absurd (none_some (sym y ∙ ap singly e))) (s.exact x)

        grounds' : (x : ℕ) → Free x (act σ q) → ⊥
        grounds' x f =
            let r = act_occurs σ x q (free_occurs (act σ q) x f) in
            free_or q x (λ m. ExtendsAt (TermsOf l) None m (singly (σ x)) → ⊥) (λ g y. none_some (sym (ap singly r.1) ∙ y.2))
            (λ n y. n (act_free σ x q f)) (s.exact x)

  -- what satisfies the pattern is a substitution
  substitution : (q : Anti ℕ) (t : Term) (a : Assignment) → Satisfies l (pattern q) t a → a ≡ assignment (λ x. first_of (a x))
  unfolding Extends
  substitution q t a s = fun_ext (λ x. free_or q x (λ m. ExtendsAt (TermsOf l) None m (a x) → a x ≡ singly (first_of (a x)))
      (λ f y. let r = holds_free q a t x s.holds f in r.1 ∙ ap (λ (m : Option Terms). singly (first_of m)) (sym r.1))
      (λ n y. y ∙ ap (λ (m : Option Terms). singly (first_of m)) (sym y)) (s.exact x))

  -- for a pattern without run names: the published solutions are the assignments that satisfy it

  module _ (q : Pattern) (t : Term) (g : TermOf l t) (n : NoRuns q) where
    solution_satisfies : (σ : Substitution) → Solution l (anti q n) t σ ↔ Satisfies l q t (assignment σ)
    solution_satisfies σ = (
      λ s. subst (λ (r : Pattern). Satisfies l r t (assignment σ)) (pattern_anti q n) (there (anti q n) σ t g s),
      λ s. back (anti q n) σ t g (subst (λ (r : Pattern). Satisfies l r t (assignment σ)) (sym (pattern_anti q n)) s),
    )

    satisfying_substitution : (a : Assignment) → Satisfies l q t a → (σ : Substitution) × (a ≡ assignment σ)
    satisfying_substitution a s =
        (λ x. first_of (a x), substitution (anti q n) t a (subst (λ (r : Pattern). Satisfies l r t a) (sym (pattern_anti q n)) s))

    -- all of them count as one
    one_satisfying : (a b : Assignment) → Satisfies l q t a → Satisfies l q t b → CountAsOne l a b
    one_satisfying a b h k = equal_lengths l q t a b h k (no_lengths a ∙ sym (no_lengths b))
      where
        no_lengths : (c : Assignment) → run_lengths q c ≡ []
        no_lengths c = ap (λ (vs : List ℕ). map (λ v. length_of (c v)) (firsts vs)) (no_runs_holds q n [])

    -- so what satisfies is a solution, and each is the first
    solved : (a : Assignment) → Satisfies l q t a → (σ : Substitution) × Solution l (anti q n) t σ × (a ≡ assignment σ)
    solved a s =
        let r = satisfying_substitution a s in (r.0, (solution_satisfies r.0).1 (subst (Satisfies l q t) r.1 s), r.1)

    solution_first : (σ : Substitution) → Solution l (anti q n) t σ → First l q t (assignment σ)
    solution_first σ s =
        let h = (solution_satisfies σ).0 s in record { satisfies = h; least = λ b k. inr (one_satisfying (assignment σ) b h k) }

    pub published_agrees : Alike l.table l.classes → (allowance : ℕ) → PublishedAgrees l q t n allowance
    published_agrees k allowance = record {
      solution_satisfies = solution_satisfies;
      satisfying_substitution = satisfying_substitution;
      at_most_one = λ σ ρ h k. one_satisfying (assignment σ) (assignment ρ) ((solution_satisfies σ).0 h) ((solution_satisfies ρ).0 k);
      bound_exactly = λ ps m. let i = bound_exactly l k q t g allowance ps m in (
        λ h. let r = i.0 h in
            let s = solved r.2.0 r.2.1.satisfies in (r.0, r.1, (s.0, s.1, r.2.2 ∙ ap (parts_at l.table q t) s.2)),
        λ r. i.1 (r.0, r.1, (assignment r.2.0, solution_first r.2.0 r.2.1, r.2.2)),
      );
      none_exactly = λ m. let i = none_exactly l k q t g allowance m in (
        λ h. let r = i.0 h in (r.0, r.1, λ σ s. r.2 (assignment σ) ((solution_satisfies σ).0 s)),
        λ r. i.1 (r.0, r.1, λ a s. let x = solved a s in r.2 x.0 x.1),
      );
    }
