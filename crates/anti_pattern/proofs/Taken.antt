-- The ground semantics of an anti-term whose names are apart, whichever complement is taken first.
use Prim.Native.Nat.{ℕ, zero}
use mathlib.Core.Path.{◌≡◌, refl, sym, ◌∙◌, ap, ap₂, subst}
use mathlib.Core.Logic.{◌⊎◌, inl, inr, ite, if_pos, if_neg, ◌↔◌}
use native.Mathlib.Omega.{arith}
use Rattle.term.specs.Term.{Term, node, Terms, nil, ◌::◌}
use Rattle.anti_pattern.specs.AntiTerm.{Anti, var, neg, app, Antis, ε, ◌▸◌, ground_term, ground_terms, Free, FreeIn, either?, Occurs, OccursIn, replace, replace_all}
use Rattle.anti_pattern.specs.Ground.{Outermost, OutermostIn, within, within_all, put, put_all, Way, bare, take, Semantics}
use Rattle.anti_pattern.specs.Language.{Language, TermOf, TermsOf, ◌⊢◌∼◌, ◌⊢◌≈◌, ◌⊢◌≋◌}
use Rattle.anti_pattern.specs.Scope.{Apart, ApartAll}
use Rattle.term.specs.Class.{class_of}
use Rattle.term.proofs.SameParts.{same_term_holds}
use Rattle.anti_pattern.proofs.Alike.{node_open, node_same, cons_open, cons_same, term_sym, term_trans, term_eq, children_of_holds}
use mathlib.Core.Bool.{false≢true}

left : {A B C : Type 0} → (A → B) → A ⊎ C → B ⊎ C
left f (inl a) = inl (f a)
left f (inr c) = inr c

module _ {X : Type 0} where
  mutual
    pub ground_none : (u : Term) (x : X) → Occurs x (ground_term u) → ⊥
    ground_none (node f us) x h = grounds_none us x h

    grounds_none : (us : Terms) (x : X) → OccursIn x (ground_terms us) → ⊥
    grounds_none nil x h = h
    grounds_none (u :: us) x (inl h) = ground_none u x h
    grounds_none (u :: us) x (inr h) = grounds_none us x h

  mutual
    pub free_occurs : (q : Anti X) (x : X) → Free x q → Occurs x q
    free_occurs (var y) x h = h
    free_occurs (neg q) x h = absurd h
    free_occurs (app f qs) x h = free_occurs_all qs x h

    free_occurs_all : (qs : Antis X) (x : X) → FreeIn x qs → OccursIn x qs
    free_occurs_all ε x h = h
    free_occurs_all (q ▸ qs) x (inl h) = inl (free_occurs q x h)
    free_occurs_all (q ▸ qs) x (inr h) = inr (free_occurs_all qs x h)

  -- the complement put back in its place
  mutual
    put_back : (q : Anti X) (ω : Outermost q) → put q ω (neg (within q ω)) ≡ q
    put_back (var x) ω = absurd ω
    put_back (neg q) ω = refl
    put_back (app f qs) ω = ap (app f) (put_back_all qs ω)

    put_back_all : (qs : Antis X) (ω : OutermostIn qs) → put_all qs ω (neg (within_all qs ω)) ≡ qs
    put_back_all ε ω = absurd ω
    put_back_all (q ▸ qs) (inl ω) = ap (◌▸ qs) (put_back q ω)
    put_back_all (q ▸ qs) (inr ω) = ap (q ▸◌) (put_back_all qs ω)

  -- what is free, and what stands, in q with r at ω
  mutual
    free_put : (q : Anti X) (ω : Outermost q) (r : Anti X) (x : X) → Free x (put q ω r) ↔ (Free x q ⊎ Free x r)
    free_put (var y) ω r x = absurd ω
    free_put (neg q) ω r x = (inr, elim [ inl h ↦ absurd h | inr h ↦ h ])
    free_put (app f qs) ω r x = free_put_all qs ω r x

    free_put_all : (qs : Antis X) (ω : OutermostIn qs) (r : Anti X) (x : X) → FreeIn x (put_all qs ω r) ↔ (FreeIn x qs ⊎ Free x r)
    free_put_all ε ω r x = absurd ω
    free_put_all (q ▸ qs) (inl ω) r x =
        let i = free_put q ω r x in (
          elim [ inl h ↦ left inl (i.0 h) | inr h ↦ inl (inr h) ],
          elim [ inl (inl h) ↦ inl (i.1 (inl h)) | inl (inr h) ↦ inr h | inr h ↦ inl (i.1 (inr h)) ],
        )
    free_put_all (q ▸ qs) (inr ω) r x =
        let i = free_put_all qs ω r x in (
          elim [ inl h ↦ inl (inl h) | inr h ↦ left inr (i.0 h) ],
          elim [ inl (inl h) ↦ inl h | inl (inr h) ↦ inr (i.1 (inl h)) | inr h ↦ inr (i.1 (inr h)) ],
        )

  mutual
    occurs_put : (q : Anti X) (ω : Outermost q) (r k : Anti X) (x : X) → Occurs x (put q ω r) → Occurs x (put q ω k) ⊎ Occurs x r
    occurs_put (var y) ω r k x h = absurd ω
    occurs_put (neg q) ω r k x h = inr h
    occurs_put (app f qs) ω r k x h = occurs_put_all qs ω r k x h

    occurs_put_all : (qs : Antis X) (ω : OutermostIn qs) (r k : Anti X) (x : X) → OccursIn x (put_all qs ω r) → OccursIn x (put_all qs ω k) ⊎ Occurs x r
    occurs_put_all ε ω r k x h = absurd ω
    occurs_put_all (q ▸ qs) (inl ω) r k x (inl h) = left inl (occurs_put q ω r k x h)
    occurs_put_all (q ▸ qs) (inl ω) r k x (inr h) = inl (inr h)
    occurs_put_all (q ▸ qs) (inr ω) r k x (inl h) = inl (inl h)
    occurs_put_all (q ▸ qs) (inr ω) r k x (inr h) = left inr (occurs_put_all qs ω r k x h)

  -- x stands in q beside the complement at ω
  abbrev Beside : (q : Anti X) → Outermost q → X → Type 0
  Beside q ω x = Occurs x (put q ω (app zero ε))

  abbrev BesideIn : (qs : Antis X) → OutermostIn qs → X → Type 0
  BesideIn qs ω x = OccursIn x (put_all qs ω (app zero ε))

  beside_occurs : (q : Anti X) (ω : Outermost q) (x : X) → Beside q ω x → Occurs x q
  beside_occurs q ω x b =
      subst (Occurs x) (put_back q ω) (elim (occurs_put q ω (app zero ε) (neg (within q ω)) x b) [ inl h ↦ h | inr h ↦ absurd h ])

  beside_occurs_all : (qs : Antis X) (ω : OutermostIn qs) (x : X) → BesideIn qs ω x → OccursIn x qs
  beside_occurs_all qs ω x b =
      subst (OccursIn x) (put_back_all qs ω)
      (elim (occurs_put_all qs ω (app zero ε) (neg (within_all qs ω)) x b) [ inl h ↦ h | inr h ↦ absurd h ])

  mutual
    within_occurs : (q : Anti X) (ω : Outermost q) (x : X) → Occurs x (within q ω) → Occurs x q
    within_occurs (var y) ω x h = absurd ω
    within_occurs (neg q) ω x h = h
    within_occurs (app f qs) ω x h = within_occurs_all qs ω x h

    within_occurs_all : (qs : Antis X) (ω : OutermostIn qs) (x : X) → Occurs x (within_all qs ω) → OccursIn x qs
    within_occurs_all ε ω x h = absurd ω
    within_occurs_all (q ▸ qs) (inl ω) x h = inl (within_occurs q ω x h)
    within_occurs_all (q ▸ qs) (inr ω) x h = inr (within_occurs_all qs ω x h)

  mutual
    apart_more : (q : Anti X) (F G : X → Type 0) → ((x : X) → F x → G x) → Apart F q → Apart G q
    apart_more (var x) F G f h = h
    apart_more (neg q) F G f h = apart_more q (λ x. F x ⊎ Free x q) (λ x. G x ⊎ Free x q) (λ x. left (f x)) h
    apart_more (app r qs) F G f h = apart_more_all qs F G f h

    apart_more_all : (qs : Antis X) (F G : X → Type 0) → ((x : X) → F x → G x) → ApartAll F qs → ApartAll G qs
    apart_more_all ε F G f h = h
    apart_more_all (q ▸ qs) F G f h = (apart_more q F G f h.0, apart_more_all qs F G f h.1, λ x o y. f x (h.2 x o y))

  -- what stands both beside a complement and within it is free
  mutual
    apart_beside : (q : Anti X) (ω : Outermost q) (F : X → Type 0) (x : X) → Apart F q → Beside q ω x → Occurs x (within q ω) → F x
    apart_beside (var y) ω F x h b o = absurd ω
    apart_beside (neg q) ω F x h b o = absurd b
    apart_beside (app f qs) ω F x h b o = apart_beside_all qs ω F x h b o

    apart_beside_all : (qs : Antis X) (ω : OutermostIn qs) (F : X → Type 0) (x : X) → ApartAll F qs → BesideIn qs ω x → Occurs x (within_all qs ω) → F x
    apart_beside_all ε ω F x h b o = absurd ω
    apart_beside_all (q ▸ qs) (inl ω) F x h (inl b) o = apart_beside q ω F x h.0 b o
    apart_beside_all (q ▸ qs) (inl ω) F x h (inr b) o = h.2 x (within_occurs q ω x o) b
    apart_beside_all (q ▸ qs) (inr ω) F x h (inl b) o = h.2 x b (within_occurs_all qs ω x o)
    apart_beside_all (q ▸ qs) (inr ω) F x h (inr b) o = apart_beside_all qs ω F x h.1 b o

  mutual
    apart_within : (q : Anti X) (ω : Outermost q) (F : X → Type 0) → Apart F q → Apart (λ x. F x ⊎ Free x (within q ω)) (within q ω)
    apart_within (var y) ω F h = absurd ω
    apart_within (neg q) ω F h = h
    apart_within (app f qs) ω F h = apart_within_all qs ω F h

    apart_within_all : (qs : Antis X) (ω : OutermostIn qs) (F : X → Type 0) → ApartAll F qs → Apart (λ x. F x ⊎ Free x (within_all qs ω)) (within_all qs ω)
    apart_within_all ε ω F h = absurd ω
    apart_within_all (q ▸ qs) (inl ω) F h = apart_within q ω F h.0
    apart_within_all (q ▸ qs) (inr ω) F h = apart_within_all qs ω F h.1

  -- something else put in the place of a complement
  module _ (r : Anti X) (F G : X → Type 0) (f : (x : X) → F x → G x) (a : Apart G r) where
    mutual
      apart_put : (q : Anti X) (ω : Outermost q) → ((x : X) → Beside q ω x → Occurs x r → G x) → Apart F q → Apart G (put q ω r)
      apart_put (var y) ω b h = absurd ω
      apart_put (neg q) ω b h = a
      apart_put (app s qs) ω b h = apart_put_all qs ω b h

      apart_put_all : (qs : Antis X) (ω : OutermostIn qs) → ((x : X) → BesideIn qs ω x → Occurs x r → G x) → ApartAll F qs → ApartAll G (put_all qs ω r)
      apart_put_all ε ω b h = absurd ω
      apart_put_all (q ▸ qs) (inl ω) b h = (
        apart_put q ω (λ x o y. b x (inl o) y) h.0,
        apart_more_all qs F G f h.1,
        λ x o y. elim (occurs_put q ω r (app zero ε) x o) [ inl i ↦ f x (h.2 x (beside_occurs q ω x i) y) | inr i ↦ b x (inr y) i ],
      )
      apart_put_all (q ▸ qs) (inr ω) b h = (
        apart_more q F G f h.0,
        apart_put_all qs ω (λ x o y. b x (inr o) y) h.1,
        λ x o y. elim (occurs_put_all qs ω r (app zero ε) x y) [ inl i ↦ f x (h.2 x o (beside_occurs_all qs ω x i)) | inr i ↦ b x (inl o) i ],
      )

  -- ground terms
  mutual
    pub ground_same : (t u : Term) → ground_term {X = X} t ≡ ground_term u → t ≡ u
    ground_same (node f ts) (node r us) h = let i : f ≡ r = cc in let j : ts ≡ us = grounds_same ts us (cc) in cc

    grounds_same : (ts us : Terms) → ground_terms {X = X} ts ≡ ground_terms us → ts ≡ us
    grounds_same nil nil h = refl
    grounds_same nil (u :: us) h = cc
    grounds_same (t :: ts) nil h = cc
    grounds_same (t :: ts) (u :: us) h = let i : t ≡ u = ground_same t u (cc) in let j : ts ≡ us = grounds_same ts us (cc) in cc

  -- whether a complement is left, and where the first in reading order stands
  unfoldable mutual
    pub outermost? : (q : Anti X) → Dec (Outermost q)
    outermost? (var x) = no (λ ω. ω)
    outermost? (neg q) = yes tt
    outermost? (app f qs) = outermost_in? qs

    outermost_in? : (qs : Antis X) → Dec (OutermostIn qs)
    outermost_in? ε = no (λ ω. ω)
    outermost_in? (q ▸ qs) = either? (outermost? q) (outermost_in? qs)

  module _ (same? : (x y : X) → Dec (x ≡ y)) where
    unfoldable mutual
      pub occurs? : (x : X) (q : Anti X) → Dec (Occurs x q)
      occurs? x (var y) = same? x y
      occurs? x (neg q) = occurs? x q
      occurs? x (app f qs) = occurs_in? x qs

      occurs_in? : (x : X) (qs : Antis X) → Dec (OccursIn x qs)
      occurs_in? x ε = no (λ h. h)
      occurs_in? x (q ▸ qs) = either? (occurs? x q) (occurs_in? x qs)

module _ (l : Language) {X : Type 0} where
  -- terms of the language
  abbrev pub Valued : (X → Term) → Type 0
  Valued a = (x : X) → TermOf l (a x)

  -- q holds of t under a, where the variables F are free in q or further out
  abbrev mutual
    pub Fits : (X → Type 0) → Anti X → (X → Term) → Term → Type 0
    Fits F (var x) a t = l ⊢ a x ≈ t
    Fits F (neg q) a t = (b : X → Term) → Valued b → ((x : X) → Occurs x q → F x → l ⊢ b x ≈ a x) → Fits (λ x. F x ⊎ Free x q) q b t → ⊥
    Fits F (app f qs) a (node r ts) = (l ⊢ f ∼ r) × FitAll F qs a ts

    pub FitAll : (X → Type 0) → Antis X → (X → Term) → Terms → Type 0
    FitAll F ε a nil = Unit {0}
    FitAll F ε a (t :: ts) = ⊥
    FitAll F (q ▸ qs) a nil = ⊥
    FitAll F (q ▸ qs) a (t :: ts) = Fits F q a t × FitAll F qs a ts

  -- q holds of t under some values of its free variables
  abbrev pub Some : Anti X → Term → Type 0
  Some q t = (a : X → Term) × Valued a × Fits (λ x. Free x q) q a t

  -- only what stands in q matters
  mutual
    pub same : (q : Anti X) (F G : X → Type 0) (a b : X → Term) (t : Term) → ((x : X) → Free x q → F x)
        → ((x : X) → Occurs x q → F x → G x) → ((x : X) → Occurs x q → G x → F x) → ((x : X) → Occurs x q → F x → l ⊢ a x ≈ b x)
        → Fits F q a t → Fits G q b t
    same (var x) F G a b t s f g e h = term_trans l (b x) (a x) t (term_sym l (a x) (b x) (e x refl (s x refl))) h
    same (neg q) F G a b t s f g e h = λ d v i k. h d v (λ x o y. term_trans l (d x) (b x) (a x) (i x o (f x o y)) (term_sym l (a x) (b x) (e x o y)))
        (same q (λ x. G x ⊎ Free x q) (λ x. F x ⊎ Free x q) d d t (λ x. inr) (λ x o. left (g x o)) (λ x o. left (f x o))
        (λ x o y. same_term_holds l.classes (d x)) k)
    same (app r qs) F G a b (node r' ts) s f g e h = (h.0, same_all qs F G a b ts s f g e h.1)

    same_all : (qs : Antis X) (F G : X → Type 0) (a b : X → Term) (ts : Terms) → ((x : X) → FreeIn x qs → F x)
        → ((x : X) → OccursIn x qs → F x → G x) → ((x : X) → OccursIn x qs → G x → F x) → ((x : X) → OccursIn x qs → F x → l ⊢ a x ≈ b x)
        → FitAll F qs a ts → FitAll G qs b ts
    same_all ε F G a b nil s f g e h = h
    same_all ε F G a b (t :: ts) s f g e h = h
    same_all (q ▸ qs) F G a b nil s f g e h = h
    same_all (q ▸ qs) F G a b (t :: ts) s f g e h = (
      same q F G a b t (λ x y. s x (inl y)) (λ x o. f x (inl o)) (λ x o. g x (inl o)) (λ x o. e x (inl o)) h.0,
      same_all qs F G a b ts (λ x y. s x (inr y)) (λ x o. f x (inr o)) (λ x o. g x (inr o)) (λ x o. e x (inr o)) h.1,
    )

  -- what holds of a term holds of the same terms
  mutual
    moved : (q : Anti X) (F : X → Type 0) (a : X → Term) (t u : Term) → l ⊢ t ≈ u → Fits F q a t → Fits F q a u
    moved (var x) F a t u e h = term_trans l (a x) t u h e
    moved (neg q) F a t u e h = λ b v i k. h b v i (moved q (λ x. F x ⊎ Free x q) b u t (term_sym l t u e) k)
    moved (app f qs) F a (node r ts) (node s us) e h = let i = node_open l r s ts us e in (h.0 ∙ i.0, moved_all qs F a ts us i.1 h.1)

    moved_all : (qs : Antis X) (F : X → Type 0) (a : X → Term) (ts us : Terms) → l ⊢ ts ≋ us → FitAll F qs a ts → FitAll F qs a us
    moved_all ε F a nil nil e h = h
    moved_all ε F a nil (u :: us) e h = absurd (false≢true e)
    moved_all ε F a (t :: ts) us e h = absurd h
    moved_all (q ▸ qs) F a nil us e h = absurd h
    moved_all (q ▸ qs) F a (t :: ts) nil e h = absurd (false≢true e)
    moved_all (q ▸ qs) F a (t :: ts) (u :: us) e h =
        let i = cons_open l t u ts us e in (moved q F a t u i.0 h.0, moved_all qs F a ts us i.1 h.1)

  -- the term determines the values of the free variables
  mutual
    determined : (q : Anti X) (F G : X → Type 0) (a b : X → Term) (t : Term) → Fits F q a t → Fits G q b t → (x : X) → Free x q → l ⊢ a x ≈ b x
    determined (var y) F G a b t h k x e =
        subst (λ (z : X). l ⊢ a z ≈ b z) (sym e) (term_trans l (a y) t (b y) h (term_sym l (b y) t k))
    determined (neg q) F G a b t h k x e = absurd e
    determined (app r qs) F G a b (node r' ts) h k x e = determined_all qs F G a b ts h.1 k.1 x e

    determined_all : (qs : Antis X) (F G : X → Type 0) (a b : X → Term) (ts : Terms) → FitAll F qs a ts → FitAll G qs b ts
        → (x : X) → FreeIn x qs → l ⊢ a x ≈ b x
    determined_all ε F G a b ts h k x e = absurd e
    determined_all (q ▸ qs) F G a b nil h k x e = absurd h
    determined_all (q ▸ qs) F G a b (t :: ts) h k x (inl e) = determined q F G a b t h.0 k.0 x e
    determined_all (q ▸ qs) F G a b (t :: ts) h k x (inr e) = determined_all qs F G a b ts h.1 k.1 x e

  -- a ground term holds of the same terms only
  module _ (F : X → Type 0) (a : X → Term) where
    mutual
      pub ground_there : (u t : Term) → Fits F (ground_term u) a t → l ⊢ u ≈ t
      ground_there (node f us) (node r ts) h = node_same l f r us ts h.0 (grounds_there us ts h.1)

      grounds_there : (us ts : Terms) → FitAll F (ground_terms us) a ts → l ⊢ us ≋ ts
      grounds_there nil nil h = refl
      grounds_there nil (t :: ts) h = absurd h
      grounds_there (u :: us) nil h = absurd h
      grounds_there (u :: us) (t :: ts) h = cons_same l u t us ts (ground_there u t h.0) (grounds_there us ts h.1)

    mutual
      pub ground_fits : (u t : Term) → l ⊢ u ≈ t → Fits F (ground_term u) a t
      ground_fits (node f us) (node r ts) e = let i = node_open l f r us ts e in (i.0, grounds_fit us ts i.1)

      grounds_fit : (us ts : Terms) → l ⊢ us ≋ ts → FitAll F (ground_terms us) a ts
      grounds_fit nil nil e = tt
      grounds_fit nil (t :: ts) e = absurd (false≢true e)
      grounds_fit (u :: us) nil e = absurd (false≢true e)
      grounds_fit (u :: us) (t :: ts) e = let i = cons_open l u t us ts e in (ground_fits u t i.0, grounds_fit us ts i.1)

  -- q with r at ω holds of t if q with some ground term u at ω does, and r holds of u
  mutual
    split : (q : Anti X) (ω : Outermost q) (r : Anti X) (F : X → Type 0) (a : X → Term) (t : Term) → TermOf l t
        → Fits F (put q ω r) a t ↔ ((u : Term) × TermOf l u × Fits F (put q ω (ground_term u)) a t × Fits F r a u)
    split (var x) ω r F a t g = absurd ω
    split (neg q) ω r F a t g = (
      λ h. (t, g, ground_fits F a t t (same_term_holds l.classes t), h),
      λ p. moved r F a p.0 t (ground_there F a p.0 t p.2) p.3,
    )
    split (app f qs) ω r F a (node s ts) g =
        let i = split_all qs ω r F a ts (children_of_holds l s ts g) in
        (λ h. let p = i.0 h.1 in (p.0, p.1, (h.0, p.2), p.3), λ p. (p.2.0, i.1 (p.0, p.1, p.2.1, p.3)))

    split_all : (qs : Antis X) (ω : OutermostIn qs) (r : Anti X) (F : X → Type 0) (a : X → Term) (ts : Terms) → TermsOf l ts
        → FitAll F (put_all qs ω r) a ts ↔ ((u : Term) × TermOf l u × FitAll F (put_all qs ω (ground_term u)) a ts × Fits F r a u)
    split_all ε ω r F a ts g = absurd ω
    split_all (q ▸ qs) (inl ω) r F a nil g = (λ h. absurd h, λ p. p.2)
    split_all (q ▸ qs) (inl ω) r F a (t :: ts) g =
        let i = split q ω r F a t g.0 in
        (λ h. let p = i.0 h.0 in (p.0, p.1, (p.2, h.1), p.3), λ p. (i.1 (p.0, p.1, p.2.0, p.3), p.2.1))
    split_all (q ▸ qs) (inr ω) r F a nil g = (λ h. absurd h, λ p. p.2)
    split_all (q ▸ qs) (inr ω) r F a (t :: ts) g =
        let i = split_all qs ω r F a ts g.1 in
        (λ h. let p = i.0 h.1 in (p.0, p.1, (h.0, p.2), p.3), λ p. (p.2.0, i.1 (p.0, p.1, p.2.1, p.3)))

  -- the term determines what stands at ω
  mutual
    one_place : (q : Anti X) (ω : Outermost q) (F G : X → Type 0) (a b : X → Term) (t u v : Term)
        → Fits F (put q ω (ground_term u)) a t → Fits G (put q ω (ground_term v)) b t → l ⊢ u ≈ v
    one_place (var x) ω F G a b t u v h k = absurd ω
    one_place (neg q) ω F G a b t u v h k = term_trans l u t v (ground_there F a u t h) (term_sym l v t (ground_there G b v t k))
    one_place (app r qs) ω F G a b (node r' ts) u v h k = one_place_all qs ω F G a b ts u v h.1 k.1

    one_place_all : (qs : Antis X) (ω : OutermostIn qs) (F G : X → Type 0) (a b : X → Term) (ts : Terms) (u v : Term)
        → FitAll F (put_all qs ω (ground_term u)) a ts → FitAll G (put_all qs ω (ground_term v)) b ts → l ⊢ u ≈ v
    one_place_all ε ω F G a b ts u v h k = absurd ω
    one_place_all (q ▸ qs) (inl ω) F G a b nil u v h k = absurd h
    one_place_all (q ▸ qs) (inl ω) F G a b (t :: ts) u v h k = one_place q ω F G a b t u v h.0 k.0
    one_place_all (q ▸ qs) (inr ω) F G a b nil u v h k = absurd h
    one_place_all (q ▸ qs) (inr ω) F G a b (t :: ts) u v h k = one_place_all qs ω F G a b ts u v h.1 k.1

  -- where no complement is left
  mutual
    bare_there : (q : Anti X) (F : X → Type 0) (a : X → Term) (u t : Term) → (Outermost q → ⊥) → replace (λ x. ground_term (a x)) q ≡ ground_term u
        → l ⊢ u ≈ t → Fits F q a t
    bare_there (var x) F a u t n e i = subst (λ (v : Term). l ⊢ v ≈ t) (sym (ground_same (a x) u e)) i
    bare_there (neg q) F a u t n e i = absurd (n tt)
    bare_there (app f qs) F a (node s us) (node r ts) n e i =
        let j = node_open l s r us ts i in
        let k : f ≡ s = cc in (ap (class_of l.classes) k ∙ j.0, bare_there_all qs F a us ts n (cc) j.1)

    bare_there_all : (qs : Antis X) (F : X → Type 0) (a : X → Term) (us ts : Terms) → (OutermostIn qs → ⊥)
        → replace_all (λ x. ground_term (a x)) qs ≡ ground_terms us → l ⊢ us ≋ ts → FitAll F qs a ts
    bare_there_all ε F a nil nil n e i = tt
    bare_there_all ε F a nil (t :: ts) n e i = absurd (false≢true i)
    bare_there_all ε F a (u :: us) ts n e i = let z : ◌≡◌ {A = ℕ} 0 1 = cc in absurd (omega arith)
    bare_there_all (q ▸ qs) F a nil ts n e i = let z : ◌≡◌ {A = ℕ} 0 1 = cc in absurd (omega arith)
    bare_there_all (q ▸ qs) F a (u :: us) nil n e i = absurd (false≢true i)
    bare_there_all (q ▸ qs) F a (u :: us) (t :: ts) n e i =
        let j = cons_open l u t us ts i in
        (bare_there q F a u t (λ ω. n (inl ω)) (cc) j.0, bare_there_all qs F a us ts (λ ω. n (inr ω)) (cc) j.1)

  mutual
    bare_back : (q : Anti X) (F : X → Type 0) (a : X → Term) (t : Term) → (Outermost q → ⊥) → Fits F q a t
        → (u : Term) × (replace (λ x. ground_term (a x)) q ≡ ground_term u) × (l ⊢ u ≈ t)
    bare_back (var x) F a t n h = (a x, refl, h)
    bare_back (neg q) F a t n h = absurd (n tt)
    bare_back (app f qs) F a (node r ts) n h =
        let p = bare_back_all qs F a ts n h.1 in (node f p.0, ap (app f) p.1, node_same l f r p.0 ts h.0 p.2)

    bare_back_all : (qs : Antis X) (F : X → Type 0) (a : X → Term) (ts : Terms) → (OutermostIn qs → ⊥) → FitAll F qs a ts
        → (us : Terms) × (replace_all (λ x. ground_term (a x)) qs ≡ ground_terms us) × (l ⊢ us ≋ ts)
    bare_back_all ε F a nil n h = (nil, refl, refl)
    bare_back_all ε F a (t :: ts) n h = absurd h
    bare_back_all (q ▸ qs) F a nil n h = absurd h
    bare_back_all (q ▸ qs) F a (t :: ts) n h =
        let p = bare_back q F a t (λ ω. n (inl ω)) h.0 in
        let r = bare_back_all qs F a ts (λ ω. n (inr ω)) h.1 in
        (p.0 :: r.0, ap₂ ◌▸◌ p.1 r.1, cons_same l p.0 t r.0 ts p.2 r.2)

  -- one complement taken
  module _ (same? : (x y : X) → Dec (x ≡ y)) where
    ite_of : {P : Type 0} (d : Dec P) (t u : Term) → TermOf l t → TermOf l u → TermOf l (ite d t u)
    ite_of (yes p) t u g h = g
    ite_of (no n) t u g h = h

    module _ (q : Anti X) (ω : Outermost q) (z : X) (fresh : Occurs z q → ⊥) (h : Apart (λ x. Free x q) q) (t : Term) (g : TermOf l t) where
      abbrev F : X → Type 0
      F x = Free x q

      abbrev inner : Anti X
      inner = within q ω

      -- the free variables of q with z, and of q with the inside, at ω
      abbrev F¹ : X → Type 0
      F¹ x = Free x (put q ω (var z))

      abbrev F² : X → Type 0
      F² x = Free x (put q ω inner)

      off : (x : X) → Beside q ω x → x ≡ z → ⊥
      off x b e = fresh (subst (λ (y : X). Occurs y q) e (beside_occurs q ω x b))

      more : (r : Anti X) (x : X) → F x → Free x (put q ω r)
      more r x f = (free_put q ω r x).1 (inl f)

      -- beside the complement they are those of q
      less¹ : (x : X) → Beside q ω x → F¹ x → F x
      less¹ x b f = elim ((free_put q ω (var z) x).0 f) [ inl y ↦ y | inr e ↦ absurd (off x b e) ]

      less² : (x : X) → Beside q ω x → F² x → F x
      less² x b f = elim ((free_put q ω inner x).0 f) [ inl y ↦ y | inr y ↦ apart_beside q ω F x h b (free_occurs inner x y) ]

      -- only what stands beside the complement matters to what is around it
      around : (G K : X → Type 0) (a b : X → Term) (u : Term) → ((x : X) → F x → G x) → ((x : X) → Beside q ω x → G x → K x)
          → ((x : X) → Beside q ω x → K x → G x) → ((x : X) → Beside q ω x → G x → l ⊢ a x ≈ b x)
          → Fits G (put q ω (ground_term u)) a t → Fits K (put q ω (ground_term u)) b t
      around G K a b u s f g e =
          same (put q ω (ground_term u)) G K a b t
          (λ x y. elim ((free_put q ω (ground_term u) x).0 y) [ inl i ↦ s x i | inr i ↦ absurd (ground_none u x (free_occurs (ground_term u) x i)) ])
          (λ x o. f x (beside x o)) (λ x o. g x (beside x o)) (λ x o. e x (beside x o))
        where
          beside : (x : X) → Occurs x (put q ω (ground_term u)) → Beside q ω x
          beside x o = elim (occurs_put q ω (ground_term u) (app zero ε) x o) [ inl b ↦ b | inr i ↦ absurd (ground_none u x i) ]

      -- the valuation with u for z
      abbrev with_z : (X → Term) → Term → X → Term
      with_z a u x = ite (same? x z) u (a x)

      -- b within the complement, a elsewhere
      abbrev glue : (X → Term) → (X → Term) → X → Term
      glue a b x = ite (occurs? same? x inner) (b x) (a x)

      glue_agrees : (a b : X → Term) (x : X) (d : Dec (Occurs x inner)) → (Occurs x inner → l ⊢ b x ≈ a x) → l ⊢ a x ≈ ite d (b x) (a x)
      glue_agrees a b x (yes o) i = term_sym l (b x) (a x) (i o)
      glue_agrees a b x (no n) i = same_term_holds l.classes (a x)

      step_there : Some q t → Some (put q ω (var z)) t × (Some (put q ω inner) t → ⊥)
      step_there s =
          go s.0 s.1 ((split q ω (neg inner) F s.0 t g).0 (subst (λ (r : Anti X). Fits F r s.0 t) (sym (put_back q ω)) s.2))
        where
          go : (a : X → Term) → Valued a → (u : Term) × TermOf l u × Fits F (put q ω (ground_term u)) a t × Fits F (neg inner) a u
              → Some (put q ω (var z)) t × (Some (put q ω inner) t → ⊥)
          go a v p = (
            (
              with_z a p.0,
              λ x. ite_of (same? x z) p.0 (a x) p.1 (v x),
              (split q ω (var z) F¹ (with_z a p.0) t g).1 (
                p.0,
                p.1,
                around F F¹ a (with_z a p.0) p.0 (λ x f. f) (λ x b. more (var z) x) less¹
                    (λ x b f. term_eq l (a x) (with_z a p.0 x) (sym (if_neg (same? x z) (off x b) p.0 (a x)))) p.2,
                term_eq l (with_z a p.0 z) p.0 (if_pos (same? z z) refl p.0 (a z)),
              ),
            ),
            λ s. let b : X → Term = s.0 in
                let r = (split q ω inner F² b t g).0 s.2 in
                let e : l ⊢ p.0 ≈ r.0 = one_place q ω F F² a b t p.0 r.0 p.2 r.2 in
                let k : Fits F² (put q ω (ground_term p.0)) b t =
                (split q ω (ground_term p.0) F² b t g).1 (r.0, r.1, r.2, ground_fits F² b p.0 r.0 e) in
                p.3 b s.1 (λ x o f. term_sym l (a x) (b x) (determined (put q ω (ground_term p.0)) F F² a b t p.2 k x (more (ground_term p.0) x f)))
                (same inner F² (λ x. F x ⊎ Free x inner) b b p.0 (λ x f. (free_put q ω inner x).1 (inr f)) (λ x o. (free_put q ω inner x).0)
                (λ x o. (free_put q ω inner x).1) (λ x o f. same_term_holds l.classes (b x)) (moved inner F² b r.0 p.0 (term_sym l p.0 r.0 e) r.3)),
          )

      step_back : Some (put q ω (var z)) t × (Some (put q ω inner) t → ⊥) → Some q t
      step_back s = (s.0.0, s.0.1, go s.0.0 s.0.1 ((split q ω (var z) F¹ s.0.0 t g).0 s.0.2))
        where
          go : (a : X → Term) → Valued a → (u : Term) × TermOf l u × Fits F¹ (put q ω (ground_term u)) a t × (l ⊢ a z ≈ u) → Fits F q a t
          go a v p =
              let k : Fits F (put q ω (ground_term p.0)) a t =
              around F¹ F a a p.0 (more (var z)) less¹ (λ x b. more (var z) x) (λ x b f. same_term_holds l.classes (a x)) p.2 in
              subst (λ (r : Anti X). Fits F r a t) (put_back q ω)
              ((split q ω (neg inner) F a t g).1 (
                p.0,
                p.1,
                k,
                λ b w i m.
                    s.1 (
                      glue a b,
                      λ x. ite_of (occurs? same? x inner) (b x) (a x) (w x) (v x),
                      (split q ω inner F² (glue a b) t g).1 (
                        p.0,
                        p.1,
                        around F F² a (glue a b) p.0 (λ x f. f) (λ x o. more inner x) less²
                            (λ x o f. glue_agrees a b x (occurs? same? x inner) (λ o'. i x o' f)) k,
                        same inner (λ x. F x ⊎ Free x inner) F² b (glue a b) p.0 (λ x. inr) (λ x o. (free_put q ω inner x).1)
                            (λ x o. (free_put q ω inner x).0)
                            (λ x o f. term_eq l (b x) (glue a b x) (sym (if_pos (occurs? same? x inner) o (b x) (a x)))) m,
                      ),
                    ),
              ))

      step_apart¹ : Apart F¹ (put q ω (var z))
      step_apart¹ = apart_put (var z) F F¹ (more (var z)) tt q ω (λ x b e. absurd (off x b e)) h

      step_apart² : Apart F² (put q ω inner)
      step_apart² =
          apart_put inner F F² (more inner)
          (apart_more inner (λ x. F x ⊎ Free x inner) F² (λ x. (free_put q ω inner x).1) (apart_within q ω F h)) q ω
          (λ x b o. more inner x (apart_beside q ω F x h b o)) h

    -- whichever complement is taken first, and whichever variable is fresh
    pub taken : {q : Anti X} (w : Way q) → Apart (λ x. Free x q) q → (t : Term) → TermOf l t → Semantics l w t ↔ Some q t
    taken (bare {q} n) h t g = (
      λ s. (s.0, s.1, bare_there q (λ x. Free x q) s.0 s.2 t n s.3 s.4),
      λ s. let p = bare_back q (λ x. Free x q) s.0 t n s.2 in (s.0, s.1, p.0, p.1, p.2),
    )
    taken (take {q} ω z f w v) h t g =
        let i = taken w (step_apart¹ q ω z f h t g) t g in
        let j = taken v (step_apart² q ω z f h t g) t g in (
          λ s. step_back q ω z f h t g (i.0 s.0, λ m. s.1 (j.1 m)),
          λ s. let p = step_there q ω z f h t g s in (i.1 p.0, λ m. p.1 (j.0 m)),
        )
