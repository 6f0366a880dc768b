-- The rule of scope: the names of an anti-term renamed by their levels are apart, and it holds of the same terms. So the ground
-- semantics does not depend on the way, and there is always a way.
use Prim.Native.Nat.{ℕ, zero, suc, ◌+◌, ◌<◌, ◌≤◌}
use mathlib.Core.Path.{◌≡◌, refl, sym, ◌∙◌, ap, subst}
use mathlib.Core.Logic.{◌⊎◌, inl, inr, ite, ◌↔◌}
use mathlib.Core.HLevel.{×_discrete}
use mathlib.Core.List.{[], ◌∷◌, ◌++◌, List-discrete}
use native.Mathlib.Omega.{arith}
use native.Mathlib.Decide.{ℕ_discrete}
use Rattle.term.specs.Term.{Term, node, Terms, nil, ◌::◌}
use Rattle.anti_pattern.specs.AntiTerm.{Anti, var, neg, app, Antis, ε, ◌▸◌, Free, FreeIn, free?, Occurs, OccursIn}
use Rattle.anti_pattern.specs.Ground.{Outermost, OutermostIn, within, within_all, put, put_all, Way, bare, take, Semantics}
use Rattle.anti_pattern.specs.Language.{Language, TermOf, ◌⊢◌≈◌}
use Rattle.anti_pattern.specs.Published.{◌⊢◌∈⟦◌⟧}
use Rattle.anti_pattern.specs.Scope.{Position, Owner, belongs, owners_within, Scoped, rename, rename_all, apart, Apart, ApartAll}
use Rattle.term.proofs.SameParts.{same_term_holds}
use Rattle.anti_pattern.proofs.Alike.{term_sym, term_trans, term_eq}
use Rattle.anti_pattern.proofs.Taken.{Fits, FitAll, Some as SomeOf, outermost?, taken}
use Rattle.std.specs.Prelude.{Option, Some, None}

position? : (x y : Option Position) → Dec (x ≡ y)
position? None None = yes refl
position? None (Some q) = no (λ e. let z : ◌≡◌ {A = ℕ} 0 1 = cc in absurd (omega arith))
position? (Some p) None = no (λ e. let z : ◌≡◌ {A = ℕ} 0 1 = cc in absurd (omega arith))
position? (Some p) (Some q) = elim (List-discrete ℕ_discrete p q) [ yes e ↦ yes (ap Some e) | no n ↦ no (λ e. n (cc)) ]

pub scoped? : (x y : Scoped) → Dec (x ≡ y)
scoped? = ×_discrete ℕ_discrete position?

-- positions: the second is the first or lies below it

abbrev Under : Position → Position → Type 0
Under [] ω = Unit {0}
Under (i ∷ p) [] = ⊥
Under (i ∷ p) (j ∷ ω) = (i ≡ j) × Under p ω

under_self : (p : Position) → Under p p
under_self [] = tt
under_self (i ∷ p) = (refl, under_self p)

under_up : (p : Position) (i : ℕ) (ω : Position) → Under (p ++ (i ∷ [])) ω → Under p ω
under_up [] i ω h = tt
under_up (k ∷ p) i [] h = absurd h
under_up (k ∷ p) i (j ∷ ω) h = (h.0, under_up p i ω h.1)

under_one : (p : Position) (i j : ℕ) (ω : Position) → Under (p ++ (i ∷ [])) ω → Under (p ++ (j ∷ [])) ω → i ≡ j
under_one [] i j [] h k = absurd h
under_one [] i j (l ∷ ω) h k = h.0 ∙ sym k.0
under_one (m ∷ p) i j [] h k = absurd h
under_one (m ∷ p) i j (l ∷ ω) h k = under_one p i j ω h.1 k.1

-- the names of a level

owners_kept : (o : Owner) (p : Position) (q : Anti ℕ) (x : ℕ) (ω : Position) → o x ≡ Some ω → owners_within o p q x ≡ Some ω
owners_kept o p q x ω e = rw e

-- what is free belongs to a level: an outer one, or this
belongs_free : {P : Type 0} (m : Option Position) (d : Dec P) (p : Position) → P → (ω : Position) × (belongs m (ite d (Some p) None) ≡ Some ω)
belongs_free (Some ω) d p f = (ω, refl)
belongs_free None (yes y) p f = (p, refl)
belongs_free None (no n) p f = absurd (n f)

owners_free : (o : Owner) (p : Position) (q : Anti ℕ) (x : ℕ) → Free x q → (ω : Position) × (owners_within o p q x ≡ Some ω)
owners_free o p q x f = belongs_free (o x) (free? x q) _ f

owners_inv : (o : Owner) (p : Position) (q : Anti ℕ) (x : ℕ) (ω : Position) → owners_within o p q x ≡ Some ω
    → (o x ≡ Some ω) ⊎ ((o x ≡ None) × Free x q × (p ≡ ω))
owners_inv o p q x ω = go (o x) (free? x q)
  where
    go : (m : Option Position) (d : Dec (Free x q)) → belongs m (ite d (Some p) None) ≡ Some ω → (m ≡ Some ω) ⊎ ((m ≡ None) × Free x q × (p ≡ ω))
    go (Some θ) d e = inl e
    go None (yes y) e = inr (refl, y, cc)
    go None (no n) e = inl e

-- each free name belongs to a level
abbrev Covers : Owner → Anti ℕ → Type 0
Covers o q = (x : ℕ) → Free x q → (ω : Position) × (o x ≡ Some ω)

abbrev CoversAll : Owner → Antis ℕ → Type 0
CoversAll o qs = (x : ℕ) → FreeIn x qs → (ω : Position) × (o x ≡ Some ω)

abbrev Owned : Owner → Scoped → Type 0
Owned o y = (ω : Position) × (o y.0 ≡ Some ω) × (y.1 ≡ Some ω)

abbrev Inner : Position → Scoped → Type 0
Inner p y = (ω : Position) × (y.1 ≡ Some ω) × Under p ω

-- what stands in the renamed anti-term belongs to a level around it, or to one within it
mutual
  occurs_rename : (q : Anti ℕ) (o : Owner) (p : Position) → Covers o q → (y : Scoped) → Occurs y (rename o p q) → Owned o y ⊎ Inner p y
  occurs_rename (var x) o p c y e = let r = c x refl in inl (r.0, ap (λ (z : Scoped). o z.0) e ∙ r.1, ap (λ (z : Scoped). z.1) e ∙ r.1)
  occurs_rename (neg q) o p c y e = go (occurs_rename q (owners_within o (p ++ (0 ∷ [])) q) (p ++ (0 ∷ [])) (owners_free o (p ++ (0 ∷ [])) q) y e)
    where
      go : Owned (owners_within o (p ++ (0 ∷ [])) q) y ⊎ Inner (p ++ (0 ∷ [])) y → Owned o y ⊎ Inner p y
      go (inl r) =
          elim (owners_inv o (p ++ (0 ∷ [])) q y.0 r.0 r.1) [
            | inl e ↦ inl (r.0, e, r.2)
            | inr e ↦ inr (r.0, r.2, under_up p 0 r.0 (subst (Under (p ++ (0 ∷ []))) e.2 (under_self (p ++ (0 ∷ [])))))
          ]
      go (inr r) = inr (r.0, r.1, under_up p 0 r.0 r.2)
  occurs_rename (app f qs) o p c y e =
      elim (occurs_rename_all qs o p 0 c y e) [ inl r ↦ inl r | inr r ↦ inr (r.2.0, r.2.1, under_up p r.0 r.2.0 r.2.2) ]

  occurs_rename_all : (qs : Antis ℕ) (o : Owner) (p : Position) (i : ℕ) → CoversAll o qs → (y : Scoped) → OccursIn y (rename_all o p i qs)
      → Owned o y ⊎ ((j : ℕ) × (i ≤ j) × Inner (p ++ (j ∷ [])) y)
  occurs_rename_all ε o p i c y e = absurd e
  occurs_rename_all (q ▸ qs) o p i c y (inl e) =
      elim (occurs_rename q o (p ++ (i ∷ [])) (λ x f. c x (inl f)) y e) [ inl r ↦ inl r | inr r ↦ inr (i, omega arith, r) ]
  occurs_rename_all (q ▸ qs) o p i c y (inr e) =
      elim (occurs_rename_all qs o p (suc i) (λ x f. c x (inr f)) y e)
      [ inl r ↦ inl r | inr r ↦ inr (r.0, omega (arith, r.1), r.2) ]

-- the free names of the renamed anti-term
mutual
  free_rename : (q : Anti ℕ) (o : Owner) (p : Position) (x : ℕ) → Free x q → Free (x, o x) (rename o p q)
  free_rename (var y) o p x e = ap (λ (z : ℕ). (z, o z)) e
  free_rename (neg q) o p x e = absurd e
  free_rename (app f qs) o p x e = free_rename_all qs o p 0 x e

  free_rename_all : (qs : Antis ℕ) (o : Owner) (p : Position) (i x : ℕ) → FreeIn x qs → FreeIn (x, o x) (rename_all o p i qs)
  free_rename_all ε o p i x e = absurd e
  free_rename_all (q ▸ qs) o p i x (inl e) = inl (free_rename q o (p ++ (i ∷ [])) x e)
  free_rename_all (q ▸ qs) o p i x (inr e) = inr (free_rename_all qs o p (suc i) x e)

mutual
  rename_free : (q : Anti ℕ) (o : Owner) (p : Position) (y : Scoped) → Free y (rename o p q) → Free y.0 q × (y.1 ≡ o y.0)
  rename_free (var x) o p y e =
      (ap (λ (z : Scoped). z.0) e, ap (λ (z : Scoped). z.1) e ∙ sym (ap (λ (z : Scoped). o z.0) e))
  rename_free (neg q) o p y e = absurd e
  rename_free (app f qs) o p y e = rename_free_all qs o p 0 y e

  rename_free_all : (qs : Antis ℕ) (o : Owner) (p : Position) (i : ℕ) (y : Scoped) → FreeIn y (rename_all o p i qs) → FreeIn y.0 qs × (y.1 ≡ o y.0)
  rename_free_all ε o p i y e = absurd e
  rename_free_all (q ▸ qs) o p i y (inl e) = let r = rename_free q o (p ++ (i ∷ [])) y e in (inl r.0, r.1)
  rename_free_all (q ▸ qs) o p i y (inr e) = let r = rename_free_all qs o p (suc i) y e in (inr r.0, r.1)

-- what belongs to a level around or to this one
abbrev Knows : (Scoped → Type 0) → Owner → Type 0
Knows F o = (x : ℕ) (ω : Position) → o x ≡ Some ω → F (x, Some ω)

knows_within : (F : Scoped → Type 0) (o : Owner) (p : Position) (q : Anti ℕ) → Knows F o
    → Knows (λ y. F y ⊎ Free y (rename (owners_within o p q) p q)) (owners_within o p q)
knows_within F o p q k x ω e =
    elim (owners_inv o p q x ω e) [
      | inl i ↦ inl (k x ω i)
      | inr i ↦ inr (subst (λ (m : Option Position). Free (x, m) (rename (owners_within o p q) p q)) e (free_rename q (owners_within o p q) p x i.1))
    ]

mutual
  apart_rename : (q : Anti ℕ) (o : Owner) (p : Position) (F : Scoped → Type 0) → Covers o q → Knows F o → Apart F (rename o p q)
  apart_rename (var x) o p F c k = tt
  apart_rename (neg q) o p F c k =
      apart_rename q (owners_within o (p ++ (0 ∷ [])) q) (p ++ (0 ∷ []))
      (λ y. F y ⊎ Free y (rename (owners_within o (p ++ (0 ∷ [])) q) (p ++ (0 ∷ [])) q))
      (owners_free o (p ++ (0 ∷ [])) q) (knows_within F o (p ++ (0 ∷ [])) q k)
  apart_rename (app f qs) o p F c k = apart_rename_all qs o p 0 F c k

  apart_rename_all : (qs : Antis ℕ) (o : Owner) (p : Position) (i : ℕ) (F : Scoped → Type 0) → CoversAll o qs → Knows F o
      → ApartAll F (rename_all o p i qs)
  apart_rename_all ε o p i F c k = tt
  apart_rename_all (q ▸ qs) o p i F c k = (
    apart_rename q o (p ++ (i ∷ [])) F (λ x f. c x (inl f)) k,
    apart_rename_all qs o p (suc i) F (λ x f. c x (inr f)) k,
    λ y a b. go y (occurs_rename q o (p ++ (i ∷ [])) (λ x f. c x (inl f)) y a) (occurs_rename_all qs o p (suc i) (λ x f. c x (inr f)) y b),
  )
    where
      owned : (y : Scoped) → Owned o y → F y
      owned y r = subst (λ (m : Option Position). F (y.0, m)) (sym r.2) (k y.0 r.0 r.1)

      go : (y : Scoped) → Owned o y ⊎ Inner (p ++ (i ∷ [])) y → Owned o y ⊎ ((j : ℕ) × (suc i ≤ j) × Inner (p ++ (j ∷ [])) y) → F y
      go y (inl r) s = owned y r
      go y (inr r) (inl s) = owned y s
      go y (inr r) (inr s) =
          let a : y.1 ≡ Some r.0 = r.1 in let b : y.1 ≡ Some s.2.0 = s.2.1 in
          let e : r.0 ≡ s.2.0 = cc in
          let n : i ≡ s.0 = under_one p i s.0 s.2.0 (subst (Under (p ++ (i ∷ []))) e r.2) s.2.2 in
          absurd (omega (arith, s.1))

-- the renamed anti-term holds of the same terms

mutual
  rename_occurs : (q : Anti ℕ) (o : Owner) (p : Position) (y : Scoped) → Occurs y (rename o p q) → Occurs y.0 q
  rename_occurs (var x) o p y h = ap (λ (z : Scoped). z.0) h
  rename_occurs (neg q) o p y h = rename_occurs q (owners_within o (p ++ (0 ∷ [])) q) (p ++ (0 ∷ [])) y h
  rename_occurs (app f qs) o p y h = rename_occurs_all qs o p 0 y h

  rename_occurs_all : (qs : Antis ℕ) (o : Owner) (p : Position) (i : ℕ) (y : Scoped) → OccursIn y (rename_all o p i qs) → OccursIn y.0 qs
  rename_occurs_all ε o p i y h = h
  rename_occurs_all (q ▸ qs) o p i y (inl h) = inl (rename_occurs q o (p ++ (i ∷ [])) y h)
  rename_occurs_all (q ▸ qs) o p i y (inr h) = inr (rename_occurs_all qs o p (suc i) y h)

module _ (x : ℕ) (ω : Position) where
  mutual
    occurs_kept : (q : Anti ℕ) (o : Owner) (p : Position) → o x ≡ Some ω → Occurs x q → Occurs (x, Some ω) (rename o p q)
    occurs_kept (var y) o p k h = let i : Some ω ≡ o y = sym k ∙ ap o h in cc
    occurs_kept (neg q) o p k h = occurs_kept q (owners_within o (p ++ (0 ∷ [])) q) (p ++ (0 ∷ [])) (owners_kept o (p ++ (0 ∷ [])) q x ω k) h
    occurs_kept (app f qs) o p k h = occurs_kept_all qs o p 0 k h

    occurs_kept_all : (qs : Antis ℕ) (o : Owner) (p : Position) (i : ℕ) → o x ≡ Some ω → OccursIn x qs → OccursIn (x, Some ω) (rename_all o p i qs)
    occurs_kept_all ε o p i k h = absurd h
    occurs_kept_all (q ▸ qs) o p i k (inl h) = inl (occurs_kept q o (p ++ (i ∷ [])) k h)
    occurs_kept_all (q ▸ qs) o p i k (inr h) = inr (occurs_kept_all qs o p (suc i) k h)

-- the variables F are those that belong to a level
record Matched (F : ℕ → Type 0) (G : Scoped → Type 0) (o : Owner) : Type 0 where
  has : (x : ℕ) → F x → (ω : Position) × (o x ≡ Some ω)
  only : (x : ℕ) (ω : Position) → o x ≡ Some ω → F x
  knows : Knows G o
  owned : (y : Scoped) → G y → Owned o y

owned_free : (o : Owner) (p : Position) (q : Anti ℕ) (y : Scoped) → Free y (rename (owners_within o p q) p q) → Owned (owners_within o p q) y
owned_free o p q y f =
    let r = rename_free q (owners_within o p q) p y f in let s = owners_free o p q y.0 r.0 in (s.0, s.1, r.1 ∙ s.1)

matched_within : (F : ℕ → Type 0) (G : Scoped → Type 0) (o : Owner) (p : Position) (q : Anti ℕ) → Matched F G o
    → Matched (λ x. F x ⊎ Free x q) (λ y. G y ⊎ Free y (rename (owners_within o p q) p q)) (owners_within o p q)
matched_within F G o p q m = record {
  has = λ x. elim [ inl f ↦ ((m.has x f).0, owners_kept o p q x (m.has x f).0 (m.has x f).1) | inr f ↦ owners_free o p q x f ];
  only = λ x ω e. elim (owners_inv o p q x ω e) [ inl i ↦ inl (m.only x ω i) | inr i ↦ inr i.1 ];
  knows = knows_within G o p q m.knows;
  owned = λ y. elim
      [ inl f ↦ ((m.owned y f).0, owners_kept o p q y.0 (m.owned y f).0 (m.owned y f).1, (m.owned y f).2) | inr f ↦ owned_free o p q y f ];
}

module _ (l : Language) where
  mutual
    renamed : (q : Anti ℕ) (o : Owner) (p : Position) (F : ℕ → Type 0) (G : Scoped → Type 0) (a : ℕ → Term) (c : Scoped → Term) (t : Term)
        → ((x : ℕ) → Free x q → F x) → Matched F G o → ((x : ℕ) → Occurs x q → F x → l ⊢ a x ≈ c (x, o x))
        → Fits l F q a t ↔ Fits l G (rename o p q) c t
    renamed (var x) o p F G a c t s m link = let e = link x refl (s x refl) in
        (term_trans l (c (x, o x)) (a x) t (term_sym l (a x) (c (x, o x)) e), term_trans l (a x) (c (x, o x)) t e)
    renamed (neg q) o p F G a c t s m link =
        let p' : Position = p ++ (0 ∷ []) in
        let o' : Owner = owners_within o p' q in
        let F' : ℕ → Type 0 = λ x. F x ⊎ Free x q in
        let G' : Scoped → Type 0 = λ y. G y ⊎ Free y (rename o' p' q) in
        let m' : Matched F' G' o' = matched_within F G o p' q m in (
          λ n d v g h. n (λ x. d (x, o' x)) (λ x. v (x, o' x))
              (λ x u f. let k = m.has x f in
              let w = g (x, Some k.0) (occurs_kept x k.0 q o' p' (owners_kept o p' q x k.0 k.1) u) (m.knows x k.0 k.1) in
              term_trans l (d (x, o' x)) (c (x, o x)) (a x)
              (subst (λ (z : Option Position). l ⊢ d (x, z) ≈ c (x, o x)) (sym (owners_kept o p' q x k.0 k.1))
              (subst (λ (z : Option Position). l ⊢ d (x, Some k.0) ≈ c (x, z)) (sym k.1) w))
              (term_sym l (a x) (c (x, o x)) (link x u f)))
              ((renamed q o' p' F' G' (λ x. d (x, o' x)) d t (λ x. inr) m' (λ x u f. same_term_holds l.classes (d (x, o' x)))).1 h),
          λ n b v g h. n (λ y. b y.0) (λ y. v y.0)
              (λ y u f. let k = m.owned y f in
              let w : Occurs y.0 q = rename_occurs q o' p' y u in
              term_trans l (b y.0) (a y.0) (c y) (g y.0 w (m.only y.0 k.0 k.1))
              (subst (λ (z : Option Position). l ⊢ a y.0 ≈ c (y.0, z)) (k.1 ∙ sym k.2) (link y.0 w (m.only y.0 k.0 k.1))))
              ((renamed q o' p' F' G' b (λ y. b y.0) t (λ x. inr) m' (λ x u f. same_term_holds l.classes (b x))).0 h),
        )
    renamed (app f qs) o p F G a c (node r ts) s m link =
        let i = renamed_all qs o p 0 F G a c ts s m link in (λ h. (h.0, i.0 h.1), λ h. (h.0, i.1 h.1))

    renamed_all : (qs : Antis ℕ) (o : Owner) (p : Position) (n : ℕ) (F : ℕ → Type 0) (G : Scoped → Type 0) (a : ℕ → Term) (c : Scoped → Term) (ts : Terms)
        → ((x : ℕ) → FreeIn x qs → F x) → Matched F G o → ((x : ℕ) → OccursIn x qs → F x → l ⊢ a x ≈ c (x, o x))
        → FitAll l F qs a ts ↔ FitAll l G (rename_all o p n qs) c ts
    renamed_all ε o p n F G a c nil s m link = (λ h. h, λ h. h)
    renamed_all ε o p n F G a c (t :: ts) s m link = (λ h. h, λ h. h)
    renamed_all (q ▸ qs) o p n F G a c nil s m link = (λ h. h, λ h. h)
    renamed_all (q ▸ qs) o p n F G a c (t :: ts) s m link =
        let i = renamed q o (p ++ (n ∷ [])) F G a c t (λ x f. s x (inl f)) m (λ x u. link x (inl u)) in
        let j = renamed_all qs o p (suc n) F G a c ts (λ x f. s x (inr f)) m (λ x u. link x (inr u)) in
        (λ h. (i.0 h.0, j.0 h.1), λ h. (i.1 h.0, j.1 h.1))

module _ (q : Anti ℕ) where
  abbrev own : Owner
  own = owners_within (λ x. None) [] q

  own_free : (x : ℕ) (ω : Position) → own x ≡ Some ω → Free x q
  own_free x ω e =
      elim (owners_inv (λ x. None) [] q x ω e) [ inl i ↦ absurd (let z : ◌≡◌ {A = ℕ} 0 1 = cc in omega arith) | inr i ↦ i.1 ]

  matched_apart : Matched (λ x. Free x q) (λ y. Free y (apart q)) own
  matched_apart = record {
    has = owners_free (λ x. None) [] q;
    only = own_free;
    knows = λ x ω e. subst (λ (z : Option Position). Free (x, z) (apart q)) e (free_rename q own [] x (own_free x ω e));
    owned = owned_free (λ x. None) [] q;
  }

  module _ (l : Language) (t : Term) where
    some_apart : SomeOf l (apart q) t ↔ SomeOf l q t
    some_apart = (
      λ s. (λ x. s.0 (x, own x), λ x. s.1 (x, own x), (go (λ x. s.0 (x, own x)) s.0 (λ x. refl)).1 s.2),
      λ s. (λ y. s.0 y.0, λ y. s.1 y.0, (go s.0 (λ y. s.0 y.0) (λ x. refl)).0 s.2),
    )
      where
        go : (a : ℕ → Term) (c : Scoped → Term) → ((x : ℕ) → a x ≡ c (x, own x))
            → Fits l (λ x. Free x q) q a t ↔ Fits l (λ y. Free y (apart q)) (apart q) c t
        go a c e = renamed l q own [] (λ x. Free x q) (λ y. Free y (apart q)) a c t (λ x f. f) matched_apart (λ x u f. term_eq l (a x) (c (x, own x)) (e x))

    -- in any way
    in_way : TermOf l t → (w : Way (apart q)) → Semantics l w t ↔ SomeOf l q t
    in_way g w =
        let i = taken l scoped? w (apart_rename q own [] (λ y. Free y (apart q)) matched_apart.has matched_apart.knows) t g in
        let j = some_apart in (λ h. j.0 (i.0 h), λ h. i.1 (j.1 h))

-- the complements can be taken

abbrev mutual
  bound : Anti Scoped → ℕ
  bound (var y) = suc y.0
  bound (neg q) = bound q
  bound (app f qs) = bound_all qs

  bound_all : Antis Scoped → ℕ
  bound_all ε = zero
  bound_all (q ▸ qs) = bound q + bound_all qs

mutual
  below : (q : Anti Scoped) (y : Scoped) → Occurs y q → y.0 < bound q
  below (var x) y e = let i : y.0 ≡ x.0 = ap (λ (z : Scoped). z.0) e in omega arith
  below (neg q) y e = below q y e
  below (app f qs) y e = below_all qs y e

  below_all : (qs : Antis Scoped) (y : Scoped) → OccursIn y qs → y.0 < bound_all qs
  below_all ε y e = absurd e
  below_all (q ▸ qs) y (inl e) = omega (arith, below q y e)
  below_all (q ▸ qs) y (inr e) = omega (arith, below_all qs y e)

abbrev mutual
  negs : Anti Scoped → ℕ
  negs (var y) = zero
  negs (neg q) = suc (negs q)
  negs (app f qs) = negs_all qs

  negs_all : Antis Scoped → ℕ
  negs_all ε = zero
  negs_all (q ▸ qs) = negs q + negs_all qs

mutual
  negs_put : (q : Anti Scoped) (ω : Outermost q) (r : Anti Scoped) → negs (put q ω r) + suc (negs (within q ω)) ≡ negs q + negs r
  negs_put (var x) ω r = absurd ω
  negs_put (neg q) ω r = omega arith
  negs_put (app f qs) ω r = negs_put_all qs ω r

  negs_put_all : (qs : Antis Scoped) (ω : OutermostIn qs) (r : Anti Scoped) → negs_all (put_all qs ω r) + suc (negs (within_all qs ω)) ≡ negs_all qs + negs r
  negs_put_all ε ω r = absurd ω
  negs_put_all (q ▸ qs) (inl ω) r = omega (arith, negs_put q ω r)
  negs_put_all (q ▸ qs) (inr ω) r = omega (arith, negs_put_all qs ω r)

module _ (n : ℕ) (q : Anti Scoped) (h : negs q ≤ suc n) (rest : (r : Anti Scoped) → negs r ≤ n → Way r) where
  fresh : Scoped
  fresh = (bound q, None)

  take_one : Dec (Outermost q) → Way q
  unfolding fresh
  take_one (yes ω) =
      take {q = q} ω fresh (λ o. omega (arith, below q fresh o))
      (rest (put q ω (var fresh)) (omega (arith, negs_put q ω (var fresh))))
      (rest (put q ω (within q ω)) (omega (arith, negs_put q ω (within q ω))))
  take_one (no m) = bare m

taking_all : (n : ℕ) (q : Anti Scoped) → negs q ≤ n → Way q
taking_all zero q h = bare {q = q} (λ ω. omega (arith, negs_put q ω (var (0, None))))
taking_all (suc n) q h = take_one n q h (λ r k. taking_all n r k) (outermost? q)

taking : (q : Anti Scoped) → Way q
taking q = taking_all (negs q) q (omega arith)

-- with the rule of scope the choices of 001 make no difference, and there is always a way

pub some_way : (q : Anti ℕ) → Way (apart q)
some_way q = taking (apart q)

module _ (l : Language) (q : Anti ℕ) (t : Term) (g : TermOf l t) where
  pub any_way : (w v : Way (apart q)) → Semantics l w t ↔ Semantics l v t
  any_way w v = let i = in_way q l t g w in let j = in_way q l t g v in (λ h. j.1 (i.0 h), λ h. i.1 (j.0 h))

  pub member : (l ⊢ t ∈⟦ q ⟧) ↔ SomeOf l q t
  member = (λ m. (in_way q l t g m.0).0 m.1, λ s. (some_way q, (in_way q l t g (some_way q)).1 s))

  -- the rule enters only where names clash: where they are apart already, 001 alone comes to the same, in any way
  pub no_clash : Apart (λ x. Free x q) q → (w : Way q) → Semantics l w t ↔ (l ⊢ t ∈⟦ q ⟧)
  no_clash h w =
      let i = taken l ℕ_discrete w h t g in let j = member in (λ m. j.1 (i.0 m), λ m. i.1 (j.0 m))
