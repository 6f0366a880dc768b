-- Anti-terms as they are published: source document 001, definitions 2.1 to 2.3.
use Rattle.std.specs.Prelude.{ℕ, ◌≡◌, ◌⊎◌, Option, Some, None}
use Rattle.std.proofs.Common.{inl, inr}
use Rattle.std.proofs.Math.Logic.{ite}
use Rattle.std.proofs.Math.Decide.{ℕ_discrete}
use Rattle.term.specs.Term.{Term, node, Terms, nil, ◌::◌}

-- Definition 2.1: the anti-terms over the variables X
infixr 67 ◌▸◌
mutual
  pub data Anti (X : Type 0) : Type 0 where
    var : X → Anti X
    neg : Anti X → Anti X
    app : ℕ → Antis X → Anti X

  pub data Antis (X : Type 0) : Type 0 where
    ε : Antis X
    ◌▸◌ : Anti X → Antis X → Antis X

-- a ground term is an anti-term
abbrev mutual
  pub ground_term : {X : Type 0} → Term → Anti X
  ground_term (node f ts) = app f (ground_terms ts)

  pub ground_terms : {X : Type 0} → Terms → Antis X
  ground_terms nil = ε
  ground_terms (t :: ts) = ground_term t ▸ ground_terms ts

-- Definition 2.2: x is a free variable of q
abbrev mutual
  pub Free : {X : Type 0} → X → Anti X → Type 0
  Free x (var y) = x ≡ y
  Free x (neg q) = ⊥
  Free x (app f qs) = FreeIn x qs

  pub FreeIn : {X : Type 0} → X → Antis X → Type 0
  FreeIn x ε = ⊥
  FreeIn x (q ▸ qs) = Free x q ⊎ FreeIn x qs

-- which is decided, for names
abbrev pub either? : {A B : Type 0} → Dec A → Dec B → Dec (A ⊎ B)
either? (yes a) d = yes (inl a)
either? (no h) (yes b) = yes (inr b)
either? (no h) (no k) = no (elim [ inl a ↦ h a | inr b ↦ k b ])

abbrev mutual
  pub free? : (x : ℕ) (q : Anti ℕ) → Dec (Free x q)
  free? x (var y) = ℕ_discrete x y
  free? x (neg q) = no (λ h. h)
  free? x (app f qs) = free_in? x qs

  pub free_in? : (x : ℕ) (qs : Antis ℕ) → Dec (FreeIn x qs)
  free_in? x ε = no (λ h. h)
  free_in? x (q ▸ qs) = either? (free? x q) (free_in? x qs)

-- x stands somewhere in q, be it within a complement
abbrev mutual
  pub Occurs : {X : Type 0} → X → Anti X → Type 0
  Occurs x (var y) = x ≡ y
  Occurs x (neg q) = Occurs x q
  Occurs x (app f qs) = OccursIn x qs

  pub OccursIn : {X : Type 0} → X → Antis X → Type 0
  OccursIn x ε = ⊥
  OccursIn x (q ▸ qs) = Occurs x q ⊎ OccursIn x qs

-- Definition 2.3: a substitution has ground terms for some of the names. It acts on the free variables of q, also within complements
abbrev mutual
  pub replace : {X : Type 0} → (X → Anti X) → Anti X → Anti X
  replace ρ (var x) = ρ x
  replace ρ (neg q) = neg (replace ρ q)
  replace ρ (app f qs) = app f (replace_all ρ qs)

  pub replace_all : {X : Type 0} → (X → Anti X) → Antis X → Antis X
  replace_all ρ ε = ε
  replace_all ρ (q ▸ qs) = replace ρ q ▸ replace_all ρ qs

abbrev pub Substitution : Type 0
Substitution = ℕ → Option Term

abbrev pub value : Option Term → ℕ → Anti ℕ
value None x = var x
value (Some t) x = ground_term t

infix 80 ◌⟨◌⟩
abbrev pub ◌⟨◌⟩ : Substitution → Anti ℕ → Anti ℕ
σ ⟨ q ⟩ = replace (λ x. ite (free? x q) (value (σ x) x) (var x)) q
