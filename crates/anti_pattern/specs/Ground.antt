-- The ground semantics of an anti-term in a language: source document 001, definition 2.4. A set of ground terms is a predicate.
use Rattle.std.specs.Prelude.{◌≡◌, ◌⊎◌}
use Rattle.std.proofs.Common.{inl, inr}
use Rattle.term.specs.Term.{Term}
use Rattle.anti_pattern.specs.Language.{Language, TermOf, ◌⊢◌≈◌}
use Rattle.anti_pattern.specs.AntiTerm.{Anti, var, neg, app, Antis, ε, ◌▸◌, ground_term, Occurs, replace}

-- the positions ω of q at which a complement stands, with no complement above it
abbrev mutual
  pub Outermost : {X : Type 0} → Anti X → Type 0
  Outermost (var x) = ⊥
  Outermost (neg q) = Unit {0}
  Outermost (app f qs) = OutermostIn qs

  pub OutermostIn : {X : Type 0} → Antis X → Type 0
  OutermostIn ε = ⊥
  OutermostIn (q ▸ qs) = Outermost q ⊎ OutermostIn qs

-- the q' of the complement ¬q' at ω
abbrev mutual
  pub within : {X : Type 0} (q : Anti X) → Outermost q → Anti X
  within (var x) ω = absurd ω
  within (neg q) ω = q
  within (app f qs) ω = within_all qs ω

  pub within_all : {X : Type 0} (qs : Antis X) → OutermostIn qs → Anti X
  within_all ε ω = absurd ω
  within_all (q ▸ qs) (inl ω) = within q ω
  within_all (q ▸ qs) (inr ω) = within_all qs ω

-- q[r]: r in the place of that complement
abbrev mutual
  pub put : {X : Type 0} (q : Anti X) → Outermost q → Anti X → Anti X
  put (var x) ω r = absurd ω
  put (neg q) ω r = r
  put (app f qs) ω r = app f (put_all qs ω r)

  pub put_all : {X : Type 0} (qs : Antis X) → OutermostIn qs → Anti X → Antis X
  put_all ε ω r = absurd ω
  put_all (q ▸ qs) (inl ω) r = put q ω r ▸ qs
  put_all (q ▸ qs) (inr ω) r = q ▸ put_all qs ω r

-- 001 leaves open which ω is taken first, and which fresh z: a way to take the complements of q, until none is left
pub data Way {X : Type 0} : Anti X → Type 0 where
  bare : {q : Anti X} → (Outermost q → ⊥) → Way q
  take : {q : Anti X} (ω : Outermost q) (z : X) → (Occurs z q → ⊥) → Way (put q ω (var z)) → Way (put q ω (within q ω)) → Way q

-- and the set that it comes to, where the ground terms are those of the language: all that are the same as a ground instance of q, or
-- ⟦q[z]⟧ \ ⟦q[q']⟧
abbrev pub Semantics : (l : Language) {X : Type 0} {q : Anti X} → Way q → Term → Type 0
Semantics l {X} (bare {q} n) t =
    (σ : X → Term) × ((x : X) → TermOf l (σ x)) × (u : Term) × (replace (λ x. ground_term (σ x)) q ≡ ground_term u) × (l ⊢ u ≈ t)
Semantics l (take ω z f w v) t = Semantics l w t × (Semantics l v t → ⊥)
