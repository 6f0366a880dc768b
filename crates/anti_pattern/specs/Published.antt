-- Anti-pattern matching as it is published, in a language: source document 001, definition 3.2, for patterns without run names. A list symbol with
-- n children is a symbol with n children.
use Rattle.std.specs.Prelude.{ℕ, ◌≡◌, Option, Some, None}
use Rattle.term.specs.Pattern.{Pattern, name, symbol, complement, Children, end, plain, run}
use Rattle.term.specs.Term.{Term, Terms, single}
use Rattle.anti_pattern.specs.AntiTerm.{Anti, var, neg, app, Antis, ε, ◌▸◌, Free, Substitution, ◌⟨◌⟩}
use Rattle.anti_pattern.specs.Ground.{Way, Semantics}
use Rattle.anti_pattern.specs.Language.{Language, TermOf}
use Rattle.anti_pattern.specs.Meaning.{Assignment}
use Rattle.anti_pattern.specs.Scope.{apart}

-- t is in the ground semantics of q: by 001, in some way to take the complements, with the names renamed apart
infix 40 ◌⊢◌∈⟦◌⟧
abbrev pub ◌⊢◌∈⟦◌⟧ : Language → Term → Anti ℕ → Type 0
l ⊢ t ∈⟦ q ⟧ = (w : Way (apart q)) × Semantics l w t

-- Definition 3.2: a solution of q ≪ t is a grounding substitution σ with t ∈ ⟦σ(q)⟧, here of the free variables of q only
pub record Solution (l : Language) (q : Anti ℕ) (t : Term) (σ : Substitution) : Type 0 where
  pub domain : (x : ℕ) (u : Term) → σ x ≡ Some u → Free x q × TermOf l u
  pub grounding : (x : ℕ) → Free x (σ ⟨ q ⟩) → ⊥
  pub member : l ⊢ t ∈⟦ σ ⟨ q ⟩ ⟧

-- the patterns without run names
abbrev mutual
  pub NoRuns : Pattern → Type 0
  NoRuns (name v) = Unit {0}
  NoRuns (symbol s qs) = NoRunsIn qs
  NoRuns (complement q) = NoRuns q

  pub NoRunsIn : Children → Type 0
  NoRunsIn end = Unit {0}
  NoRunsIn (plain q qs) = NoRuns q × NoRunsIn qs
  NoRunsIn (run v qs) = ⊥

-- and their anti-terms
abbrev mutual
  pub anti : (q : Pattern) → NoRuns q → Anti ℕ
  anti (name v) n = var v
  anti (symbol s qs) n = app s (antis qs n)
  anti (complement q) n = neg (anti q n)

  pub antis : (qs : Children) → NoRunsIn qs → Antis ℕ
  antis end n = ε
  antis (plain q qs) n = anti q n.0 ▸ antis qs n.1
  antis (run v qs) n = absurd n

-- a substitution as an assignment
abbrev pub singly : Option Term → Option Terms
singly None = None
singly (Some t) = Some (single t)

abbrev pub assignment : Substitution → Assignment
assignment σ x = singly (σ x)
