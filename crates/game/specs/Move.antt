-- The game's rules and moves: "a move applies a rule of one's own that is bound, by its first answer, unless the result is outgrown".
use Rattle.std.specs.Prelude.{ℕ, zero, suc, ◌≡◌, List, [], ◌∷◌, Option, Some, None}
use Rattle.term.specs.Limits.{TermAccepted}
use Rattle.term.specs.Pattern.{Pattern}
use Rattle.term.specs.Term.{Term}
use Rattle.anti_pattern.specs.Language.{Language}
use Rattle.anti_pattern.specs.Meaning.{Assignment, Satisfies}
use Rattle.replace.specs.Demands.{Replaced}

-- "Each has a rule sheet with a template for each rule."
pub record Rule : Type 0 where
  pub pattern : Pattern
  pub template : Pattern

pub record Game : Type 0 where
  pub loader : List Rule
  pub sender : List Rule
  pub goal : Pattern

-- the rule of an index
abbrev pub rule_at : List Rule → ℕ → Option Rule
rule_at [] i = None
rule_at (r ∷ rs) zero = Some r
rule_at (r ∷ rs) (suc i) = rule_at rs i

module _ (l : Language) where
  -- a rule leads from a state to another: its template with the parts of its first answer put in, "unless the result is outgrown"
  pub record Leads (r : Rule) (t u : Term) : Type 0 where
    pub applied : Replaced l r.pattern r.template t u
    pub within : TermAccepted l u

  -- the move by the rule of an index
  pub record Move (rules : List Rule) (i : ℕ) (t u : Term) : Type 0 where
    pub rule : Rule
    pub own : rule_at rules i ≡ Some rule
    pub leads : Leads rule t u

  -- no rule is a move
  abbrev pub Stuck : List Rule → Term → Type 0
  Stuck rules t = (i : ℕ) (u : Term) → Move rules i t u → ⊥

  -- a state that "satisfies a goal pattern"
  abbrev pub Goal : Game → Term → Type 0
  Goal g t = (a : Assignment) × Satisfies l g.goal t a
