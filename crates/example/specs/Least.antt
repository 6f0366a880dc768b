-- The candidates, and the least record that satisfies a pattern, by its meaning alone.
use Rattle.std.specs.Prelude.{ℕ, ◌≤◌, ◌≡◌, ◌⊎◌, List, [], length}
use Rattle.term.specs.Limits.{TermAccepted}
use Rattle.term.specs.Pattern.{Pattern}
use Rattle.term.specs.Term.{Term, term_bytes}
use Rattle.anti_pattern.specs.Answer.{count_of}
use Rattle.anti_pattern.specs.Demands.{Unsatisfied}
use Rattle.anti_pattern.specs.Language.{Language}
use Rattle.anti_pattern.specs.Meaning.{Assignment, Satisfies}
use Rattle.example.specs.Strings.{Earlier}

abbrev pub bytes_in : Language → Term → List ℕ
bytes_in l t = term_bytes l.table t []

-- a candidate: an accepted record of at most so many bytes
pub record Candidate (l : Language) (size : ℕ) (t : Term) : Type 0 where
  pub accepted : TermAccepted l t
  pub small : length (bytes_in l t) ≤ size

module _ (l : Language) (q : Pattern) where
  -- the search ends within the allowance, and no assignment satisfies
  abbrev pub Passed : ℕ → Term → Type 0
  Passed allowance t = (count_of l q t ≤ allowance) × Unsatisfied l q t

  -- every record that comes before a string is passed over
  abbrev pub Behind : ℕ → List ℕ → Type 0
  Behind allowance s = (u : Term) → TermAccepted l u → Earlier (bytes_in l u) s → Passed allowance u

  -- "the accepted record that satisfies the pattern with the fewest bytes and, among those, the first by bytes"
  pub record Least (t : Term) : Type 0 where
    pub accepted : TermAccepted l t
    pub satisfied : (a : Assignment) × Satisfies l q t a
    pub least : (u : Term) → TermAccepted l u → (b : Assignment) → Satisfies l q u b → (t ≡ u) ⊎ Earlier (bytes_in l t) (bytes_in l u)
