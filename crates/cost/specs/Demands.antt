-- What is demanded of the call, document 02's L14: of its answer `c`.
use Rattle.std.specs.Prelude.{ℕ, ◌≤◌, ◌≡◌, ◌↔◌, List, [], true, Result, Option}
use Rattle.answers.specs.Refusal.{number_of}
use Rattle.answers.specs.Answers.{cost_number, cost_count}
use Rattle.answers.specs.declared.Refusal.{Refusal}
use Rattle.term.specs.declared.Edition.{Edition}
use Rattle.term.specs.Limits.{PatternAccepted}
use Rattle.term.specs.Pattern.{Pattern, pattern_bytes}
use Rattle.term.specs.Table.{table_accepted}
use Rattle.term.specs.Term.{Term}
use Rattle.reader.specs.Brought.{Brought, language_of, brought_accepted}
use Rattle.anti_pattern.specs.Answer.{count_of}
use Rattle.anti_pattern.specs.Cost.{nodes, ample}
use Rattle.anti_pattern.specs.Language.{language}
use Rattle.anti_pattern.specs.Next.{next_count}
use Rattle.anti_pattern.specs.Published.{NoRuns}

-- Accepted input: what is brought, and the bytes of a pattern, that pass every check
pub record Input (brought : Brought) (pattern : List ℕ) (q : Pattern) : Type 0 where
  pub table_accepted_holds : table_accepted brought.table ≡ true
  pub list_accepted_holds : brought_accepted brought ≡ true
  pub pattern_bytes_holds : pattern_bytes brought.table q [] ≡ pattern
  pub pattern_accepted : PatternAccepted (language_of brought) q

-- of an accepted pattern
pub record Costs (table : List ℕ) (q : Pattern) (c : Result (Option ℕ) Refusal) : Type 0 where
  -- a bound exactly where there are no run names: the number of the pattern's nodes
  pub bound_exactly : (cost_number c ≡ 0) ↔ NoRuns q
  pub shows_nodes : NoRuns q → cost_count c ≡ nodes q
  -- "the full search's count is at most" that, in any edition, with any class list and without, for every record; that of the next answer too
  pub bounds_count : NoRuns q → (edition : Edition) (classes : List ℕ) (t : Term) → count_of (language edition table classes) q t ≤ cost_count c
  pub bounds_next : NoRuns q → (edition : Edition) (classes : List ℕ) (t : Term) (given : List ℕ) → next_count (language edition table classes) q t given ≤ cost_count c
  -- "So an allowance of 256 is never spent on one."
  pub is_ample : cost_count c ≤ ample
  -- with run names none
  pub none_exactly : (cost_number c ≡ 10) ↔ (NoRuns q → ⊥)
  pub none_shows : (NoRuns q → ⊥) → cost_count c ≡ 0

pub record Demanded (brought : Brought) (pattern : List ℕ) (c : Result (Option ℕ) Refusal) : Type 0 where
  -- refused exactly when the table, the class list or the pattern is not accepted; a refusal shows 0
  pub refused_exactly : ((r : Refusal) × (cost_number c ≡ number_of r)) ↔ ((q : Pattern) → Input brought pattern q → ⊥)
  pub refused_shows : (r : Refusal) → cost_number c ≡ number_of r → cost_count c ≡ 0
  pub costs : (q : Pattern) → Input brought pattern q → Costs brought.table q c
