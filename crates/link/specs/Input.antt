-- Accepted input.
use Rattle.std.specs.Prelude.{ℕ, ◌≡◌, List, [], true}
use Rattle.term.specs.Language.{Language}
use Rattle.term.specs.Table.{table_accepted}
use Rattle.term.specs.Term.{Term, term_bytes}
use Rattle.term.specs.Pattern.{Pattern, pattern_bytes}
use Rattle.term.specs.Limits.{TermAccepted, PatternAccepted}

-- a table, and the bytes of a pattern and of a record, that pass every check in the language
pub record Input (l : Language) (pattern bytes : List ℕ) (q : Pattern) (t : Term) : Type 0 where
  pub table_accepted_holds : table_accepted l.table ≡ true
  pub pattern_bytes_holds : pattern_bytes l.table q [] ≡ pattern
  pub pattern_accepted : PatternAccepted l q
  pub record_bytes : term_bytes l.table t [] ≡ bytes
  pub record_accepted : TermAccepted l t
