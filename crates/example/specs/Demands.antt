-- What is demanded of the call: of its answer `a`, and of the final output `after` where the output held `before`.
use Rattle.std.specs.Prelude.{ℕ, ◌<◌, ◌≤◌, ◌≡◌, ◌⊎◌, ◌↔◌, List, [], true, length, drop, Result}
use Rattle.answers.specs.Answers.{applied_number, applied_count, applied_length}
use Rattle.answers.specs.Refusal.{number_of}
use Rattle.answers.specs.declared.Applied.{Applied}
use Rattle.answers.specs.declared.Refusal.{Refusal}
use Rattle.answers.specs.declared.Refusal.TheVariants.{Long, Full, NoExample}
use Rattle.byte_answers.specs.Answers.{Writes}
use Rattle.term.specs.Limits.{PatternAccepted}
use Rattle.term.specs.Pattern.{Pattern, pattern_bytes}
use Rattle.term.specs.Table.{table_accepted}
use Rattle.term.specs.Term.{Term}
use Rattle.anti_pattern.specs.Answer.{count_of}
use Rattle.anti_pattern.specs.Demands.{Unsatisfied}
use Rattle.anti_pattern.specs.Language.{Language}
use Rattle.anti_pattern.specs.Meaning.{Assignment, Satisfies}
use Rattle.reader.specs.Brought.{Brought, language_of, brought_accepted}
use Rattle.example.specs.Call.{largest_size, example_of, output_of}
use Rattle.example.specs.Least.{bytes_in, Candidate, Passed, Behind, Least}

-- Accepted input: a size, a table, a class list if one is brought, and the bytes of a pattern, that pass every check
pub record Input (brought : Brought) (pattern : List ℕ) (size : ℕ) (q : Pattern) : Type 0 where
  pub size_accepted : size ≤ largest_size
  pub table_accepted_holds : table_accepted brought.table ≡ true
  pub classes_accepted_holds : brought_accepted brought ≡ true
  pub pattern_bytes_holds : pattern_bytes brought.table q [] ≡ pattern
  pub pattern_accepted : PatternAccepted (language_of brought) q

module _ (l : Language) (q : Pattern) (allowance size : ℕ) where
  -- "the accepted record that satisfies the pattern": a candidate that does within the allowance, after all before it were passed over
  pub record Reached (t : Term) : Type 0 where
    pub candidate : Candidate l size t
    pub within : count_of l q t ≤ allowance
    pub satisfied : (a : Assignment) × Satisfies l q t a
    pub behind : Behind l q allowance (bytes_in l t)

  -- "The first spent candidate, unless one before it is bound"
  pub record FirstSpent (t : Term) : Type 0 where
    pub candidate : Candidate l size t
    pub over : allowance < count_of l q t
    pub behind : Behind l q allowance (bytes_in l t)

  abbrev pub AllPassed : Type 0
  AllPassed = (t : Term) → Candidate l size t → Passed l q allowance t

  -- For an accepted pattern
  pub record Answered (before : List ℕ) (a : Result Applied Refusal) (after : List ℕ) : Type 0 where
    -- bound exactly if a record is reached for which the output has the room
    pub bound_exactly : (applied_number a ≡ 0) ↔ ((t : Term) × Reached t × (length (bytes_in l t) ≤ length before))
    -- it is the least of all accepted records that satisfy the pattern, of whatever size; "the count shown is the last one's"; the output begins with
    -- the record, and past it stays what was there
    pub bound_shows : applied_number a ≡ 0
        → (t : Term) × Reached t × Least l q t × (applied_count a ≡ count_of l q t) × Writes before (applied_number a) (applied_length a) after (bytes_in l t)
    -- "The first spent candidate, unless one before it is bound, makes the result spent"
    pub spent_exactly : (applied_number a ≡ 11) ↔ ((t : Term) × FirstSpent t)
    pub spent_shows : applied_number a ≡ 11 → applied_count a ≡ allowance
    -- 22 if all candidates are passed over; "Otherwise it is 22 exactly if no record up to that size satisfies the pattern"
    pub none_passed : (applied_number a ≡ number_of NoExample) ↔ AllPassed
    pub none_exactly : (applied_number a ≡ 11 → ⊥)
        → (applied_number a ≡ number_of NoExample) ↔ ((t : Term) → Candidate l size t → Unsatisfied l q t)
    -- "a short output 12, last"
    pub full_exactly : (applied_number a ≡ number_of Full) ↔ ((t : Term) × Reached t × (length before < length (bytes_in l t)))

-- All that is demanded
pub record Demanded (brought : Brought) (pattern : List ℕ) (size allowance : ℕ) (before : List ℕ) (a : Result Applied Refusal) (after : List ℕ) : Type 0 where
  -- refused exactly if the input is not accepted, the output is too short for the record that is reached, or all candidates are passed over
  pub refused_exactly : ((r : Refusal) × (applied_number a ≡ number_of r))
      ↔ ((q : Pattern) → Input brought pattern size q
      → ((t : Term) × Reached (language_of brought) q allowance size t × (length before < length (bytes_in (language_of brought) t)))
      ⊎ AllPassed (language_of brought) q allowance size)
  -- "a size over 6 is 6, first"
  pub long_first : largest_size < size → applied_number a ≡ number_of Long
  -- unless bound or spent the count is 0; unless bound the length is 0 and the output as it was; past the length it always stays
  pub uncounted : (applied_number a ≡ 0 → ⊥) → (applied_number a ≡ 11 → ⊥) → applied_count a ≡ 0
  pub untouched : (applied_number a ≡ 0 → ⊥) → (applied_length a ≡ 0) × (after ≡ before)
  pub past_stays : drop (applied_length a) after ≡ drop (applied_length a) before
  -- unless spent, every larger allowance gives the same answer and final output
  pub larger_allowance : (more : ℕ) → (applied_number a ≡ 11 → ⊥) → allowance ≤ more
      → (example_of brought pattern size more (length before) ≡ a) × (output_of brought pattern size more before ≡ after)
  pub answered : (q : Pattern) → Input brought pattern size q → Answered (language_of brought) q allowance size before a after

-- the same where only the final output is at hand
abbrev pub DemandedOf : Brought → List ℕ → ℕ → ℕ → List ℕ → List ℕ → Type 0
DemandedOf brought pattern size allowance before after =
    Demanded brought pattern size allowance before (example_of brought pattern size allowance (length before)) after

-- answer, final output and demands in one, which only a private function's contract cites
abbrev pub Called : Brought → List ℕ → ℕ → ℕ → List ℕ → Result Applied Refusal → List ℕ → Type 0
Called brought pattern size allowance before a after =
    (a ≡ example_of brought pattern size allowance (length before))
    × ((after ≡ output_of brought pattern size allowance before) × Demanded brought pattern size allowance before a after)
