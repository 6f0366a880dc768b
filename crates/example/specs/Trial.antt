-- The candidates, tried one after the other: "Candidates go in that order, each with the whole allowance".
use Rattle.std.specs.Prelude.{ℕ, List, [], ◌∷◌}
use Rattle.term.specs.Pattern.{Pattern}
use Rattle.term.specs.Term.{Term}
use Rattle.reader.specs.Reading.{Parsed, refused, read, read_record}
use Rattle.anti_pattern.specs.Answer.{Matching, bound, nothing, spent, answer}
use Rattle.anti_pattern.specs.Language.{Language}
use Rattle.example.specs.Strings.{up_to}

-- the record shown, with the count of its search; "no example"; or "The first spent candidate", with the allowance
pub data Trial : Type 0 where
  shows : List ℕ → ℕ → Trial
  no_example : Trial
  spent_at : ℕ → Trial

abbrev pub by_answer : List ℕ → Matching → (Unit {0} → Trial) → Trial
by_answer s (bound ps n) next = shows s n
by_answer s (nothing n) next = next tt
by_answer s (spent n) next = spent_at n

module _ (l : Language) (q : Pattern) (allowance : ℕ) where
  -- a string that is no accepted record is no candidate
  abbrev pub try_one : List ℕ → Parsed Term → (Unit {0} → Trial) → Trial
  try_one s (refused r) next = next tt
  try_one s (read t n) next = by_answer s (answer l q t allowance) next

  unfoldable pub try_each : List (List ℕ) → Trial
  try_each [] = no_example
  try_each (s ∷ ss) = try_one s (read_record l s) (λ x. try_each ss)

  -- "the accepted record that satisfies the pattern with the fewest bytes and, among those, the first by bytes"
  abbrev pub example : ℕ → Trial
  example size = try_each (up_to size)
