-- What the match of a pattern without run names costs at most: document 02's L14, of an answer `a`.
use Rattle.std.specs.Prelude.{ℕ, ◌≤◌, ◌≡◌, ◌⊎◌, Result}
use Rattle.answers.specs.Refusal.{number_of}
use Rattle.answers.specs.Answers.{answer_number, answer_count}
use Rattle.answers.specs.declared.Refusal.TheVariants.{Unknown}
use Rattle.answers.specs.declared.Answer.{Answer}
use Rattle.term.specs.Pattern.{Pattern}
use Rattle.anti_pattern.specs.Cost.{nodes, Enough}
use Rattle.answers.specs.declared.Refusal.{Refusal}

pub record Bounded (allowance : ℕ) (q : Pattern) (a : Result Answer Refusal) : Type 0 where
  -- "at most the number of the pattern's nodes"
  pub shows_at_most : answer_count a ≤ nodes q
  -- such an allowance, and one of 256, "is never spent"
  pub bound_or_none : Enough q allowance → (answer_number a ≡ 0) ⊎ (answer_number a ≡ 10)

-- the next answer: after the one answer there is none, and lengths that belong to no answer are unknown
pub record NextBounded (allowance : ℕ) (q : Pattern) (a : Result Answer Refusal) : Type 0 where
  pub shows_at_most : answer_count a ≤ nodes q
  pub none_or_unknown : Enough q allowance → (answer_number a ≡ 10) ⊎ (answer_number a ≡ number_of Unknown)
