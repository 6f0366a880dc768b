-- What is demanded of the plain tier, document 02's L11.
use Rattle.std.specs.Prelude.{ℕ, ◌≤◌, ◌≡◌, ◌↔◌, List, [], true, length, Result}
use Rattle.answers.specs.Refusal.{number_of}
use Rattle.answers.specs.Answers.{answer_number, answer_count}
use Rattle.answers.specs.declared.Refusal.TheVariants.{NotPlain}
use Rattle.answers.specs.declared.Answer.{Answer}
use Rattle.term.specs.Limits.{PatternAccepted}
use Rattle.term.specs.Pattern.{Pattern, pattern_bytes}
use Rattle.term.specs.Table.{table_accepted}
use Rattle.term.specs.Term.{Term}
use Rattle.anti_pattern.specs.Demands.{First, Unsatisfied}
use Rattle.anti_pattern.specs.Language.{Language}
use Rattle.anti_pattern.specs.Meaning.{Assignment}
use Rattle.anti_pattern.specs.Search.{first_answer, whole}
use Rattle.link.specs.Input.{Input}
use Rattle.reader.specs.Brought.{Brought, language_of, brought_accepted}
use Rattle.call.specs.Demands.{Handled}
use Rattle.matcher.specs.Call.{answer_of, buffer_of}
use Rattle.matcher.specs.Demands.{Shows}
use Rattle.parts.specs.Shown.{answer_width}
use Rattle.plain.specs.Call.{AcceptedPlain, plain_of, plain_buffer_of}
use Rattle.plain.specs.Plain.{Plain}
use Rattle.plain.specs.Tier.{whole_tier}
use Rattle.answers.specs.declared.Refusal.{Refusal}

-- For a plain pattern and any term, on trees
pub record PlainExact (l : Language) (q : Pattern) (t : Term) : Type 0 where
  -- what is found, with each part's place, is what the full search finds first
  pub same_outcome : (whole_tier l q t).out ≡ first_answer (whole l q t).out
  -- "Its own count [..] is at most the pattern's length in bytes."
  pub count_within : (whole_tier l q t).cost ≤ length (pattern_bytes l.table q [])

module _ (brought : Brought) where
  abbrev l : Language
  l = language_of brought

  -- Of the call's answer `a` and the final buffer `after`, for the trees of accepted input
  pub record PlainAnswered (pattern bytes before : List ℕ) (q : Pattern) (t : Term) (a : Result Answer Refusal) (after : List ℕ) : Type 0 where
    -- "Its words and answer buffers equal those of the full search when the latter isn't spent", for every allowance
    pub same_word : (allowance : ℕ) → (answer_number (answer_of brought pattern bytes allowance (length before)) ≡ 11 → ⊥)
        → answer_number a ≡ answer_number (answer_of brought pattern bytes allowance (length before))
    pub same_buffer : (allowance : ℕ) → (answer_number (answer_of brought pattern bytes allowance (length before)) ≡ 11 → ⊥)
        → after ≡ buffer_of brought pattern bytes allowance before
    -- as demand 3 says, without "spent": none exactly when no assignment satisfies
    pub none_exactly : (answer_number a ≡ 10) ↔ Unsatisfied l q t
    -- bound exactly when one does, and then the buffer shows the first
    pub bound_exactly : (answer_number a ≡ 0) ↔ ((x : Assignment) × First l q t x)
    pub bound_shows : answer_number a ≡ 0 → (x : Assignment) × First l q t x × Shows brought.table bytes q t x after
    -- "at most the pattern's length in bytes"
    pub count_within : answer_count a ≤ length pattern

-- Accepted input is always answered
pub record PlainDemanded (brought : Brought) (pattern bytes before : List ℕ) (a : Result Answer Refusal) (after : List ℕ) : Type 0 where
  pub handled : Handled brought (AcceptedPlain (language_of brought) pattern bytes) (λ x. ⊥) before (answer_number a) (answer_count a) after
  -- 23 for an accepted pattern that is not plain, whatever the record
  pub not_plain : answer_width ≤ length before → table_accepted brought.table ≡ true → brought_accepted brought ≡ true
      → (q : Pattern) → pattern_bytes brought.table q [] ≡ pattern → PatternAccepted (language_of brought) q → (Plain q → ⊥) → answer_number a ≡ number_of NotPlain
  pub answered : answer_width ≤ length before → brought_accepted brought ≡ true → (q : Pattern) (t : Term) → Input (language_of brought) pattern bytes q t → Plain q
      → PlainAnswered brought pattern bytes before q t a after

-- Answer, final buffer and demands in one, which only a private function's contract cites
abbrev pub PlainCalled : Brought → List ℕ → List ℕ → List ℕ → Result Answer Refusal → List ℕ → Type 0
PlainCalled brought pattern bytes before a after =
    (a ≡ plain_of brought pattern bytes (length before))
    × ((after ≡ plain_buffer_of brought pattern bytes before) × PlainDemanded brought pattern bytes before a after)
