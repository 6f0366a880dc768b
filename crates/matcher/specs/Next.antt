-- The call for the next answer: what it answers after the one that is told by its run lengths, and what it leaves in the answer buffer, on all
-- inputs.
use Rattle.std.specs.Prelude.{ℕ, List, length, Result, Err, Option, None}
use Rattle.answers.specs.declared.Part.{Part}
use Rattle.answers.specs.declared.Refusal.TheVariants.{Unknown}
use Rattle.answers.specs.declared.Answer.{Answer}
use Rattle.anti_pattern.specs.Next.{Following, follows, unknown, next}
use Rattle.reader.specs.Brought.{Brought, language_of}
use Rattle.call.specs.Call.{answer_by, buffer_by}
use Rattle.matcher.specs.Call.{checked, refusal, told, bound_parts}
use Rattle.answers.specs.declared.Refusal.{Refusal}

-- 15 "after every check of pattern and record"
abbrev pub told_next : Following → Result Answer Refusal
told_next (follows o) = told o
told_next unknown = Err Unknown

unfoldable pub next_of : Brought → List ℕ → List ℕ → List ℕ → ℕ → ℕ → Result Answer Refusal
next_of brought pattern bytes given allowance width =
    answer_by refusal (λ x. told_next (next (language_of brought) x.0 x.1 given allowance)) (checked brought pattern bytes width)

-- The answer buffer, by the part of each variable where the answer is bound

abbrev pub bound_next : Following → Option (List Part)
bound_next (follows o) = bound_parts o
bound_next unknown = None

unfoldable pub next_buffer_of : Brought → List ℕ → List ℕ → List ℕ → ℕ → List ℕ → List ℕ
next_buffer_of brought pattern bytes given allowance before =
    buffer_by (λ x. bound_next (next (language_of brought) x.0 x.1 given allowance)) (checked brought pattern bytes (length before)) before
