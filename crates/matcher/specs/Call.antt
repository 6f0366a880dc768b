-- The call: what the match of one pattern against one record answers, and what it leaves in the answer buffer, on all inputs.
use Rattle.std.specs.Prelude.{ℕ, List, cond, length, ltb, Result, Ok, Err, Option, Some, None}
use Rattle.answers.specs.declared.Part.{Part}
use Rattle.answers.specs.declared.Refusal.{Refusal}
use Rattle.answers.specs.declared.Refusal.TheVariants.{Narrow}
use Rattle.answers.specs.declared.Answer.{Answer}
use Rattle.answers.specs.declared.Answer.TheVariants.{Bound, Spent}
use Rattle.term.specs.Language.{Language}
use Rattle.term.specs.Term.{Term}
use Rattle.term.specs.Pattern.{Pattern}
use Rattle.reader.specs.Reading.{read_pattern, read_record}
use Rattle.anti_pattern.specs.Answer.{Matching, bound, nothing, spent, answer}
use Rattle.parts.specs.Shown.{answer_width}
pub use Rattle.link.specs.Input.{Input}
use Rattle.link.specs.OnBytes.{outcome_on_bytes}
use Rattle.reader.specs.Brought.{Brought, language_of}
use Rattle.call.specs.Call.{checks, answer_by, written, buffer_by}
use Rattle.call.specs.Verdict.{Verdict, passed, fault, reading, both}

-- accepted input, of the two trees as one
abbrev pub AcceptedTrees : Language → List ℕ → List ℕ → Pattern × Term → Type 0
AcceptedTrees l pattern bytes x = Input l pattern bytes x.0 x.1

-- The checks, in order: those of every call, the pattern's, the record's; they read both trees

abbrev pub rule_checked : Brought → List ℕ → ℕ → Verdict Pattern
rule_checked brought pattern width = checks brought width (reading (read_pattern (language_of brought) pattern))

abbrev pub trees : Language → List ℕ → List ℕ → Verdict (Pattern × Term)
trees l pattern bytes = both (reading (read_pattern l pattern)) (reading (read_record l bytes))

abbrev pub checked : Brought → List ℕ → List ℕ → ℕ → Verdict (Pattern × Term)
checked brought pattern bytes width = checks brought width (trees (language_of brought) pattern bytes)

-- passed, or the refusal
abbrev pub check_of : {X : Type 0} → Verdict X → Result (Unit {0}) Refusal
check_of (fault r i) = Err r
check_of (passed x) = Ok tt

-- The answer

-- of a refusal no entry is meant
abbrev pub refusal : Refusal → ℕ → Result Answer Refusal
refusal r i = Err r

abbrev pub told : Matching → Result Answer Refusal
told (bound parts count) = Ok (Bound count)
told (nothing count) = Ok (Answer.None count)
told (spent allowance) = Ok (Spent allowance)

unfoldable pub answer_of : Brought → List ℕ → List ℕ → ℕ → ℕ → Result Answer Refusal
answer_of brought pattern bytes allowance width =
    answer_by refusal (λ x. told (answer (language_of brought) x.0 x.1 allowance)) (checked brought pattern bytes width)

-- The answer buffer, by the part of each variable where the answer is bound

abbrev pub bound_parts : Matching → Option (List Part)
bound_parts (bound parts count) = Some parts
bound_parts (nothing count) = None
bound_parts (spent allowance) = None

unfoldable pub buffer_of : Brought → List ℕ → List ℕ → ℕ → List ℕ → List ℕ
buffer_of brought pattern bytes allowance before =
    buffer_by (λ x. bound_parts (answer (language_of brought) x.0 x.1 allowance)) (checked brought pattern bytes (length before)) before

-- The match of any bytes, without the checks but for the buffer's: what the search on bytes comes to. On accepted input it is the answer above
-- (link/proofs/Linked).

unfoldable pub answer_on_bytes : List ℕ → List ℕ → List ℕ → List ℕ → ℕ → ℕ → Result Answer Refusal
answer_on_bytes table classes pattern bytes allowance width =
    cond (ltb width answer_width) (Err Narrow) (told (outcome_on_bytes table classes pattern bytes allowance))

unfoldable pub buffer_on_bytes : List ℕ → List ℕ → List ℕ → List ℕ → ℕ → List ℕ → List ℕ
buffer_on_bytes table classes pattern bytes allowance before =
    cond (ltb (length before) answer_width) before (written (bound_parts (outcome_on_bytes table classes pattern bytes allowance)) before)
