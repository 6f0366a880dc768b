-- The call: what it answers, and what it leaves in the answer buffer, on all inputs.
use Rattle.std.specs.Prelude.{ℕ, List, length, Result}
use Rattle.answers.specs.declared.Refusal.TheVariants.{NotPlain}
use Rattle.answers.specs.declared.Answer.{Answer}
use Rattle.term.specs.Language.{Language}
use Rattle.term.specs.Term.{Term}
use Rattle.term.specs.Pattern.{Pattern}
use Rattle.reader.specs.Reading.{read_pattern, read_record}
use Rattle.link.specs.Input.{Input}
use Rattle.reader.specs.Brought.{Brought, language_of}
use Rattle.call.specs.Call.{checks, answer_by, buffer_by}
use Rattle.call.specs.Verdict.{Verdict, passed, fault, check, reading, both}
use Rattle.matcher.specs.Call.{refusal, told, bound_parts}
use Rattle.plain.specs.Check.{is_plain}
use Rattle.plain.specs.Plain.{Plain}
use Rattle.plain.specs.Tier.{plain_answer}
use Rattle.answers.specs.declared.Refusal.{Refusal}

-- accepted input of the tier has a plain pattern
abbrev pub AcceptedPlain : Language → List ℕ → List ℕ → Pattern × Term → Type 0
AcceptedPlain l pattern bytes x = Input l pattern bytes x.0 x.1 × Plain x.0

-- "23 (not plain), after the pattern's other checks"
abbrev pub plainly : Verdict Pattern → Verdict Pattern
plainly (fault r i) = fault r i
plainly (passed q) = check (is_plain q) NotPlain (passed q)

-- The checks, in order: those of every call, the pattern's, 23, the record's; they read both trees

abbrev pub plain_trees : Language → List ℕ → List ℕ → Verdict (Pattern × Term)
plain_trees l pattern bytes = both (plainly (reading (read_pattern l pattern))) (reading (read_record l bytes))

abbrev pub plain_checked : Brought → List ℕ → List ℕ → ℕ → Verdict (Pattern × Term)
plain_checked brought pattern bytes width = checks brought width (plain_trees (language_of brought) pattern bytes)

-- The answer, and the answer buffer

unfoldable pub plain_of : Brought → List ℕ → List ℕ → ℕ → Result Answer Refusal
plain_of brought pattern bytes width =
    answer_by refusal (λ x. told (plain_answer (language_of brought) x.0 x.1)) (plain_checked brought pattern bytes width)

unfoldable pub plain_buffer_of : Brought → List ℕ → List ℕ → List ℕ → List ℕ
plain_buffer_of brought pattern bytes before =
    buffer_by (λ x. bound_parts (plain_answer (language_of brought) x.0 x.1)) (plain_checked brought pattern bytes (length before)) before
