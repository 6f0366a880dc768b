-- What the interface shows of each answer of the library: its number, its index, its count.
use Rattle.std.specs.Prelude.{ℕ, Result, Option}
use Rattle.answers.specs.Answers.{cost_number, cost_count, answer_number, answer_count, rule_number, rule_index, rule_count, applied_number, applied_count, applied_length}
use Rattle.answers.specs.declared.Answer.{Answer}
use Rattle.answers.specs.declared.RuleAnswer.{RuleAnswer}
use Rattle.answers.specs.declared.Applied.{Applied}
use Rattle.answers.specs.Shown.{fault_number, fault_index, size_told, refusal_number}
use Rattle.byte_answers.specs.Answers.{place_offset, place_length}
use Rattle.byte_answers.specs.declared.Place.{Place}
use Rattle.qonveshir.specs.declared.Outcome.{Outcome}
use Rattle.qonveshir.specs.declared.Part.{Part}
use Rattle.qonveshir.specs.declared.Written.{Written}
use Rattle.answers.specs.declared.Refusal.{Refusal}
use Rattle.answers.specs.declared.Fault.{Fault}

-- the largest index or length that can be shown
abbrev pub largest : ℕ
largest = 4294967295

abbrev pub outcome : ℕ → ℕ → ℕ → Outcome
outcome number index count = record { number = number; index = index; count = count }

abbrev pub part_shown : ℕ → ℕ → ℕ → Part
part_shown number offset length = record { number = number; offset = offset; length = length }

-- one pattern has no index
abbrev pub answer_shown : Result Answer Refusal → Outcome
answer_shown a = outcome (answer_number a) 0 (answer_count a)

abbrev pub rules_shown : Result RuleAnswer Fault → Outcome
rules_shown a = outcome (rule_number a) (rule_index a) (rule_count a)

-- the count of a writing is the sheet's length
abbrev pub writing_shown : Result ℕ Fault → Outcome
writing_shown w = outcome (fault_number w) (fault_index w) (size_told w)

-- a check has no count
abbrev pub check_shown : Result ℕ Fault → Outcome
check_shown c = outcome (fault_number c) (fault_index c) 0

abbrev pub place_shown : Result Place Refusal → Part
place_shown p = part_shown (refusal_number p) (place_offset p) (place_length p)

-- the count of a cost is the bound
abbrev pub cost_shown : Result (Option ℕ) Refusal → Outcome
cost_shown c = outcome (cost_number c) 0 (cost_count c)

-- the count of a move is the length that was written
abbrev pub move_shown : Result ℕ Refusal → Outcome
move_shown m = outcome (refusal_number m) 0 (size_told m)

abbrev pub as_written : ℕ → ℕ → ℕ → Written
as_written number length count = record { number = number; length = length; count = count }

-- of a template: the length of the result, and the count of the match
abbrev pub applied_shown : Result Applied Refusal → Written
applied_shown a = as_written (applied_number a) (applied_length a) (applied_count a)
