-- What the answers show: document 01's number, 0 where nothing is refused, and the values beside it.
use Rattle.std.specs.Prelude.{ℕ, Result, Ok, Err, Option, Some, None}
use Rattle.answers.specs.Refusal.{number_of}
use Rattle.answers.specs.declared.Answer.{Answer}
use Rattle.answers.specs.declared.RuleAnswer.{RuleAnswer}
use Rattle.answers.specs.declared.Applied.{Applied}
use Rattle.answers.specs.declared.Played.{Played}
use Rattle.answers.specs.declared.Refusal.{Refusal}
use Rattle.answers.specs.declared.Fault.{Fault}

-- what a rule can cost: its number, 10 (none) where there is no such bound, and the bound
abbrev pub cost_number : Result (Option ℕ) Refusal → ℕ
cost_number (Ok (Some n)) = 0
cost_number (Ok None) = 10
cost_number (Err r) = number_of r

abbrev pub cost_count : Result (Option ℕ) Refusal → ℕ
cost_count (Ok (Some n)) = n
cost_count (Ok None) = 0
cost_count (Err r) = 0

-- document 01's number of an answer, and the count that it shows. Bound has 0 for a number; a refusal shows count 0
abbrev pub answer_number : Result Answer Refusal → ℕ
answer_number (Ok (Answer.Bound count)) = 0
answer_number (Ok (Answer.None count)) = 10
answer_number (Ok (Answer.Spent count)) = 11
answer_number (Err r) = number_of r

abbrev pub answer_count : Result Answer Refusal → ℕ
answer_count (Ok (Answer.Bound count)) = count
answer_count (Ok (Answer.None count)) = count
answer_count (Ok (Answer.Spent count)) = count
answer_count (Err r) = 0

-- the same of a rule sheet; bound has 0 for a number
abbrev pub rule_number : Result RuleAnswer Fault → ℕ
rule_number (Ok (RuleAnswer.Bound index sum)) = 0
rule_number (Ok (RuleAnswer.None sum)) = 10
rule_number (Ok (RuleAnswer.Spent index sum)) = 11
rule_number (Err f) = number_of f.refusal

-- "none shows the whole sum and index 0"
abbrev pub rule_index : Result RuleAnswer Fault → ℕ
rule_index (Ok (RuleAnswer.Bound index sum)) = index
rule_index (Ok (RuleAnswer.None sum)) = 0
rule_index (Ok (RuleAnswer.Spent index sum)) = index
rule_index (Err f) = f.index

-- a refusal shows count 0
abbrev pub rule_count : Result RuleAnswer Fault → ℕ
rule_count (Ok (RuleAnswer.Bound index sum)) = sum
rule_count (Ok (RuleAnswer.None sum)) = sum
rule_count (Ok (RuleAnswer.Spent index sum)) = sum
rule_count (Err f) = 0

-- the same of a template that is put in place of a record or looked at, and the length of the result. Document 02's L8: "the same word, count and new
-- length (0 unless bound)"
abbrev pub applied_number : Result Applied Refusal → ℕ
applied_number (Ok (Applied.Bound count length)) = 0
applied_number (Ok (Applied.None count)) = 10
applied_number (Ok (Applied.Spent count)) = 11
applied_number (Err r) = number_of r

abbrev pub applied_count : Result Applied Refusal → ℕ
applied_count (Ok (Applied.Bound count length)) = count
applied_count (Ok (Applied.None count)) = count
applied_count (Ok (Applied.Spent count)) = count
applied_count (Err r) = 0

abbrev pub applied_length : Result Applied Refusal → ℕ
applied_length (Ok (Applied.Bound count length)) = length
applied_length (Ok (Applied.None count)) = 0
applied_length (Ok (Applied.Spent count)) = 0
applied_length (Err r) = 0

-- the same of the game of loader and sender, document 02's L13: forced has 0 for a number; "both show count 0". The documents have no number for "no
-- move is needed" and for "a pass": 64 and 65, since rules are 0 to 63
abbrev pub played_number : Result Played Fault → ℕ
played_number (Ok Played.Unneeded) = 0
played_number (Ok (Played.ByRule index)) = 0
played_number (Ok Played.ByPass) = 0
played_number (Ok Played.None) = 10
played_number (Ok (Played.Spent count)) = 11
played_number (Err f) = number_of f.refusal

abbrev pub played_index : Result Played Fault → ℕ
played_index (Ok Played.Unneeded) = 64
played_index (Ok (Played.ByRule index)) = index
played_index (Ok Played.ByPass) = 65
played_index (Ok Played.None) = 0
played_index (Ok (Played.Spent count)) = 0
played_index (Err f) = f.index

-- "spent, with index 0 and the allowance"
abbrev pub played_count : Result Played Fault → ℕ
played_count (Ok Played.Unneeded) = 0
played_count (Ok (Played.ByRule index)) = 0
played_count (Ok Played.ByPass) = 0
played_count (Ok Played.None) = 0
played_count (Ok (Played.Spent count)) = count
played_count (Err f) = 0
