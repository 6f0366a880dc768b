-- The calls: what looking and applying answer, and what applying leaves in the output, on all inputs.
use Rattle.std.specs.Prelude.{ℕ, ◌≡◌, List, [], not, cond, length, drop, ltb, Result, Ok, Err, Option, Some, None}
use Rattle.answers.specs.declared.Refusal.{Refusal}
use Rattle.answers.specs.declared.Refusal.TheVariants.{Full, Loose, Outgrown}
use Rattle.answers.specs.declared.Applied.{Applied}
use Rattle.answers.specs.declared.Applied.TheVariants.{Bound, Spent}
use Rattle.term.specs.Term.{Term, size, term_bytes}
use Rattle.term.specs.Pattern.{Pattern, pattern_bytes}
use Rattle.term.specs.Limits.{PatternAccepted}
use Rattle.reader.specs.Reading.{read_pattern, read_record}
use Rattle.parts.specs.Shown.{answer_width}
use Rattle.anti_pattern.specs.Answer.{count_of}
use Rattle.anti_pattern.specs.Language.{Language}
use Rattle.anti_pattern.specs.Search.{Env, first_answer, whole}
use Rattle.anti_pattern.specs.Variables.{free}
use Rattle.link.specs.Input.{Input as MatchInput}
use Rattle.reader.specs.Brought.{Brought, language_of}
use Rattle.call.specs.Call.{checks, answer_by}
use Rattle.call.specs.Verdict.{Verdict, passed, fault, check, reading, both}
use Rattle.replace.specs.Instance.{instance}
use Rattle.replace.specs.Loose.{Template, loose}
use Rattle.replace.specs.Growth.{within_limits}
use Rattle.replace.specs.Splice.{spliced_in}

-- the bytes of a template q of the rule p
pub record TemplateOf (l : Language) (template : List ℕ) (p q : Pattern) : Type 0 where
  pub bytes : pattern_bytes l.table q [] ≡ template
  pub accepted : PatternAccepted l q
  pub of_rule : Template p q

-- accepted input: a rule and a record as for a match, and a template
pub record Input (l : Language) (rule template bytes : List ℕ) (p q : Pattern) (t : Term) : Type 0 where
  pub matched : MatchInput l rule bytes p t
  pub replacing : TemplateOf l template p q

-- The checks, in order: 1, 14, the rule's; 18 "after the rule's checks, then the template's others, and before the record's". (The answer buffer is
-- the call's own, so that 8 does not come up: "Neither takes an answer buffer.")

abbrev pub firmly : Verdict (Pattern × Pattern) → Verdict (Pattern × Pattern)
firmly (fault r i) = fault r i
firmly (passed x) = check (not (loose (free x.0) x.1)) Loose (passed x)

abbrev pub trees : Language → List ℕ → List ℕ → List ℕ → Verdict ((Pattern × Pattern) × Term)
trees l rule template bytes = both (firmly (both (reading (read_pattern l rule)) (reading (read_pattern l template)))) (reading (read_record l bytes))

abbrev pub checked : Brought → List ℕ → List ℕ → List ℕ → Verdict ((Pattern × Pattern) × Term)
checked brought rule template bytes = checks brought answer_width (trees (language_of brought) rule template bytes)

-- What the search comes to: the template with the first answer's parts put in, spliced, and the count; or none or spent

pub data Replacement : Type 0 where
  result : Term → ℕ → Replacement
  nothing : ℕ → Replacement
  spent : ℕ → Replacement

abbrev pub replaced_by : Language → Pattern → Option Env → ℕ → Replacement
replaced_by l q (Some e) n = result (spliced_in l (instance q e.value)) n
replaced_by l q None n = nothing n

unfoldable pub replacement : Language → Pattern → Pattern → Term → ℕ → Replacement
replacement l p q t allowance =
    cond (ltb allowance (count_of l p t)) (spent allowance) (replaced_by l q (first_answer (whole l p t).out) (count_of l p t))

-- Looking: 19 "after the match". Applying: "12 after 19", where the output has so much room

abbrev pub measured : List ℕ → Replacement → Result Applied Refusal
measured table (result u n) = cond (within_limits table u) (Ok (Bound n (size table u))) (Err Outgrown)
measured table (nothing n) = Ok (Applied.None n)
measured table (spent n) = Ok (Spent n)

abbrev pub unless_full : ℕ → Result Applied Refusal → Result Applied Refusal
unless_full room (Ok (Bound n length)) = cond (ltb room length) (Err Full) (Ok (Bound n length))
unless_full room (Ok (Applied.None n)) = Ok (Applied.None n)
unless_full room (Ok (Spent n)) = Ok (Spent n)
unless_full room (Err r) = Err r

-- The output, which held `before`: the result's bytes in front of what lies past them. "Without a written result the output is untouched."

abbrev pub written : List ℕ → Replacement → Result Applied Refusal → List ℕ → List ℕ
written table (result u n) (Ok (Bound m length)) before = term_bytes table u (drop length before)
written table (result u n) (Ok (Applied.None m)) before = before
written table (result u n) (Ok (Spent m)) before = before
written table (result u n) (Err r) before = before
written table (nothing n) a before = before
written table (spent n) a before = before

-- of trees

abbrev pub look_on : Language → Pattern → Pattern → Term → ℕ → Result Applied Refusal
look_on l p q t allowance = measured l.table (replacement l p q t allowance)

abbrev pub apply_on : Language → Pattern → Pattern → Term → ℕ → ℕ → Result Applied Refusal
apply_on l p q t allowance room = unless_full room (look_on l p q t allowance)

abbrev pub output_on : Language → Pattern → Pattern → Term → ℕ → List ℕ → List ℕ
output_on l p q t allowance before = written l.table (replacement l p q t allowance) (apply_on l p q t allowance (length before)) before

-- and of bytes, on all inputs; of a refusal no entry is meant

abbrev pub refusal : Refusal → ℕ → Result Applied Refusal
refusal r i = Err r

unfoldable pub look_of : Brought → List ℕ → List ℕ → List ℕ → ℕ → Result Applied Refusal
look_of brought rule template bytes allowance =
    answer_by refusal (λ x. look_on (language_of brought) x.0.0 x.0.1 x.1 allowance) (checked brought rule template bytes)

unfoldable pub apply_of : Brought → List ℕ → List ℕ → List ℕ → ℕ → ℕ → Result Applied Refusal
apply_of brought rule template bytes allowance room =
    answer_by refusal (λ x. apply_on (language_of brought) x.0.0 x.0.1 x.1 allowance room) (checked brought rule template bytes)

unfoldable pub output_of : Brought → List ℕ → List ℕ → List ℕ → ℕ → List ℕ → List ℕ
output_of brought rule template bytes allowance before =
    answer_by (λ r i. before) (λ x. output_on (language_of brought) x.0.0 x.0.1 x.1 allowance before) (checked brought rule template bytes)
