-- The call: what a rule sheet against one record answers, and what it leaves in the answer buffer, on all inputs.
use Rattle.std.specs.Prelude.{ℕ, zero, suc, ◌+◌, ◌≤◌, ◌≡◌, List, [], ◌∷◌, map, true, cond, length, ltb, Result, Ok, Err, Option, Some, None}
use Rattle.answers.specs.declared.Part.{Part}
use Rattle.answers.specs.declared.Refusal.TheVariants.{Narrow}
use Rattle.answers.specs.declared.RuleAnswer.{RuleAnswer}
use Rattle.answers.specs.declared.RuleAnswer.TheVariants.{Bound, Spent}
use Rattle.term.specs.Language.{Language}
use Rattle.term.specs.Table.{table_accepted}
use Rattle.term.specs.Term.{Term, term_bytes}
use Rattle.term.specs.Pattern.{Pattern, pattern_bytes}
use Rattle.term.specs.Limits.{TermAccepted, PatternAccepted}
use Rattle.reader.specs.Reading.{Parsed, refused, read, read_pattern, read_record}
use Rattle.reader.specs.Brought.{Brought, language_of, brought_accepted}
use Rattle.call.specs.Call.{answer_width, checks, answer_by, written, buffer_by}
use Rattle.call.specs.Verdict.{Verdict, passed, fault, reading, both}
use Rattle.sheet.specs.Sheet.{sheet_bytes}
use Rattle.sheet.specs.Check.{longest_sheet, entry_count, edition_of}
use Rattle.sheet.specs.Entry.{entries, part_at}
use Rattle.sheet.specs.Contents.{most_rules, check_rules}
use Rattle.link.specs.OnBytes.{outcome_on_bytes}
use Rattle.rules.specs.Trial.{Trial, bound_at, none_of, spent_at, try_each, try_rules}
use Rattle.answers.specs.declared.Fault.{Fault}
use Rattle.answers.specs.Fault.{fault_at}

-- what the call brings: "A call without a sheet … is told the edition"; here the sheet tells it, for the record too
abbrev pub in_sheet : List ℕ → List ℕ → Option (List ℕ) → Brought
in_sheet sheet table list = record { edition = edition_of sheet; table = table; list = list }

-- Accepted input: a table, a class list if one is brought, the bytes of a sheet of at most 64 patterns, and those of a record, that pass every check

abbrev pub AllAccepted : Language → List Pattern → Type 0
AllAccepted l [] = Unit {0}
AllAccepted l (q ∷ qs) = PatternAccepted l q × AllAccepted l qs

-- the bytes of each rule
abbrev pub rules_bytes : List ℕ → List Pattern → List (List ℕ)
rules_bytes table qs = map (λ q. pattern_bytes table q []) qs

pub record Input (brought : Brought) (sheet bytes : List ℕ) (qs : List Pattern) (t : Term) : Type 0 where
  pub table_accepted_holds : table_accepted brought.table ≡ true
  pub list_accepted_holds : brought_accepted brought ≡ true
  pub sheet_bytes_holds : sheet_bytes brought.edition (rules_bytes brought.table qs) ≡ sheet
  pub sheet_short : length sheet ≤ longest_sheet
  pub few_rules : length qs ≤ most_rules
  pub rules_accepted : AllAccepted (language_of brought) qs
  pub record_bytes : term_bytes brought.table t [] ≡ bytes
  pub record_accepted : TermAccepted (language_of brought) t

-- the same of the rules and the record's tree as one
abbrev pub AcceptedTrees : Brought → List ℕ → List ℕ → List Pattern × Term → Type 0
AcceptedTrees brought sheet bytes x = Input brought sheet bytes x.0 x.1

-- The checks, in order: those of every call, the rule sheet's, the record's; they read all trees

-- the rules: the patterns that entries are read as. In a sheet that is accepted each is
abbrev pub with_rule : Parsed Pattern → List Pattern → List Pattern
with_rule (refused r) qs = qs
with_rule (read q n) qs = q ∷ qs

unfoldable pub rules_of : Language → List (List ℕ) → List Pattern
rules_of l [] = []
rules_of l (e ∷ es) = with_rule (read_pattern l e) (rules_of l es)

-- they are read where the sheet passes its checks
abbrev pub rules_by : Result ℕ Fault → List Pattern → Verdict (List Pattern)
rules_by (Err f) qs = fault f.refusal f.index
rules_by (Ok n) qs = passed qs

abbrev pub trees : Brought → List ℕ → List ℕ → Verdict (List Pattern × Term)
trees brought sheet bytes = both (rules_by (check_rules brought.table brought.list sheet) (rules_of (language_of brought) (entries sheet))) (reading (read_record (language_of brought) bytes))

abbrev pub checked : Brought → List ℕ → List ℕ → ℕ → Verdict (List Pattern × Term)
checked brought sheet bytes width = checks brought width (trees brought sheet bytes)

-- the number of rules, or the refusal
abbrev pub check_of : Verdict (List Pattern × Term) → Result ℕ Fault
check_of (fault r i) = Err (fault_at r i)
check_of (passed x) = Ok (length x.0)

-- The answer

abbrev pub told : Trial → Result RuleAnswer Fault
told (bound_at i parts sum) = Ok (Bound i sum)
told (none_of sum) = Ok (RuleAnswer.None sum)
told (spent_at i sum) = Ok (Spent i sum)

unfoldable pub answer_of : Brought → List ℕ → List ℕ → ℕ → ℕ → Result RuleAnswer Fault
answer_of brought sheet bytes allowance width =
    answer_by (λ r i. Err (fault_at r i)) (λ x. told (try_rules (language_of brought) x.0 x.1 allowance)) (checked brought sheet bytes width)

-- The answer buffer, by the part of each variable of the rule that is bound

abbrev pub bound_parts : Trial → Option (List Part)
bound_parts (bound_at i parts sum) = Some parts
bound_parts (none_of sum) = None
bound_parts (spent_at i sum) = None

unfoldable pub buffer_of : Brought → List ℕ → List ℕ → ℕ → List ℕ → List ℕ
buffer_of brought sheet bytes allowance before =
    buffer_by (λ x. bound_parts (try_rules (language_of brought) x.0 x.1 allowance)) (checked brought sheet bytes (length before)) before

-- The match of any bytes, without the checks but for the buffer's: the parts that the sheet's directory tells are tried as rules. On accepted
-- input it is the answer above (proofs/Turns).

-- so many parts from index i on
unfoldable pub parts_from : List ℕ → ℕ → ℕ → List (List ℕ)
parts_from sheet zero i = []
parts_from sheet (suc k) i = part_at sheet i ∷ parts_from sheet k (i + 1)

abbrev pub try_parts : List ℕ → List ℕ → List ℕ → List ℕ → ℕ → Trial
try_parts table classes sheet bytes allowance =
    try_each (λ part. outcome_on_bytes table classes part bytes allowance) 0 0 (parts_from sheet (entry_count sheet) 0)

unfoldable pub answer_on_bytes : List ℕ → List ℕ → List ℕ → List ℕ → ℕ → ℕ → Result RuleAnswer Fault
answer_on_bytes table classes sheet bytes allowance width =
    cond (ltb width answer_width) (Err (fault_at Narrow 0)) (told (try_parts table classes sheet bytes allowance))

unfoldable pub buffer_on_bytes : List ℕ → List ℕ → List ℕ → List ℕ → ℕ → List ℕ → List ℕ
buffer_on_bytes table classes sheet bytes allowance before =
    cond (ltb (length before) answer_width) before (written (bound_parts (try_parts table classes sheet bytes allowance)) before)
