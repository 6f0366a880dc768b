-- The call: its checks in order, and what it answers, on all inputs.
use Rattle.std.specs.Prelude.{ℕ, ◌+◌, ◌≤◌, ◌≡◌, List, [], ◌∷◌, map, true, false, cond, length, leb, eqb, Result, Ok, Err, Some}
use Rattle.answers.specs.declared.Played.{Played}
use Rattle.answers.specs.declared.Refusal.TheVariants.{Directory, Loose, Turns}
use Rattle.term.specs.Language.{Language}
use Rattle.term.specs.Limits.{TermAccepted, PatternAccepted}
use Rattle.term.specs.Pattern.{Pattern, pattern_bytes}
use Rattle.term.specs.Table.{table_accepted}
use Rattle.term.specs.Term.{Term, term_bytes}
use Rattle.reader.specs.Reading.{Parsed, refused, read, read_pattern, read_record}
use Rattle.parts.specs.Shown.{answer_width}
use Rattle.anti_pattern.specs.Variables.{free}
use Rattle.reader.specs.Brought.{Brought, language_of}
use Rattle.call.specs.Call.{checks, answer_by}
use Rattle.call.specs.Verdict.{Verdict, passed, fault, check, reading, both}
use Rattle.sheet.specs.Check.{longest_sheet, check_among}
use Rattle.sheet.specs.Contents.{most_rules, check_contents}
use Rattle.sheet.specs.Entry.{entries}
use Rattle.sheet.specs.Sheet.{sheet_bytes}
use Rattle.replace.specs.Loose.{loose}
use Rattle.rules.specs.Call.{rules_bytes, rules_by, rules_of}
use Rattle.game.specs.Accepted.{EachAccepted}
use Rattle.game.specs.Handed.{Sheets, Handed}
use Rattle.game.specs.Move.{Rule, Game}
use Rattle.game.specs.Search.{Ruling, forced, unforced, stopped, Opening, unneeded, by_rule, by_pass, play, each}
use Rattle.answers.specs.declared.Fault.{Fault}
use Rattle.answers.specs.Fault.{fault_at}

-- "For up to 6 turns"
abbrev pub most_turns : ℕ
most_turns = 6

-- Accepted input

abbrev pub patterns : List Rule → List Pattern
patterns rs = map (λ r. r.pattern) rs

abbrev pub templates : List Rule → List Pattern
templates rs = map (λ r. r.template) rs

-- "Each has a rule sheet with a template for each rule": two sheets of the language's edition, and the rules that they hold
pub record Side (l : Language) (rule_sheet template_sheet : List ℕ) (rs : List Rule) : Type 0 where
  pub rules_bytes_holds : sheet_bytes l.edition (rules_bytes l.table (patterns rs)) ≡ rule_sheet
  pub rules_short : length rule_sheet ≤ longest_sheet
  pub templates_bytes : sheet_bytes l.edition (rules_bytes l.table (templates rs)) ≡ template_sheet
  pub templates_short : length template_sheet ≤ longest_sheet
  pub few_rules : length rs ≤ most_rules
  pub accepted : EachAccepted l rs

pub record Input (l : Language) (s : Sheets) (bytes : List ℕ) (g : Game) (t : Term) : Type 0 where
  pub table_accepted_holds : table_accepted l.table ≡ true
  pub loader : Side l s.loader s.loader_templates g.loader
  pub sender : Side l s.sender s.sender_templates g.sender
  pub goal_bytes : pattern_bytes l.table g.goal [] ≡ s.goal
  pub goal_accepted : PatternAccepted l g.goal
  pub record_bytes : term_bytes l.table t [] ≡ bytes
  pub record_accepted : TermAccepted l t

-- The checks, in order: 24 "before all other checks"; 1, 14, "the loader's rules, the loader's templates, the sender's likewise, goal, starting state".
-- (The answer buffer is the call's own, so that 8 does not come up.)

abbrev pub with_rule : Pattern → Pattern → Verdict (List Rule) → Verdict (List Rule)
with_rule p q (fault r i) = fault r i
with_rule p q (passed rs) = passed (record { pattern = p; template = q } ∷ rs)

-- the template of a rule: 18 after its others
abbrev pub with_template : ℕ → Pattern → Parsed Pattern → Verdict (List Rule) → Verdict (List Rule)
with_template i p (refused r) rest = fault r i
with_template i p (read q n) rest = cond (loose (free p) q) (fault Loose i) (with_rule p q rest)

-- those of rules from index i on, by the entries
unfoldable pub templates_from : Language → ℕ → List Pattern → List (List ℕ) → Verdict (List Rule)
templates_from l i [] es = passed []
templates_from l i (p ∷ ps) [] = passed []
templates_from l i (p ∷ ps) (e ∷ es) = with_template i p (read_pattern l e) (templates_from l (i + 1) ps es)

-- 6 of the sheet and 9, also of another edition; "Unlike numbers of rules and templates are 9 of the templates", so that 6 of 64 does not come up
abbrev pub templates_by : Language → List Pattern → List ℕ → Result ℕ Fault → Verdict (List Rule)
templates_by l ps sheet (Err f) = fault f.refusal f.index
templates_by l ps sheet (Ok n) = cond (eqb n (length ps)) (templates_from l 0 ps (entries sheet)) (fault Directory 0)

-- "sheets of unlike editions in one call are 9 of the later one" (L6): all are of the edition that the call brings, which its first sheet tells
abbrev pub check_own : Brought → List ℕ → Result ℕ Fault
check_own brought sheet = check_contents false (Some brought.edition) brought.table brought.list sheet

abbrev pub check_templates : Language → List ℕ → Result ℕ Fault
check_templates l sheet = check_among (Some l.edition) sheet

abbrev pub side_by : Language → List ℕ → Verdict (List Pattern) → Verdict (List Rule)
side_by l template_sheet (fault r i) = fault r i
side_by l template_sheet (passed ps) = templates_by l ps template_sheet (check_templates l template_sheet)

unfoldable pub side : Brought → List ℕ → List ℕ → Verdict (List Rule)
side brought rule_sheet template_sheet =
    side_by (language_of brought) template_sheet (rules_by (check_own brought rule_sheet) (rules_of (language_of brought) (entries rule_sheet)))

abbrev pub Trees : Type 0
Trees = (List Rule × List Rule) × (Pattern × Term)

abbrev pub game : Trees → Game
game x = record { loader = x.0.0; sender = x.0.1; goal = x.1.0 }

module _ (h : Handed) where
  abbrev l : Language
  l = language_of h.brought

  abbrev s : Sheets
  s = h.sheets

  abbrev pub trees : List ℕ → Verdict Trees
  trees bytes =
      both (both (side h.brought s.loader s.loader_templates) (side h.brought s.sender s.sender_templates))
      (both (reading (read_pattern l s.goal)) (reading (read_record l bytes)))

abbrev pub checked : ℕ → Handed → List ℕ → Verdict Trees
checked turns h bytes = check (leb turns most_turns) Turns (checks h.brought answer_width (trees h bytes))

-- The answer: "both show count 0"; "spent, with index 0 and the allowance"

abbrev pub told : ℕ → Ruling Opening → Result Played Fault
told allowance (forced unneeded) = (Ok Played.Unneeded)
told allowance (forced (by_rule i)) = Ok (Played.ByRule i)
told allowance (forced by_pass) = (Ok Played.ByPass)
told allowance unforced = (Ok Played.None)
told allowance stopped = Ok (Played.Spent allowance)

unfoldable pub play_of : ℕ → Handed → List ℕ → ℕ → Result Played Fault
play_of turns h bytes allowance =
    answer_by (λ r i. Err (fault_at r i)) (λ x. told allowance (play (language_of h.brought) (each allowance) (game x) turns x.1.1)) (checked turns h bytes)
