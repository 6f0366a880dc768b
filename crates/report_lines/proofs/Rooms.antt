-- Every report has its place in `report_room` bytes.
use Prim.Native.Nat.{ℕ, zero, suc, ◌+◌, ◌*◌, ◌≤◌, ◌<◌}
use native.Mathlib.Omega.{arith}
use mathlib.Core.Path.{◌≡◌, refl, ◌∙◌}
use mathlib.Core.List.{List, [], ◌∷◌}
use mathlib.Core.Bool.{Bool, true, false}
use lib.ListN.{length, length-append}
use lib.Seq.{sets}
use lib.Dec.{ltb}
use borrow.Author.Tests.{ltb-false, leb-true}
use Rattle.answers.specs.Refusal.{number_of}
use Rattle.answers.specs.declared.Refusal.{Refusal}
use Rattle.term.specs.Term.{Term}
use Rattle.term.specs.Pattern.{Pattern}
use Rattle.reader.specs.Reading.{Parsed, refused, read, read_record}
use Rattle.anti_pattern.specs.Language.{Language, language}
use Rattle.anti_pattern.specs.Search.{Answers, found, failed, whole}
use Rattle.anti_pattern.specs.Answer.{Matching, bound, nothing, spent, count_of, matching_of, limit, answer}
use Rattle.sheet.specs.Check.{edition_of, length_at, entries_follow, check_sheet}
use Rattle.sheet.specs.Entry.{entries}
use Rattle.sheet.specs.Contents.{most_rules, check_rules}
use Rattle.sheet.proofs.Checks.{accepted_directed, follow_true, follow_within}
use Rattle.sheet.proofs.Contents.{contents_passed}
use Rattle.sheet.proofs.Entries.{entries_count}
use Rattle.term.proofs.Stores.{sets_front}
use Rattle.rules.proofs.Rules.{rules_few}
use Rattle.rules.specs.Trial.{Trial, bound_at, none_of, spent_at, try_one, try_each, try_rules}
use Rattle.call.specs.Call.{checks, answer_by}
use Rattle.call.specs.Verdict.{passed, both, reading}
use Rattle.rules.specs.Call.{rules_of, told, answer_of}
use Rattle.output.specs.Decimal.{decimal}
use Rattle.output.specs.Field.{refused_word}
use Rattle.report_lines.specs.Line.{header, bound_word, none_word, spent_word, dash, answer_line, file_word, refusal_line}
use Rattle.report_lines.specs.Verdict.{verdict}
use Rattle.report_lines.specs.Report.{allowance, state_line, lines_from, lines, report_by, report, most_states, line_room, report_room, front}
use Rattle.report_lines.specs.declared.File.{File}
use Rattle.report_lines.specs.declared.File.TheVariants.{Rules, States}
use Rattle.report_lines.specs.declared.FileFault.{FileFault}
use Rattle.output.proofs.Decimals.{few_length, decimal_length}
use Rattle.report_lines.proofs.Stores.{line_length}
use Rattle.report_lines.proofs.Verdicts.{lines_accepted}
use Rattle.std.specs.Prelude.{Result, Ok, Err, Some, None}
use Rattle.answers.specs.Fault.{fault_at}

-- a rule counts to the allowance at most

abbrev Counted : Matching → Type 0
Counted (bound ps n) = n ≤ allowance
Counted (nothing n) = n ≤ allowance
Counted (spent n) = n ≤ allowance

answer_counted : (l : Language) (q : Pattern) (t : Term) → Counted (answer l q t allowance)
unfolding answer
answer_counted l q t = go (whole l q t).out (count_of l q t) (ltb allowance (count_of l q t)) refl
  where
    go : (o : Answers) (n : ℕ) (b : Bool) → ltb allowance n ≡ b → Counted (limit b allowance (matching_of l.table o n))
    go o n true e = omega arith
    go (found x m o) n false e = ltb-false allowance n e
    go failed n false e = ltb-false allowance n e

-- of the rules that a sheet holds at most: the index shown has 2 digits, the sum 7

abbrev Small : Trial → Type 0
Small (bound_at i ps n) = (i < most_rules) × (n ≤ most_rules * allowance)
Small (none_of n) = n ≤ most_rules * allowance
Small (spent_at i n) = (i < most_rules) × (n ≤ most_rules * allowance)

trial_small : {A : Type 0} (own : A → Matching) → ((q : A) → Counted (own q)) → (i sum : ℕ) (qs : List A) → i + length qs ≤ most_rules → sum ≤ i * allowance
    → Small (try_each own i sum qs)
unfolding try_each
trial_small own counted i sum [] h l = omega arith
trial_small own counted i sum (q ∷ qs) h l = go (own q) (counted q) (λ s m. trial_small own counted (i + 1) s qs (omega arith) m)
  where
    go : (a : Matching) → Counted a → ((s : ℕ) → s ≤ (i + 1) * allowance → Small (try_each own (i + 1) s qs))
        → Small (try_one i sum a (λ s. try_each own (i + 1) s qs))
    go (bound ps n) c rest = (omega arith, omega arith)
    go (nothing n) c rest = rest (sum + n) (omega arith)
    go (spent n) c rest = (omega arith, omega arith)

-- a line

told_short : (k : ℕ) → k < 10000 → (x : Trial) → Small x → length (answer_line k (told x)) ≤ line_room
unfolding answer_line
told_short k h (bound_at i ps n) s =
    omega (arith, line_length (decimal k) (decimal i) bound_word (decimal n), few_length 3 20 k h, few_length 1 20 i (omega arith), few_length 6 20 n (omega arith))
told_short k h (none_of n) s =
    omega (arith, line_length (decimal k) dash none_word (decimal n), few_length 3 20 k h, few_length 6 20 n (omega arith))
told_short k h (spent_at i n) s =
    omega (arith, line_length (decimal k) (decimal i) spent_word (decimal n), few_length 3 20 k h, few_length 1 20 i (omega arith), few_length 6 20 n (omega arith))

module _ (table rules : List ℕ) (m : ℕ) (p : check_rules table None rules ≡ Ok m) where
  rules_within : 0 + length (rules_of (language (edition_of rules) table []) (entries rules)) ≤ most_rules
  rules_within =
      let c = contents_passed false None table None rules m p in
      omega (arith, rules_few (language (edition_of rules) table []) (entries rules), entries_count rules m c.sheet, leb-true m most_rules c.not_many)

  line_short : (k : ℕ) → k < 10000 → (e : List ℕ) → length (state_line table rules k e) ≤ line_room
  unfolding state_line answer_of checks answer_line
  line_short k h e = rw ((contents_passed false None table None rules m p).tabled, p) (go (read_record (language (edition_of rules) table []) e))
    where
      go : (x : Parsed Term) → length (answer_line k (answer_by (λ r i. Err (fault_at r i))
          (λ (y : List Pattern × Term). told (try_rules (language (edition_of rules) table []) y.0 y.1 allowance))
          (both (passed (rules_of (language (edition_of rules) table []) (entries rules))) (reading x)))) ≤ line_room
      go (refused r) = omega arith
      go (read t n) =
          told_short k h (try_rules (language (edition_of rules) table []) (rules_of (language (edition_of rules) table []) (entries rules)) t allowance)
          (trial_small (λ q. answer (language (edition_of rules) table []) q t allowance) (λ q. answer_counted (language (edition_of rules) table []) q t) 0 0
          (rules_of (language (edition_of rules) table []) (entries rules)) rules_within (omega arith))

  lines_short : (k : ℕ) (es : List (List ℕ)) → k + length es ≤ 10000 → length (lines_from table rules k es) ≤ line_room * length es
  unfolding lines_from
  lines_short k [] h = omega arith
  lines_short k (e ∷ es) h =
      simp length-append (omega (arith, line_short k (omega arith) e, lines_short (k + 1) es (omega arith)))

-- each entry of a sheet has a pair and a byte at least
follow_room : (s : List ℕ) (k i at : ℕ) → entries_follow s k i at ≡ true → at + k ≤ length s
follow_room s zero i at h = omega (arith, follow_within s zero i at h)
follow_room s (suc k) i at h = let a = follow_true s k i at h in omega (arith, follow_room s k (i + 1) (at + length_at s i) a.2, a.1)

states_few : (s : List ℕ) (n : ℕ) → check_sheet s ≡ Ok n → n ≤ most_states
states_few s n a = let d = accepted_directed s n a in omega (arith, d.short, follow_room s n 0 (2 + 4 * n) d.follow)

pub refusal_short : (r : Refusal) (f : File) (i room : ℕ) → report_room ≤ room → length (refusal_line r f i) ≤ room
unfolding refusal_line
refusal_short r f i room wide =
    omega (arith, line_length refused_word (decimal (number_of r)) (file_word f) (decimal i), decimal_length (number_of r), decimal_length i, word_short f)
  where
    word_short : (g : File) → length (file_word g) ≤ 6
    word_short File.Table = omega arith
    word_short Rules = omega arith
    word_short States = omega arith

pub report_room_holds : (table_read : Bool) (table : List ℕ) (rules_read : Bool) (rules : List ℕ) (states_read : Bool) (states : List ℕ)
    → length (report table_read table rules_read rules states_read states) ≤ report_room
unfolding report lines header
report_room_holds table_read table rules_read rules states_read states = go (verdict table_read table rules_read rules states_read states) refl
  where
    go : (v : Result ℕ FileFault) → verdict table_read table rules_read rules states_read states ≡ v → length (report_by v table rules states) ≤ report_room
    go (Err f) e = refusal_short f.fault.refusal f.file f.fault.index report_room (omega arith)
    go (Ok n) e =
        let a = lines_accepted table_read table rules_read rules states_read states n e in
        let c = contents_passed true (Some (edition_of rules)) table None states n a.1 in
        let counted = entries_count states n c.sheet in
        let few = states_few states n c.sheet in
        simp length-append (omega (arith, lines_short table rules a.0.0 a.0.1 0 (entries states) (omega arith)))

-- the text at the front of an output that has the room
pub text_put : (table_read : Bool) (table : List ℕ) (rules_read : Bool) (rules : List ℕ) (states_read : Bool) (states : List ℕ) (text before after : List ℕ) (size : ℕ)
    → text ≡ report table_read table rules_read rules states_read states → report_room ≤ length before → after ≡ sets before 0 text → size ≡ length text
    → (size ≡ length (report table_read table rules_read rules states_read states))
    × (after ≡ front (report table_read table rules_read rules states_read states) before)
unfolding front
text_put table_read table rules_read rules states_read states text before after size e h stored sized =
    let room : length text ≤ report_room = rw e (report_room_holds table_read table rules_read rules states_read states) in
    rw (← e) (sized, stored ∙ sets_front before text (length text) refl (omega arith))
