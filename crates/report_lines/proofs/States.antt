-- The line of a state of accepted files.
use Prim.Native.Nat.{ℕ, zero, suc, ◌+◌, ◌≤◌, ◌<◌}
use native.Mathlib.Omega.{arith}
use mathlib.Core.Path.{◌≡◌, refl, sym, ap, ◌∙◌}
use mathlib.Core.List.{List, [], ◌∷◌}
use mathlib.Core.Bool.{true, false}
use lib.ListN.{length, get_or}
use Rattle.answers.specs.declared.RuleAnswer.{RuleAnswer}
use Rattle.term.specs.Term.{Term}
use Rattle.term.specs.Limits.{Octets}
use Rattle.reader.specs.Reading.{Parsed, refused, read, shown, read_record}
use Rattle.term.proofs.Classes.{none_alike}
use Rattle.anti_pattern.specs.Language.{Language, language}
use Rattle.sheet.specs.Check.{same_edition, edition_of, check_sheet}
use Rattle.sheet.specs.Entry.{entries, shown_entry, part_at}
use Rattle.sheet.specs.Contents.{read_entry, check_each, check_rules}
use Rattle.sheet.proofs.Contents.{contents_passed}
use Rattle.sheet.proofs.Entries.{part_is_entry, entry_of_entries, entries_count, entries_octets}
use Rattle.call.specs.Call.{answer_width, checks}
use Rattle.call.specs.Verdict.{passed}
use Rattle.rules.specs.Call.{in_sheet, Input, rules_of, checked, told, answer_of, answer_on_bytes}
use Rattle.rules.specs.Trial.{try_rules}
use Rattle.rules.proofs.Checks.{checked_exactly}
use Rattle.rules.proofs.Turns.{answer_answered}
use Rattle.report_lines.specs.Verdict.{FilesAccepted}
use Rattle.report_lines.specs.Report.{allowance}
use Rattle.report_lines.proofs.Verdicts.{lines_accepted}
use Rattle.term.specs.declared.Edition.{Edition}
use Rattle.term.specs.declared.Edition.TheVariants.{One, Two}
use mathlib.Core.Bool.{true, false, false≢true}
use Rattle.std.specs.Prelude.{Result, Ok, Some, None}
use Rattle.answers.specs.declared.Fault.{Fault}

-- each entry of accepted states is read as a record

each_read : (lang : Language) (es : List (List ℕ)) (i n k : ℕ) → check_each true lang i es ≡ Ok n → k < length es
    → (t : Term) × (m : ℕ) × (read_record lang (get_or es k []) ≡ read t m)
unfolding check_each read_entry shown
each_read lang [] i n k a h = absurd (omega arith)
each_read lang (e ∷ es) i n k a h = go (read_record lang e) refl k h (each_read lang es (i + 1) n)
  where
    go : (x : Parsed Term) → read_record lang e ≡ x → (j : ℕ) → j < suc (length es)
        → ((l : ℕ) → check_each true lang (i + 1) es ≡ Ok n → l < length es → (t : Term) × (m : ℕ) × (read_record lang (get_or es l []) ≡ read t m))
        → (t : Term) × (m : ℕ) × (read_record lang (get_or (e ∷ es) j []) ≡ read t m)
    go (refused r) f j l rest = let z : ◌≡◌ {A = ℕ} 0 1 = cc in absurd (omega arith)
    go (read t m) f zero l rest = (t, m, f)
    go (read t m) f (suc j) l rest = rest j (cc) (omega arith)

same_edition_holds : (a b : Edition) → same_edition a b ≡ true → b ≡ a
same_edition_holds One One h = refl
same_edition_holds One Two h = absurd (false≢true h)
same_edition_holds Two One h = absurd (false≢true h)
same_edition_holds Two Two h = refl

-- accepted rules and a record that is read are checked input
checked_trees : (table rules bytes : List ℕ) (m : ℕ) → check_rules table None rules ≡ Ok m → (t : Term) (k : ℕ) → read_record (language (edition_of rules) table []) bytes ≡ read t k
    → checked (in_sheet rules table None) rules bytes answer_width ≡ passed (rules_of (language (edition_of rules) table []) (entries rules), t)
unfolding checks
checked_trees table rules bytes m p t k e = rw ((contents_passed false None table None rules m p).tabled, p, e)

-- the record of a state, with the rules, is accepted input

pub states_sheet : (table rules states : List ℕ) (n : ℕ) → FilesAccepted table rules states n → check_sheet states ≡ Ok n
states_sheet table rules states n v = (contents_passed true (Some (edition_of rules)) table None states n (lines_accepted true table true rules true states n v).1).sheet

module _ (table rules states : List ℕ) (n k : ℕ) (v : FilesAccepted table rules states n) (h : k < n) where
  pub record_entry : shown_entry states k ≡ get_or (entries states) k []
  record_entry = entry_of_entries states n (states_sheet table rules states n v) k h

  state_checked : (t : Term) × (checked (in_sheet rules table None) rules (shown_entry states k) answer_width ≡ passed (rules_of (language (edition_of rules) table []) (entries rules), t))
  state_checked =
      let both = lines_accepted true table true rules true states n v in
      let c = contents_passed true (Some (edition_of rules)) table None states n both.1 in
      let x = each_read (language (edition_of rules) table []) (entries states) 0 n k (rw (same_edition_holds (edition_of rules) (edition_of states) c.like) at c.each) (omega (arith, entries_count states n (states_sheet table rules states n v))) in
      (x.0, checked_trees table rules (shown_entry states k) both.0.0 both.0.1 x.0 x.1 (rw record_entry x.2))

  pub state_input : Octets rules → Octets states
      → (t : Term) × Input (in_sheet rules table None) rules (shown_entry states k) (rules_of (language (edition_of rules) table []) (entries rules)) t
      × (answer_of (in_sheet rules table None) rules (shown_entry states k) allowance answer_width ≡ told (try_rules (language (edition_of rules) table []) (rules_of (language (edition_of rules) table []) (entries rules)) t allowance))
  unfolding answer_of
  state_input ro so =
      let c = state_checked in
      let octets : Octets (shown_entry states k) = rw record_entry (entries_octets states so k) in (
        c.0,
        ((checked_exactly (in_sheet rules table None) rules (shown_entry states k) ro octets refl answer_width (rules_of (language (edition_of rules) table []) (entries rules)) c.0).0 c.1).2,
        rw c.1 refl,
      )

  -- matching without the checks answers as with them
  pub matched_answer : Octets rules → Octets states → (part : List ℕ) (width : ℕ) → part ≡ part_at states k → answer_width ≤ width → (a : Result RuleAnswer Fault)
      → a ≡ answer_on_bytes table [] rules part allowance width → a ≡ answer_of (in_sheet rules table None) rules (shown_entry states k) allowance answer_width
  matched_answer ro so part width is_part wide a matched =
      let x = state_input ro so in
      let e = is_part ∙ part_is_entry states n k (states_sheet table rules states n v) h in
      matched ∙ ap (λ (p : List ℕ). answer_on_bytes table [] rules p allowance width) e
      ∙ answer_answered (in_sheet rules table None) rules (shown_entry states k) allowance width wide (none_alike table) (rules_of (language (edition_of rules) table []) (entries rules)) x.0 x.1
      ∙ sym x.2
