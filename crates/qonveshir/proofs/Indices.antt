-- Each index that the library shows is below a sheet's length, so 32 bits hold it.
use Prim.Native.Nat.{ℕ, suc, ◌+◌, ◌≤◌}
use native.Mathlib.Omega.{arith}
use mathlib.Core.Path.{◌≡◌, refl, sym, ap, ◌∙◌}
use mathlib.Core.List.{List, [], ◌∷◌}
use mathlib.Core.Bool.{Bool, true, false, cond}
use lib.ListN.{length}
use lib.Dec.{leb}
use borrow.Author.Tests.{leb-true}
use Rattle.answers.specs.Answers.{rule_index}
use Rattle.answers.specs.declared.Refusal.TheVariants.{Table, Narrow, Long, Directory, Full, Class}
use Rattle.answers.specs.Shown.{fault_index}
use Rattle.term.specs.Language.{Language}
use Rattle.term.specs.Term.{Term}
use Rattle.term.specs.Pattern.{Pattern}
use Rattle.term.specs.Table.{table_accepted}
use Rattle.reader.specs.Reading.{Parsed, refused, read, read_record}
use Rattle.anti_pattern.specs.Answer.{Matching, bound, nothing, spent, answer}
use Rattle.sheet.specs.Check.{longest_sheet, entry_count, edition_of, directory_accepted, check_sheet, and_then, allowed, check_among}
use Rattle.sheet.specs.Contents.{read_entry, stop_at, check_each, few, check_contents, check_rules}
use Rattle.sheet.specs.Entry.{entries}
use Rattle.writing.specs.Writing.{split, lengths_accepted, sheet_length, check_records, with_room, writing}
use Rattle.sheet.proofs.Checks.{accepted_directed}
use Rattle.sheet.proofs.Contents.{contents_passed, among_sheet}
use Rattle.sheet.proofs.Entries.{entries_count}
use Rattle.writing.proofs.Lengths.{split_length}
use Rattle.reader.specs.Brought.{Brought, language_of, language_in, list_accepted, brought_accepted}
use Rattle.call.specs.Call.{answer_width, checks, answer_by}
use Rattle.call.specs.Verdict.{check, reading, both}
use Rattle.rules.specs.Call.{rules_of, rules_by, told, answer_of}
use Rattle.rules.proofs.Rules.{rules_few}
use Rattle.rules.specs.Trial.{try_one, try_each, try_rules}
use Rattle.std.specs.Prelude.{Result, Ok, Err, Option, None}
use Rattle.answers.specs.declared.Refusal.{Refusal}
use Rattle.answers.specs.declared.Fault.{Fault}
use Rattle.answers.specs.Fault.{fault_at}
use Rattle.term.specs.declared.Edition.{Edition}

-- entries and records, which are checked one by one

each_index : (records : Bool) (l : Language) (i : ℕ) (es : List (List ℕ)) → fault_index (check_each records l i es) ≤ i + length es
unfolding check_each
each_index records l i [] = omega arith
each_index records l i (e ∷ es) = go (read_entry records l e) (each_index records l (i + 1) es)
  where
    go : (x : Result ℕ Refusal) → fault_index (check_each records l (i + 1) es) ≤ i + 1 + length es
        → fault_index (stop_at i x (check_each records l (i + 1) es)) ≤ i + suc (length es)
    go (Ok m) rest = omega arith
    go (Err r) rest = omega arith

sheet_index : (s : List ℕ) → fault_index (check_sheet s) ≡ 0
unfolding check_sheet
sheet_index s = go (leb (length s) longest_sheet) (directory_accepted s)
  where
    go : (a b : Bool) → fault_index (cond a (cond b (Ok (entry_count s)) (Err (fault_at Directory 0))) (Err (fault_at Long 0))) ≡ 0
    go true true = refl
    go true false = refl
    go false b = refl

pub among_index : (editions : (Option Edition)) (s : List ℕ) → fault_index (check_among editions s) ≡ 0
unfolding check_among
among_index editions s = go (check_sheet s) (sheet_index s) (allowed editions (edition_of s))
  where
    go : (x : Result ℕ Fault) → fault_index x ≡ 0 → (b : Bool) → fault_index (and_then x (λ n. cond b (Ok n) (Err (fault_at Directory 0)))) ≡ 0
    go (Err f) h b = h
    go (Ok n) h true = refl
    go (Ok n) h false = refl

pub entries_few : (s : List ℕ) (n : ℕ) → check_sheet s ≡ Ok n → length (entries s) ≤ longest_sheet
entries_few s n e = let d = accepted_directed s n e in omega (arith, entries_count s n e, d.within, d.short)

pub contents_index : (records : Bool) (editions : (Option Edition)) (table : List ℕ) (list : Option (List ℕ)) (s : List ℕ)
    → fault_index (check_contents records editions table list s) ≤ longest_sheet
unfolding check_contents
contents_index records editions table list s = go (table_accepted table) (list_accepted table list) (check_among editions s) refl
  where
    go : (t c : Bool) (x : Result ℕ Fault) → check_among editions s ≡ x
        → fault_index (cond t (cond c (and_then x (λ n. cond (few records n) (check_each records (language_in (edition_of s) table list) 0 (entries s)) (Err (fault_at Long 0)))) (Err (fault_at Class 0))) (Err (fault_at Table 0)))
        ≤ longest_sheet
    go false c x e = omega arith
    go true false x e = omega arith
    go true true (Err f) e = let z : f.index ≡ 0 = ap fault_index (sym e) ∙ among_index editions s in omega arith
    go true true (Ok n) e = fits (few records n)
      where
        fits : (b : Bool) → fault_index (cond b (check_each records (language_in (edition_of s) table list) 0 (entries s)) (Err (fault_at Long 0))) ≤ longest_sheet
        fits false = omega arith
        fits true = omega (arith, each_index records (language_in (edition_of s) table list) 0 (entries s), entries_few s n (among_sheet editions s n e).0)

-- a writing

records_index : (brought : Brought) (bs ns : List ℕ) → fault_index (check_records brought bs ns) ≤ longest_sheet
unfolding check_records
records_index brought bs ns =
    go (table_accepted brought.table) (brought_accepted brought) (lengths_accepted ns (length bs)) (leb (sheet_length (length ns) (length bs)) longest_sheet) refl
  where
    go : (t c l f : Bool) → leb (sheet_length (length ns) (length bs)) longest_sheet ≡ f
        → fault_index
        (cond t
        (cond c (cond l (cond f (check_each true (language_of brought) 0 (split bs ns)) (Err (fault_at Long 0))) (Err (fault_at Directory 0))) (Err (fault_at Class 0)))
        (Err (fault_at Table 0)))
        ≤ longest_sheet
    go false c l f e = omega arith
    go true false l f e = omega arith
    go true true false f e = omega arith
    go true true true false e = omega arith
    go true true true true e =
        omega (arith, each_index true (language_of brought) 0 (split bs ns), split_length bs ns, leb-true (sheet_length (length ns) (length bs)) longest_sheet e)

pub writing_index_holds : (brought : Brought) (bs ns : List ℕ) (room : ℕ) → fault_index (writing brought bs ns room) ≤ longest_sheet
unfolding writing
writing_index_holds brought bs ns room = go (check_records brought bs ns) (records_index brought bs ns)
  where
    go : (x : Result ℕ Fault) → fault_index x ≤ longest_sheet → fault_index (with_room x (sheet_length (length ns) (length bs)) room) ≤ longest_sheet
    go (Err f) h = h
    go (Ok n) h = fits (leb (sheet_length (length ns) (length bs)) room)
      where
        fits : (b : Bool) → fault_index (cond b (Ok (sheet_length (length ns) (length bs))) (Err (fault_at Full 0))) ≤ longest_sheet
        fits true = omega arith
        fits false = omega arith

-- the rules of a sheet, which are tried one by one

trial_index : {A : Type 0} (own : A → Matching) (i sum : ℕ) (qs : List A) → rule_index (told (try_each own i sum qs)) ≤ i + length qs
unfolding try_each
trial_index own i sum [] = omega arith
trial_index own i sum (q ∷ qs) = go (own q) (λ s. trial_index own (i + 1) s qs)
  where
    go : (x : Matching) → ((s : ℕ) → rule_index (told (try_each own (i + 1) s qs)) ≤ i + 1 + length qs)
        → rule_index (told (try_one i sum x (λ s. try_each own (i + 1) s qs))) ≤ i + suc (length qs)
    go (bound parts n) rest = omega arith
    go (nothing n) rest = omega (arith, rest (sum + n))
    go (spent n) rest = omega arith

pub rules_index : (brought : Brought) (sheet bytes : List ℕ) (allowance width : ℕ) → rule_index (answer_of brought sheet bytes allowance width) ≤ longest_sheet
unfolding answer_of checks
rules_index brought sheet bytes allowance width =
    go (leb answer_width width) (table_accepted brought.table) (brought_accepted brought) (check_rules brought.table brought.list sheet) refl (read_record (language_of brought) bytes)
  where
    go : (a b c : Bool) (x : Result ℕ Fault) → check_rules brought.table brought.list sheet ≡ x → (y : Parsed Term)
        → rule_index (answer_by (λ r i. Err (fault_at r i)) (λ (z : List Pattern × Term). told (try_rules (language_of brought) z.0 z.1 allowance))
        (check a Narrow (check b Table (check c Class (both (rules_by x (rules_of (language_of brought) (entries sheet))) (reading y)))))) ≤ longest_sheet
    go false b c x e y = omega arith
    go true false c x e y = omega arith
    go true true false x e y = omega arith
    go true true true (Err f) e y = omega (arith, rw e at (contents_index false None brought.table brought.list sheet))
    go true true true (Ok n) e (refused r) = omega arith
    go true true true (Ok n) e (read t m) =
        let s = (contents_passed false None brought.table brought.list sheet n e).sheet in
        omega (
          arith,
          trial_index (λ q. answer (language_of brought) q t allowance) 0 0 (rules_of (language_of brought) (entries sheet)),
          rules_few (language_of brought) (entries sheet),
          entries_few sheet n s,
        )
