-- The rules of accepted input, and the sheet's entries that are their bytes.
use Prim.Native.Nat.{ℕ, zero, suc, ◌+◌, ◌≤◌, ◌<◌}
use native.Mathlib.Omega.{arith}
use mathlib.Core.Path.{◌≡◌, refl, sym, ◌∙◌, ap}
use mathlib.Core.List.{List, [], ◌∷◌}
use lib.ListN.{length, get_or, length-map}
use Rattle.term.specs.Tree.{own, encode}
use Rattle.term.specs.Language.{Language}
use Rattle.term.specs.Term.{Term}
use Rattle.term.specs.Pattern.{Pattern, name, symbol, complement, pattern_bytes}
use Rattle.term.specs.Limits.{Octets, PatternAccepted}
use Rattle.reader.specs.Reading.{Parsed, refused, read, read_pattern}
use Rattle.sheet.specs.Sheet.{NoneEmpty}
use Rattle.sheet.specs.Check.{entry_count}
use Rattle.sheet.specs.Entry.{entry_at, entries, part_at}
use Rattle.sheet.proofs.Checks.{Directed}
use Rattle.sheet.proofs.Entries.{part_entry, entry_octets, entries_at}
use Rattle.sheet.proofs.Readings.{written_read, written_directed, written_length}
use Rattle.matcher.specs.Call.{Input as PatternInput}
use Rattle.rules.specs.Call.{AllAccepted, rules_bytes, Input, with_rule, rules_of}
use Rattle.reader.specs.Brought.{Brought, language_of}

-- the rule of an index

abbrev pub rule_at : List Pattern → ℕ → Pattern
rule_at qs k = get_or qs k (name 0)

module _ (table : List ℕ) where
  pub rule_bytes : (qs : List Pattern) (k : ℕ) → k < length qs → get_or (rules_bytes table qs) k [] ≡ pattern_bytes table (rule_at qs k) []
  rule_bytes [] k h = absurd (omega arith)
  rule_bytes (q ∷ qs) zero h = refl
  rule_bytes (q ∷ qs) (suc k) h = rule_bytes qs k (omega arith)

  pattern_bytes_some : (q : Pattern) → 0 < length (pattern_bytes table q [])
  unfolding encode own
  pattern_bytes_some (name v) = omega arith
  pattern_bytes_some (symbol s qs) = omega arith
  pattern_bytes_some (complement q) = omega arith

  pub rules_none_empty : (qs : List Pattern) → NoneEmpty (rules_bytes table qs)
  unfolding NoneEmpty
  rules_none_empty [] = tt
  rules_none_empty (q ∷ qs) = (pattern_bytes_some q, rules_none_empty qs)

pub rule_accepted : (l : Language) (qs : List Pattern) (k : ℕ) → k < length qs → AllAccepted l qs → PatternAccepted l (rule_at qs k)
rule_accepted l [] k h a = absurd (omega arith)
rule_accepted l (q ∷ qs) zero h a = a.0
rule_accepted l (q ∷ qs) (suc k) h a = rule_accepted l qs k (omega arith) a.1

module _ (brought : Brought) (sheet bytes : List ℕ) (qs : List Pattern) (t : Term) (i : Input brought sheet bytes qs t) where
  pub input_directed : Directed sheet (length qs)
  input_directed =
      rw (← i.sheet_bytes_holds, ← length-map qs (λ q. pattern_bytes brought.table q []))
      (written_directed brought.edition (rules_bytes brought.table qs) (rules_none_empty brought.table qs) (rw i.sheet_bytes_holds i.sheet_short))

  pub input_entries : entries sheet ≡ rules_bytes brought.table qs
  input_entries = ap entries (sym i.sheet_bytes_holds) ∙ written_read brought.edition (rules_bytes brought.table qs) (omega (arith, written_length brought.edition (rules_bytes brought.table qs), ap length i.sheet_bytes_holds, i.sheet_short))

  part_bytes_holds : (k : ℕ) → k < length qs → part_at sheet k ≡ pattern_bytes brought.table (rule_at qs k) []
  unfolding entries
  part_bytes_holds k h =
      let d = input_directed in
      let e : 0 + k ≡ k = omega arith in
      part_entry sheet (length qs) k d h
      ∙ sym (entries_at sheet (entry_count sheet) 0 k (omega (arith, d.counted)) ∙ ap (entry_at sheet) e)
      ∙ ap (λ (es : List (List ℕ)). get_or es k []) input_entries ∙ rule_bytes brought.table qs k h

  -- with the record, each part is input that the matcher accepts
  pub rule_input : (k : ℕ) → k < length qs → PatternInput (language_of brought) (part_at sheet k) bytes (rule_at qs k) t
  rule_input k h = record {
    table_accepted_holds = i.table_accepted_holds;
    pattern_bytes_holds = sym (part_bytes_holds k h);
    pattern_accepted = rule_accepted (language_of brought) qs k h i.rules_accepted;
    record_bytes = i.record_bytes;
    record_accepted = i.record_accepted;
  }

  pub part_octets : Octets sheet → (k : ℕ) → k < length qs → Octets (part_at sheet k)
  part_octets o k h = rw (part_entry sheet (length qs) k input_directed h) (entry_octets sheet o k)

-- no more rules than entries
pub rules_few : (l : Language) (es : List (List ℕ)) → length (rules_of l es) ≤ length es
unfolding rules_of
rules_few l [] = omega arith
rules_few l (e ∷ es) = go (read_pattern l e) (rules_few l es)
  where
    go : (x : Parsed Pattern) → length (rules_of l es) ≤ length es → length (with_rule x (rules_of l es)) ≤ suc (length es)
    go (refused r) rest = omega arith
    go (read q n) rest = omega arith
