-- The checks pass exactly on accepted input.
use Prim.Native.Nat.{ℕ, ◌≤◌}
use native.Mathlib.Omega.{arith}
use mathlib.Core.Path.{◌≡◌, refl}
use mathlib.Core.Logic.{◌↔◌}
use mathlib.Core.List.{List}
use mathlib.Core.Bool.{true}
use Rattle.answers.specs.declared.Refusal.{Refusal}
use Rattle.term.specs.Table.{table_accepted}
use Rattle.term.specs.Term.{Term}
use Rattle.term.specs.Pattern.{Pattern}
use Rattle.term.specs.Limits.{Octets}
use Rattle.reader.specs.Reading.{read, shown, read_record, read_pattern}
use Rattle.reader.proofs.Answers.{refused_shown, ends_shown}
use Rattle.reader.proofs.Typed.{record_iff, pattern_iff, record_read, pattern_read}
use Rattle.parts.specs.Shown.{answer_width}
use Rattle.reader.specs.Brought.{Brought, language_of, brought_accepted}
use Rattle.call.specs.Call.{checks}
use Rattle.call.specs.Verdict.{Verdict, passed, fault, reading, both}
use Rattle.call.proofs.Checks as every
use Rattle.matcher.specs.Call.{Input, AcceptedTrees, trees, rule_checked, checked, check_of}
use Rattle.std.specs.Prelude.{Ok, Err}

module _ (brought : Brought) (pattern bytes : List ℕ) (pattern_octets : Octets pattern) (record_octets : Octets bytes) where
  -- accepted input is what is read
  pub reads : (x : Pattern × Term) → AcceptedTrees (language_of brought) pattern bytes x ↔ ((table_accepted brought.table ≡ true) × (trees (language_of brought) pattern bytes ≡ passed x))
  reads x = (
    λ i. (
      i.table_accepted_holds,
      rw (
        (pattern_iff (language_of brought) pattern pattern_octets x.0).1 (i.pattern_bytes_holds, i.pattern_accepted),
        (record_iff (language_of brought) bytes record_octets x.1).1 (i.record_bytes, i.record_accepted),
      ),
    ),
    λ e.
        let b = every.both_passed (reading (read_pattern (language_of brought) pattern)) (reading (read_record (language_of brought) bytes)) x.0 x.1 e.1 in
        let p = every.reading_passed (read_pattern (language_of brought) pattern) x.0 b.0 in
        let r = every.reading_passed (read_record (language_of brought) bytes) x.1 b.1 in
        let q = pattern_read (language_of brought) pattern pattern_octets p.0 x.0 p.1 in
        let t = record_read (language_of brought) bytes record_octets r.0 x.1 r.1 in record {
          table_accepted_holds = e.0;
          pattern_bytes_holds = q.0;
          pattern_accepted = q.1;
          record_bytes = t.0;
          record_accepted = t.1;
        },
  )

  module _ (width : ℕ) (q : Pattern) (t : Term) where
    pub checked_exactly : (checked brought pattern bytes width ≡ passed (q, t))
        ↔ ((answer_width ≤ width) × (brought_accepted brought ≡ true) × Input (language_of brought) pattern bytes q t)
    checked_exactly = every.passed_exactly brought width (trees (language_of brought) pattern bytes) (AcceptedTrees (language_of brought) pattern bytes) reads (q, t)

-- what the code's checks tell

pub check_failed : {X : Type 0} (v : Verdict X) (r : Refusal) → Err r ≡ check_of v → (i : ℕ) × (v ≡ fault r i)
check_failed (fault x i) r e = (i, cc)
check_failed (passed x) r e = let z : ◌≡◌ {A = ℕ} 0 1 = cc in absurd (omega arith)

pub check_passed : {X : Type 0} (v : Verdict X) → Ok tt ≡ check_of v → (x : X) × (v ≡ passed x)
check_passed (fault x i) e = let z : ◌≡◌ {A = ℕ} 0 1 = cc in absurd (omega arith)
check_passed (passed x) e = (x, refl)

-- the pattern's own checks, by what is told of the ones before them
module _ (brought : Brought) (pattern : List ℕ) (width : ℕ) (wide : answer_width ≤ width) (tabled : table_accepted brought.table ≡ true)
    (classed : brought_accepted brought ≡ true) where
  own_rule : rule_checked brought pattern width ≡ reading (read_pattern (language_of brought) pattern)
  own_rule = every.then_own brought width (reading (read_pattern (language_of brought) pattern)) wide tabled classed

  pub pattern_fails : (r : Refusal) → shown (read_pattern (language_of brought) pattern) ≡ Err r → Err r ≡ check_of (rule_checked brought pattern width)
  pattern_fails r e = rw (own_rule, refused_shown (read_pattern (language_of brought) pattern) r e)

  pub pattern_passes : (n : ℕ) → shown (read_pattern (language_of brought) pattern) ≡ Ok n → Ok tt ≡ check_of (rule_checked brought pattern width)
  pattern_passes n e = rw (own_rule, (ends_shown (read_pattern (language_of brought) pattern) n e).1)

-- those of a call that go on after the pattern's
module _ (brought : Brought) (pattern : List ℕ) (width : ℕ) where
  pub rule_fails : {Y : Type 0} (f : Verdict Pattern → Verdict Y) → ((r : Refusal) (i : ℕ) → f (fault r i) ≡ fault r i) → (r : Refusal)
      → Err r ≡ check_of (rule_checked brought pattern width) → Err r ≡ check_of (checks brought width (f (reading (read_pattern (language_of brought) pattern))))
  rule_fails f strict r e =
      let c = check_failed (rule_checked brought pattern width) r e in
      rw (every.fault_first brought width (reading (read_pattern (language_of brought) pattern)) f strict r c.0 c.1)

  -- what was read, where they pass
  pub rule_passed : Ok tt ≡ check_of (rule_checked brought pattern width)
      → (answer_width ≤ width) × (brought_accepted brought ≡ true) × (table_accepted brought.table ≡ true) × ((q : Pattern) × (n : ℕ) × (read_pattern (language_of brought) pattern ≡ read q n))
  rule_passed e =
      let c = check_passed (rule_checked brought pattern width) e in
      let p = every.passed_checks brought width (reading (read_pattern (language_of brought) pattern)) c.0 c.1 in
      let r = every.reading_passed (read_pattern (language_of brought) pattern) c.0 p.3 in (p.0, p.1, p.2, (c.0, r.0, r.1))

  pub first_fails : (bytes : List ℕ) (r : Refusal) → Err r ≡ check_of (rule_checked brought pattern width) → Err r ≡ check_of (checked brought pattern bytes width)
  first_fails bytes = rule_fails (λ v. both v (reading (read_record (language_of brought) bytes))) (λ r i. refl)

  -- the record's
  module _ (bytes : List ℕ) (rule : Ok tt ≡ check_of (rule_checked brought pattern width)) where
    by_record : check_of (checked brought pattern bytes width) ≡ check_of (reading (read_record (language_of brought) bytes))
    by_record =
        let p = rule_passed rule in
        rw (every.then_own brought width (trees (language_of brought) pattern bytes) p.0 p.2 p.1, p.3.2) (go p.3.0 (reading (read_record (language_of brought) bytes)))
      where
        go : (q : Pattern) (v : Verdict Term) → check_of (both (passed q) v) ≡ check_of v
        go q (fault r i) = refl
        go q (passed t) = refl

    pub record_fails : (r : Refusal) → shown (read_record (language_of brought) bytes) ≡ Err r → Err r ≡ check_of (checked brought pattern bytes width)
    record_fails r e = rw (by_record, refused_shown (read_record (language_of brought) bytes) r e)

    pub all_pass : (m : ℕ) → shown (read_record (language_of brought) bytes) ≡ Ok m → Ok tt ≡ check_of (checked brought pattern bytes width)
    all_pass m e = rw (by_record, (ends_shown (read_record (language_of brought) bytes) m e).1)
