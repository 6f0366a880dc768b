-- The checks pass exactly on accepted input that is plain.
use Prim.Native.Nat.{ℕ, ◌≤◌}
use native.Mathlib.Omega.{arith}
use mathlib.Core.Path.{◌≡◌, refl, sym, ◌∙◌, ap}
use mathlib.Core.Logic.{◌↔◌}
use mathlib.Core.List.{List, []}
use mathlib.Core.Bool.{Bool, true, false, true≢false}
use lib.ListN.{length}
use Rattle.answers.specs.declared.Refusal.{Refusal}
use Rattle.answers.specs.declared.Refusal.TheVariants.{NotPlain}
use Rattle.term.specs.Limits.{Octets, PatternAccepted, longest_pattern}
use Rattle.term.specs.Pattern.{Pattern, pattern_bytes}
use Rattle.term.specs.Table.{table_accepted}
use Rattle.term.specs.Term.{Term}
use Rattle.reader.specs.Reading.{shown, read_record, read_pattern}
use Rattle.reader.proofs.Answers.{refused_shown, ends_shown}
use Rattle.reader.proofs.Typed.{pattern_read}
use Rattle.parts.specs.Shown.{answer_width}
use Rattle.link.specs.Input.{Input}
use Rattle.link.proofs.Linked.{table_short}
use Rattle.reader.specs.Brought.{Brought, language_of, brought_accepted}
use Rattle.call.specs.Verdict.{Verdict, passed, fault, check, reading, both}
use Rattle.call.proofs.Checks as every
use Rattle.matcher.specs.Call.{rule_checked, check_of}
use Rattle.matcher.proofs.Checks as matched
use Rattle.plain.specs.Bytes.{plain_from}
use Rattle.plain.specs.Call.{AcceptedPlain, plainly, plain_trees, plain_checked}
use Rattle.plain.specs.Check.{is_plain}
use Rattle.plain.specs.Plain.{Plain}
use Rattle.plain.proofs.Checking.{check_exact}
use Rattle.plain.proofs.Looked.{looked}
use Rattle.std.specs.Prelude.{Ok, Err}

-- a verdict that passes has the pattern that was read
first_passed : (p : Pattern) (w : Verdict Term) (q : Pattern) (t : Term) → both (passed p) w ≡ passed (q, t) → p ≡ q
first_passed p w q t e = let z = (every.both_passed (passed p) w q t e).0 in cc

plainly_passed : (v : Verdict Pattern) (w : Verdict Term) (q : Pattern) (t : Term)
    → (both (plainly v) w ≡ passed (q, t)) ↔ ((both v w ≡ passed (q, t)) × (is_plain q ≡ true))
plainly_passed (fault r i) w q t = (λ e. absurd (every.fault_passed e), λ e. absurd (every.fault_passed e.0))
plainly_passed (passed p) w q t = go (is_plain p) refl
  where
    go : (b : Bool) → is_plain p ≡ b
        → (both (check b NotPlain (passed p)) w ≡ passed (q, t)) ↔ ((both (passed p) w ≡ passed (q, t)) × (is_plain q ≡ true))
    go true h = (λ e. (e, sym (ap is_plain (first_passed p w q t e)) ∙ h), λ e. e.0)
    go false h = (
      λ e. absurd (every.fault_passed e),
      λ e. absurd (true≢false (sym e.1 ∙ sym (ap is_plain (first_passed p w q t e.0)) ∙ h)),
    )

module _ (brought : Brought) (pattern bytes : List ℕ) (pattern_octets : Octets pattern) (record_octets : Octets bytes) where
  -- accepted input is what is read
  pub reads : (x : Pattern × Term) → AcceptedPlain (language_of brought) pattern bytes x ↔ ((table_accepted brought.table ≡ true) × (plain_trees (language_of brought) pattern bytes ≡ passed x))
  reads x = (
    λ a.
        let i = (matched.reads brought pattern bytes pattern_octets record_octets x).0 a.0 in
        (i.0, both_plain.1 (i.1, (check_exact x.0).1 a.1)),
    λ e.
        let p = both_plain.0 e.1 in
        ((matched.reads brought pattern bytes pattern_octets record_octets x).1 (e.0, p.0), (check_exact x.0).0 p.1),
  )
    where
      both_plain : (plain_trees (language_of brought) pattern bytes ≡ passed x)
          ↔ ((both (reading (read_pattern (language_of brought) pattern)) (reading (read_record (language_of brought) bytes)) ≡ passed x) × (is_plain x.0 ≡ true))
      both_plain = plainly_passed (reading (read_pattern (language_of brought) pattern)) (reading (read_record (language_of brought) bytes)) x.0 x.1

  module _ (width : ℕ) (q : Pattern) (t : Term) where
    pub checked_exactly : (plain_checked brought pattern bytes width ≡ passed (q, t))
        ↔ ((answer_width ≤ width) × (brought_accepted brought ≡ true) × (Input (language_of brought) pattern bytes q t × Plain q))
    checked_exactly = every.passed_exactly brought width (plain_trees (language_of brought) pattern bytes) (AcceptedPlain (language_of brought) pattern bytes) reads (q, t)

-- the own checks

module _ (brought : Brought) (pattern bytes : List ℕ) (width : ℕ) where
  pub own_checked : answer_width ≤ width → table_accepted brought.table ≡ true → brought_accepted brought ≡ true
      → plain_checked brought pattern bytes width ≡ plain_trees (language_of brought) pattern bytes
  own_checked = every.then_own brought width (plain_trees (language_of brought) pattern bytes)

  pub first_fails : (r : Refusal) → Err r ≡ check_of (rule_checked brought pattern width) → Err r ≡ check_of (plain_checked brought pattern bytes width)
  first_fails = matched.rule_fails brought pattern width (λ v. both (plainly v) (reading (read_record (language_of brought) bytes))) (λ r i. refl)

  -- each by what is told of the ones before it
  module _ (octets : Octets pattern) (rule : Ok tt ≡ check_of (rule_checked brought pattern width)) where
    abbrev tree : Pattern
    tree = (matched.rule_passed brought pattern width rule).3.0

    accepted : (pattern_bytes brought.table tree [] ≡ pattern) × PatternAccepted (language_of brought) tree
    accepted = let p = matched.rule_passed brought pattern width rule in pattern_read (language_of brought) pattern octets p.3.1 tree p.3.2

    pub rule_short : length pattern ≤ longest_pattern
    rule_short = omega (arith, ap length accepted.0, accepted.1.short)

    plain_is : plain_from brought.table pattern false 0 ≡ is_plain tree
    plain_is =
        let p = matched.rule_passed brought pattern width rule in
        ap (λ (l : List ℕ). plain_from brought.table l false 0) (sym accepted.0) ∙ looked brought.table (table_short brought.table p.2) tree _ _ accepted.1.fits

    by_plain : plain_checked brought pattern bytes width
        ≡ both (check (plain_from brought.table pattern false 0) NotPlain (passed tree)) (reading (read_record (language_of brought) bytes))
    by_plain =
        let p = matched.rule_passed brought pattern width rule in
        rw (own_checked p.0 p.2 p.1, p.3.2)
        (ap (λ (b : Bool). both (check b NotPlain (passed tree)) (reading (read_record (language_of brought) bytes))) (sym plain_is))

    pub plain_fails : plain_from brought.table pattern false 0 ≡ false → Err NotPlain ≡ check_of (plain_checked brought pattern bytes width)
    plain_fails h = rw (by_plain, h)

    module _ (plain_is : plain_from brought.table pattern false 0 ≡ true) where
      pub record_fails : (r : Refusal) → shown (read_record (language_of brought) bytes) ≡ Err r → Err r ≡ check_of (plain_checked brought pattern bytes width)
      record_fails r e = rw (by_plain, plain_is, refused_shown (read_record (language_of brought) bytes) r e)

      pub all_pass : (m : ℕ) → shown (read_record (language_of brought) bytes) ≡ Ok m → Ok tt ≡ check_of (plain_checked brought pattern bytes width)
      all_pass m e = rw (by_plain, plain_is, (ends_shown (read_record (language_of brought) bytes) m e).1)
