-- The checks pass exactly on accepted input.
use Prim.Native.Nat.{ℕ, ◌≤◌}
use native.Mathlib.Omega.{arith}
use mathlib.Core.Path.{◌≡◌, refl, sym, ap, subst, ◌∙◌}
use mathlib.Core.Logic.{◌↔◌}
use mathlib.Core.List.{List, []}
use mathlib.Core.Bool.{Bool, true, false, not, cond}
use Rattle.answers.specs.declared.Refusal.{Refusal}
use Rattle.answers.specs.declared.Refusal.TheVariants.{Loose}
use Rattle.term.specs.Limits.{Octets, PatternAccepted}
use Rattle.term.specs.Pattern.{Pattern, pattern_bytes}
use Rattle.term.specs.Table.{table_accepted}
use Rattle.term.specs.Term.{Term}
use Rattle.reader.specs.Reading.{read, shown, read_record, read_pattern}
use Rattle.reader.proofs.Answers.{refused_shown, ends_shown}
use Rattle.reader.proofs.Typed.{record_iff, pattern_iff, record_read, pattern_read}
use Rattle.parts.specs.Shown.{answer_width}
use Rattle.anti_pattern.specs.Variables.{free}
use Rattle.anti_pattern.specs.Language.{Language}
use Rattle.reader.specs.Brought.{Brought, language_of, brought_accepted}
use Rattle.call.specs.Verdict.{Verdict, passed, fault, check, reading, both}
use Rattle.call.proofs.Checks as every
use Rattle.matcher.specs.Call.{rule_checked, check_of}
use Rattle.matcher.proofs.Checks as matching
use Rattle.replace.specs.Call.{Input, firmly, trees, checked}
use Rattle.replace.specs.Filling.{TellsLoose}
use Rattle.replace.specs.Loose.{loose}
use Rattle.replace.proofs.Templates.{template_exactly}
use Rattle.std.specs.Prelude.{Ok, Err}

abbrev pub Trees : Type 0
Trees = (Pattern × Pattern) × Term

abbrev pub AcceptedTrees : Language → List ℕ → List ℕ → List ℕ → Trees → Type 0
AcceptedTrees l rule template bytes x = Input l rule template bytes x.0.0 x.0.1 x.1

firmly_passed : (v : Verdict (Pattern × Pattern)) (x : Pattern × Pattern) → firmly v ≡ passed x → (v ≡ passed x) × (loose (free x.0) x.1 ≡ false)
firmly_passed (fault r i) x e = absurd (every.fault_passed e)
firmly_passed (passed y) x e = go (loose (free y.0) y.1) refl e
  where
    go : (b : Bool) → loose (free y.0) y.1 ≡ b → check (not b) Loose (passed y) ≡ passed x → (passed y ≡ passed x) × (loose (free x.0) x.1 ≡ false)
    go true h e = absurd (every.fault_passed e)
    go false h e = let z : y ≡ x = cc in (e, subst (λ (w : Pattern × Pattern). loose (free w.0) w.1 ≡ false) z h)

module _ (brought : Brought) (rule template bytes : List ℕ) (rule_octets : Octets rule) (template_octets : Octets template) (record_octets : Octets bytes) where
  abbrev l : Language
  l = language_of brought

  -- accepted input is what is read
  reads : (x : Trees) → AcceptedTrees l rule template bytes x ↔ ((table_accepted brought.table ≡ true) × (trees l rule template bytes ≡ passed x))
  reads x = (
    λ i. (
      i.matched.table_accepted_holds,
      rw (
        (pattern_iff l rule rule_octets x.0.0).1 (i.matched.pattern_bytes_holds, i.matched.pattern_accepted),
        (pattern_iff l template template_octets x.0.1).1 (i.replacing.bytes, i.replacing.accepted),
        (record_iff l bytes record_octets x.1).1 (i.matched.record_bytes, i.matched.record_accepted),
        (template_exactly x.0.0 x.0.1).1 i.replacing.of_rule,
      ),
    ),
    λ e.
        let b = every.both_passed (firmly (both (reading (read_pattern l rule)) (reading (read_pattern l template)))) (reading (read_record l bytes)) x.0 x.1 e.1 in
        let f = firmly_passed (both (reading (read_pattern l rule)) (reading (read_pattern l template))) x.0 b.0 in
        let c = every.both_passed (reading (read_pattern l rule)) (reading (read_pattern l template)) x.0.0 x.0.1 f.0 in
        let p = every.reading_passed (read_pattern l rule) x.0.0 c.0 in
        let q = every.reading_passed (read_pattern l template) x.0.1 c.1 in
        let r = every.reading_passed (read_record l bytes) x.1 b.1 in
        let y = pattern_read l rule rule_octets p.0 x.0.0 p.1 in
        let z = pattern_read l template template_octets q.0 x.0.1 q.1 in
        let t = record_read l bytes record_octets r.0 x.1 r.1 in record {
          matched = record { table_accepted_holds = e.0; pattern_bytes_holds = y.0; pattern_accepted = y.1; record_bytes = t.0; record_accepted = t.1 };
          replacing = record { bytes = z.0; accepted = z.1; of_rule = (template_exactly x.0.0 x.0.1).0 f.1 };
        },
  )

  exactly : (x : Trees) → (checked brought rule template bytes ≡ passed x)
      ↔ ((answer_width ≤ answer_width) × (brought_accepted brought ≡ true) × AcceptedTrees l rule template bytes x)
  exactly x = every.passed_exactly brought answer_width (trees l rule template bytes) (AcceptedTrees l rule template bytes) reads x

  pub checked_input : (x : Trees) → checked brought rule template bytes ≡ passed x
      → (brought_accepted brought ≡ true) × Input l rule template bytes x.0.0 x.0.1 x.1
  checked_input x e = let z = (exactly x).0 e in (z.1, z.2)

  pub input_checked : brought_accepted brought ≡ true → (p q : Pattern) (t : Term) → Input l rule template bytes p q t
      → checked brought rule template bytes ≡ passed ((p, q), t)
  input_checked a p q t i = (exactly ((p, q), t)).1 (omega arith, a, i)

  -- a pattern that is loose in an accepted rule
  pub loose_checked : table_accepted brought.table ≡ true → brought_accepted brought ≡ true → (p q : Pattern) → pattern_bytes brought.table p [] ≡ rule → PatternAccepted l p
      → pattern_bytes brought.table q [] ≡ template → PatternAccepted l q → loose (free p) q ≡ true → checked brought rule template bytes ≡ fault Loose 0
  loose_checked tabled a p q pb pa qb qa h =
      every.then_own brought answer_width (trees l rule template bytes) (omega arith) tabled a
      ∙ rw ((pattern_iff l rule rule_octets p).1 (pb, pa), (pattern_iff l template template_octets q).1 (qb, qa), h)

-- what is read, by what is told of the parts
trees_are : (l : Language) (rule template bytes : List ℕ) (x : Pattern × Pattern) (n m : ℕ) (b : Bool) (v : Verdict Term) → read_pattern l rule ≡ read x.0 n
    → read_pattern l template ≡ read x.1 m → loose (free x.0) x.1 ≡ b → reading (read_record l bytes) ≡ v
    → trees l rule template bytes ≡ both (check (not b) Loose (passed x)) v
trees_are l rule template bytes x n m b v e f g h = rw (e, f, g, h)

-- each check by what is told of the ones before it

module _ (brought : Brought) (rule template bytes : List ℕ) where
  abbrev spoken : Language
  spoken = language_of brought

  pub rule_fails : (r : Refusal) → Err r ≡ check_of (rule_checked brought rule answer_width) → Err r ≡ check_of (checked brought rule template bytes)
  rule_fails = matching.rule_fails brought rule answer_width (λ v. both (firmly (both v (reading (read_pattern spoken template)))) (reading (read_record spoken bytes))) (λ r i. refl)

  module _ (ruled : Ok tt ≡ check_of (rule_checked brought rule answer_width)) where
    own : (v : Verdict Trees) → trees spoken rule template bytes ≡ v → checked brought rule template bytes ≡ v
    own v e =
        let p = matching.rule_passed brought rule answer_width ruled in
        every.then_own brought answer_width (trees spoken rule template bytes) p.0 p.2 p.1 ∙ e

    pub template_fails : (r : Refusal) → shown (read_pattern spoken template) ≡ Err r → Err r ≡ check_of (checked brought rule template bytes)
    template_fails r e =
        let p = matching.rule_passed brought rule answer_width ruled in
        sym (ap check_of (own (fault r 0) (rw (p.3.2, refused_shown (read_pattern spoken template) r e))))

    module _ (m : ℕ) (template_ends : shown (read_pattern spoken template) ≡ Ok m) (rule_octets : Octets rule) (template_octets : Octets template)
        (b : Bool) (loose_told : TellsLoose brought.table rule template b) where
      is_loose : (p : Pattern) (n : ℕ) → read_pattern spoken rule ≡ read p n → (q : Pattern) → read_pattern spoken template ≡ read q m → b ≡ loose (free p) q
      unfolding TellsLoose
      is_loose p n e q f =
          let a = (matching.rule_passed brought rule answer_width ruled).2 in
          let x = pattern_read spoken rule rule_octets n p e in
          let y = pattern_read spoken template template_octets m q f in
          loose_told p q (record { table_accepted_holds = a; bytes = x.0; fits = x.1.fits }) (record { table_accepted_holds = a; bytes = y.0; fits = y.1.fits })

      told : (v : Verdict Term) → reading (read_record spoken bytes) ≡ v
          → check_of (checked brought rule template bytes) ≡ check_of (cond b (fault Loose 0) v)
      told v e =
          let p = (matching.rule_passed brought rule answer_width ruled).3 in
          let q = ends_shown (read_pattern spoken template) m template_ends in
          let z = is_loose p.0 p.1 p.2 q.0 q.1 in
          let x : Pattern × Pattern = (p.0, q.0) in
          ap check_of (own (both (check (not b) Loose (passed x)) v) (trees_are spoken rule template bytes x p.1 m b v p.2 q.1 (sym z) e)) ∙ go x b v
        where
          go : (x : Pattern × Pattern) (c : Bool) (w : Verdict Term) → check_of (both (check (not c) Loose (passed x)) w) ≡ check_of (cond c (fault Loose 0) w)
          go x true w = refl
          go x false (fault r i) = refl
          go x false (passed t) = refl

      pub loose_fails : b ≡ true → Err Loose ≡ check_of (checked brought rule template bytes)
      loose_fails h = sym (told (reading (read_record spoken bytes)) refl ∙ ap (λ (c : Bool). check_of (cond c (fault Loose 0) (reading (read_record spoken bytes)))) h)

      module _ (firm : b ≡ false) where
        pub record_fails : (r : Refusal) → shown (read_record spoken bytes) ≡ Err r → Err r ≡ check_of (checked brought rule template bytes)
        record_fails r e =
            sym (told (fault r 0) (ap reading (refused_shown (read_record spoken bytes) r e)) ∙ ap (λ (c : Bool). check_of {X = Term} (cond c (fault Loose 0) (fault r 0))) firm)

        pub all_pass : (n : ℕ) → shown (read_record spoken bytes) ≡ Ok n → Ok tt ≡ check_of (checked brought rule template bytes)
        all_pass n e =
            let t = ends_shown (read_record spoken bytes) n e in
            sym (told (passed t.0) (ap reading t.1) ∙ ap (λ (c : Bool). check_of (cond c (fault Loose 0) (passed t.0))) firm)
