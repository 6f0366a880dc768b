-- The checks pass exactly on accepted input.
use Prim.Native.Nat.{ℕ, suc, ◌+◌, ◌≤◌}
use native.Mathlib.Omega.{arith}
use mathlib.Core.Path.{◌≡◌, refl, sym, ◌∙◌, ap, ap₂}
use mathlib.Core.List.{List, [], ◌∷◌}
use mathlib.Core.Logic.{◌↔◌}
use mathlib.Core.Bool.{Bool, true, false}
use lib.ListN.{length, get_or}
use borrow.Author.Tests.{leb-true, le-leb}
use Rattle.answers.specs.declared.Refusal.{Refusal}
use Rattle.answers.specs.declared.Refusal.TheVariants.{Table, Class}
use Rattle.term.specs.Language.{Language}
use Rattle.term.specs.Table.{table_accepted}
use Rattle.term.specs.Term.{Term}
use Rattle.term.specs.Pattern.{Pattern}
use Rattle.term.specs.Limits.{Octets}
use Rattle.reader.specs.Reading.{Parsed, refused, read, shown, read_pattern, read_record}
use Rattle.reader.proofs.Answers.{refused_shown, ends_shown}
use Rattle.reader.proofs.Typed.{record_iff, pattern_iff, record_read, pattern_read}
use Rattle.term.specs.declared.Edition.{Edition}
use Rattle.sheet.specs.Check.{edition_of}
use Rattle.sheet.specs.Entry.{entries}
use Rattle.sheet.specs.Contents.{most_rules, read_entry, check_each, check_rules}
use Rattle.sheet.proofs.Checks.{accepted_directed, directed_accepted}
use Rattle.sheet.proofs.Entries.{entries_octets}
use Rattle.sheet.proofs.Contents.{among_checked, contents_table, contents_class, contents_each, contents_passed}
use Rattle.sheet.proofs.Readings.{accepted_reading}
use Rattle.reader.specs.Brought.{Brought, language_in, language_of, brought_accepted}
use Rattle.call.specs.Call.{answer_width, checks}
use Rattle.call.specs.Verdict.{Verdict, passed, fault, check, reading}
use Rattle.call.proofs.Checks as every
use Rattle.rules.specs.Call.{AllAccepted, rules_bytes, Input, AcceptedTrees, rules_of, rules_by, trees, checked, check_of}
use Rattle.rules.proofs.Rules.{input_directed, input_entries}
use Rattle.std.specs.Prelude.{Result, Ok, Err, None}
use Rattle.answers.specs.declared.Fault.{Fault}
use Rattle.answers.specs.Fault.{fault_at}

-- the entries that pass are read, each as a rule

module _ (l : Language) where
  pub entry_passed : (e : List ℕ) (es : List (List ℕ)) (i n : ℕ) → check_each false l i (e ∷ es) ≡ Ok n
      → (q : Pattern) × (m : ℕ) × (read_pattern l e ≡ read q m) × (check_each false l (i + 1) es ≡ Ok n)
  unfolding check_each read_entry shown
  entry_passed e es i n a = go (read_pattern l e) refl
    where
      go : (x : Parsed Pattern) → read_pattern l e ≡ x
          → (q : Pattern) × (m : ℕ) × (read_pattern l e ≡ read q m) × (check_each false l (i + 1) es ≡ Ok n)
      go (refused r) f = let z : ◌≡◌ {A = ℕ} 0 1 = cc in absurd (omega arith)
      go (read q m) f = (q, m, f, cc)

  pub rules_length : (es : List (List ℕ)) (i n : ℕ) → check_each false l i es ≡ Ok n → i + length (rules_of l es) ≡ n
  unfolding rules_of check_each
  rules_length [] i n a = let z : i ≡ n = cc in omega arith
  rules_length (e ∷ es) i n a = let p = entry_passed e es i n a in rw p.2 (omega (arith, rules_length es (i + 1) n p.3))

  pub rules_read : (es : List (List ℕ)) → ((j : ℕ) → Octets (get_or es j [])) → (i n : ℕ) → check_each false l i es ≡ Ok n
      → (rules_bytes l.table (rules_of l es) ≡ es) × AllAccepted l (rules_of l es)
  unfolding rules_of
  rules_read [] o i n a = (refl, tt)
  rules_read (e ∷ es) o i n a =
      let p = entry_passed e es i n a in
      let x = pattern_read l e (o 0) p.1 p.0 p.2 in
      let rest = rules_read es (λ j. o (suc j)) (i + 1) n p.3 in
      rw p.2 (ap₂ ◌∷◌ x.0 rest.0, (x.1, rest.1))

  pub rules_written : (qs : List Pattern) → AllAccepted l qs → ((j : ℕ) → Octets (get_or (rules_bytes l.table qs) j [])) → (i : ℕ)
      → (rules_of l (rules_bytes l.table qs) ≡ qs) × (check_each false l i (rules_bytes l.table qs) ≡ Ok (i + length qs))
  unfolding rules_of check_each read_entry shown
  rules_written [] a o i = (refl, ap Ok (omega arith))
  rules_written (q ∷ qs) a o i =
      let rest = rules_written qs a.1 (λ j. o (suc j)) (i + 1) in
      let z : i + 1 + length qs ≡ i + suc (length qs) = omega arith in
      rw ((pattern_iff l _ (o 0) q).1 (refl, a.0)) (ap (λ (ps : List Pattern). q ∷ ps) rest.0, rest.1 ∙ ap Ok z)

pub rules_passed : (v : Result ℕ Fault) (ps qs : List Pattern) → rules_by v ps ≡ passed qs → (n : ℕ) × (v ≡ Ok n) × (ps ≡ qs)
rules_passed (Err f) ps qs e = absurd (every.fault_passed e)
rules_passed (Ok n) ps qs e = (n, refl, cc)

-- the entries of a sheet that passes, in its edition
each_like : (brought : Brought) (sheet : List ℕ) → edition_of sheet ≡ brought.edition → (n : ℕ) → check_rules brought.table brought.list sheet ≡ Ok n
    → check_each false (language_of brought) 0 (entries sheet) ≡ Ok n
each_like brought sheet like n a = rw like at (contents_passed false None brought.table brought.list sheet n a).each

module _ (brought : Brought) (sheet bytes : List ℕ) (sheet_octets : Octets sheet) (record_octets : Octets bytes) (like : edition_of sheet ≡ brought.edition) where
  -- accepted input is what is read
  pub reads : (x : List Pattern × Term) → AcceptedTrees brought sheet bytes x ↔ ((table_accepted brought.table ≡ true) × (trees brought sheet bytes ≡ passed x))
  reads x = (
    λ i.
        let qs = x.0 in
        let e = input_entries brought sheet bytes qs x.1 i in
        let w = rules_written (language_of brought) qs i.rules_accepted (λ j. rw (← e) (entries_octets sheet sheet_octets j)) 0 in
        let a = directed_accepted sheet (length qs) (input_directed brought sheet bytes qs x.1 i) in
        let c = contents_each false None brought.table brought.list sheet i.table_accepted_holds i.list_accepted_holds (length qs)
        (among_checked None sheet (length qs) true a refl) (le-leb (length qs) most_rules i.few_rules)
        ∙ ap₂ (λ (x : Edition) (y : List (List ℕ)). check_each false (language_in x brought.table brought.list) 0 y) like e ∙ w.1 in
        (i.table_accepted_holds, rw (c, e, w.0, (record_iff (language_of brought) bytes record_octets x.1).1 (i.record_bytes, i.record_accepted))),
    λ e.
        let qs = x.0 in
        let es = entries sheet in
        let b = every.both_passed (rules_by (check_rules brought.table brought.list sheet) (rules_of (language_of brought) es)) (reading (read_record (language_of brought) bytes)) qs x.1 e.1 in
        let p = rules_passed (check_rules brought.table brought.list sheet) (rules_of (language_of brought) es) qs b.0 in
        let y = every.reading_passed (read_record (language_of brought) bytes) x.1 b.1 in
        let n = p.0 in
        let c = contents_passed false None brought.table brought.list sheet n p.1 in
        let d = accepted_directed sheet n c.sheet in
        let s = rw p.2 at (rules_read (language_of brought) es (entries_octets sheet sheet_octets) 0 n (each_like brought sheet like n p.1)) in
        let few : length qs ≡ n = omega (arith, ap length p.2, rules_length (language_of brought) es 0 n (each_like brought sheet like n p.1)) in
        let r = record_read (language_of brought) bytes record_octets y.0 x.1 y.1 in record {
          table_accepted_holds = c.tabled;
          list_accepted_holds = c.classed;
          sheet_bytes_holds = rw (s.0, ← like) (accepted_reading sheet n sheet_octets d).bytes;
          sheet_short = d.short;
          few_rules = rw few (leb-true n most_rules c.not_many);
          rules_accepted = s.1;
          record_bytes = r.0;
          record_accepted = r.1;
        },
  )

  module _ (width : ℕ) (qs : List Pattern) (t : Term) where
    pub checked_exactly : (checked brought sheet bytes width ≡ passed (qs, t))
        ↔ ((answer_width ≤ width) × (brought_accepted brought ≡ true) × Input brought sheet bytes qs t)
    checked_exactly = every.passed_exactly brought width (trees brought sheet bytes) (AcceptedTrees brought sheet bytes) reads (qs, t)

-- what the code's checks tell

pub check_failed : (v : Verdict (List Pattern × Term)) (f : Fault) → Err f ≡ check_of v → v ≡ fault f.refusal f.index
check_failed (fault x j) f e = let z : f ≡ fault_at x j = cc in ap (λ (g : Fault). fault g.refusal g.index) (sym z)
check_failed (passed x) f e = let z : ◌≡◌ {A = ℕ} 0 1 = cc in absurd (omega arith)

pub check_passed : (v : Verdict (List Pattern × Term)) (n : ℕ) → Ok n ≡ check_of v → (qs : List Pattern) × (t : Term) × (v ≡ passed (qs, t))
check_passed (fault x j) n e = let z : ◌≡◌ {A = ℕ} 0 1 = cc in absurd (omega arith)
check_passed (passed x) n e = (x.0, x.1, refl)

-- the own checks, each by what is told of the ones before it

module _ (brought : Brought) (sheet bytes : List ℕ) (like : edition_of sheet ≡ brought.edition) (width : ℕ) (wide : answer_width ≤ width) where
  pub sheet_fails : (f : Fault) → check_rules brought.table brought.list sheet ≡ Err f → Err f ≡ check_of (checked brought sheet bytes width)
  unfolding checks
  sheet_fails f e = rw (le-leb answer_width width wide, e) (go (table_accepted brought.table) refl (brought_accepted brought) refl)
    where
      go : (m : Bool) → table_accepted brought.table ≡ m → (k : Bool) → brought_accepted brought ≡ k
          → Err f ≡ check_of (check m Table (check k Class (fault f.refusal f.index)))
      go true h true g = refl
      go true h false g = sym e ∙ contents_class false None brought.table brought.list sheet h g
      go false h k g = sym e ∙ contents_table false None brought.table brought.list sheet h

  module _ (n : ℕ) (passes : check_rules brought.table brought.list sheet ≡ Ok n) where
    own_checked : checked brought sheet bytes width ≡ trees brought sheet bytes
    own_checked =
        let p = contents_passed false None brought.table brought.list sheet n passes in
        every.then_own brought width (trees brought sheet bytes) wide p.tabled p.classed

    pub record_fails : (r : Refusal) → shown (read_record (language_of brought) bytes) ≡ Err r
        → Err (fault_at r 0) ≡ check_of (checked brought sheet bytes width)
    record_fails r e = rw (own_checked, passes, refused_shown (read_record (language_of brought) bytes) r e)

    pub all_pass : (m : ℕ) → shown (read_record (language_of brought) bytes) ≡ Ok m → Ok n ≡ check_of (checked brought sheet bytes width)
    all_pass m e =
        rw (own_checked, passes, (ends_shown (read_record (language_of brought) bytes) m e).1)
        (ap Ok (omega (arith, rules_length (language_of brought) (entries sheet) 0 n (each_like brought sheet like n passes))))
