-- The checks of rules and templates: what the code's loop comes to, and that they pass exactly where the sheets hold rules with templates.
use Prim.Native.Nat.{ℕ, suc, ◌+◌, ◌<◌, ◌≤◌}
use native.Mathlib.Omega.{arith}
use mathlib.Core.Path.{◌≡◌, refl, sym, ◌∙◌, ap, ap₂, subst}
use mathlib.Core.List.{List, [], ◌∷◌}
use mathlib.Core.Bool.{Bool, true, false, cond, true≢false}
use lib.Dec.{eqb}
use lib.ListN.{length, get_or, drop, drop_of_length-le, length-map}
use lib.Seq.{drop-cons}
use borrow.Author.Tests.{le-leb, leb-true, eqb-true, eq-eqb}
use Rattle.answers.specs.declared.Refusal.{Refusal}
use Rattle.answers.specs.declared.Refusal.TheVariants.{Directory, Loose}
use Rattle.term.specs.Language.{Language}
use Rattle.term.specs.declared.Edition.{Edition}
use Rattle.term.specs.declared.Edition.TheVariants.{One, Two}
use Rattle.term.specs.Limits.{Octets, PatternAccepted}
use Rattle.term.specs.Pattern.{Pattern, name, pattern_bytes}
use Rattle.term.specs.Table.{table_accepted}
use Rattle.anti_pattern.specs.Variables.{free}
use Rattle.reader.specs.Reading.{Parsed, refused, read, shown, read_pattern}
use Rattle.reader.proofs.Answers.{refused_shown, ends_shown}
use Rattle.reader.proofs.Typed.{pattern_iff, pattern_read}
use Rattle.reader.specs.Brought.{Brought, language_in, language_of, brought_accepted}
use Rattle.call.specs.Verdict.{Verdict, passed, fault}
use Rattle.call.proofs.Checks.{fault_passed}
use Rattle.sheet.specs.Check.{entry_count, edition_of, check_sheet, allowed, check_among}
use Rattle.sheet.specs.Contents.{most_rules, check_each}
use Rattle.sheet.specs.Entry.{entries, part_at}
use Rattle.sheet.proofs.Checks.{accepted_directed, directed_accepted}
use Rattle.sheet.proofs.Contents.{among_checked, among_sheet, contents_each, ContentsPassed, contents_passed}
use Rattle.sheet.proofs.Entries.{part_entry, entry_octets, entries_count, entries_octets}
use Rattle.sheet.proofs.Readings.{accepted_reading}
use Rattle.replace.specs.Filling.{TellsLoose}
use Rattle.replace.specs.Loose.{loose}
use Rattle.replace.proofs.Templates.{template_exactly}
use Rattle.rules.specs.Call.{AllAccepted, rules_bytes, rules_by, rules_of}
use Rattle.rules.proofs.Checks.{rules_length, rules_read, rules_written, rules_passed}
use Rattle.rules.proofs.Rules.{rule_at as pattern_at, rule_bytes, rule_accepted}
use Rattle.game.specs.Accepted.{EachAccepted}
use Rattle.game.specs.Call.{patterns, templates, Side, with_rule, with_template, templates_from, templates_by, check_own, check_templates, side_by, side}
use Rattle.game.specs.Move.{Rule}
use Rattle.game.specs.Turns.{check_of, RulesChecked, ChecksTemplates}
use Rattle.game.proofs.Sides.{patterns_accepted, part_of_holds, written_entries, written_sheet, written_like}
use Rattle.std.specs.Prelude.{Result, Ok, Err, Some}
use Rattle.answers.specs.declared.Fault.{Fault}
use Rattle.answers.specs.Fault.{fault_at}

-- what the code's checks tell

pub check_failed : {X : Type 0} (v : Verdict X) (r : Refusal) (i : ℕ) → check_of v ≡ Err (fault_at r i) → v ≡ fault r i
check_failed (fault x j) r i e =
    let z : ◌≡◌ {A = Fault} (fault_at x j) (fault_at r i) = cc in ap (λ (f : Fault). fault f.refusal f.index) z
check_failed (passed x) r i e = let z : ◌≡◌ {A = ℕ} 0 1 = cc in absurd (omega arith)

pub check_passed : {X : Type 0} (v : Verdict X) → check_of v ≡ Ok tt → (x : X) × (v ≡ passed x)
check_passed (fault x j) e = let z : ◌≡◌ {A = ℕ} 0 1 = cc in absurd (omega arith)
check_passed (passed x) e = (x, refl)

rule_checked_holds : (p q : Pattern) (v : Verdict (List Rule)) → check_of (with_rule p q v) ≡ check_of v
rule_checked_holds p q (fault r i) = refl
rule_checked_holds p q (passed rs) = refl

module _ {A : Type 0} where
  drop_next : (xs : List A) (i : ℕ) (d : A) → i < length xs → drop i xs ≡ get_or xs i d ∷ drop (i + 1) xs
  drop_next xs i d h = let z : suc i ≡ i + 1 = omega arith in drop-cons xs i d h ∙ ap (λ (m : ℕ). get_or xs i d ∷ drop m xs) z

module _ (l : Language) (rule_sheet template_sheet : List ℕ) where
  abbrev ps : List Pattern
  ps = rules_of l (entries rule_sheet)

  abbrev es : List (List ℕ)
  es = entries template_sheet

  -- the templates before index i pass
  pub record CheckedTo (k i : ℕ) : Type 0 where
    pub counted : k ≡ entry_count template_sheet
    pub going : (n : ℕ) → RulesChecked l rule_sheet n → check_sheet template_sheet ≡ Ok n
        → check_of (templates_from l 0 ps es) ≡ check_of (templates_from l i (drop i ps) (drop i es))

  pub check_starts : (k : ℕ) → k ≡ entry_count template_sheet → CheckedTo k 0
  check_starts k c = record { counted = c; going = λ n a b. refl }

  module _ (rules_octets : Octets rule_sheet) (templates_octets : Octets template_sheet) (k i : ℕ) (at : CheckedTo k i) where
    -- past the last
    pub check_ends : k ≤ i → ChecksTemplates l rule_sheet template_sheet (Ok tt)
    unfolding ChecksTemplates templates_from
    check_ends h n a b =
        let c = (accepted_directed template_sheet n b).counted in
        let z = rules_length l (entries rule_sheet) 0 n a.each in
        sym (at.going n a b
        ∙ ap₂ (λ (ys : List Pattern) (zs : List (List ℕ)). check_of (templates_from l i ys zs)) (drop_of_length-le ps {i = i} (omega (arith, z, at.counted, c)))
        (drop_of_length-le es {i = i} (omega (arith, entries_count template_sheet n b, at.counted, c))))

    module _ (below : i < k) (rule template : List ℕ) (is_rule : rule ≡ part_at rule_sheet i) (is_template : template ≡ part_at template_sheet i) where
      -- the rule of the index, and what is left
      next_rule : (n : ℕ) → RulesChecked l rule_sheet n → check_sheet template_sheet ≡ Ok n
          → (p : Pattern) × (pattern_bytes l.table p [] ≡ rule) × PatternAccepted l p
          × (check_of (templates_from l 0 ps es) ≡ check_of (with_template i p (read_pattern l template) (templates_from l (i + 1) (drop (i + 1) ps) (drop (i + 1) es))))
      unfolding templates_from
      next_rule n a b =
          let c = accepted_directed template_sheet n b in
          let d = accepted_directed rule_sheet n a.directory in
          let z = rules_length l (entries rule_sheet) 0 n a.each in
          let y = rules_read l (entries rule_sheet) (entries_octets rule_sheet rules_octets) 0 n a.each in
          let low : i < n = omega (arith, at.counted, c.counted) in
          let few : i < length ps = omega (arith, z) in
          let dp = drop_next ps i (name 0) few in
          let de : drop i es ≡ template ∷ drop (i + 1) es =
          drop_next es i [] (omega (arith, entries_count template_sheet n b)) ∙ ap (λ (e : List ℕ). e ∷ drop (i + 1) es) (part_of_holds template_sheet n i c low ∙ sym is_template) in (
            pattern_at ps i,
            sym (rule_bytes l.table ps i few) ∙ ap (λ (ys : List (List ℕ)). get_or ys i []) y.0 ∙ part_of_holds rule_sheet n i d low ∙ sym is_rule,
            rule_accepted l ps i few y.1,
            at.going n a b ∙ ap₂ (λ (ys : List Pattern) (zs : List (List ℕ)). check_of (templates_from l i ys zs)) dp de,
          )

      pub template_refused : (r : Refusal) → shown (read_pattern l template) ≡ Err r → ChecksTemplates l rule_sheet template_sheet (Err (fault_at r i))
      unfolding ChecksTemplates
      template_refused r e n a b =
          let x = next_rule n a b in
          sym (x.3 ∙ ap (λ (y : Parsed Pattern). check_of (with_template i x.0 y (templates_from l (i + 1) (drop (i + 1) ps) (drop (i + 1) es))))
          (refused_shown (read_pattern l template) r e))

      template_octets : (n : ℕ) → check_sheet template_sheet ≡ Ok n → Octets template
      template_octets n b =
          let c = accepted_directed template_sheet n b in
          subst Octets (sym (is_template ∙ part_entry template_sheet n i c (omega (arith, at.counted, c.counted)))) (entry_octets template_sheet templates_octets i)

      read_on : (m : ℕ) → shown (read_pattern l template) ≡ Ok m → (r : Bool) → TellsLoose l.table rule template r → (n : ℕ)
          → RulesChecked l rule_sheet n → check_sheet template_sheet ≡ Ok n
          → check_of (templates_from l 0 ps es) ≡ check_of (cond r (fault Loose i) (templates_from l (i + 1) (drop (i + 1) ps) (drop (i + 1) es)))
      unfolding TellsLoose
      read_on m e r f n a b =
          let x = next_rule n a b in
          let y = ends_shown (read_pattern l template) m e in
          let t = pattern_read l template (template_octets n b) m y.0 y.1 in
          let tabled = a.tabled in
          let z : r ≡ loose (free x.0) y.0 = f x.0 y.0 (record { table_accepted_holds = tabled; bytes = x.1; fits = x.2.fits })
          (record { table_accepted_holds = tabled; bytes = t.0; fits = t.1.fits }) in
          x.3 ∙ ap (λ (w : Parsed Pattern). check_of (with_template i x.0 w (templates_from l (i + 1) (drop (i + 1) ps) (drop (i + 1) es)))) y.1
          ∙ ap (λ (w : Bool). check_of (cond w (fault Loose i) (with_rule x.0 y.0 (templates_from l (i + 1) (drop (i + 1) ps) (drop (i + 1) es))))) (sym z)
          ∙ by r x.0 y.0
        where
          by : (w : Bool) (p q : Pattern) → check_of (cond w (fault Loose i) (with_rule p q (templates_from l (i + 1) (drop (i + 1) ps) (drop (i + 1) es))))
              ≡ check_of (cond w (fault Loose i) (templates_from l (i + 1) (drop (i + 1) ps) (drop (i + 1) es)))
          by true p q = refl
          by false p q = rule_checked_holds p q (templates_from l (i + 1) (drop (i + 1) ps) (drop (i + 1) es))

      pub template_loose : (m : ℕ) → shown (read_pattern l template) ≡ Ok m → (r : Bool) → TellsLoose l.table rule template r → r ≡ true
          → ChecksTemplates l rule_sheet template_sheet (Err (fault_at Loose i))
      unfolding ChecksTemplates
      template_loose m e r f t n a b =
          sym (read_on m e r f n a b ∙ ap (λ (w : Bool). check_of (cond w (fault Loose i) (templates_from l (i + 1) (drop (i + 1) ps) (drop (i + 1) es)))) t)

      pub template_passes : (m : ℕ) → shown (read_pattern l template) ≡ Ok m → (r : Bool) → TellsLoose l.table rule template r → r ≡ false → CheckedTo k (i + 1)
      template_passes m e r f t = record {
        counted = at.counted;
        going = λ n a b.
            read_on m e r f n a b ∙ ap (λ (w : Bool). check_of (cond w (fault Loose i) (templates_from l (i + 1) (drop (i + 1) ps) (drop (i + 1) es)))) t;
      }

-- the checks of one side

same_edition_holds : (a b : Edition) → allowed (Some a) b ≡ true → b ≡ a
same_edition_holds One One h = refl
same_edition_holds One Two h = absurd (true≢false (sym h))
same_edition_holds Two One h = absurd (true≢false (sym h))
same_edition_holds Two Two h = refl

edition_same : (a b : Edition) → b ≡ a → allowed (Some a) b ≡ true
edition_same One One h = refl
edition_same One Two h = let z : ◌≡◌ {A = ℕ} 0 1 = cc in absurd (omega arith)
edition_same Two One h = let z : ◌≡◌ {A = ℕ} 0 1 = cc in absurd (omega arith)
edition_same Two Two h = refl

module _ (brought : Brought) (rule_sheet template_sheet : List ℕ) where
  abbrev lang : Language
  lang = language_of brought

  abbrev rules : List Pattern
  rules = rules_of lang (entries rule_sheet)

  pub rules_fail : (r : Refusal) (i : ℕ) → check_own brought rule_sheet ≡ Err (fault_at r i) → Err (fault_at r i) ≡ check_of (side brought rule_sheet template_sheet)
  unfolding side
  rules_fail r i e = rw e

  module _ (n : ℕ) (own : check_own brought rule_sheet ≡ Ok n) where
    own_passed : ContentsPassed false (Some brought.edition) brought.table brought.list rule_sheet n
    own_passed = contents_passed false (Some brought.edition) brought.table brought.list rule_sheet n own

    own_like : edition_of rule_sheet ≡ brought.edition
    own_like = same_edition_holds brought.edition (edition_of rule_sheet) own_passed.like

    rules_checked : RulesChecked lang rule_sheet n
    rules_checked = record { tabled = own_passed.tabled; directory = own_passed.sheet; each = rw own_like at own_passed.each }

    pub sheet_fails : (r : Refusal) (i : ℕ) → check_templates lang template_sheet ≡ Err (fault_at r i) → Err (fault_at r i) ≡ check_of (side brought rule_sheet template_sheet)
    unfolding side
    sheet_fails r i e = rw (own, e)

    rules_counted : length rules ≡ n
    rules_counted = omega (arith, rules_length lang (entries rule_sheet) 0 n rules_checked.each)

    templates_sheet : (m : ℕ) → check_templates lang template_sheet ≡ Ok m → check_sheet template_sheet ≡ Ok m
    templates_sheet m e = (among_sheet (Some brought.edition) template_sheet m e).0

    pub numbers_fail : (m : ℕ) → check_templates lang template_sheet ≡ Ok m → (m ≡ n → ⊥)
        → Err (fault_at Directory 0) ≡ check_of (side brought rule_sheet template_sheet)
    unfolding side
    numbers_fail m e d = rw (own, e) (go (eqb m (length rules)) refl)
      where
        go : (b : Bool) → eqb m (length rules) ≡ b → Err (fault_at Directory 0) ≡ check_of (cond b (templates_from lang 0 rules (entries template_sheet)) (fault Directory 0))
        go true h = absurd (d (eqb-true m (length rules) h ∙ rules_counted))
        go false h = refl

    pub templates_tell : (m : ℕ) → check_templates lang template_sheet ≡ Ok m → m ≡ n → (r : Result (Unit {0}) Fault) (x : Language)
        → x ≡ language_of brought → ChecksTemplates x rule_sheet template_sheet r
        → r ≡ check_of (side brought rule_sheet template_sheet)
    unfolding side ChecksTemplates
    templates_tell m e c r x is f =
        let w : eqb m (length rules) ≡ true = eq-eqb m (length rules) (c ∙ sym rules_counted) in
        let g = subst (λ (y : Language). ChecksTemplates y rule_sheet template_sheet r) is f in
        rw (own, e, w) (g n rules_checked (templates_sheet m e ∙ ap Ok c))

-- the templates that pass, and those that are written

module _ (l : Language) where
  with_passed : (i : ℕ) (p : Pattern) (x : Parsed Pattern) (v : Verdict (List Rule)) (rs : List Rule) → with_template i p x v ≡ passed rs
      → (q : Pattern) × (m : ℕ) × (ts : List Rule) × (x ≡ read q m) × (loose (free p) q ≡ false) × (v ≡ passed ts)
      × (rs ≡ record { pattern = p; template = q } ∷ ts)
  with_passed i p (refused r) v rs e = absurd (fault_passed e)
  with_passed i p (read q m) v rs e = go (loose (free p) q) refl v e
    where
      go : (b : Bool) → loose (free p) q ≡ b → (v : Verdict (List Rule)) → cond b (fault Loose i) (with_rule p q v) ≡ passed rs
          → (y : Pattern) × (k : ℕ) × (ts : List Rule) × (read q m ≡ read y k) × (loose (free p) y ≡ false) × (v ≡ passed ts)
          × (rs ≡ record { pattern = p; template = y } ∷ ts)
      go true h v e = absurd (fault_passed e)
      go false h (fault r j) e = absurd (fault_passed e)
      go false h (passed ts) e = (q, m, ts, refl, h, refl, sym (passed_same e))
        where
          passed_same : {x y : List Rule} → ◌≡◌ {A = Verdict (List Rule)} (passed x) (passed y) → x ≡ y
          passed_same h = cc

  templates_read : (ps : List Pattern) (es : List (List ℕ)) → ((j : ℕ) → Octets (get_or es j [])) → length es ≡ length ps → AllAccepted l ps → (i : ℕ) (rs : List Rule)
      → templates_from l i ps es ≡ passed rs → (patterns rs ≡ ps) × (rules_bytes l.table (templates rs) ≡ es) × EachAccepted l rs
  unfolding templates_from
  templates_read [] [] o h a i rs e = subst (λ (ys : List Rule). (patterns ys ≡ []) × (rules_bytes l.table (templates ys) ≡ []) × EachAccepted l ys) (passed_same e) (refl, refl, tt)
    where
      passed_same : {x y : List Rule} → ◌≡◌ {A = Verdict (List Rule)} (passed x) (passed y) → x ≡ y
      passed_same h = cc
  templates_read [] (x ∷ es) o h a i rs e = absurd (omega (arith, h))
  templates_read (p ∷ ps) [] o h a i rs e = absurd (omega (arith, h))
  templates_read (p ∷ ps) (x ∷ es) o h a i rs e =
      let w = with_passed i p (read_pattern l x) (templates_from l (i + 1) ps es) rs e in
      let q = w.0 in
      let rest = templates_read ps es (λ j. o (suc j)) (omega (arith, h)) a.1 (i + 1) w.2 w.5 in
      let t = pattern_read l x (o 0) w.1 q w.3 in
      subst (λ (ys : List Rule). (patterns ys ≡ p ∷ ps) × (rules_bytes l.table (templates ys) ≡ x ∷ es) × EachAccepted l ys) (sym w.6) (
        ap (λ (ys : List Pattern). p ∷ ys) rest.0,
        ap₂ ◌∷◌ t.0 rest.1,
        (record { pattern = a.0; template = t.1; of_rule = (template_exactly p q).0 w.4 }, rest.2),
      )

  templates_written : (rs : List Rule) → EachAccepted l rs → ((j : ℕ) → Octets (get_or (rules_bytes l.table (templates rs)) j [])) → (i : ℕ)
      → templates_from l i (patterns rs) (rules_bytes l.table (templates rs)) ≡ passed rs
  unfolding templates_from
  templates_written [] a o i = refl
  templates_written (r ∷ rs) a o i =
      let rest = templates_written rs a.1 (λ j. o (suc j)) (i + 1) in
      rw ((pattern_iff l _ (o 0) r.template).1 (refl, a.0.template), (template_exactly r.pattern r.template).1 a.0.of_rule, rest)

module _ (brought : Brought) (rule_sheet template_sheet : List ℕ) (tabled : table_accepted brought.table ≡ true) (classed : brought_accepted brought ≡ true)
    (rules_octets : Octets rule_sheet) (templates_octets : Octets template_sheet) where
  abbrev l : Language
  l = language_of brought

  pub side_read : (rs : List Rule) → Side l rule_sheet template_sheet rs → side brought rule_sheet template_sheet ≡ passed rs
  unfolding side
  side_read rs d =
      let ae = written_entries l rule_sheet (patterns rs) d.rules_bytes_holds d.rules_short in
      let ad = written_sheet l rule_sheet (patterns rs) d.rules_bytes_holds d.rules_short in
      let al = written_like l rule_sheet (patterns rs) d.rules_bytes_holds d.rules_short in
      let be = written_entries l template_sheet (templates rs) d.templates_bytes d.templates_short in
      let bd = written_sheet l template_sheet (templates rs) d.templates_bytes d.templates_short in
      let bl = written_like l template_sheet (templates rs) d.templates_bytes d.templates_short in
      let w = rules_written l (patterns rs) (patterns_accepted l rs d.accepted) (λ j. rw (← ae) (entries_octets rule_sheet rules_octets j)) 0 in
      let x : check_among (Some brought.edition) rule_sheet ≡ Ok (length (patterns rs)) =
      among_checked (Some brought.edition) rule_sheet (length (patterns rs)) true (directed_accepted rule_sheet (length (patterns rs)) ad) (edition_same brought.edition (edition_of rule_sheet) al) in
      let y : check_templates l template_sheet ≡ Ok (length (templates rs)) =
      among_checked (Some brought.edition) template_sheet (length (templates rs)) true (directed_accepted template_sheet (length (templates rs)) bd) (edition_same brought.edition (edition_of template_sheet) bl) in
      let c : check_own brought rule_sheet ≡ Ok (length (patterns rs)) =
      contents_each false (Some brought.edition) brought.table brought.list rule_sheet tabled classed (length (patterns rs)) x
      (le-leb (length (patterns rs)) most_rules (omega (arith, length-map rs (λ r. r.pattern), d.few_rules)))
      ∙ ap₂ (λ (v : Edition) (es : List (List ℕ)). check_each false (language_in v brought.table brought.list) 0 es) al ae
      ∙ w.1 ∙ ap Ok (let z : 0 + length (patterns rs) ≡ length (patterns rs) = omega arith in z) in
      let z : eqb (length (templates rs)) (length (patterns rs)) ≡ true = eq-eqb (length (templates rs)) (length (patterns rs)) (omega (arith, length-map rs (λ r. r.pattern), length-map rs (λ r. r.template))) in
      rw (c, ae, w.0, y, z, be)
      (templates_written l rs d.accepted (λ j. rw (← be) (entries_octets template_sheet templates_octets j)) 0)

  pub read_side : (rs : List Rule) → side brought rule_sheet template_sheet ≡ passed rs → Side l rule_sheet template_sheet rs
  unfolding side
  read_side rs e = go (rules_by (check_own brought rule_sheet) (rules_of l (entries rule_sheet))) refl e
    where
      by_sheet : (n : ℕ) → check_own brought rule_sheet ≡ Ok n → (x : Result ℕ Fault) → check_templates l template_sheet ≡ x
          → templates_by l (rules_of l (entries rule_sheet)) template_sheet x ≡ passed rs → Side l rule_sheet template_sheet rs
      by_sheet n own (Err y) f e = absurd (fault_passed e)
      by_sheet n own (Ok m) f e = by_number (eqb m (length ps)) refl e
        where
          ps : List Pattern
          ps = rules_of l (entries rule_sheet)

          by_number : (b : Bool) → eqb m (length ps) ≡ b → cond b (templates_from l 0 ps (entries template_sheet)) (fault Directory 0) ≡ passed rs
              → Side l rule_sheet template_sheet rs
          by_number false h e = absurd (fault_passed e)
          by_number true h e =
              let o = own_passed brought rule_sheet template_sheet n own in
              let x = rules_checked brought rule_sheet template_sheet n own in
              let like = own_like brought rule_sheet template_sheet n own in
              let theirs = among_sheet (Some brought.edition) template_sheet m f in
              let likewise = same_edition_holds brought.edition (edition_of template_sheet) theirs.1 in
              let d = accepted_directed rule_sheet n x.directory in
              let c = accepted_directed template_sheet m theirs.0 in
              let y = rules_read l (entries rule_sheet) (entries_octets rule_sheet rules_octets) 0 n x.each in
              let z = rules_length l (entries rule_sheet) 0 n x.each in
              let k = eqb-true m (length ps) h in
              let t = templates_read l ps (entries template_sheet) (entries_octets template_sheet templates_octets) (entries_count template_sheet m theirs.0 ∙ k) y.1 0 rs e in
              record {
                rules_bytes_holds = rw (t.0, y.0, ← like) (accepted_reading rule_sheet n rules_octets d).bytes;
                rules_short = d.short;
                templates_bytes = rw (t.1, ← likewise) (accepted_reading template_sheet m templates_octets c).bytes;
                templates_short = c.short;
                few_rules = omega (arith, length-map rs (λ r. r.pattern), ap length t.0, z, leb-true n most_rules o.not_many);
                accepted = t.2;
              }

      go : (v : Verdict (List Pattern)) → rules_by (check_own brought rule_sheet) (rules_of l (entries rule_sheet)) ≡ v → side_by l template_sheet v ≡ passed rs
          → Side l rule_sheet template_sheet rs
      go (fault r i) h e = absurd (fault_passed e)
      go (passed qs) h e =
          let p = rules_passed (check_own brought rule_sheet) (rules_of l (entries rule_sheet)) qs h in
          by_sheet p.0 p.1 (check_templates l template_sheet) refl
          (ap (λ (ys : List Pattern). templates_by l ys template_sheet (check_templates l template_sheet)) p.2 ∙ e)
