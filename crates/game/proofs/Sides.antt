-- The parts of two sheets are the rules and templates that they hold.
use Prim.Native.Nat.{ℕ, zero, suc, ◌+◌, ◌<◌, ◌≤◌}
use native.Mathlib.Omega.{arith}
use mathlib.Core.Path.{◌≡◌, refl, sym, ◌∙◌, ap, subst}
use mathlib.Core.List.{List, [], ◌∷◌}
use mathlib.Core.Bool.{true}
use lib.ListN.{length, get_or, drop, length-map}
use Rattle.term.specs.Language.{Language}
use Rattle.term.specs.Limits.{TermAccepted}
use Rattle.term.specs.Pattern.{Pattern, pattern_bytes}
use Rattle.term.specs.Table.{table_accepted}
use Rattle.term.specs.Term.{Term, term_bytes}
use Rattle.sheet.specs.Check.{longest_sheet, entry_count, edition_of}
use Rattle.sheet.specs.Entry.{entry_at, entries, part_at}
use Rattle.sheet.specs.Sheet.{edition_mark, sheet_bytes}
use Rattle.sheet.proofs.Checks.{Directed}
use Rattle.sheet.proofs.Entries.{part_entry, entries_at}
use Rattle.sheet.proofs.Readings.{written_read, written_directed, written_length, written_edition}
use Rattle.replace.specs.Call.{Input as ReplaceInput}
use Rattle.rules.specs.Call.{AllAccepted, rules_bytes}
use Rattle.rules.proofs.Rules.{rule_at as pattern_at, rule_bytes, rules_none_empty}
use Rattle.game.specs.Accepted.{RuleAccepted, EachAccepted}
use Rattle.game.specs.Call.{patterns, templates, Side}
use Rattle.game.specs.Move.{Rule, rule_at}
use Rattle.std.specs.Prelude.{Some, None}

-- the rule of an index

pub some_rule : {x y : Rule} → Some x ≡ Some y → x ≡ y
some_rule h = cc

no_some : {x : Rule} → None ≡ Some x → ⊥
no_some h = let z : ◌≡◌ {A = ℕ} 0 1 = cc in omega arith

pub rule_drop : (rs : List Rule) (i : ℕ) (x : Rule) → rule_at rs i ≡ Some x → drop i rs ≡ x ∷ drop (i + 1) rs
rule_drop [] i x e = absurd (no_some e)
rule_drop (r ∷ rs) zero x e = ap (λ (y : Rule). y ∷ rs) (some_rule e)
rule_drop (r ∷ rs) (suc i) x e =
    let z : suc (i + 1) ≡ suc i + 1 = omega arith in
    rule_drop rs i x e ∙ ap (λ (n : ℕ). x ∷ drop n (r ∷ rs)) z

pub rule_there : (rs : List Rule) (i : ℕ) → i < length rs → (x : Rule) × (rule_at rs i ≡ Some x)
rule_there [] i h = absurd (omega arith)
rule_there (r ∷ rs) zero h = (r, refl)
rule_there (r ∷ rs) (suc i) h = rule_there rs i (omega arith)

pub rule_below : (rs : List Rule) (i : ℕ) (x : Rule) → rule_at rs i ≡ Some x → i < length rs
rule_below [] i x e = absurd (no_some e)
rule_below (r ∷ rs) zero x e = omega arith
rule_below (r ∷ rs) (suc i) x e = let h = rule_below rs i x e in omega (arith, h)

pub rule_accepted : (l : Language) (rs : List Rule) (i : ℕ) (x : Rule) → EachAccepted l rs → rule_at rs i ≡ Some x → RuleAccepted l x
rule_accepted l [] i x a e = absurd (no_some e)
rule_accepted l (r ∷ rs) zero x a e = subst (RuleAccepted l) (some_rule e) a.0
rule_accepted l (r ∷ rs) (suc i) x a e = rule_accepted l rs i x a.1 e

pattern_of_holds : (rs : List Rule) (i : ℕ) (x : Rule) → rule_at rs i ≡ Some x → pattern_at (patterns rs) i ≡ x.pattern
pattern_of_holds [] i x e = absurd (no_some e)
pattern_of_holds (r ∷ rs) zero x e = ap (λ (y : Rule). y.pattern) (some_rule e)
pattern_of_holds (r ∷ rs) (suc i) x e = pattern_of_holds rs i x e

template_of : (rs : List Rule) (i : ℕ) (x : Rule) → rule_at rs i ≡ Some x → pattern_at (templates rs) i ≡ x.template
template_of [] i x e = absurd (no_some e)
template_of (r ∷ rs) zero x e = ap (λ (y : Rule). y.template) (some_rule e)
template_of (r ∷ rs) (suc i) x e = template_of rs i x e

pub patterns_accepted : (l : Language) (rs : List Rule) → EachAccepted l rs → AllAccepted l (patterns rs)
patterns_accepted l [] a = tt
patterns_accepted l (r ∷ rs) a = (a.0.pattern, patterns_accepted l rs a.1)

pub templates_accepted : (l : Language) (rs : List Rule) → EachAccepted l rs → AllAccepted l (templates rs)
templates_accepted l [] a = tt
templates_accepted l (r ∷ rs) a = (a.0.template, templates_accepted l rs a.1)

-- a sheet that is written holds what was written, and the part of an index is the entry

pub part_of_holds : (s : List ℕ) (n i : ℕ) → Directed s n → i < n → get_or (entries s) i [] ≡ part_at s i
unfolding entries
part_of_holds s n i d h =
    let e : 0 + i ≡ i = omega arith in
    entries_at s (entry_count s) 0 i (omega (arith, d.counted)) ∙ ap (entry_at s) e ∙ sym (part_entry s n i d h)

module _ (l : Language) (sheet : List ℕ) (qs : List Pattern) (e : sheet_bytes l.edition (rules_bytes l.table qs) ≡ sheet) (h : length sheet ≤ longest_sheet) where
  few_entries : length (rules_bytes l.table qs) < edition_mark
  few_entries = omega (arith, written_length l.edition (rules_bytes l.table qs), ap length e, h)

  pub written_entries : entries sheet ≡ rules_bytes l.table qs
  written_entries = ap entries (sym e) ∙ written_read l.edition (rules_bytes l.table qs) few_entries

  pub written_sheet : Directed sheet (length qs)
  written_sheet =
      rw (← e, ← length-map qs (λ q. pattern_bytes l.table q []))
      (written_directed l.edition (rules_bytes l.table qs) (rules_none_empty l.table qs) (rw e h))

  pub written_like : edition_of sheet ≡ l.edition
  written_like = ap edition_of (sym e) ∙ written_edition l.edition (rules_bytes l.table qs) few_entries

  written_part : (i : ℕ) → i < length qs → pattern_bytes l.table (pattern_at qs i) [] ≡ part_at sheet i
  written_part i b =
      sym (rule_bytes l.table qs i b) ∙ ap (λ (es : List (List ℕ)). get_or es i []) (sym written_entries) ∙ part_of_holds sheet (length qs) i written_sheet b

module _ (l : Language) (rule_sheet template_sheet : List ℕ) (rs : List Rule) (side : Side l rule_sheet template_sheet rs) where
  pub side_counted : entry_count rule_sheet ≡ length rs
  side_counted = (written_sheet l rule_sheet (patterns rs) side.rules_bytes_holds side.rules_short).counted ∙ length-map rs (λ r. r.pattern)

  -- with a state, the parts of an index are input that is accepted for a replacement
  module _ (tabled : table_accepted l.table ≡ true) (t : Term) (bytes : List ℕ) (stands : term_bytes l.table t [] ≡ bytes) (st : TermAccepted l t) where
    pub side_input : (i : ℕ) (x : Rule) → rule_at rs i ≡ Some x → ReplaceInput l (part_at rule_sheet i) (part_at template_sheet i) bytes x.pattern x.template t
    side_input i x e =
        let b = rule_below rs i x e in
        let m = written_part l rule_sheet (patterns rs) side.rules_bytes_holds side.rules_short i (omega (arith, b, length-map rs (λ r. r.pattern))) in
        let n = written_part l template_sheet (templates rs) side.templates_bytes side.templates_short i (omega (arith, b, length-map rs (λ r. r.template))) in
        let a = rule_accepted l rs i x side.accepted e in
        record {
          matched = record {
            table_accepted_holds = tabled;
            pattern_bytes_holds = ap (λ (q : Pattern). pattern_bytes l.table q []) (sym (pattern_of_holds rs i x e)) ∙ m;
            pattern_accepted = a.pattern;
            record_bytes = stands;
            record_accepted = st;
          };
          replacing = record {
            bytes = ap (λ (q : Pattern). pattern_bytes l.table q []) (sym (template_of rs i x e)) ∙ n;
            accepted = a.template;
            of_rule = a.of_rule;
          };
        }
