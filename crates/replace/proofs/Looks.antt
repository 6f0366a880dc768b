-- What the rule's answer leaves in the buffer, and what the template is filled to, come to the look.
use Prim.Native.Nat.{ℕ, ◌+◌, ◌*◌, ◌≤◌, ◌<◌}
use native.Mathlib.Omega.{arith}
use mathlib.Core.Path.{◌≡◌, refl, sym, ap, subst, ◌∙◌}
use mathlib.Core.List.{List, [], ◌∷◌}
use mathlib.Core.Bool.{Bool, true, false, cond, ◌&&◌, or-false}
use lib.Dec.{leb, ltb}
use lib.ListN.{length, take, drop, length-take, length-drop}
use borrow.Author.Tests.{le-leb, lt-leb, leb-false}
use Rattle.answers.specs.Answers.{answer_number}
use Rattle.answers.specs.Part.{part}
use Rattle.answers.specs.declared.Refusal.{Refusal}
use Rattle.answers.specs.declared.Refusal.TheVariants.{Outgrown}
use Rattle.answers.specs.declared.Answer.{Answer}
use Rattle.answers.specs.declared.Answer.TheVariants.{Bound as Matches, None as Misses, Spent as Spends}
use Rattle.answers.specs.declared.Applied.{Applied}
use Rattle.answers.specs.declared.Applied.TheVariants.{Bound, Spent}
use Rattle.term.specs.Class.{Alike}
use Rattle.term.specs.Limits.{nesting, longest_record, longest_pattern}
use Rattle.term.specs.Part.{part_bytes}
use Rattle.term.specs.Pattern.{Pattern, end, plain}
use Rattle.term.specs.Term.{Term, Terms, single, count, size, sizes, terms_bytes}
use Rattle.term.specs.Tree.{encode}
use Rattle.term.proofs.Joins.{sizes_single}
use Rattle.term.proofs.SameParts.{and_true}
use Rattle.anti_pattern.specs.Answer.{count_of, matching_of, limit, answer}
use Rattle.anti_pattern.specs.Language.{Language, TermsOf}
use Rattle.anti_pattern.specs.Meaning.{Assignment}
use Rattle.anti_pattern.specs.Place.{assigned}
use Rattle.anti_pattern.specs.Search.{Env, Answers, found, failed, first_answer, whole}
use Rattle.anti_pattern.specs.Variables.{free}
use Rattle.anti_pattern.proofs.Demands.{search_decides}
use Rattle.anti_pattern.proofs.First.{some_is}
use Rattle.anti_pattern.proofs.Within.{accepted_of}
use Rattle.reader.specs.Brought.{bringing}
use Rattle.call.specs.Call.{written}
use Rattle.link.proofs.Represents.{Shown}
use Rattle.parts.specs.Shown.{entry_width, answer_width}
use Rattle.matcher.specs.Call.{told, bound_parts, answer_on_bytes, buffer_on_bytes}
use Rattle.matcher.specs.Demands.{offset_in, length_in, Shows}
use Rattle.matcher.proofs.Answered.{first_shown}
use Rattle.matcher.proofs.Matched.{bytes_answered}
use Rattle.replace.specs.Call.{Input, Replacement, result, nothing, spent, replaced_by, replacement, measured, look_on}
use Rattle.replace.specs.Filling.{part_in, Run, Lent, Whole, fit_all, filled, filled_to, Fills, Measures}
use Rattle.replace.specs.Growth.{nests, narrow, within_limits}
use Rattle.replace.specs.Instance.{instance}
use Rattle.replace.specs.Splice.{spliced_in, listed_in, spliced_instances}
use Rattle.replace.specs.Loose.{loose}
use Rattle.replace.specs.declared.Filled.{Filled}
use Rattle.replace.proofs.Fillings.{filled_to_holds, filled_unfit}
use Rattle.replace.proofs.Instances.{satisfies_assigns}
use Rattle.replace.proofs.Limits.{and_both}
use Rattle.replace.proofs.Marks.{small_table}
use Rattle.replace.proofs.Splices.{template_apart, filled_spliced}
use Rattle.replace.proofs.Templates.{template_exactly}
use Rattle.std.specs.Prelude.{Result, Ok, Err, Option, Some, None}

-- What a buffer shows is lent

empty_list : (l : List ℕ) → length l ≡ 0 → l ≡ []
empty_list [] h = refl
empty_list (x ∷ l) h = absurd (omega arith)

none_taken : (l : List ℕ) → take 0 l ≡ []
none_taken [] = refl
none_taken (x ∷ l) = refl

part_shown_holds : (bytes bs : List ℕ) (offset n : ℕ) → take n (drop offset bytes) ≡ bs → n ≡ length bs → part_bytes bytes (part offset n 0) ≡ bs
unfolding part_bytes
part_shown_holds bytes bs offset n e h = go (leb (offset + n) (length bytes)) refl
  where
    go : (b : Bool) → leb (offset + n) (length bytes) ≡ b → cond b (take n (drop offset bytes)) (take 0 bytes) ≡ bs
    go true z = e
    go false z =
        let k : length bs ≡ 0 = omega (arith, leb-false (offset + n) (length bytes) z, length-take n (drop offset bytes), length-drop offset bytes, ap length e) in
        none_taken bytes ∙ sym (empty_list bs k)

-- Fitting and the limits

single_fit : (table : List ℕ) (u : Term) → fit_all table 32 (single u) ≡ (nests 32 u && narrow table u)
single_fit table u = by (nests 32 u) (narrow table u)
  where
    by : (n w : Bool) → ((n && true) && (w && true)) ≡ (n && w)
    by true true = refl
    by true false = refl
    by false w = refl

unfit_limits : (table : List ℕ) (u : Term) → fit_all table 32 (single u) ≡ false → within_limits table u ≡ false
unfolding within_limits
unfit_limits table u h = rw (sym (single_fit table u) ∙ h) (by (leb (size table u) longest_record))
  where
    by : (b : Bool) → (b && false) ≡ false
    by true = refl
    by false = refl

long_limits : (table : List ℕ) (u : Term) → longest_record < size table u → within_limits table u ≡ false
unfolding within_limits
long_limits table u h = rw (lt-leb (size table u) longest_record h)

fit_limits : (table : List ℕ) (u : Term) → size table u ≤ longest_record → fit_all table 32 (single u) ≡ true → within_limits table u ≡ true
unfolding within_limits
fit_limits table u l h = and_both (leb (size table u) longest_record) (nests nesting u && narrow table u) (le-leb (size table u) longest_record l) (sym (single_fit table u) ∙ h)

pub limits_fit : (table : List ℕ) (u : Term) → within_limits table u ≡ true → fit_all table 32 (single u) ≡ true
unfolding within_limits
limits_fit table u h = single_fit table u ∙ (and_true (leb (size table u) longest_record) (nests nesting u && narrow table u) h).1

-- The answer by what the template is filled to

module _ (l : Language) (template bytes buffer : List ℕ) (n : ℕ) where
  abbrev table : List ℕ
  table = l.table

  abbrev spliced : Pattern → Assignment → Term
  spliced q a = spliced_in l (instance q a)

  pub filled_whole : (q : Pattern) (vs : List ℕ) (a : Assignment) → Whole l template bytes buffer q vs a
      → spliced_instances (listed_in l) None (plain q end) a ≡ single (spliced q a)
  filled_whole q vs a w = filled_spliced table l.classes l.edition vs a w.spoken q (sym (or-false (loose vs q)) ∙ w.filling.firm)

  one_filled : (r : Option Filled) (q : Pattern) (vs : List ℕ) (a : Assignment) → Whole l template bytes buffer q vs a → Fills table (listed_in l) None template bytes buffer 32 r
      → r ≡ filled_to (fit_all table 32 (single (spliced q a))) (sizes table (single (spliced q a))) (count (single (spliced q a)))
  unfolding Fills
  one_filled r q vs a w f =
      subst (λ (ts : Terms). r ≡ filled_to (fit_all table 32 ts) (sizes table ts) (count ts)) (filled_whole q vs a w) (f (plain q end) vs a w.filling)

  pub measures_unfit : Fills table (listed_in l) None template bytes buffer 32 None → Measures l template bytes buffer n (Err Outgrown)
  unfolding Measures
  measures_unfit f q vs a g =
      let u = spliced q a in
      let z = filled_unfit (fit_all table 32 (single u)) _ _ (one_filled None q vs a g f) in
      sym (ap (λ (y : Bool). cond y (Ok (Bound n (size table u))) (Err Outgrown)) (unfit_limits table u z))

  pub measures_long : (m k : ℕ) → Fills table (listed_in l) None template bytes buffer 32 (Some (filled m k)) → longest_record < m → Measures l template bytes buffer n (Err Outgrown)
  unfolding Measures
  measures_long m k f h q vs a g =
      let u = spliced q a in
      let z = filled_to_holds (fit_all table 32 (single u)) (sizes table (single u)) (count (single u)) m k (one_filled (Some (filled m k)) q vs a g f) in
      sym (ap (λ (y : Bool). cond y (Ok (Bound n (size table u))) (Err Outgrown)) (long_limits table u (omega (arith, z.1, sizes_single table u))))

  pub measures_bound : (m k : ℕ) → Fills table (listed_in l) None template bytes buffer 32 (Some (filled m k)) → m ≤ longest_record → Measures l template bytes buffer n (Ok (Bound n m))
  unfolding Measures
  measures_bound m k f h q vs a g =
      let u = spliced q a in
      let z = filled_to_holds (fit_all table 32 (single u)) (sizes table (single u)) (count (single u)) m k (one_filled (Some (filled m k)) q vs a g f) in
      let s : m ≡ size table u = z.1 ∙ sizes_single table u in
      ap (λ (i : ℕ). Ok (Bound n i)) s ∙ sym (ap (λ (y : Bool). cond y (Ok (Bound n (size table u))) (Err Outgrown)) (fit_limits table u (omega (arith, s)) z.0))

-- the rule's answer and the template's result are told by one search

module _ (l : Language) (q : Pattern) (allowance : ℕ) where
  abbrev by : Bool → Answers → ℕ → Replacement
  by b o c = cond b (spent allowance) (replaced_by l q (first_answer o) c)

  told_bound : (b : Bool) (o : Answers) (c n : ℕ) → Ok (Matches n) ≡ told (limit b allowance (matching_of l.table o c))
      → (e : Env) × (first_answer o ≡ Some e) × (by b o c ≡ result (spliced_in l (instance q e.value)) n)
  told_bound true o c n h = let z : ◌≡◌ {A = ℕ} 0 1 = cc in absurd (omega arith)
  told_bound false (found e m o) c n h = let z : n ≡ c = cc in (e, refl, ap (result (spliced_in l (instance q e.value))) (sym z))
  told_bound false failed c n h = let z : ◌≡◌ {A = ℕ} 0 1 = cc in absurd (omega arith)

  told_none : (b : Bool) (o : Answers) (c n : ℕ) → Ok (Misses n) ≡ told (limit b allowance (matching_of l.table o c)) → by b o c ≡ nothing n
  told_none true o c n h = let z : ◌≡◌ {A = ℕ} 0 1 = cc in absurd (omega arith)
  told_none false (found e m o) c n h = let z : ◌≡◌ {A = ℕ} 0 1 = cc in absurd (omega arith)
  told_none false failed c n h = let z : n ≡ c = cc in ap nothing (sym z)

  told_spent : (b : Bool) (o : Answers) (c n : ℕ) → Ok (Spends n) ≡ told (limit b allowance (matching_of l.table o c)) → by b o c ≡ spent n
  told_spent true o c n h = let z : n ≡ allowance = cc in ap spent (sym z)
  told_spent false (found e m o) c n h = let z : ◌≡◌ {A = ℕ} 0 1 = cc in absurd (omega arith)
  told_spent false failed c n h = let z : ◌≡◌ {A = ℕ} 0 1 = cc in absurd (omega arith)

  told_refused : (b : Bool) (o : Answers) (c : ℕ) (r : Refusal) → Err r ≡ told (limit b allowance (matching_of l.table o c)) → ⊥
  told_refused true o c r h = let z : ◌≡◌ {A = ℕ} 0 1 = cc in omega arith
  told_refused false (found e m o) c r h = let z : ◌≡◌ {A = ℕ} 0 1 = cc in omega arith
  told_refused false failed c r h = let z : ◌≡◌ {A = ℕ} 0 1 = cc in omega arith

module _ (l : Language) (rule template bytes : List ℕ) (k : Alike l.table l.classes) (p q : Pattern) (t : Term) (i : Input l rule template bytes p q t) (allowance : ℕ) where
  abbrev tab : List ℕ
  tab = l.table

  shows_lent : (e : Env) (buffer : List ℕ) (ps : List _) → answer_width ≤ length buffer → first_answer (whole l p t).out ≡ Some e
      → Shows tab bytes p t e.value buffer → Shown tab bytes ps e → Lent tab bytes buffer (free p) e.value
  unfolding part_in
  shows_lent e buffer ps wide f s h =
      let first = (search_decides l k p t (accepted_of l t i.matched.record_accepted)).found_first e f in
      let had = satisfies_assigns l p t e.value i.matched.pattern_accepted.fits first.satisfies in
      record {
        part = λ v low m.
            let w = had.assigns v m in
            let a : assigned (e.value v) ≡ w.0 = ap assigned w.2 in
            let n = s.value_length v w.0 m w.2 in
            let b = s.value_bytes v w.0 m w.2 in
            let d = (h.stands v w.0 w.2).limited in
            subst (λ (y : Terms). Run tab (part_in bytes buffer v) y) (sym a)
            (record {
              small = small_table tab i.matched.table_accepted_holds;
              left = d.left;
              in_list = d.in_list;
              bytes = rw (lt-leb (length buffer) (entry_width * v + 1) (omega arith)) (part_shown_holds bytes (terms_bytes tab w.0 []) (offset_in buffer v) (length_in buffer v) b n);
              fits = d.fit;
            });
        terms = λ v low m. let w = had.assigns v m in s.value_terms v w.0 m w.2 ∙ ap count (sym (ap assigned w.2));
        one = λ v low m. let u = had.names_one v low m in (u.0, ap assigned u.1);
      }

  template_whole : (e : Env) (buffer : List ℕ) → first_answer (whole l p t).out ≡ Some e → Lent tab bytes buffer (free p) e.value
      → Whole l template bytes buffer q (free p) e.value
  unfolding encode
  template_whole e buffer f h = record {
    filling = record {
      small = small_table tab i.matched.table_accepted_holds;
      stands = sym i.replacing.bytes;
      limited = ((32, false, i.replacing.accepted.fits), tt);
      firm = or-false (loose (free p) q) ∙ (template_exactly p q).1 i.replacing.of_rule;
      apart = (template_apart tab l.classes l.edition q i.replacing.accepted.spliced, tt);
      lent = h;
    };
    spoken = λ v m.
        let first = (search_decides l k p t (accepted_of l t i.matched.record_accepted)).found_first e f in
        let w = (satisfies_assigns l p t e.value i.matched.pattern_accepted.fits first.satisfies).assigns v m in
        subst (TermsOf l) (sym (ap assigned w.2)) w.1;
  }

  pub template_short : length template ≤ longest_pattern
  template_short = subst (λ (y : List ℕ). length y ≤ longest_pattern) i.replacing.bytes i.replacing.accepted.short

  module _ (before after : List ℕ) (wide : answer_width ≤ length before) (same : length after ≡ length before) (a : Result Answer Refusal)
      (m : (a ≡ answer_on_bytes tab l.classes rule bytes allowance (length before)) × (after ≡ buffer_on_bytes tab l.classes rule bytes allowance before)) where
    is_told : a ≡ told (answer l p t allowance)
    is_told = m.0 ∙ (bytes_answered tab l.classes rule bytes before allowance wide l.edition k p t i.matched).0

    is_written : after ≡ written (bound_parts (answer l p t allowance)) before
    is_written = m.1 ∙ (bytes_answered tab l.classes rule bytes before allowance wide l.edition k p t i.matched).1

    -- where the rule is bound, its first answer is lent
    pub bound_filling : (n : ℕ) → a ≡ Ok (Matches n)
        → (e : Env) × (first_answer (whole l p t).out ≡ Some e) × Whole l template bytes after q (free p) e.value
        × (replacement l p q t allowance ≡ result (spliced_in l (instance q e.value)) n)
    unfolding answer replacement
    bound_filling n e =
        let s = first_shown (bringing l.edition tab l.classes) rule bytes k p t i.matched allowance before (ap answer_number (sym is_told ∙ e)) in
        let o = told_bound l q allowance (ltb allowance (count_of l p t)) (whole l p t).out (count_of l p t) n (sym e ∙ is_told) in
        let z : o.0 ≡ s.0 = some_is (sym o.1 ∙ s.1) in (
          s.0,
          s.1,
          template_whole s.0 after s.1
              (shows_lent s.0 after _ (omega (arith, same)) s.1 (subst (Shows tab bytes p t s.0.value) (sym is_written) s.2) s.3),
          o.2 ∙ ap (λ (y : Env). result (spliced_in l (instance q y.value)) n) z,
        )

    pub none_looked : (n : ℕ) → a ≡ Ok (Misses n) → Ok (Applied.None n) ≡ look_on l p q t allowance
    unfolding answer replacement
    none_looked n e = sym (ap (measured tab) (told_none l q allowance (ltb allowance (count_of l p t)) (whole l p t).out (count_of l p t) n (sym e ∙ is_told)))

    pub spent_looked : (n : ℕ) → a ≡ Ok (Spends n) → Ok (Spent n) ≡ look_on l p q t allowance
    unfolding answer replacement
    spent_looked n e = sym (ap (measured tab) (told_spent l q allowance (ltb allowance (count_of l p t)) (whole l p t).out (count_of l p t) n (sym e ∙ is_told)))

    pub never_refused : (r : Refusal) → a ≡ Err r → ⊥
    unfolding answer
    never_refused r e = told_refused l q allowance (ltb allowance (count_of l p t)) (whole l p t).out (count_of l p t) r (sym e ∙ is_told)
