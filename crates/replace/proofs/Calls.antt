-- The calls meet their contracts, by what their parts answer.
use Prim.Native.Nat.{ℕ, ◌≤◌, ◌<◌}
use native.Mathlib.Omega.{arith}
use mathlib.Core.Path.{◌≡◌, refl, sym, ap, ap₂, subst, ◌∙◌}
use mathlib.Core.Logic.{inl, inr}
use mathlib.Core.List.{List, []}
use mathlib.Core.Bool.{Bool, true, false, cond}
use lib.Dec.{ltb}
use lib.ListN.{length, take, drop}
use lib.Seq.{sets}
use borrow.Author.Tests.{lt-ltb, le-ltb}
use Rattle.answers.specs.Answers.{applied_number, applied_length}
use Rattle.answers.specs.declared.Refusal.{Refusal}
use Rattle.answers.specs.declared.Refusal.TheVariants.{Full, Outgrown, Long}
use Rattle.answers.specs.declared.Answer.{Answer}
use Rattle.answers.specs.declared.Answer.TheVariants.{Bound as Matches, None as Misses, Spent as Spends}
use Rattle.answers.specs.declared.Applied.{Applied}
use Rattle.answers.specs.declared.Applied.TheVariants.{Bound, Spent}
use Rattle.answers.proofs.Numbers.{word_or_refusal}
use Rattle.term.specs.Class.{Alike}
use Rattle.term.specs.Limits.{longest_pattern, Octets}
use Rattle.term.specs.Pattern.{Pattern, end, plain}
use Rattle.term.specs.Term.{Term, Terms, single, size, term_tree, term_bytes, terms_bytes}
use Rattle.term.specs.Tree.{encode}
use Rattle.term.proofs.Classes.{accepted_alike, none_alike}
use Rattle.term.proofs.Sizes.{term_size, encode_append}
use Rattle.term.proofs.Stores.{sets_front}
use Rattle.anti_pattern.specs.Answer.{count_of}
use Rattle.anti_pattern.specs.Language.{Language, Classed}
use Rattle.anti_pattern.specs.Search.{Env, first_answer, whole}
use Rattle.anti_pattern.specs.Variables.{free}
use Rattle.anti_pattern.proofs.First.{some_is, none_is}
use Rattle.parts.specs.Shown.{answer_width}
use Rattle.reader.specs.Brought.{Brought, language_of}
use Rattle.matcher.specs.Call.{check_of, answer_on_bytes, buffer_on_bytes}
use Rattle.matcher.proofs.Checks.{check_failed, check_passed}
use Rattle.replace.specs.Call.{Input, checked, Replacement, result, nothing, spent, replaced_by, replacement, measured, written, unless_full, apply_on, output_on, look_of, apply_of, output_of}
use Rattle.replace.specs.Demands.{Demanded, LookDemanded, Looks, Applies}
use Rattle.replace.specs.Filling.{fit_all, Stores, Measures, LooksInto, ShortWhereBound}
use Rattle.replace.specs.Growth.{within_limits}
use Rattle.replace.specs.Instance.{instance}
use Rattle.replace.specs.Splice.{spliced_in, listed_in}
use Rattle.replace.proofs.Checks.{checked_input}
use Rattle.replace.proofs.Demands.{brought_classed, ended, next_record, demanded, look_demanded}
use Rattle.replace.proofs.Looks.{template_short, bound_filling, none_looked, spent_looked, never_refused, limits_fit, filled_whole}
use Rattle.replace.proofs.Replacements as came
use Rattle.std.specs.Prelude.{Result, Ok, Err, Option, Some, None}

-- a class list that is accepted, or none

pub classed_alike : (l : Language) → Classed l → Alike l.table l.classes
classed_alike l (inl e) = subst (Alike l.table) (sym e) (none_alike l.table)
classed_alike l (inr h) = accepted_alike l.table l.classes h

unbound : (r : Refusal) → applied_number (Err r) ≡ 0 → ⊥
unbound r e = word_or_refusal 0 refl r (sym e)

-- what a bound look comes from

measured_bound : (table : List ℕ) (r : Replacement) (n m : ℕ) → Ok (Bound n m) ≡ measured table r
    → (u : Term) × (c : ℕ) × (r ≡ result u c) × (within_limits table u ≡ true) × (m ≡ size table u)
measured_bound table (result u c) n m e = go (within_limits table u) refl e
  where
    go : (b : Bool) → within_limits table u ≡ b → Ok (Bound n m) ≡ cond b (Ok (Bound c (size table u))) (Err Outgrown)
        → (w : Term) × (d : ℕ) × (result u c ≡ result w d) × (within_limits table w ≡ true) × (m ≡ size table w)
    go true h e = (u, c, refl, h, cc)
    go false h e = let z : ◌≡◌ {A = ℕ} 0 1 = cc in absurd (omega arith)
measured_bound table (nothing c) n m e = let z : ◌≡◌ {A = ℕ} 0 1 = cc in absurd (omega arith)
measured_bound table (spent c) n m e = let z : ◌≡◌ {A = ℕ} 0 1 = cc in absurd (omega arith)

replaced_first : (l : Language) (p q : Pattern) (t : Term) (n : ℕ) (u : Term) (c : ℕ) (e : Env) → replacement l p q t n ≡ result u c
    → first_answer (whole l p t).out ≡ Some e → u ≡ spliced_in l (instance q e.value)
unfolding replacement
replaced_first l p q t n u c e h f = go (ltb n (count_of l p t)) (first_answer (whole l p t).out) h f
  where
    go : (b : Bool) (o : Option Env) → cond b (spent n) (replaced_by l q o (count_of l p t)) ≡ result u c → o ≡ Some e → u ≡ spliced_in l (instance q e.value)
    go true o h f = let z : ◌≡◌ {A = ℕ} 0 1 = cc in absurd (omega arith)
    go false None h f = absurd (none_is f)
    go false (Some g) h f = let z : spliced_in l (instance q g.value) ≡ u = cc in sym z ∙ ap (λ (y : Env). spliced_in l (instance q y.value)) (some_is f)

module _ (l : Language) (rule template bytes : List ℕ) (allowance : ℕ) where
  abbrev table : List ℕ
  table = l.table

  -- The look into a buffer

  abbrev Into : Result Applied Refusal → List ℕ → Type 0
  Into r after = LooksInto l rule template bytes allowance r after × ShortWhereBound template r

  pub into_long : (after : List ℕ) → longest_pattern < length template → Into (Err Long) after
  unfolding LooksInto
  into_long after h = (λ c p q t i. absurd (omega (arith, template_short l rule template bytes (classed_alike l c) p q t i allowance)), λ e. absurd (unbound Long e))

  module _ (before after : List ℕ) (wide : answer_width ≤ length before) (same : length after ≡ length before) (a : Result Answer Refusal)
      (m : (a ≡ answer_on_bytes table l.classes rule bytes allowance (length before)) × (after ≡ buffer_on_bytes table l.classes rule bytes allowance before)) where
    pub into_bound : (n : ℕ) → a ≡ Ok (Matches n) → length template ≤ longest_pattern → (r : Result Applied Refusal) → Measures l template bytes after n r → Into r after
    unfolding LooksInto Measures
    into_bound n e short r h = (
      λ c p q t i.
          let f = bound_filling l rule template bytes (classed_alike l c) p q t i allowance before after wide same a m n e in
          (h q (free p) f.0.value f.2 ∙ ap (measured table) (sym f.3), λ z. (f.0, f.1, f.2)),
      λ z. short,
    )

    pub into_none : (n : ℕ) → a ≡ Ok (Misses n) → Into (Ok (Applied.None n)) after
    unfolding LooksInto
    into_none n e = (
      λ c p q t i. (none_looked l rule template bytes (classed_alike l c) p q t i allowance before after wide same a m n e, λ z. absurd (omega arith)),
      λ z. absurd (omega arith),
    )

    pub into_spent : (n : ℕ) → a ≡ Ok (Spends n) → Into (Ok (Spent n)) after
    unfolding LooksInto
    into_spent n e = (
      λ c p q t i. (spent_looked l rule template bytes (classed_alike l c) p q t i allowance before after wide same a m n e, λ z. absurd (omega arith)),
      λ z. absurd (omega arith),
    )

    pub into_refused : (r : Refusal) → a ≡ Err r → Into (Err r) after
    unfolding LooksInto
    into_refused r e = (
      λ c p q t i. absurd (never_refused l rule template bytes (classed_alike l c) p q t i allowance before after wide same a m r e),
      λ z. absurd (unbound r z),
    )

  pub into_looks : (r : Result Applied Refusal) (after : List ℕ) → LooksInto l rule template bytes allowance r after → Looks l rule template bytes allowance r
  unfolding LooksInto
  into_looks r after h = λ c p q t i. (h c p q t i).0

  -- Applying

  module _ (before : List ℕ) where
    abbrev Is : Result Applied Refusal → List ℕ → Type 0
    Is a after = Classed l → (p q : Pattern) (t : Term) → Input l rule template bytes p q t
        → (a ≡ apply_on l p q t allowance (length before)) × (after ≡ output_on l p q t allowance before)

    applies : (a : Result Applied Refusal) (after : List ℕ) → ((applied_number a ≡ 0 → ⊥) → after ≡ before) → Is a after → Applies l rule template bytes allowance before a after
    applies a after u h = record {
      answer = h;
      untouched = u;
      next_record = λ c p q t i z.
          let e = h c p q t i in
          let n = next_record l rule template bytes (classed_alike l c) p q t i allowance before (ap applied_number (sym e.0) ∙ z) in
          (n.0, n.1, ap₂ (λ (x : Result Applied Refusal) (y : List ℕ). take (applied_length x) y) e.0 e.1 ∙ n.2);
    }

    untouched : (a : Result Applied Refusal) → (applied_number a ≡ 0 → ⊥)
        → (Classed l → (p q : Pattern) (t : Term) → Input l rule template bytes p q t → a ≡ apply_on l p q t allowance (length before))
        → Applies l rule template bytes allowance before a before
    untouched a h f =
        applies a before (λ e. refl)
        (λ c p q t i.
        let z = f c p q t i in (
          z,
          sym (came.untouched l (classed_alike l c) p q t _ _ _ _ _ allowance before _ _
              (ended l rule template bytes (classed_alike l c) p q t i allowance before) (λ y. h (ap applied_number z ∙ y))),
        ))

    module _ (x : Result Applied Refusal) (buffer : List ℕ) (looked : LooksInto l rule template bytes allowance x buffer) where
      unfull : (a : Result Applied Refusal) → unless_full (length before) x ≡ a → Classed l → (p q : Pattern) (t : Term) → Input l rule template bytes p q t
          → a ≡ apply_on l p q t allowance (length before)
      unfolding LooksInto
      unfull a e c p q t i = sym e ∙ ap (unless_full (length before)) (looked c p q t i).0

      apply_none : (n : ℕ) → x ≡ Ok (Applied.None n) → Applies l rule template bytes allowance before (Ok (Applied.None n)) before
      apply_none n e = untouched (Ok (Applied.None n)) (λ z. omega arith) (unfull (Ok (Applied.None n)) (ap (unless_full (length before)) e))

      apply_spent : (n : ℕ) → x ≡ Ok (Spent n) → Applies l rule template bytes allowance before (Ok (Spent n)) before
      apply_spent n e = untouched (Ok (Spent n)) (λ z. omega arith) (unfull (Ok (Spent n)) (ap (unless_full (length before)) e))

      pub apply_refused : (r : Refusal) → x ≡ Err r → Applies l rule template bytes allowance before (Err r) before
      apply_refused r e = untouched (Err r) (unbound r) (unfull (Err r) (ap (unless_full (length before)) e))

      pub apply_unbound : (y : Applied) → x ≡ Ok y → ((n m : ℕ) → y ≡ Bound n m → ⊥) → Applies l rule template bytes allowance before (Ok y) before
      apply_unbound (Bound n m) e h = absurd (h n m refl)
      apply_unbound (Applied.None n) e h = apply_none n e
      apply_unbound (Spent n) e h = apply_spent n e

      module _ (n m : ℕ) (e : x ≡ Ok (Bound n m)) where
        pub apply_full : length before < m → Applies l rule template bytes allowance before (Err Full) before
        apply_full h =
            untouched (Err Full) (unbound Full)
            (unfull (Err Full) (ap (unless_full (length before)) e ∙ ap (λ (b : Bool). cond b (Err Full) (Ok (Bound n m))) (lt-ltb (length before) m h)))

        pub apply_bound : (after : List ℕ) → m ≤ length before → Stores table (listed_in l) None template bytes buffer 32 0 before after
            → Applies l rule template bytes allowance before (Ok (Bound n m)) after
        unfolding LooksInto Stores encode
        apply_bound after h stores =
            applies (Ok (Bound n m)) after (λ e. absurd (e refl))
            (λ c p q t i.
            let z = unfull (Ok (Bound n m)) (ap (unless_full (length before)) e ∙ ap (λ (b : Bool). cond b (Err Full) (Ok (Bound n m))) (le-ltb (length before) m h)) c p q t i in
            let f = looked c p q t i in
            let y = f.1 (ap applied_number e) in
            let b = measured_bound table (replacement l p q t allowance) n m (sym e ∙ f.0) in
            let u : Term = b.0 in
            let s : u ≡ spliced_in l (instance q y.0.value) = replaced_first l p q t allowance u b.1 y.0 b.2 y.1 in
            let x' = y.0.value in
            let all = filled_whole l template bytes buffer n q (free p) x' y.2 in
            let fit = ap (fit_all table 32) all ∙ subst (λ (w : Term). fit_all table 32 (single w) ≡ true) s (limits_fit table u b.3) in
            let put : after ≡ sets before 0 (term_bytes table u []) =
            stores (plain q end) (free p) x' y.2.filling fit ∙ ap (λ (ts : Terms). sets before 0 (terms_bytes table ts [])) all
            ∙ ap (λ (w : Term). sets before 0 (term_bytes table w [])) (sym s) in
            let out : output_on l p q t allowance before ≡ term_bytes table u (drop m before) =
            ap₂ (λ (r : Replacement) (g : Result Applied Refusal). written table r g before) b.2 (sym z) in (
              z,
              put ∙ sets_front before (term_bytes table u []) m (term_size table u ∙ sym b.4) h
                  ∙ sym (encode_append table (term_tree u) [] (drop m before)) ∙ sym out,
            ))

-- The calls with every check

module _ (brought : Brought) (rule template bytes : List ℕ) (allowance : ℕ)
    (rule_octets : Octets rule) (template_octets : Octets template) (record_octets : Octets bytes) where
  abbrev Looked : Result Applied Refusal → Type 0
  Looked a = (a ≡ look_of brought rule template bytes allowance) × LookDemanded brought rule template bytes allowance a

  looked : (a : Result Applied Refusal) → a ≡ look_of brought rule template bytes allowance → Looked a
  looked a e = (e, subst (LookDemanded brought rule template bytes allowance) (sym e) (look_demanded brought rule template bytes allowance rule_octets template_octets record_octets))

  pub look_fails : {k : (Result (Unit {0}) Refusal)} {r : Refusal} → k ≡ check_of (checked brought rule template bytes) → k ≡ Err r
      → Looked (Err r)
  unfolding look_of
  look_fails {k} {r} e f = let c = check_failed (checked brought rule template bytes) r (sym f ∙ e) in looked (Err r) (rw c.1)

  pub look_passes : {k : (Result (Unit {0}) Refusal)} → k ≡ check_of (checked brought rule template bytes) → k ≡ Ok tt
      → (l : Language) → l ≡ language_of brought → (a : Result Applied Refusal) → Looks l rule template bytes allowance a → Looked a
  unfolding look_of
  look_passes e f l same a h =
      let c = check_passed (checked brought rule template bytes) (sym f ∙ e) in
      let i = checked_input brought rule template bytes rule_octets template_octets record_octets c.0 c.1 in
      let g = subst (λ (y : Language). Looks y rule template bytes allowance a) same h in
      looked a (rw c.1 (g (brought_classed brought i.0) c.0.0.0 c.0.0.1 c.0.1 i.1))

  module _ (before : List ℕ) where
    abbrev Called : Result Applied Refusal → List ℕ → Type 0
    Called a after =
        (a ≡ apply_of brought rule template bytes allowance (length before))
        × ((after ≡ output_of brought rule template bytes allowance before) × Demanded brought rule template bytes before allowance a after)

    called : (a : Result Applied Refusal) (after : List ℕ) → a ≡ apply_of brought rule template bytes allowance (length before)
        → after ≡ output_of brought rule template bytes allowance before → Called a after
    called a after e f = (e, (f, rw (e, f) (demanded brought rule template bytes before allowance rule_octets template_octets record_octets)))

    pub apply_fails : {k : (Result (Unit {0}) Refusal)} {r : Refusal} → k ≡ check_of (checked brought rule template bytes) → k ≡ Err r
        → Called (Err r) before
    unfolding apply_of output_of
    apply_fails {k} {r} e f =
        let c = check_failed (checked brought rule template bytes) r (sym f ∙ e) in
        called (Err r) before (rw c.1) (rw c.1)

    pub apply_passes : {k : (Result (Unit {0}) Refusal)} → k ≡ check_of (checked brought rule template bytes) → k ≡ (Ok tt) → (l : Language) → l ≡ language_of brought → (a : Result Applied Refusal) (after : List ℕ)
        → Applies l rule template bytes allowance before a after → Called a after
    unfolding apply_of output_of
    apply_passes e f l same a after h =
        let c = check_passed (checked brought rule template bytes) (sym f ∙ e) in
        let i = checked_input brought rule template bytes rule_octets template_octets record_octets c.0 c.1 in
        let g = subst (λ (y : Language). Applies y rule template bytes allowance before a after) same h in
        let z = g.answer (brought_classed brought i.0) c.0.0.0 c.0.0.1 c.0.1 i.1 in
        called a after (rw c.1 z.0) (rw c.1 z.1)
