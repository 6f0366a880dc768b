-- The call's answer and final buffer meet every demand.
use Prim.Native.Nat.{ℕ, ◌≤◌}
use native.Mathlib.Omega.{arith}
use mathlib.Core.Path.{◌≡◌, refl, sym, ◌∙◌, ap, ap₂, subst}
use mathlib.Core.List.{List}
use mathlib.Core.Bool.{Bool, true, false, cond}
use lib.ListN.{length}
use lib.Dec.{leb}
use borrow.Author.Tests.{leb-true, leb-false}
use Rattle.answers.specs.Answers.{answer_number, answer_count}
use Rattle.answers.specs.declared.Part.{Part}
use Rattle.answers.specs.declared.Refusal.{Refusal}
use Rattle.answers.specs.declared.Refusal.TheVariants.{NotPlain}
use Rattle.answers.specs.declared.Answer.{Answer}
use Rattle.answers.specs.declared.Answer.TheVariants.{Bound}
use Rattle.term.specs.Code.{variables}
use Rattle.term.specs.Limits.{Octets}
use Rattle.term.specs.Pattern.{Pattern}
use Rattle.term.specs.Term.{Term}
use Rattle.reader.specs.Reading.{read_record, shown as shown_read}
use Rattle.reader.proofs.Typed.{pattern_iff}
use Rattle.anti_pattern.specs.Answer.{answer, count_of, matching_of}
use Rattle.anti_pattern.specs.Language.{Language}
use Rattle.anti_pattern.specs.Search.{Env, Answers, found, failed, first_answer, whole, start}
use Rattle.anti_pattern.proofs.Allowance.{answer_within}
use Rattle.parts.specs.Packed.{parts_in}
use Rattle.parts.specs.Shown.{answer_width, shown_parts}
use Rattle.link.specs.Input.{Input}
use Rattle.reader.specs.Brought.{Brought, classes_of, language_of, brought_accepted}
use Rattle.call.specs.Call.{written}
use Rattle.call.specs.Verdict.{passed}
use Rattle.call.proofs.Brought.{brought_alike}
use Rattle.call.proofs.Handled.{handled, fails, passes}
use Rattle.matcher.specs.Call.{rule_checked, check_of, refusal, told, answer_of, bound_parts, buffer_of}
use Rattle.matcher.specs.Demands.{Answered, Shows}
use Rattle.matcher.proofs.Answered.{same_call, answered}
use Rattle.matcher.proofs.Checks.{check_failed, check_passed}
use Rattle.matcher.proofs.Demanded.{told_refused, told_unbound}
use Rattle.plain.specs.Bytes.{plain_from, Ending, tiering_of, tier_on, root_may_hold, no_parts, told_ending, shown_ending}
use Rattle.plain.specs.Call.{AcceptedPlain, plain_trees, plain_checked, plain_of, plain_buffer_of}
use Rattle.plain.specs.Check.{is_plain}
use Rattle.plain.specs.Demands.{PlainExact, PlainAnswered, PlainDemanded, PlainCalled}
use Rattle.plain.specs.Plain.{Plain}
use Rattle.plain.specs.Tier.{whole_tier, shown_tier, plain_answer}
use Rattle.plain.specs.declared.tier.Tiering.{Tiering}
use Rattle.plain.proofs.Agreeing.{same_outcome}
use Rattle.plain.proofs.Checking.{check_exact}
use Rattle.plain.proofs.Checks.{reads, checked_exactly, own_checked, first_fails, plain_fails, record_fails, all_pass}
use Rattle.plain.proofs.Counting.{tier_count}
use Rattle.plain.proofs.Linked.{linked}
use Rattle.plain.proofs.Turns.{root_fails}
use Rattle.std.specs.Prelude.{Result, Ok, Err, Option, Some, None}

-- On trees

pub plain_exact : (l : Language) (q : Pattern) (t : Term) → Plain q → PlainExact l q t
plain_exact l q t p = record { same_outcome = same_outcome l q t p; count_within = tier_count l.table l.classes q t 0 start }

-- word and buffer are told by what is found first, whatever is counted
same_number : (table : List ℕ) (o : Answers) (n m : ℕ) → answer_number (told (shown_tier table (first_answer o) n)) ≡ answer_number (told (matching_of table o m))
same_number table (found e k o) n m = refl
same_number table failed n m = refl

same_written : (table : List ℕ) (o : Answers) (n m : ℕ) (before : List ℕ) → written (bound_parts (shown_tier table (first_answer o) n)) before ≡ written (bound_parts (matching_of table o m)) before
same_written table (found e k o) n m before = refl
same_written table failed n m before = refl

own_count : (table : List ℕ) (o : Option Env) (n : ℕ) → answer_count (told (shown_tier table o n)) ≡ n
own_count table (Some e) n = refl
own_count table None n = refl

-- The call

module _ (brought : Brought) (pattern bytes before : List ℕ) (pattern_octets : Octets pattern) (record_octets : Octets bytes) where
  abbrev lang : Language
  lang = language_of brought

  module _ (wide : answer_width ≤ length before) (classed : brought_accepted brought ≡ true) (q : Pattern) (t : Term) (i : Input (language_of brought) pattern bytes q t) (p : Plain q) where
    accepted_passes : plain_checked brought pattern bytes (length before) ≡ passed (q, t)
    accepted_passes = (checked_exactly brought pattern bytes pattern_octets record_octets (length before) q t).1 (wide, classed, (i, p))

    as_found : plain_answer lang q t ≡ shown_tier brought.table (first_answer (whole lang q t).out) (whole_tier lang q t).cost
    unfolding plain_answer
    as_found = ap (λ (o : Option Env). shown_tier brought.table o (whole_tier lang q t).cost) (same_outcome lang q t p)

    -- the full search's answer, where it is not spent
    module _ (allowance : ℕ) (within : count_of lang q t ≤ allowance) where
      within_is : answer lang q t allowance ≡ matching_of brought.table (whole lang q t).out (count_of lang q t)
      within_is = answer_within lang q t allowance within

      numbers_same : answer_number (told (plain_answer lang q t)) ≡ answer_number (told (answer lang q t allowance))
      numbers_same = rw (as_found, within_is) (same_number brought.table (whole lang q t).out (whole_tier lang q t).cost (count_of lang q t))

      buffers_same : written (bound_parts (plain_answer lang q t)) before ≡ written (bound_parts (answer lang q t allowance)) before
      buffers_same = rw (as_found, within_is) (same_written brought.table (whole lang q t).out (whole_tier lang q t).cost (count_of lang q t) before)

    full : (allowance : ℕ) → Answered brought pattern bytes before allowance q t (told (answer lang q t allowance)) (written (bound_parts (answer lang q t allowance)) before)
    full allowance = answered brought pattern bytes (brought_alike brought classed) q t i allowance before pattern_octets record_octets wide classed

    call : (allowance : ℕ) → (answer_of brought pattern bytes allowance (length before) ≡ told (answer lang q t allowance))
        × (buffer_of brought pattern bytes allowance before ≡ written (bound_parts (answer lang q t allowance)) before)
    call allowance = same_call brought pattern bytes (brought_alike brought classed) q t i allowance before pattern_octets record_octets wide classed allowance refl

    unspent : (allowance : ℕ) → (answer_number (answer_of brought pattern bytes allowance (length before)) ≡ 11 → ⊥) → count_of lang q t ≤ allowance
    unspent allowance h = go (leb (count_of lang q t) allowance) refl
      where
        go : (b : Bool) → leb (count_of lang q t) allowance ≡ b → count_of lang q t ≤ allowance
        go true e = leb-true (count_of lang q t) allowance e
        go false e = absurd (h (ap answer_number (call allowance).0 ∙ (full allowance).spent_exactly.1 (leb-false (count_of lang q t) allowance e)))

    plain_answered : PlainAnswered brought pattern bytes before q t (told (plain_answer lang q t)) (written (bound_parts (plain_answer lang q t)) before)
    unfolding plain_answer
    plain_answered = record {
      same_word = λ allowance h. numbers_same allowance (unspent allowance h) ∙ sym (ap answer_number (call allowance).0);
      same_buffer = λ allowance h. buffers_same allowance (unspent allowance h) ∙ sym (call allowance).1;
      none_exactly = (
        λ h. ((full (count_of lang q t)).none_exactly.0 (sym (numbers_same (count_of lang q t) (omega arith)) ∙ h)).1,
        λ h. numbers_same (count_of lang q t) (omega arith) ∙ (full (count_of lang q t)).none_exactly.1 (omega arith, h),
      );
      bound_exactly = (
        λ h. ((full (count_of lang q t)).bound_exactly.0 (sym (numbers_same (count_of lang q t) (omega arith)) ∙ h)).1,
        λ h. numbers_same (count_of lang q t) (omega arith) ∙ (full (count_of lang q t)).bound_exactly.1 (omega arith, h),
      );
      bound_shows = λ h.
          let x = (full (count_of lang q t)).bound_shows (sym (numbers_same (count_of lang q t) (omega arith)) ∙ h) in
          (x.0, x.1, subst (Shows brought.table bytes q t x.0) (sym (buffers_same (count_of lang q t) (omega arith))) x.2);
      count_within =
          omega (arith, own_count brought.table (whole_tier lang q t).out (whole_tier lang q t).cost, tier_count brought.table (classes_of brought) q t 0 start, ap length i.pattern_bytes_holds);
    }

  -- the work on trees
  abbrev tells : Pattern × Term → Result Answer Refusal
  tells x = told (plain_answer lang x.0 x.1)

  abbrev binds : Pattern × Term → Option (List Part)
  binds x = bound_parts (plain_answer lang x.0 x.1)

  not_plain : (q : Pattern) → (Plain q → ⊥) → is_plain q ≡ false
  not_plain q h = go (is_plain q) refl
    where
      go : (b : Bool) → is_plain q ≡ b → b ≡ false
      go true e = absurd (h ((check_exact q).0 e))
      go false e = refl

  demanded_of : length (plain_buffer_of brought pattern bytes before) ≡ length before
      → PlainDemanded brought pattern bytes before (plain_of brought pattern bytes (length before)) (plain_buffer_of brought pattern bytes before)
  unfolding plain_of plain_buffer_of
  demanded_of same = record {
    handled = handled refusal tells binds before brought (plain_trees (language_of brought) pattern bytes) (AcceptedPlain (language_of brought) pattern bytes) (λ x. ⊥)
        (reads brought pattern bytes pattern_octets record_octets) answer_number answer_count
        (record {
          numbered = λ r i. refl;
          uncounted = λ r i. refl;
          told_uncounted = λ x r e. absurd (told_refused (plain_answer lang x.0 x.1) r e);
          unbound = λ x. told_unbound (plain_answer lang x.0 x.1);
        })
        (λ wide a x i. (λ e. told_refused (plain_answer lang x.0 x.1) e.0 e.1, λ h. absurd h)) same;
    not_plain = λ wide tabled classed q is_bytes fits h.
        rw (
          own_checked brought pattern bytes (length before) wide tabled classed,
          (pattern_iff (language_of brought) pattern pattern_octets q).1 (is_bytes, fits),
          not_plain q h,
        ) refl;
    answered = λ wide classed q t i p. rw (accepted_passes wide classed q t i p) (plain_answered wide classed q t i p);
  }

  abbrev Called : Result Answer Refusal → List ℕ → Type 0
  Called = PlainCalled brought pattern bytes before

  -- where a check fails
  fails_called : (r : Refusal) → Err r ≡ check_of (plain_checked brought pattern bytes (length before)) → Called (Err r) before
  unfolding plain_of plain_buffer_of
  fails_called r e =
      let c = check_failed (plain_checked brought pattern bytes (length before)) r e in
      fails refusal tells binds before (plain_checked brought pattern bytes (length before)) (PlainDemanded brought pattern bytes before) demanded_of r c.0 c.1

  -- the pattern's own
  pub first_called : {k : (Result (Unit {0}) Refusal)} {r : Refusal} → k ≡ check_of (rule_checked brought pattern (length before)) → k ≡ Err r
      → Called (Err r) before
  first_called {k} {r} e f = fails_called r (first_fails brought pattern bytes (length before) r (sym f ∙ e))

  module _ (rule : Ok tt ≡ check_of (rule_checked brought pattern (length before))) where
    pub plain_called : plain_from brought.table pattern false 0 ≡ false → Called (Err NotPlain) before
    plain_called h = fails_called NotPlain (plain_fails brought pattern bytes (length before) pattern_octets rule h)

    module _ (plain_is : plain_from brought.table pattern false 0 ≡ true) where
      pub record_called : (r : Refusal) → shown_read (read_record (language_of brought) bytes) ≡ Err r → Called (Err r) before
      record_called r h = fails_called r (record_fails brought pattern bytes (length before) pattern_octets rule plain_is r h)

      -- the tier is in the language of the call
      pub passes_called : (m : ℕ) → shown_read (read_record (language_of brought) bytes) ≡ Ok m → (l : Language) → l ≡ language_of brought → (a : Result Answer Refusal) (after : List ℕ)
          → (a ≡ told_ending (tier_on l.table l.classes pattern bytes no_parts)) × (after ≡ shown_ending (tier_on l.table l.classes pattern bytes no_parts) before)
          → length after ≡ length before → Called a after
      unfolding plain_of plain_buffer_of
      passes_called m ends l same a after h =
          let e = all_pass brought pattern bytes (length before) pattern_octets rule plain_is m ends in
          let c = check_passed (plain_checked brought pattern bytes (length before)) e in
          let i = (checked_exactly brought pattern bytes pattern_octets record_octets (length before) c.0.0 c.0.1).0 c.1 in
          let z = linked (language_of brought) pattern bytes (brought_alike brought i.1) c.0.0 c.0.1 i.2.0 i.2.1 before i.0 in
          let n = rw same at h in
          passes refusal tells binds before (plain_checked brought pattern bytes (length before)) (PlainDemanded brought pattern bytes before) demanded_of
          c.0 c.1 a after (n.0 ∙ z.0) (n.1 ∙ z.1)

-- The match of bytes as they are

module _ (x : Ending) (e : Tiering) (is : e ≡ tiering_of x) (before : List ℕ) where
  count_is : e.count ≡ x.count
  count_is = ap (λ (y : Tiering). y.count) is

  assigned_is : e.assigned ≡ cond x.fits (Some x.assigned) None
  assigned_is = ap (λ (y : Tiering). y.assigned) is

  pub ended_fails : e.assigned ≡ None → (Ok (Answer.None e.count) ≡ told_ending x) × (before ≡ shown_ending x before)
  ended_fails h = go x.fits (sym assigned_is ∙ h)
    where
      go : (b : Bool) → cond b (Some x.assigned) None ≡ None
          → (◌≡◌ {A = Result Answer Refusal} (Ok (Answer.None e.count)) (cond b (Ok (Bound x.count)) (Ok (Answer.None x.count)))) × (before ≡ cond b (shown_parts (parts_in x.assigned x.parts 0 variables) before) before)
      go true k = let z : ◌≡◌ {A = ℕ} 0 1 = cc in absurd (omega arith)
      go false k = (ap (λ (n : ℕ). Ok (Answer.None n)) count_is, refl)

  pub ended_fits : {m : ℕ} → e.assigned ≡ Some m → {ps : List ℕ} → ps ≡ x.parts → {after : List ℕ} → after ≡ shown_parts (parts_in m ps 0 variables) before
      → (Ok (Bound e.count) ≡ told_ending x) × (after ≡ shown_ending x before)
  ended_fits {m} h {ps} k {after} f = go x.fits (sym assigned_is ∙ h)
    where
      go : (b : Bool) → cond b (Some x.assigned) None ≡ Some m
          → (◌≡◌ {A = Result Answer Refusal} (Ok (Bound e.count)) (cond b (Ok (Bound x.count)) (Ok (Answer.None x.count)))) × (after ≡ cond b (shown_parts (parts_in x.assigned x.parts 0 variables) before) before)
      go true i =
          let z : m ≡ x.assigned = cc in
          (ap (λ (n : ℕ). Ok (Bound n)) count_is, f ∙ ap₂ (λ (n : ℕ) (y : List ℕ). shown_parts (parts_in n y 0 variables) before) z k)
      go false i = let z : ◌≡◌ {A = ℕ} 0 1 = cc in absurd (omega arith)

-- the first node decides
pub ended_first : (table classes pattern bytes before : List ℕ) (x : Bool) → x ≡ root_may_hold classes pattern bytes → x ≡ false
    → (Ok (Answer.None 1) ≡ told_ending (tier_on table classes pattern bytes no_parts)) × (before ≡ shown_ending (tier_on table classes pattern bytes no_parts) before)
ended_first table classes pattern bytes before x e h = rw (root_fails table classes bytes pattern no_parts (sym e ∙ h)) (refl, refl)
