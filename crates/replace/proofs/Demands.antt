-- The theorems: what specs/Demands demands of the definitions, on all inputs.
use Prim.Native.Nat.{ℕ, ◌≤◌}
use native.Mathlib.Omega.{arith}
use mathlib.Core.Path.{◌≡◌, refl, sym, ap, ap₂, subst, ◌∙◌}
use mathlib.Core.Logic.{inl, inr}
use mathlib.Core.List.{List, []}
use mathlib.Core.Bool.{Bool, true, false, cond}
use lib.Dec.{ltb}
use lib.ListN.{length, take, drop}
use lib.Seq.{take_at}
use borrow.Author.Tests.{le-ltb}
use Rattle.answers.specs.Answers.{applied_number, applied_length}
use Rattle.answers.specs.declared.Refusal.TheVariants.{Full, Outgrown}
use Rattle.answers.specs.declared.Applied.{Applied}
use Rattle.answers.specs.declared.Applied.TheVariants.{Bound, Spent}
use Rattle.answers.proofs.Numbers.{word_or_refusal}
use Rattle.term.specs.Class.{Alike}
use Rattle.term.specs.Limits.{longest_record, Octets, TermAccepted}
use Rattle.term.specs.Pattern.{Pattern}
use Rattle.term.specs.Term.{Term, size, term_tree, term_bytes}
use Rattle.term.proofs.Sizes.{encode_append}
use Rattle.anti_pattern.specs.Answer.{count_of}
use Rattle.anti_pattern.specs.Language.{Language, Classed}
use Rattle.anti_pattern.specs.Variables.{free}
use Rattle.anti_pattern.proofs.Within.{accepted_of}
use Rattle.reader.specs.Brought.{Brought, classes_of, language_in, language_of, list_accepted, brought_accepted}
use Rattle.call.specs.Call.{answer_by}
use Rattle.call.specs.Verdict.{Verdict, passed, fault}
use Rattle.call.proofs.Brought.{brought_alike}
use Rattle.call.proofs.Checks.{fault_passed}
use Rattle.replace.specs.Call.{Input, checked, Replacement, result, nothing, spent, replacement, measured, unless_full, refusal, look_on, apply_on, output_on, look_of, apply_of, output_of}
use Rattle.replace.specs.Demands.{Replaced, Fitting, Answered, Demanded, LookDemanded}
use Rattle.replace.specs.Growth.{within_limits}
use Rattle.replace.specs.Loose.{Template, loose}
use Rattle.replace.proofs.Checks.{Trees, checked_input, input_checked, loose_checked}
use Rattle.replace.proofs.Limits.{within_room}
use Rattle.replace.proofs.Replacements as came
use Rattle.replace.proofs.Results.{one_result, own_template, first_is_shown}
use Rattle.replace.proofs.Templates.{template_exactly}
use Rattle.std.specs.Prelude.{Result, Ok, Err, Option, Some, None}
use Rattle.answers.specs.declared.Refusal.{Refusal}

-- a result within the limits is never too long for 4,096 bytes
measured_room : (l : Language) (r : Replacement) → measured l.table r ≡ unless_full longest_record (measured l.table r)
measured_room l (nothing n) = refl
measured_room l (spent n) = refl
measured_room l (result u n) = go (within_limits l.table u) refl
  where
    go : (b : Bool) → within_limits l.table u ≡ b
        → cond b (Ok (Bound n (size l.table u))) (Err Outgrown) ≡ unless_full longest_record (cond b (Ok (Bound n (size l.table u))) (Err Outgrown))
    go true e = rw (le-ltb longest_record (size l.table u) (within_room l u e))
    go false e = refl

-- "For every input the look's answer equals that of applying with an output of 4,096 bytes."
pub look_is_apply : (brought : Brought) (rule template bytes : List ℕ) (allowance : ℕ)
    → look_of brought rule template bytes allowance ≡ apply_of brought rule template bytes allowance longest_record
unfolding look_of apply_of
look_is_apply brought rule template bytes allowance = go (checked brought rule template bytes)
  where
    go : (v : Verdict Trees) → answer_by refusal (λ x. look_on (language_of brought) x.0.0 x.0.1 x.1 allowance) v
        ≡ answer_by refusal (λ x. apply_on (language_of brought) x.0.0 x.0.1 x.1 allowance longest_record) v
    go (fault r i) = refl
    go (passed x) = measured_room (language_of brought) (replacement (language_of brought) x.0.0 x.0.1 x.1 allowance)

-- nor does either tell more

measured_short : (l : Language) (r : Replacement) → applied_length (measured l.table r) ≤ longest_record
measured_short l (nothing n) = omega arith
measured_short l (spent n) = omega arith
measured_short l (result u n) = go (within_limits l.table u) refl
  where
    go : (b : Bool) → within_limits l.table u ≡ b → applied_length (cond b (Ok (Bound n (size l.table u))) (Err Outgrown)) ≤ longest_record
    go true e = within_room l u e
    go false e = omega arith

unless_short : (room : ℕ) (a : Result Applied Refusal) → applied_length a ≤ longest_record → applied_length (unless_full room a) ≤ longest_record
unless_short room (Ok (Bound n m)) h = go (ltb room m)
  where
    go : (b : Bool) → applied_length (cond b (Err Full) (Ok (Bound n m))) ≤ longest_record
    go true = omega arith
    go false = h
unless_short room (Ok (Applied.None n)) h = h
unless_short room (Ok (Spent n)) h = h
unless_short room (Err r) h = h

module _ (brought : Brought) (rule template bytes : List ℕ) (allowance : ℕ) where
  pub look_short : applied_length (look_of brought rule template bytes allowance) ≤ longest_record
  unfolding look_of
  look_short = go (checked brought rule template bytes)
    where
      go : (v : Verdict Trees) → applied_length (answer_by refusal (λ x. look_on (language_of brought) x.0.0 x.0.1 x.1 allowance) v) ≤ longest_record
      go (fault r i) = omega arith
      go (passed x) = measured_short (language_of brought) (replacement (language_of brought) x.0.0 x.0.1 x.1 allowance)

  pub apply_short : (room : ℕ) → applied_length (apply_of brought rule template bytes allowance room) ≤ longest_record
  unfolding apply_of
  apply_short room = go (checked brought rule template bytes)
    where
      go : (v : Verdict Trees) → applied_length (answer_by refusal (λ x. apply_on (language_of brought) x.0.0 x.0.1 x.1 allowance room) v) ≤ longest_record
      go (fault r i) = omega arith
      go (passed x) =
          unless_short room (look_on (language_of brought) x.0.0 x.0.1 x.1 allowance) (measured_short (language_of brought) (replacement (language_of brought) x.0.0 x.0.1 x.1 allowance))

-- a class list that is accepted, or none
pub brought_classed : (brought : Brought) → brought_accepted brought ≡ true → Classed (language_of brought)
brought_classed brought = by brought.list
  where
    by : (o : Option (List ℕ)) → list_accepted brought.table o ≡ true → Classed (language_in brought.edition brought.table o)
    by None h = inl refl
    by (Some classes) h = inr h

-- every larger allowance comes to the same
pub larger : (l : Language) (p q : Pattern) (t : Term) (allowance more : ℕ) → count_of l p t ≤ allowance → allowance ≤ more
    → replacement l p q t more ≡ replacement l p q t allowance
unfolding replacement
larger l p q t allowance more h k = rw (le-ltb more (count_of l p t) (omega arith), le-ltb allowance (count_of l p t) h)

-- a pattern that is no template is loose
is_loose : (p q : Pattern) → (Template p q → ⊥) → loose (free p) q ≡ true
is_loose p q n = go (loose (free p) q) refl
  where
    go : (b : Bool) → loose (free p) q ≡ b → b ≡ true
    go true e = refl
    go false e = absurd (n ((template_exactly p q).0 e))

-- of trees

module _ (l : Language) (rule template bytes : List ℕ) (k : Alike l.table l.classes) (p q : Pattern) (t : Term) (i : Input l rule template bytes p q t)
    (allowance : ℕ) (before : List ℕ) where
  abbrev table : List ℕ
  table = l.table

  pub ended : came.Ended l k p q t (accepted_of l t i.matched.record_accepted) i.matched.pattern_accepted i.replacing.accepted ((template_exactly p q).1 i.replacing.of_rule)
      (first_is_shown l rule bytes k p t i.matched) allowance before (apply_on l p q t allowance (length before)) (output_on l p q t allowance before)
  ended = came.ended l k p q t (accepted_of l t i.matched.record_accepted) i.matched.pattern_accepted i.replacing.accepted ((template_exactly p q).1 i.replacing.of_rule)
      (first_is_shown l rule bytes k p t i.matched) allowance before

  -- what is written is an accepted record
  pub next_record : applied_number (apply_on l p q t allowance (length before)) ≡ 0
      → (u : Term) × TermAccepted l u × (take (applied_length (apply_on l p q t allowance (length before))) (output_on l p q t allowance before) ≡ term_bytes table u [])
  next_record h =
      let e = ended in
      let b = came.bound_to l k p q t _ _ _ _ _ allowance before _ _ e h in
      let u = b.1.0 in
      let n = came.shows_length l k p q t _ _ _ _ _ allowance before _ _ e u h b.1.1 in
      let w = came.writes l k p q t _ _ _ _ _ allowance before _ _ e u h b.1.1 in (
        u,
        b.1.2.0,
        ap₂ take n (w ∙ encode_append table (term_tree u) [] (drop (length (term_bytes table u [])) before))
            ∙ take_at (term_bytes table u []) (drop (length (term_bytes table u [])) before) (length (term_bytes table u [])) refl,
      )

module _ (brought : Brought) (rule template bytes before : List ℕ) (allowance : ℕ) (rule_octets : Octets rule)
    (template_octets : Octets template) (record_octets : Octets bytes) where
  abbrev lang : Language
  lang = language_of brought

  abbrev Refuses : Pattern → Pattern → Term → Type 0
  Refuses p q t = (count_of lang p t ≤ allowance) × ((u : Term) × Replaced lang p q t u × (Fitting lang (length before) u → ⊥))

  abbrev tells : Trees → Result Applied Refusal
  tells x = apply_on lang x.0.0 x.0.1 x.1 allowance (length before)

  abbrev leaves : Trees → List ℕ
  leaves x = output_on lang x.0.0 x.0.1 x.1 allowance before

  module _ (a : brought_accepted brought ≡ true) (p q : Pattern) (t : Term) (i : Input lang rule template bytes p q t) where
    k : Alike brought.table (classes_of brought)
    k = brought_alike brought a

    same : (v : Verdict Trees) → checked brought rule template bytes ≡ v → v ≡ passed ((p, q), t)
    same v h = sym h ∙ input_checked brought rule template bytes rule_octets template_octets record_octets a p q t i

    answered : Answered brought rule template bytes before allowance p q t (tells ((p, q), t)) (leaves ((p, q), t))
    unfolding apply_of output_of
    answered =
        let e = ended lang rule template bytes k p q t i allowance before in
        let of = accepted_of lang t i.matched.record_accepted in
        record {
          spent_exactly = (came.spent_to lang k p q t _ _ _ _ _ allowance before _ _ e, came.spent_from lang k p q t _ _ _ _ _ allowance before _ _ e);
          spent_shows = came.spent_count lang k p q t _ _ _ _ _ allowance before _ _ e;
          none_exactly = (came.none_to lang k p q t _ _ _ _ _ allowance before _ _ e, came.none_from lang k p q t _ _ _ _ _ allowance before _ _ e);
          one_result = one_result lang k p t of q i.matched.pattern_accepted i.replacing.accepted ((template_exactly p q).1 i.replacing.of_rule);
          bound_exactly = (came.bound_to lang k p q t _ _ _ _ _ allowance before _ _ e, came.bound_from lang k p q t _ _ _ _ _ allowance before _ _ e);
          outgrown_exactly = (came.outgrown_to lang k p q t _ _ _ _ _ allowance before _ _ e, came.outgrown_from lang k p q t _ _ _ _ _ allowance before _ _ e);
          full_exactly = (came.full_to lang k p q t _ _ _ _ _ allowance before _ _ e, came.full_from lang k p q t _ _ _ _ _ allowance before _ _ e);
          shows_count = came.shows_count lang k p q t _ _ _ _ _ allowance before _ _ e;
          shows_length = came.shows_length lang k p q t _ _ _ _ _ allowance before _ _ e;
          bound_writes = came.writes lang k p q t _ _ _ _ _ allowance before _ _ e;
          larger_allowance = λ more h m.
              rw (input_checked brought rule template bytes rule_octets template_octets record_octets a p q t i, larger lang p q t allowance more h m) (refl, refl);
          own_template = own_template lang k p t of q i.matched.pattern_accepted i.replacing.accepted ((template_exactly p q).1 i.replacing.of_rule) (brought_classed brought a);
        }

  demanded_by : (v : Verdict Trees) → checked brought rule template bytes ≡ v
      → Demanded brought rule template bytes before allowance (answer_by refusal tells v) (answer_by (λ r i. before) leaves v)
  demanded_by (fault r j) h = record {
    refused_exactly = (λ e a p q t i. absurd (fault_passed (same a p q t i (fault r j) h)), λ f. (r, refl));
    refused_shows = λ s e. refl;
    loose = λ tabled a p q pb pa qb qa n.
        let z = loose_checked brought rule template bytes rule_octets template_octets record_octets tabled a p q pb pa qb qa (is_loose p q n) in
        ap (λ (v : Verdict Trees). applied_number (answer_by refusal tells v)) (sym h ∙ z);
    unbound_length = λ e. refl;
    untouched = λ e. refl;
    past_stays = refl;
    next_record = λ e. absurd (word_or_refusal 0 refl r (sym e));
    answered = λ a p q t i. absurd (fault_passed (same a p q t i (fault r j) h));
  }
  demanded_by (passed x) h =
      let c = checked_input brought rule template bytes rule_octets template_octets record_octets x h in
      let p = x.0.0 in
      let q = x.0.1 in
      let t = x.1 in
      let i = c.1 in
      let k = brought_alike brought c.0 in
      let e = ended lang rule template bytes k p q t i allowance before in
      record {
        refused_exactly = (
          λ f a p' q' t' i'. moved p' q' t' (same a p' q' t' i' (passed x) h) (came.refused_to lang k p q t _ _ _ _ _ allowance before _ _ e f),
          λ f. came.refused_from lang k p q t _ _ _ _ _ allowance before _ _ e (f c.0 p q t i),
        );
        refused_shows = came.no_count lang k p q t _ _ _ _ _ allowance before _ _ e;
        loose = λ tabled a p' q' pb pa qb qa n.
            absurd (fault_passed (sym (loose_checked brought rule template bytes rule_octets template_octets record_octets tabled a p' q' pb pa qb qa (is_loose p' q' n)) ∙ h));
        unbound_length = came.no_length lang k p q t _ _ _ _ _ allowance before _ _ e;
        untouched = came.untouched lang k p q t _ _ _ _ _ allowance before _ _ e;
        past_stays = came.past_stays lang k p q t _ _ _ _ _ allowance before _ _ e;
        next_record = next_record lang rule template bytes k p q t i allowance before;
        answered = λ a p' q' t' i'.
            subst (λ (y : Trees). Answered brought rule template bytes before allowance p' q' t' (tells y) (leaves y)) (sym (trees_same (same a p' q' t' i' (passed x) h)))
            (answered a p' q' t' i');
      }
    where
      trees_same : {y z : Trees} → ◌≡◌ {A = Verdict Trees} (passed y) (passed z) → y ≡ z
      trees_same e = cc

      moved : (p q : Pattern) (t : Term) → ◌≡◌ {A = Verdict Trees} (passed x) (passed ((p, q), t))
          → Refuses x.0.0 x.0.1 x.1 → Refuses p q t
      moved p q t e f = let z : x ≡ ((p, q), t) = trees_same e in subst (λ (y : Trees). Refuses y.0.0 y.0.1 y.1) z f

  pub demanded : Demanded brought rule template bytes before allowance (apply_of brought rule template bytes allowance (length before))
      (output_of brought rule template bytes allowance before)
  unfolding apply_of output_of
  demanded = demanded_by (checked brought rule template bytes) refl

-- a look is the answer of applying to an output of 4,096 bytes
pub look_demanded : (brought : Brought) (rule template bytes : List ℕ) (allowance : ℕ) → Octets rule → Octets template → Octets bytes
    → LookDemanded brought rule template bytes allowance (look_of brought rule template bytes allowance)
look_demanded brought rule template bytes allowance ro to bo =
    let e = look_is_apply brought rule template bytes allowance in
    record {
      as_applied = e;
      demanded = λ before h.
          subst (λ (a : Result Applied Refusal). Demanded brought rule template bytes before allowance a (output_of brought rule template bytes allowance before))
          (ap (apply_of brought rule template bytes allowance) h ∙ sym e)
          (demanded brought rule template bytes before allowance ro to bo);
    }
