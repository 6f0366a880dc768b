-- The call for the next answer: answer and final buffer, by the search's reply on any bytes, and what is demanded of them.
use Prim.Native.Nat.{ℕ, ◌≤◌}
use native.Mathlib.Omega.{arith}
use mathlib.Core.Path.{◌≡◌, refl, sym, ◌∙◌, ap, subst}
use mathlib.Core.Logic.{◌⊎◌, inl, inr}
use mathlib.Core.List.{List, []}
use mathlib.Core.Bool.{true}
use lib.ListN.{length, drop}
use Rattle.answers.specs.Refusal.{number_of}
use Rattle.answers.specs.Answers.{answer_number, answer_count}
use Rattle.answers.specs.declared.Part.{Part}
use Rattle.answers.specs.declared.Refusal.{Refusal}
use Rattle.answers.specs.declared.Refusal.TheVariants.{Unknown}
use Rattle.answers.specs.declared.Answer.{Answer}
use Rattle.term.specs.declared.Edition.{Edition}
use Rattle.term.specs.Class.{Alike}
use Rattle.term.specs.Limits.{Octets}
use Rattle.term.specs.Pattern.{Pattern}
use Rattle.term.specs.Term.{Term}
use Rattle.anti_pattern.specs.Language.{language, Language}
use Rattle.anti_pattern.specs.Next.{Following, follows, unknown, next_count, next}
use Rattle.anti_pattern.specs.Answer.{bound, parts}
use Rattle.anti_pattern.specs.Demands.{Given, NextAfter, UnknownLengths, NextExact}
use Rattle.anti_pattern.specs.Meaning.{Assignment}
use Rattle.anti_pattern.specs.Place.{parts_at}
use Rattle.anti_pattern.proofs.Following.{one_for_each_holds, resumed_next}
use Rattle.anti_pattern.proofs.Within.{accepted_of}
use Rattle.search.specs.Following.{next_pass, followed_of, shown_pass}
use Rattle.search.specs.Given.{Pass, ends}
use Rattle.parts.specs.Shown.{answer_width}
use Rattle.search.specs.declared.Followed.{Followed}
use Rattle.search.specs.declared.Finding.{Finding}
use Rattle.search.proofs.Lefts.{following_left}
use Rattle.reader.specs.Brought.{Brought, classes_of, language_of, brought_accepted}
use Rattle.call.specs.Call.{written}
use Rattle.call.proofs.Brought.{brought_alike}
use Rattle.call.proofs.Handled.{handled, fails, passes}
use Rattle.link.specs.OnBytes.{replied_by, replied_pass, following_on_bytes}
use Rattle.matcher.specs.Call.{Input, AcceptedTrees, trees, checked, check_of, refusal, told}
use Rattle.matcher.specs.Next.{told_next, next_of, bound_next, next_buffer_of}
use Rattle.matcher.specs.Demands.{Shows, NextAnswered, NextDemanded, NextCalled}
use Rattle.matcher.proofs.Answered.{env_shown}
use Rattle.matcher.proofs.Calls.{every_call}
use Rattle.matcher.proofs.Checks.{reads, checked_exactly, check_failed, check_passed}
use Rattle.matcher.proofs.Cost.{next_bounded}
use Rattle.matcher.proofs.Demanded.{told_refused, told_unbound}
use Rattle.link.proofs.Followed.{next_accepted}
use Rattle.matcher.proofs.Follows.{is_unknown, is_spent, is_none, is_bound, same_next}
use Rattle.matcher.proofs.Matched.{told_parts, shown_by_holds}
use Rattle.link.proofs.NextBytes.{next_on_bytes, bound_stands}
use Rattle.std.specs.Prelude.{Result, Err, Ok, Option, Some, None}

-- On any bytes

pub next_left_within : (table classes pattern bytes given : List ℕ) (allowance : ℕ) (e : Followed)
    → e ≡ followed_of allowance (next_pass table classes pattern bytes given allowance) → e.left ≤ allowance
next_left_within table classes pattern bytes given allowance e s = rw s (following_left table classes bytes pattern given allowance)

module _ (table classes pattern bytes given before : List ℕ) (allowance : ℕ) where
  abbrev pass : Pass
  pass = next_pass table classes pattern bytes given allowance

  abbrev OnBytes : Result Answer Refusal → List ℕ → Type 0
  OnBytes a after = (a ≡ told_next (following_on_bytes table classes pattern bytes given allowance)) × (after ≡ shown_pass pass before)

  ended_told : (p : Pass) (o : Finding) (e : Followed) → e.known ≡ Some o → e ≡ followed_of allowance p
      → told (replied_by o allowance e.left []) ≡ told_next (replied_pass allowance p)
  ended_told (ends r) o e h s =
      let z : o ≡ r.outcome = cc in
      let y : e.left ≡ r.left = ap (λ (x : Followed). x.left) s in told_parts o allowance e.left r.parts ∙ rw (z, y)
  ended_told Pass.unknown o e h s = let z : ◌≡◌ {A = ℕ} 0 1 = cc in absurd (omega arith)

  unknown_told : (p : Pass) (e : Followed) → e.known ≡ None → e ≡ followed_of allowance p → Err Unknown ≡ told_next (replied_pass allowance p)
  unknown_told (ends r) e h s = let z : ◌≡◌ {A = ℕ} 0 1 = cc in absurd (omega arith)
  unknown_told Pass.unknown e h s = refl

  pub next_ended : (o : Finding) (e : Followed) → e.known ≡ Some o → e ≡ followed_of allowance pass
      → (a : Result Answer Refusal) → a ≡ told (replied_by o allowance e.left []) → (after : List ℕ) → after ≡ shown_pass pass before → OnBytes a after
  unfolding following_on_bytes
  next_ended o e h s a i after f = (i ∙ ended_told pass o e h s, f)

  pub next_unknown : (e : Followed) → e.known ≡ None → e ≡ followed_of allowance pass
      → (after : List ℕ) → after ≡ shown_pass pass before → OnBytes (Err Unknown) after
  unfolding following_on_bytes
  next_unknown e h s after f = (unknown_told pass e h s, f)

  -- what the search shows is what its answer writes
  shown_next : answer_width ≤ length before → (p : Pass) → shown_pass p before ≡ written (bound_next (replied_pass allowance p)) before
  shown_next wide (ends r) = shown_by_holds table classes pattern bytes before allowance wide r.outcome r.left r.parts
  shown_next wide Pass.unknown = refl

  -- on accepted input it is the next answer on trees
  bytes_followed : (edition : Edition) → answer_width ≤ length before → Alike table classes → (q : Pattern) (t : Term)
      → Input (language edition table classes) pattern bytes q t
      → (told_next (following_on_bytes table classes pattern bytes given allowance) ≡ told_next (next (language edition table classes) q t given allowance))
      × (shown_pass pass before ≡ written (bound_next (next (language edition table classes) q t given allowance)) before)
  unfolding following_on_bytes
  bytes_followed edition wide k q t i =
      let z = sym (next_on_bytes (language edition table classes) pattern bytes k q t i given allowance) in
      (ap told_next z, shown_next wide pass ∙ ap (λ (x : Following). written (bound_next x) before) z)

-- With every check

-- a refusal is unknown
refused_unknown : (f : Following) (r : Refusal) → answer_number (told_next f) ≡ number_of r → answer_number (told_next f) ≡ number_of Unknown
refused_unknown (follows o) r e = absurd (told_refused o r e)
refused_unknown unknown r e = refl

next_uncounted : (f : Following) (r : Refusal) → answer_number (told_next f) ≡ number_of r → answer_count (told_next f) ≡ 0
next_uncounted (follows o) r e = absurd (told_refused o r e)
next_uncounted unknown r e = refl

next_unbound : (f : Following) → (answer_number (told_next f) ≡ 0 → ⊥) → bound_next f ≡ None
next_unbound (follows o) h = told_unbound o h
next_unbound unknown h = refl

module _ (brought : Brought) (pattern bytes given before : List ℕ) (allowance : ℕ) (pattern_octets : Octets pattern)
    (record_octets : Octets bytes) where
  module _ (wide : answer_width ≤ length before) (accepted : brought_accepted brought ≡ true) (q : Pattern) (t : Term)
      (i : Input (language_of brought) pattern bytes q t) where
    abbrev following : ℕ → Following
    following n = next (language_of brought) q t given n

    alike : Alike brought.table (classes_of brought)
    alike = brought_alike brought accepted

    exact : NextExact (language_of brought) q t given allowance
    exact = next_accepted (language_of brought) pattern bytes q t i alike given allowance

    -- what is written shows the next
    bound_next_holds : (ps : List Part) (n : ℕ) → following allowance ≡ follows (bound ps n)
        → (x : Assignment) × (y : Assignment) × Given (language_of brought) q t given x × NextAfter (language_of brought) q t x y
        × Shows brought.table bytes q t y (written (bound_next (following allowance)) before)
    bound_next_holds ps n h =
        let b = (exact.bound_exactly ps n).0 h in
        let each = one_for_each_holds (language_of brought) q t given b.2.0 b.2.2 in
        let s = bound_stands (language_of brought) pattern bytes alike q t i given allowance each ps n h in
        let of = accepted_of (language_of brought) t i.record_accepted in
        let m = resumed_next (language_of brought) q t of given s.0 s.1 in
        let z : following allowance ≡ follows (bound (parts brought.table s.0) n) = h ∙ ap (λ (x : List Part). follows (bound x n)) s.2 in (
          m.0,
          s.0.value,
          m.1,
          m.2,
          subst (Shows brought.table bytes q t s.0.value) (ap (λ (f : Following). written (bound_next f) before) (sym z))
              (env_shown brought pattern bytes alike q t i s.0 m.3 _ s.3.1 (drop answer_width before)),
        )

    next_answered : NextAnswered brought pattern bytes given before allowance q t (told_next (following allowance)) (written (bound_next (following allowance)) before)
    next_answered = record {
      unknown_exactly = (λ h. exact.unknown_exactly.0 (is_unknown (following allowance) h), λ h. ap number (exact.unknown_exactly.1 h));
      spent_exactly = (
        λ h. let s = is_spent (following allowance) h in let b = (exact.spent_exactly s.0).0 s.1 in (b.1, b.2),
        λ h. ap number ((exact.spent_exactly allowance).1 (refl, h.0, h.1)),
      );
      spent_shows = λ h. let s = is_spent (following allowance) h in ap shows s.1 ∙ ((exact.spent_exactly s.0).0 s.1).0;
      none_exactly = (
        λ h. let s = is_none (following allowance) h in let b = (exact.none_exactly s.0).0 s.1 in (b.1, b.2),
        λ h. ap number ((exact.none_exactly (next_count (language_of brought) q t given)).1 (refl, h.0, h.1)),
      );
      shows_count = λ h. counted h;
      bound_exactly = (
        λ h.
            let s = is_bound (following allowance) h in
            let b = (exact.bound_exactly s.0 s.1).0 s.2 in (b.1, (b.2.0, b.2.1, b.2.2, b.2.3)),
        λ h.
            ap number ((exact.bound_exactly (parts_at brought.table q t h.1.1) (next_count (language_of brought) q t given)).1
            (refl, h.0, (h.1.0, h.1.1, h.1.2, h.1.3, refl))),
      );
      bound_shows = λ h. let s = is_bound (following allowance) h in bound_next_holds s.0 s.1 s.2;
      larger_allowance = λ more h k. same_next brought pattern bytes given before allowance pattern_octets record_octets wide accepted q t i more (exact.larger_allowance more h k);
      every = every_call brought pattern bytes pattern_octets record_octets accepted q t i before wide;
    }
      where
        number : Following → ℕ
        number f = answer_number (told_next f)

        shows : Following → ℕ
        shows f = answer_count (told_next f)

        counted : (number (following allowance) ≡ 10) ⊎ (number (following allowance) ≡ 0)
            → shows (following allowance) ≡ next_count (language_of brought) q t given
        counted (inl h) = let s = is_none (following allowance) h in ap shows s.1 ∙ ((exact.none_exactly s.0).0 s.1).0
        counted (inr h) = let s = is_bound (following allowance) h in ap shows s.2 ∙ ((exact.bound_exactly s.0 s.1).0 s.2).0

  -- the work on trees
  abbrev work : Pattern × Term → Following
  work x = next (language_of brought) x.0 x.1 given allowance

  abbrev tells : Pattern × Term → Result Answer Refusal
  tells x = told_next (work x)

  abbrev binds : Pattern × Term → Option (List Part)
  binds x = bound_next (work x)

  demanded_of : length (next_buffer_of brought pattern bytes given allowance before) ≡ length before
      → NextDemanded brought pattern bytes given before allowance (next_of brought pattern bytes given allowance (length before))
      (next_buffer_of brought pattern bytes given allowance before)
  unfolding next_of next_buffer_of
  demanded_of same = record {
    handled = handled refusal tells binds before brought (trees (language_of brought) pattern bytes) (AcceptedTrees (language_of brought) pattern bytes)
        (λ x. UnknownLengths (language_of brought) x.0 x.1 given allowance) (reads brought pattern bytes pattern_octets record_octets) answer_number answer_count
        (record {
          numbered = λ r i. refl;
          uncounted = λ r i. refl;
          told_uncounted = λ x. next_uncounted (work x);
          unbound = λ x. next_unbound (work x);
        })
        (λ wide a x i.
        let u = (next_answered wide a x.0 x.1 i).unknown_exactly in
        (λ e. u.0 (refused_unknown (work x) e.0 e.1), λ h. (Unknown, u.1 h))) same;
    answered = λ wide a q t i. let z = same_next brought pattern bytes given before allowance pattern_octets record_octets wide a q t i allowance refl in rw (z.0, z.1) (next_answered wide a q t i);
    bounded = λ wide a q t i n.
        rw (same_next brought pattern bytes given before allowance pattern_octets record_octets wide a q t i allowance refl).0
        (next_bounded (language_of brought) q i.pattern_accepted n t allowance given
        (next_accepted (language_of brought) pattern bytes q t i (brought_alike brought a) given allowance));
  }

  -- where a check fails
  pub next_fails : {k : (Result (Unit {0}) Refusal)} {r : Refusal} → k ≡ check_of (checked brought pattern bytes (length before)) → k ≡ Err r → NextCalled brought pattern bytes given before allowance (Err r) before
  unfolding next_of next_buffer_of
  next_fails {k} {r} e f =
      let c = check_failed (checked brought pattern bytes (length before)) r (sym f ∙ e) in
      fails refusal tells binds before (checked brought pattern bytes (length before)) (NextDemanded brought pattern bytes given before allowance) demanded_of
      r c.0 c.1

  -- where all pass, and the search is in the language of the call
  pub next_passes : {k : (Result (Unit {0}) Refusal)} → k ≡ check_of (checked brought pattern bytes (length before)) → k ≡ Ok tt
      → (l : Language) → l ≡ language_of brought → (a : Result Answer Refusal) (after : List ℕ)
      → (a ≡ told_next (following_on_bytes l.table l.classes pattern bytes given allowance))
      × (after ≡ shown_pass (next_pass l.table l.classes pattern bytes given allowance) before)
      → length after ≡ length before → NextCalled brought pattern bytes given before allowance a after
  unfolding next_of next_buffer_of
  next_passes e f l same a after m =
      let c = check_passed (checked brought pattern bytes (length before)) (sym f ∙ e) in
      let i = (checked_exactly brought pattern bytes pattern_octets record_octets (length before) c.0.0 c.0.1).0 c.1 in
      let g = bytes_followed brought.table (classes_of brought) pattern bytes given before allowance brought.edition i.0 (brought_alike brought i.1) c.0.0 c.0.1 i.2 in
      let n = rw same at m in
      passes refusal tells binds before (checked brought pattern bytes (length before)) (NextDemanded brought pattern bytes given before allowance) demanded_of
      c.0 c.1 a after (n.0 ∙ g.0) (n.1 ∙ g.1)
