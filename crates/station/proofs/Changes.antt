-- What each way through `keep_by_value`, `return_by_value`, `new_brought` and `apply_brought` gives is what the call makes of the station.
use Prim.Native.Nat.{ℕ, suc, ◌+◌, ◌*◌, ◌≤◌, ◌<◌}
use native.Mathlib.Omega.{arith}
use mathlib.Core.Path.{◌≡◌, refl, sym, ap, subst, ◌∙◌}
use mathlib.Core.List.{List, [], ◌∷◌}
use mathlib.Core.Bool.{Bool, true, false, cond}
use lib.Dec.{leb, eqb}
use lib.ListN.{length, get_or, take, drop}
use lib.Seq.{sets, length-take-le}
use borrow.Author.Tests.{lt-ltb, le-ltb, leb-true}
use Rattle.answers.specs.declared.Applied.{Applied}
use Rattle.answers.specs.declared.Refusal.{Refusal}
use Rattle.answers.specs.declared.Refusal.TheVariants.{Table, Class, Long, Full, NoName, Shelf}
use Rattle.term.specs.Limits.{longest_record}
use Rattle.term.specs.Table.{table_accepted}
use Rattle.term.specs.Language.{Language}
use Rattle.term.specs.Term.{Term, term_of}
use Rattle.reader.specs.Reading.{Parsed, refused, read, shown, read_by, read_tree, unless_spare, read_whole, map_parsed, read_record}
use Rattle.reader.proofs.Answers.{refused_shown, ends_shown}
use Rattle.parts.specs.Shown.{answer_width}
use Rattle.answers.specs.Answers.{applied_length}
use Rattle.reader.specs.Brought.{Brought, language_of, brought_accepted}
use Rattle.call.specs.Call.{checks}
use Rattle.call.specs.Verdict.{Verdict, passed, fault, reading}
use Rattle.call.proofs.Checks as every
use Rattle.replace.specs.Call.{apply_of as applying, output_of as applied}
use Rattle.replace.specs.Demands.{Demanded as Applying}
use Rattle.replace.proofs.Demands.{apply_short as applied_short}
use Rattle.station.specs.Demands.{AsApplied, IfChecked}
use Rattle.station.specs.Slot.{apart, room, record_at, names_of}
use Rattle.station.specs.Check.{place_of, check_of}
use Rattle.station.specs.Call.{outcome, with_record, lengthened, named, emptied, unless_refused, keep_of, return_of, change_of, record_check, new_of, applied_to, result_of, fresh, taken_up, apply_of}
use Rattle.station.specs.declared.Station.{Station}
use Rattle.station.proofs.Copies.{stretch_length}
use Rattle.station.proofs.Results.{fresh_length}
use Rattle.station.proofs.Sound.{Sound, sound, length_fits}
use Rattle.std.specs.Prelude.{Result, Ok, Err, None}

-- a name's place is at most their number
pub place_most : (name : ℕ) (ms : List ℕ) → place_of name ms ≤ length ms
unfolding place_of
place_most name [] = omega arith
place_most name (m ∷ ms) = go (eqb m name) (place_most name ms)
  where
    go : (b : Bool) → place_of name ms ≤ length ms → cond b 0 (suc (place_of name ms)) ≤ suc (length ms)
    go true h = omega arith
    go false h = omega arith

module _ (s : Station) (l : List ℕ) (name : ℕ) where
  pub keep_refused : (r : Refusal) → check_of s (length l) ≡ Err r → outcome (Err r) s l ≡ keep_of name s l
  unfolding keep_of unless_refused
  keep_refused r e = rw e

  pub return_refused : (r : Refusal) → check_of s (length l) ≡ Err r → outcome (Err r) s l ≡ return_of name s l
  unfolding return_of unless_refused
  return_refused r e = rw e

  module _ (k : ℕ) (e : check_of s (length l) ≡ (Ok (tt {0}))) (at : k ≡ place_of name (take s.kept s.names)) where
    pub keep_ninth : 8 ≤ k → outcome (Err Shelf) s l ≡ keep_of name s l
    unfolding keep_of unless_refused names_of
    keep_ninth h = rw (e, ← at, le-ltb k 8 h)

    pub return_none : s.kept ≤ k → outcome (Err NoName) s l ≡ return_of name s l
    unfolding return_of unless_refused names_of
    return_none h = rw (e, ← at, le-ltb k s.kept h)

-- a record in use is as long as it says
pub record_length : (s : Station) (l : List ℕ) → Sound s (length l) → (j : ℕ) → j ≤ s.kept → length (record_at s.lengths l j) ≡ get_or s.lengths j 0
unfolding record_at
record_length s l ok j h = stretch_length l (apart * j) (get_or s.lengths j 0) (omega (arith, ok.lent, ok.few, length_fits s (length l) ok j h))

module _ (s : Station) (l : List ℕ) (name : ℕ) (k : ℕ) (e : check_of s (length l) ≡ (Ok (tt {0}))) (at : k ≡ place_of name (take s.kept s.names)) where
  pub keep_done : k < 8 → outcome (Ok (tt {0})) (lengthened (named s k name) (k + 1) (get_or s.lengths 0 0)) (sets l (4096 * (k + 1)) (take (get_or s.lengths 0 0) (drop 0 l))) ≡ keep_of name s l
  unfolding keep_of unless_refused names_of record_at
  keep_done h =
      let f : k + 1 ≡ suc k = omega arith in
      let g : length (take (get_or s.lengths 0 0) l) ≡ get_or s.lengths 0 0 = record_length s l (sound s (length l) e) 0 (omega arith) in
      rw (e, ← at, lt-ltb k 8 h, f, g)

  pub return_done : k < s.kept → outcome (Ok (tt {0})) (lengthened s 0 (get_or s.lengths (k + 1) 0)) (sets l 0 (take (get_or s.lengths (k + 1) 0) (drop (4096 * (k + 1)) l))) ≡ return_of name s l
  unfolding return_of unless_refused names_of record_at
  return_done h =
      let f : k + 1 ≡ suc k = omega arith in
      let g : length (take (get_or s.lengths (suc k) 0) (drop (4096 * suc k) l)) ≡ get_or s.lengths (suc k) 0 = record_length s l (sound s (length l) e) (suc k) (omega arith) in
      rw (e, ← at, lt-ltb k s.kept h, f, g)

-- the checks of a new station's record, by what is told of the ones before
module _ (brought : Brought) (bytes : List ℕ) where
  wide : answer_width ≤ answer_width
  wide = omega arith

  abbrev own : Verdict Term
  own = reading (read_record (language_of brought) bytes)

  pub record_table : table_accepted brought.table ≡ false → Err Table ≡ record_check brought bytes
  unfolding record_check
  record_table t = every.table_fails brought answer_width own change_of wide t

  module _ (t : table_accepted brought.table ≡ true) where
    pub record_class : brought_accepted brought ≡ false → Err Class ≡ record_check brought bytes
    unfolding record_check
    record_class b = every.class_fails brought answer_width own change_of wide t b

    module _ (b : brought_accepted brought ≡ true) where
      then_own : record_check brought bytes ≡ change_of own
      unfolding record_check
      then_own = ap change_of (every.then_own brought answer_width own wide t b)

      pub record_refused : (r : Refusal) → shown (read_record (language_of brought) bytes) ≡ Err r → Err r ≡ record_check brought bytes
      record_refused r e = sym (then_own ∙ ap (λ (x : Parsed Term). change_of (reading x)) (refused_shown (read_record (language_of brought) bytes) r e))

      pub record_done : (n : ℕ) → shown (read_record (language_of brought) bytes) ≡ Ok n → (Ok (tt {0})) ≡ record_check brought bytes
      record_done n e = sym (then_own ∙ ap (λ (x : Parsed Term). change_of (reading x)) (ends_shown (read_record (language_of brought) bytes) n e).1)

-- a record that is read has 1 to 4,096 bytes

refusal_read : {A : Type 0} {r : Refusal} {t : A} {n : ℕ} → ◌≡◌ {A = Parsed A} (refused r) (read t n) → ⊥
refusal_read e = let z : ◌≡◌ {A = ℕ} 0 1 = cc in omega arith

module _ (lang : Language) (t : Term) (n : ℕ) where
  read_short : (bytes : List ℕ) → read_record lang bytes ≡ read t n → length bytes ≤ apart
  unfolding read_record read_whole map_parsed
  read_short bytes e = go (leb (length bytes) longest_record) refl e
    where
      go : (b : Bool) → leb (length bytes) longest_record ≡ b → map_parsed term_of (cond b (unless_spare bytes (read_tree lang true 32 None bytes)) (refused Long)) ≡ read t n → length bytes ≤ apart
      go true p q = leb-true (length bytes) longest_record p
      go false p q = absurd (refusal_read q)

  read_some : (bytes : List ℕ) → read_record lang bytes ≡ read t n → 0 < length bytes
  unfolding read_record read_whole map_parsed read_tree read_by unless_spare
  read_some [] e = absurd (refusal_read e)
  read_some (b ∷ bytes) e = omega arith

-- a record whose checks pass was read
module _ (brought : Brought) (bytes : List ℕ) (accepted : record_check brought bytes ≡ (Ok (tt {0}))) where
  verdict_done : {X : Type 0} (v : Verdict X) → change_of v ≡ (Ok (tt {0})) → (x : X) × (v ≡ passed x)
  verdict_done (passed x) e = (x, refl)
  verdict_done (fault r i) e = let z : ◌≡◌ {A = ℕ} 0 1 = cc in absurd (omega arith)

  reads : (t : Term) × (n : ℕ) × (read_record (language_of brought) bytes ≡ read t n)
  unfolding record_check
  reads =
      let v = verdict_done (checks brought answer_width (reading (read_record (language_of brought) bytes))) accepted in
      let c = every.passed_checks brought answer_width (reading (read_record (language_of brought) bytes)) v.0 v.1 in
      let r = every.reading_passed (read_record (language_of brought) bytes) v.0 c.3 in
      (v.0, r.0, r.1)

  pub accepted_short : length bytes ≤ apart
  accepted_short = read_short (language_of brought) reads.0 reads.1 bytes reads.2

  pub accepted_some : 0 < length bytes
  accepted_some = read_some (language_of brought) reads.0 reads.1 bytes reads.2

-- a new station
module _ (brought : Brought) (bytes : List ℕ) (s : Station) (l : List ℕ) where
  pub new_full : length l < room → outcome (Err Full) s l ≡ new_of brought bytes s l
  unfolding new_of
  new_full h = rw (lt-ltb (length l) room h)

  module _ (h : room ≤ length l) where
    pub new_refused : (r : Refusal) → record_check brought bytes ≡ Err r → outcome (Err r) s l ≡ new_of brought bytes s l
    unfolding new_of unless_refused
    new_refused r e = rw (le-ltb (length l) room h, e)

    pub new_done : record_check brought bytes ≡ (Ok (tt {0})) → with_record (Ok (tt {0})) (emptied s) l 0 bytes ≡ new_of brought bytes s l
    unfolding new_of unless_refused
    new_done e = rw (le-ltb (length l) room h, e)

module _ (brought : Brought) (rule template : List ℕ) (allowance : ℕ) where
  module _ (s : Station) (l : List ℕ) where
    pub apply_refused : (r : Refusal) → check_of s (length l) ≡ Err r → outcome (Err r) s l ≡ apply_of brought rule template allowance s l
    unfolding apply_of unless_refused
    apply_refused r e = rw e

    abbrev current : List ℕ
    current = record_at s.lengths l 0

    current_is : take (get_or s.lengths 0 0) l ≡ current
    unfolding record_at
    current_is = refl

    module _ (before output : List ℕ) (a : Result Applied Refusal) (whole : before ≡ fresh)
        (is : a ≡ applying brought rule template (take (get_or s.lengths 0 0) l) allowance (length before)) where
      applied_is : a ≡ applied_to brought rule template allowance current
      applied_is = is
          ∙ (λ i. applying brought rule template (current_is i) allowance (length (whole i)))
          ∙ ap (applying brought rule template current allowance) fresh_length

      pub apply_short : applied_length a ≤ longest_record
      apply_short = omega (arith, ap applied_length applied_is, applied_short brought rule template current allowance longest_record)

      pub apply_done : check_of s (length l) ≡ (Ok (tt {0})) → output ≡ applied brought rule template (take (get_or s.lengths 0 0) l) allowance before
          → taken_up a (take (applied_length a) output) s l ≡ apply_of brought rule template allowance s l
      unfolding apply_of unless_refused result_of
      apply_done e contents =
          let z : output ≡ applied brought rule template current allowance fresh =
          contents ∙ (λ i. applied brought rule template (current_is i) allowance (whole i)) in
          rw (e, z, applied_is)

      -- the answer that is handed on is as L8 demands
      pub apply_meant : (b : Result Applied Refusal) → b ≡ a → output ≡ applied brought rule template (take (get_or s.lengths 0 0) l) allowance before
          → Applying brought rule template (take (get_or s.lengths 0 0) l) before allowance a output → IfChecked s l (AsApplied brought rule template allowance s l b)
      unfolding record_at
      apply_meant b e contents d checked =
          subst (λ (x : Result Applied Refusal). Applying brought rule template current fresh allowance x (applied brought rule template current allowance fresh)) (sym e)
          (subst (λ (x : List ℕ). Applying brought rule template current x allowance a (applied brought rule template current allowance x)) whole
          (subst (λ (x : List ℕ). Applying brought rule template current before allowance a x) contents d))

-- what follows an apply, by its answer

module _ (a : Result Applied Refusal) (output : List ℕ) (s : Station) (l : List ℕ) where
  pub bound_short : (count n most : ℕ) → a ≡ Ok (Applied.Bound count n) → applied_length a ≤ most → n ≤ most
  bound_short count n most e h = omega (arith, ap applied_length e, h)

  pub take_bound : (count n : ℕ) → a ≡ Ok (Applied.Bound count n) → n ≤ length output
      → outcome (Ok (Applied.Bound count n)) (lengthened s 0 n) (sets l 0 (take n output)) ≡ taken_up a (take (applied_length a) output) s l
  unfolding taken_up
  take_bound count n e h = rw (e, length-take-le n output h)

module _ (a : Result Applied Refusal) (bytes : List ℕ) (s : Station) (l : List ℕ) where
  pub take_refused : (r : Refusal) → a ≡ Err r → outcome a s l ≡ taken_up a bytes s l
  unfolding taken_up
  take_refused r e = rw e

  pub take_unbound : (x : Applied) → a ≡ Ok x → ((n k : ℕ) → x ≡ Applied.Bound n k → ⊥) → outcome (Ok x) s l ≡ taken_up a bytes s l
  unfolding taken_up
  take_unbound (Applied.Bound n k) e h = absurd (h n k refl)
  take_unbound (Applied.None n) e h = rw e
  take_unbound (Applied.Spent n) e h = rw e

pub taken_answer : (a : Result Applied Refusal) (result : List ℕ) (s : Station) (l : List ℕ) → (taken_up a result s l).answer ≡ a
unfolding taken_up
taken_answer (Ok (Applied.Bound n k)) result s l = refl
taken_answer (Ok (Applied.None n)) result s l = refl
taken_answer (Ok (Applied.Spent n)) result s l = refl
taken_answer (Err r) result s l = refl

-- no apply tells a length over 4,096
pub told_short : (brought : Brought) (rule template : List ℕ) (allowance : ℕ) (s : Station) (l : List ℕ)
    → applied_length (apply_of brought rule template allowance s l).answer ≤ longest_record
unfolding apply_of unless_refused
told_short brought rule template allowance s l = go (check_of s (length l))
  where
    bytes : List ℕ
    bytes = record_at s.lengths l 0

    go : (k : Result (Unit {0}) Refusal) → applied_length (unless_refused Err k s l (λ _. taken_up (applied_to brought rule template allowance bytes) (result_of brought rule template allowance bytes) s l)).answer ≤ longest_record
    go (Ok u) = omega (arith, ap applied_length (taken_answer (applied_to brought rule template allowance bytes) (result_of brought rule template allowance bytes) s l), applied_short brought rule template bytes allowance longest_record)
    go (Err r) = omega arith
