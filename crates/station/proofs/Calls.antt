-- One call: it answers, and leaves the station, as what is current and kept says.
use Prim.Native.Nat.{ℕ, suc, ◌+◌, ◌*◌, ◌≤◌, ◌<◌}
use native.Mathlib.Omega.{arith}
use mathlib.Core.Path.{◌≡◌, refl, sym, ap, subst, ◌∙◌}
use mathlib.Core.List.{List}
use mathlib.Core.Bool.{Bool, true, false, cond}
use lib.Dec.{ltb, eqb}
use lib.ListN.{length, get_or, take, set, length-set}
use lib.Seq.{sets, length-sets, length-take-le, get_or-set_same, get_or-set_other}
use borrow.Author.Tests.{eqb-true, eqb-false, ltb-true, ltb-false, lt-ltb, le-ltb}
use Rattle.reader.specs.Brought.{Brought}
use Rattle.station.specs.Slot.{apart, record_at, names_of}
use Rattle.station.specs.Check.{place_of, distinct, all_fit, check_of}
use Rattle.station.specs.Call.{Outcome, outcome, lengthened, named, with_record, unless_refused, keep_of, return_of, applied_to, result_of, taken_up, apply_of}
use Rattle.station.specs.Shelf.{shelf, keep_under, Kept, Nothing, under, Call, Keep, Return, Apply, Told, change, apply, Step, step, keep_step, return_step, apply_step, step_of}
use Rattle.station.specs.Session.{entries_from, held_by, tell, call_of}
use Rattle.station.specs.declared.Station.{Station}
use Rattle.answers.specs.declared.Applied.{Applied}
use Rattle.answers.specs.declared.Refusal.TheVariants.{NoName, Shelf as Ninth}
use Rattle.station.proofs.Sound.{Sound, sound, sound_check, fit_some, fit_all, length_fits}
use Rattle.station.proofs.Changes.{place_most, record_length}
use Rattle.station.proofs.Records.{record_same, record_other}
use Rattle.station.proofs.Results.{result_some, result_short}
use Rattle.station.proofs.Names.{keep_name, distinct_kept, stored_name}
use Rattle.station.proofs.Entries.{entries_length, under_kept, under_none, entries_same, entries_kept}
use Rattle.station.proofs.Shapes.{Shaped}
use Rattle.std.specs.Prelude.{Result, Ok, Err}
use Rattle.answers.specs.declared.Refusal.{Refusal}

-- an outcome on a station, and what is said of what it holds
pub record Follows (o : Outcome Told) (t : Step) : Type 0 where
  pub answer : o.answer ≡ t.answer
  pub held : held_by o.station o.records ≡ t.after
  pub shaped : Shaped o.station
  pub checked : check_of o.station (length o.records) ≡ (Ok (tt {0}))

along : (o o' : Outcome Told) (t t' : Step) → o ≡ o' → t ≡ t' → Follows o' t' → Follows o t
along o o' t t' e f w = subst (λ (x : Outcome Told). Follows x t) (sym e) (subst (Follows o') (sym f) w)

module _ (s : Station) (l : List ℕ) (shape : Shaped s) (e : check_of s (length l) ≡ (Ok (tt {0}))) where
  ok : Sound s (length l)
  ok = sound s (length l) e

  abbrev ns : List ℕ
  ns = names_of s

  names_length : length (names_of s) ≡ s.kept
  unfolding names_of
  names_length = length-take-le s.kept s.names (omega (arith, ok.few, shape.names))

  -- a length in use
  length_some : (j : ℕ) → j ≤ s.kept → 0 < get_or s.lengths j 0
  length_some j h = fit_some (s.kept + 1) s.lengths ok.fit j (omega arith) (omega (arith, ok.few, shape.lengths))

  -- a refused call
  pub refused : (a : Told) → Follows (outcome a s l) (step a (held_by s l))
  refused a = record { answer = refl; held = refl; shaped = shape; checked = e }

  -- lengths after one was set to another that fits: they fit as before
  module _ (v m kept : ℕ) (some : 0 < v) (most : v ≤ apart) (more : (j : ℕ) → j ≤ kept → (j ≡ m → ⊥) → j ≤ s.kept) where
    abbrev after : List ℕ
    after = set s.lengths m v

    fits_same : (j : ℕ) → j < length after → j ≡ m → (0 < get_or after j 0) × (get_or after j 0 ≤ apart)
    fits_same j h p =
        let e : get_or after j 0 ≡ v = ap (λ (x : ℕ). get_or after x 0) p ∙ get_or-set_same s.lengths m v 0 (omega (arith, p, length-set s.lengths m v)) in
        (omega (arith, e, some), omega (arith, e, most))

    fits_other : (j : ℕ) → j ≤ kept → (j ≡ m → ⊥) → (0 < get_or after j 0) × (get_or after j 0 ≤ apart)
    fits_other j h ne =
        let e : get_or after j 0 ≡ get_or s.lengths j 0 = get_or-set_other s.lengths m j v 0 ne in
        (omega (arith, e, length_some j (more j h ne)), omega (arith, e, length_fits s (length l) ok j (more j h ne)))

    still_fit : all_fit (take (kept + 1) after) ≡ true
    still_fit = fit_all (kept + 1) after (λ j p q. go j p q (eqb j m) refl)
      where
        go : (j : ℕ) → j < kept + 1 → j < length after → (b : Bool) → eqb j m ≡ b → (0 < get_or after j 0) × (get_or after j 0 ≤ apart)
        go j p q true t = fits_same j q (eqb-true j m t)
        go j p q false t = fits_other j (omega arith) (eqb-false j m t)

  -- other bytes become the current record
  module _ (bytes : List ℕ) (some : 0 < length bytes) (most : length bytes ≤ apart) where
    abbrev r' : Station
    r' = lengthened s 0 (length bytes)

    abbrev m' : List ℕ
    m' = sets l (apart * 0) bytes

    current_holds : held_by r' m' ≡ shelf bytes (entries_from s.lengths l (names_of s) 1)
    unfolding held_by names_of
    current_holds = λ t. shelf (record_same s.lengths l bytes 0 (omega (arith, shape.lengths)) (omega (arith, ok.lent, most)) t)
        (entries_same s.lengths l r'.lengths m' (names_of s) 1 (λ j p q. record_other s.lengths l bytes 0 j (λ z. omega (arith, z, p)) (length_fits s (length l) ok j (omega (arith, q, names_length))) most) t)

    current_sound : Sound r' (length m')
    unfolding names_of
    current_sound = record {
      lent = omega (arith, ok.lent, length-sets l (apart * 0) bytes);
      few = ok.few;
      fit = still_fit (length bytes) 0 s.kept some most (λ j p ne. p);
      once = ok.once;
    }

    pub current_follows : (a : Told) → Follows (outcome a r' m') (step a (shelf bytes (entries_from s.lengths l (names_of s) 1)))
    current_follows a = record {
      answer = refl;
      held = current_holds;
      shaped = record { names = shape.names; lengths = length-set s.lengths 0 (length bytes) ∙ shape.lengths };
      checked = sound_check r' (length m') current_sound;
    }

  -- apply, by its answer
  module _ (brought : Brought) (rule template : List ℕ) (allowance : ℕ) where
    abbrev current : List ℕ
    current = record_at s.lengths l 0

    abbrev answer : Result Applied Refusal
    answer = applied_to brought rule template allowance current

    abbrev result : List ℕ
    result = result_of brought rule template allowance current

    apply_is : tell apply (apply_of brought rule template allowance s l) ≡ tell apply (taken_up answer result s l)
    unfolding apply_of unless_refused
    apply_is = rw e

    step_apply : step_of (held_by s l) (Apply brought rule template allowance) ≡ apply_step (held_by s l) answer result
    unfolding step_of held_by
    step_apply = refl

    taken : (a : Result Applied Refusal) → answer ≡ a → Follows (tell apply (taken_up a result s l)) (apply_step (held_by s l) a result)
    unfolding taken_up apply_step held_by
    taken (Ok (Applied.Bound n k)) p =
        current_follows result (result_some brought rule template allowance current n k p) (result_short brought rule template allowance current n k p) (apply (Ok (Applied.Bound n k)))
    taken (Ok (Applied.None n)) p = refused (apply (Ok (Applied.None n)))
    taken (Ok (Applied.Spent n)) p = refused (apply (Ok (Applied.Spent n)))
    taken (Err r) p = refused (apply (Err r))

    pub apply_call : Follows (tell apply (apply_of brought rule template allowance s l)) (step_of (held_by s l) (Apply brought rule template allowance))
    apply_call = along _ _ _ _ apply_is step_apply (taken answer refl)

  module _ (name : ℕ) where
    abbrev k : ℕ
    k = place_of name (names_of s)

    place_kept : k ≤ s.kept
    place_kept = omega (arith, place_most name (names_of s), names_length)

    -- keep, where there is room
    module _ (h : k < 8) where
      abbrev bytes : List ℕ
      bytes = record_at s.lengths l 0

      abbrev s' : Station
      s' = lengthened (named s k name) (suc k) (length bytes)

      abbrev l' : List ℕ
      l' = sets l (apart * suc k) bytes

      bytes_length : length bytes ≡ get_or s.lengths 0 0
      bytes_length = record_length s l ok 0 (omega arith)

      bytes_some : 0 < length bytes
      bytes_some = omega (arith, bytes_length, length_some 0 (omega arith))

      bytes_fit : length bytes ≤ apart
      bytes_fit = omega (arith, bytes_length, length_fits s (length l) ok 0 (omega arith))

      now_kept : names_of s' ≡ keep_name name (names_of s)
      unfolding names_of
      now_kept = stored_name name s.kept s.names (omega (arith, h, shape.names))

      other : (j : ℕ) → j ≤ s.kept → (j ≡ suc k → ⊥) → record_at s'.lengths l' j ≡ record_at s.lengths l j
      other j p ne = record_other s.lengths l bytes (suc k) j ne (length_fits s (length l) ok j p) bytes_fit

      stored : record_at s'.lengths l' (1 + k) ≡ bytes
      stored =
          let z : 1 + k ≡ suc k = omega arith in
          ap (record_at s'.lengths l') z ∙ record_same s.lengths l bytes (suc k) (omega (arith, h, shape.lengths)) (omega (arith, h, ok.lent, bytes_fit))

      pub keep_holds : held_by s' l' ≡ shelf bytes (keep_under name bytes (entries_from s.lengths l (names_of s) 1))
      unfolding held_by
      keep_holds = λ t. shelf (other 0 (omega arith) (λ p. omega (arith, p)) t)
          ((ap (λ (ms : List ℕ). entries_from s'.lengths l' ms 1) now_kept
          ∙ entries_kept s.lengths l s'.lengths l' name bytes (names_of s) 1 (λ j p q ne. other j (omega (arith, q, names_length)) (λ z. ne (omega (arith, z)))) stored) t)

      keep_few : (b : Bool) → ltb k s.kept ≡ b → cond b s.kept (s.kept + 1) ≤ 8
      keep_few true t = ok.few
      keep_few false t = omega (arith, h, place_kept, ltb-false k s.kept t)

      keep_more : (b : Bool) → ltb k s.kept ≡ b → (j : ℕ) → j ≤ cond b s.kept (s.kept + 1) → (j ≡ suc k → ⊥) → j ≤ s.kept
      keep_more true t j p ne = p
      keep_more false t j p ne = under_one (eqb j (suc k)) refl
        where
          under_one : (c : Bool) → eqb j (suc k) ≡ c → j ≤ s.kept
          under_one true q = absurd (ne (eqb-true j (suc k) q))
          under_one false q = omega (arith, p, ne, ltb-false k s.kept t, place_kept)

      keep_sound : Sound s' (length l')
      unfolding names_of
      keep_sound = record {
        lent = omega (arith, ok.lent, length-sets l (apart * suc k) bytes);
        few = keep_few (ltb k s.kept) refl;
        fit = still_fit (length bytes) (suc k) s'.kept bytes_some bytes_fit (keep_more (ltb k s.kept) refl);
        once = ap distinct now_kept ∙ distinct_kept name (names_of s) ok.once;
      }

      pub keep_follows : Follows (outcome (change (Ok (tt {0}))) s' l') (step (change (Ok (tt {0}))) (shelf bytes (keep_under name bytes (entries_from s.lengths l (names_of s) 1))))
      keep_follows = record {
        answer = refl;
        held = keep_holds;
        shaped = record { names = length-set s.names k name ∙ shape.names; lengths = length-set s.lengths (suc k) (length bytes) ∙ shape.lengths };
        checked = sound_check s' (length l') keep_sound;
      }

    keep_is : k < 8 → tell change (keep_of name s l) ≡ with_record (change (Ok (tt {0}))) (named s k name) l (suc k) (record_at s.lengths l 0)
    unfolding keep_of unless_refused
    keep_is h = rw (e, lt-ltb k 8 h)

    ninth_is : 8 ≤ k → tell change (keep_of name s l) ≡ outcome (change (Err Ninth)) s l
    unfolding keep_of unless_refused
    ninth_is h = rw (e, le-ltb k 8 h)

    found : k < s.kept → under name (entries_from s.lengths l (names_of s) 1) ≡ Kept (record_at s.lengths l (1 + k))
    found h = under_kept s.lengths l name (names_of s) 1 (omega (arith, h, names_length))

    lost : s.kept ≤ k → under name (entries_from s.lengths l (names_of s) 1) ≡ Nothing
    lost h = under_none s.lengths l name (names_of s) 1 (omega (arith, h, names_length))

    step_found : k < s.kept → step_of (held_by s l) (Keep name) ≡ step (change (Ok (tt {0}))) (shelf (record_at s.lengths l 0) (keep_under name (record_at s.lengths l 0) (entries_from s.lengths l (names_of s) 1)))
    unfolding step_of keep_step held_by
    step_found h = rw (found h)

    step_new : s.kept ≤ k → s.kept < 8 → step_of (held_by s l) (Keep name) ≡ step (change (Ok (tt {0}))) (shelf (record_at s.lengths l 0) (keep_under name (record_at s.lengths l 0) (entries_from s.lengths l (names_of s) 1)))
    unfolding step_of keep_step held_by
    step_new h g =
        let few : length (entries_from s.lengths l (names_of s) 1) < 8 = omega (arith, g, entries_length s.lengths l (names_of s) 1, names_length) in
        rw (lost h, lt-ltb (length (entries_from s.lengths l (names_of s) 1)) 8 few)

    step_ninth : 8 ≤ k → step_of (held_by s l) (Keep name) ≡ step (change (Err Ninth)) (held_by s l)
    unfolding step_of keep_step held_by
    step_ninth h =
        let all : 8 ≤ length (entries_from s.lengths l (names_of s) 1) = omega (arith, h, place_kept, entries_length s.lengths l (names_of s) 1, names_length) in
        rw (lost (omega (arith, h, ok.few)), le-ltb (length (entries_from s.lengths l (names_of s) 1)) 8 all)

    pub keep_call : Follows (tell change (keep_of name s l)) (step_of (held_by s l) (Keep name))
    keep_call = go (ltb k 8) refl (ltb k s.kept) refl
      where
        go : (b : Bool) → ltb k 8 ≡ b → (c : Bool) → ltb k s.kept ≡ c → Follows (tell change (keep_of name s l)) (step_of (held_by s l) (Keep name))
        go true p true q = along _ _ _ _ (keep_is (ltb-true k 8 p)) (step_found (ltb-true k s.kept q)) (keep_follows (ltb-true k 8 p))
        go true p false q =
            let h = ltb-true k 8 p in
            let g = ltb-false k s.kept q in
            along _ _ _ _ (keep_is h) (step_new g (omega (arith, h, g, place_kept))) (keep_follows h)
        go false p c q = along _ _ _ _ (ninth_is (ltb-false k 8 p)) (step_ninth (ltb-false k 8 p)) (refused (change (Err Ninth)))

    -- return
    again_length : k < s.kept → length (record_at s.lengths l (suc k)) ≡ get_or s.lengths (suc k) 0
    again_length h = record_length s l ok (suc k) (omega arith)

    again_some : k < s.kept → 0 < length (record_at s.lengths l (suc k))
    again_some h = omega (arith, again_length h, length_some (suc k) (omega arith))

    again_most : k < s.kept → length (record_at s.lengths l (suc k)) ≤ apart
    again_most h = omega (arith, again_length h, length_fits s (length l) ok (suc k) (omega arith))

    return_is : k < s.kept → tell change (return_of name s l) ≡ with_record (change (Ok (tt {0}))) s l 0 (record_at s.lengths l (suc k))
    unfolding return_of unless_refused
    return_is h = rw (e, lt-ltb k s.kept h)

    none_is : s.kept ≤ k → tell change (return_of name s l) ≡ outcome (change (Err NoName)) s l
    unfolding return_of unless_refused
    none_is h = rw (e, le-ltb k s.kept h)

    step_back : k < s.kept → step_of (held_by s l) (Return name) ≡ step (change (Ok (tt {0}))) (shelf (record_at s.lengths l (suc k)) (entries_from s.lengths l (names_of s) 1))
    unfolding step_of return_step held_by
    step_back h =
        let z : 1 + k ≡ suc k = omega arith in
        rw (found h, z)

    step_none : s.kept ≤ k → step_of (held_by s l) (Return name) ≡ step (change (Err NoName)) (held_by s l)
    unfolding step_of return_step held_by
    step_none h = rw (lost h)

    pub return_call : Follows (tell change (return_of name s l)) (step_of (held_by s l) (Return name))
    return_call = go (ltb k s.kept) refl
      where
        go : (c : Bool) → ltb k s.kept ≡ c → Follows (tell change (return_of name s l)) (step_of (held_by s l) (Return name))
        go true q = along _ _ _ _ (return_is (ltb-true k s.kept q)) (step_back (ltb-true k s.kept q)) (current_follows (record_at s.lengths l (suc k)) (again_some (ltb-true k s.kept q))
            (again_most (ltb-true k s.kept q)) (change (Ok (tt {0}))))
        go false q = along _ _ _ _ (none_is (ltb-false k s.kept q)) (step_none (ltb-false k s.kept q)) (refused (change (Err NoName)))

  pub one_call : (c : Call) → Follows (call_of c s l) (step_of (held_by s l) c)
  unfolding call_of
  one_call (Keep name) = keep_call name
  one_call (Return name) = return_call name
  one_call (Apply brought rule template allowance) = apply_call brought rule template allowance
