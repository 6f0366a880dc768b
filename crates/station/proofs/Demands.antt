-- What is demanded of the calls holds of what they make of a station.
use Prim.Native.Nat.{ℕ, suc, ◌*◌, ◌≤◌, ◌<◌}
use native.Mathlib.Omega.{arith}
use mathlib.Core.Path.{◌≡◌, refl, sym, ap, subst, ◌∙◌}
use mathlib.Core.List.{List}
use mathlib.Core.Bool.{Bool, true, false, cond}
use lib.Dec.{ltb}
use lib.ListN.{length, length-set}
use lib.Seq.{sets, length-sets}
use borrow.Author.Tests.{ltb-true, ltb-false, le-ltb}
use Rattle.answers.specs.Refusal.{number_of}
use Rattle.answers.specs.Answers.{applied_number, applied_length}
use Rattle.answers.specs.declared.Applied.{Applied}
use Rattle.answers.specs.declared.Refusal.{Refusal}
use Rattle.answers.specs.declared.Refusal.TheVariants.{Full, Directory, NoName, Shelf as Ninth}
use Rattle.answers.proofs.Numbers.{numbered}
use Rattle.answers.specs.Shown.{refusal_number}
use Rattle.reader.specs.Brought.{Brought}
use Rattle.station.specs.Slot.{apart, room, record_at, names_of}
use Rattle.station.specs.Check.{place_of, in_order, check_of}
use Rattle.station.specs.Call.{Outcome, outcome, fresh, with_record, named, lengthened, emptied, unless_refused, keep_of, return_of, applied_to, result_of, taken_up, apply_of, record_check, new_of}
use Rattle.station.specs.Shelf.{Shelf, Call, Keep, Return, Apply, Told, change, apply, apply_step, step_of}
use Rattle.station.specs.Session.{held_by, tell, call_of, run_calls, told, AsTold, told_number}
use Rattle.station.specs.Demands.{InOrder, Demanded, NotKept, KeepDemanded, ReturnDemanded, AsApplied, IfChecked, ApplyDemanded, NewDemanded}
use Rattle.station.specs.declared.Station.{Station}
use Rattle.station.proofs.Checks.{check_full, check_order}
use Rattle.station.proofs.Orders.{among_at, place_at, names_at, names_long, order_checked, checked_order}
use Rattle.station.proofs.Calls.{Follows, one_call}
use Rattle.station.proofs.Changes.{taken_answer, new_full, new_refused}
use Rattle.station.proofs.Results.{written_term}
use Rattle.station.proofs.Sessions.{session, place_kept, record_stays, others_stay, new_is, new_holds, new_checked}
use Rattle.station.proofs.Shapes.{Shaped}
use Rattle.std.specs.Prelude.{Result, Ok, Err}

-- the call's own word for a refusal
abbrev refused_by : Call → Refusal → Told
refused_by (Keep name) r = change (Err r)
refused_by (Return name) r = change (Err r)
refused_by (Apply brought rule template allowance) r = apply (Err r)

refused_number : (c : Call) (r : Refusal) → told_number (refused_by c r) ≡ number_of r
refused_number (Keep name) r = refl
refused_number (Return name) r = refl
refused_number (Apply brought rule template allowance) r = refl

-- an outcome that shows a refusal or is another station
abbrev Alters : Station → List ℕ → Outcome Told → Type 0
Alters s l o = ((told_number o.answer ≡ 0 → ⊥) → (o.station ≡ s) × (o.records ≡ l)) × (length o.records ≡ length l)

kept_alters : (a : Told) (s : Station) (l : List ℕ) → Alters s l (outcome a s l)
kept_alters a s l = (λ n. (refl, refl), refl)

put_alters : (a : Told) (s r : Station) (l : List ℕ) (i : ℕ) (bytes : List ℕ) → told_number a ≡ 0 → Alters s l (with_record a r l i bytes)
put_alters a s r l i bytes z = (λ n. absurd (n z), length-sets l (apart * i) bytes)

-- a refusal by a test, and which answer shows it
told_by_holds : (b : Bool) (x y : Outcome (Result (Unit {0}) Refusal)) → (cond b x y).answer ≡ cond b x.answer y.answer
told_by_holds true x y = refl
told_by_holds false x y = refl

refused_when : (b : Bool) (r : Refusal) → refusal_number (cond b (Ok (tt {0})) (Err r)) ≡ number_of r → b ≡ false
refused_when true r e = absurd (omega (arith, e, numbered r))
refused_when false r e = refl

-- an apply's answer is told, and where it is bound its result is current
step_answer : (h : Shelf) (a : Result Applied Refusal) (result : List ℕ) → (apply_step h a result).answer ≡ apply a
unfolding apply_step
step_answer h (Ok (Applied.Bound n k)) result = refl
step_answer h (Ok (Applied.None n)) result = refl
step_answer h (Ok (Applied.Spent n)) result = refl
step_answer h (Err r) result = refl

step_current : (h : Shelf) (a : Result Applied Refusal) (result : List ℕ) → applied_number a ≡ 0 → (apply_step h a result).after.current ≡ result
unfolding apply_step
step_current h (Ok (Applied.Bound n k)) result z = refl
step_current h (Ok (Applied.None n)) result z = absurd (omega (arith, z))
step_current h (Ok (Applied.Spent n)) result z = absurd (omega (arith, z))
step_current h (Err r) result z = absurd (omega (arith, z, numbered r))

module _ (s : Station) (l : List ℕ) where
  call_refused : (c : Call) (r : Refusal) → check_of s (length l) ≡ Err r → call_of c s l ≡ outcome (refused_by c r) s l
  unfolding call_of keep_of return_of apply_of unless_refused
  call_refused (Keep name) r e = rw e
  call_refused (Return name) r e = rw e
  call_refused (Apply brought rule template allowance) r e = rw e

  alters_by : {A : Type 0} (f : A → Told) (refused : Refusal → A) (k : Result (Unit {0}) Refusal) (g : Unit {0} → Outcome A) → Alters s l (tell f (g tt)) → Alters s l (tell f (unless_refused refused k s l g))
  unfolding unless_refused
  alters_by f refused (Ok u) g h = h
  alters_by f refused (Err r) g h = kept_alters (f (refused r)) s l

  keep_alters : (b : Bool) (r : Station) (i : ℕ) (bytes : List ℕ) (n : Refusal) → Alters s l (tell change (cond b (with_record (Ok (tt {0})) r l i bytes) (outcome (Err n) s l)))
  keep_alters true r i bytes n = put_alters (change (Ok (tt {0}))) s r l i bytes refl
  keep_alters false r i bytes n = kept_alters (change (Err n)) s l

  apply_alters : (a : Result Applied Refusal) (result : List ℕ) → Alters s l (tell apply (taken_up a result s l))
  unfolding taken_up
  apply_alters (Ok (Applied.Bound n k)) result = put_alters (apply (Ok (Applied.Bound n k))) s s l 0 result refl
  apply_alters (Ok (Applied.None n)) result = kept_alters (apply (Ok (Applied.None n))) s l
  apply_alters (Ok (Applied.Spent n)) result = kept_alters (apply (Ok (Applied.Spent n))) s l
  apply_alters (Err r) result = kept_alters (apply (Err r)) s l

  call_alters : (c : Call) → Alters s l (call_of c s l)
  unfolding call_of keep_of return_of apply_of
  call_alters (Keep name) = alters_by change Err (check_of s (length l)) _ (keep_alters (ltb (place_of name (names_of s)) 8) (named s (place_of name (names_of s)) name) (suc (place_of name (names_of s))) (record_at s.lengths l 0) Ninth)
  call_alters (Return name) = alters_by change Err (check_of s (length l)) _ (keep_alters (ltb (place_of name (names_of s)) s.kept) s 0 (record_at s.lengths l (suc (place_of name (names_of s)))) NoName)
  call_alters (Apply brought rule template allowance) = alters_by apply Err (check_of s (length l)) _ (apply_alters (applied_to brought rule template allowance (record_at s.lengths l 0))
      (result_of brought rule template allowance (record_at s.lengths l 0)))

  module _ (shape : Shaped s) where
    refused_told : (c : Call) (r : Refusal) → check_of s (length l) ≡ Err r → told_number (call_of c s l).answer ≡ number_of r
    refused_told c r e = ap (λ (o : Outcome Told). told_number o.answer) (call_refused c r e) ∙ refused_number c r

    unordered : room ≤ length l → (InOrder s → ⊥) → check_of s (length l) ≡ Err Directory
    unordered h n = go (in_order s) refl
      where
        go : (b : Bool) → in_order s ≡ b → check_of s (length l) ≡ Err Directory
        go true e = absurd (n (checked_order s shape (length l) (check_order s (length l) true h e)))
        go false e = check_order s (length l) false h e

    follows : (c : Call) → room ≤ length l → InOrder s → Follows (call_of c s l) (step_of (held_by s l) c)
    follows c h o = one_call s l shape (order_checked s shape (length l) h o) c

    call_demanded : (c : Call) → Demanded c s l (call_of c s l).answer (call_of c s l).station (call_of c s l).records
    call_demanded c = record {
      full = λ h. refused_told c Full (check_full s (length l) h);
      directory = λ h n. refused_told c Directory (unordered h n);
      answers = λ h o. (follows c h o).answer;
      holds = λ h o. (follows c h o).held;
      in_order_holds = λ h o. let f = follows c h o in checked_order (call_of c s l).station f.shaped (length (call_of c s l).records) f.checked;
      careful = record { refused_alters = (call_alters c).0; others_stay = others_stay s l shape c; same_room = (call_alters c).1 };
    }

    -- of a call with this outcome
    demanded_of : (c : Call) (o : Outcome Told) → o ≡ call_of c s l → Demanded c s l o.answer o.station o.records
    demanded_of c o e = subst (λ (x : Outcome Told). Demanded c s l x.answer x.station x.records) (sym e) (call_demanded c)

    -- a name that is not kept has no place among those that are
    module _ (name : ℕ) (few : s.kept ≤ 8) where
      no_place : NotKept name s → s.kept ≤ place_of name (names_of s)
      no_place none = go (ltb (place_of name (names_of s)) s.kept) refl
        where
          go : (b : Bool) → ltb (place_of name (names_of s)) s.kept ≡ b → s.kept ≤ place_of name (names_of s)
          go true e =
              let p = ltb-true (place_of name (names_of s)) s.kept e in
              let here = place_at name (names_of s) (omega (arith, p, names_long s shape few)) in
              absurd (none (place_of name (names_of s)) p (sym (names_at s shape few (place_of name (names_of s)) p) ∙ here))
          go false e = ltb-false (place_of name (names_of s)) s.kept e

      no_name : s.kept ≤ place_of name (names_of s) → NotKept name s
      no_name h i p e =
          let long = names_long s shape few in
          let at = among_at name (names_of s) i (omega (arith, p, long)) (names_at s shape few i p ∙ e) in
          omega (arith, h, at, long)

    keep_answer : (name : ℕ) → check_of s (length l) ≡ (Ok (tt {0})) → (keep_of name s l).answer ≡ cond (ltb (place_of name (names_of s)) 8) (Ok (tt {0})) (Err Ninth)
    unfolding keep_of unless_refused
    keep_answer name e = rw e (told_by_holds (ltb (place_of name (names_of s)) 8) _ _)

    return_answer : (name : ℕ) → check_of s (length l) ≡ (Ok (tt {0})) → (return_of name s l).answer ≡ cond (ltb (place_of name (names_of s)) s.kept) (Ok (tt {0})) (Err NoName)
    unfolding return_of unless_refused
    return_answer name e = rw e (told_by_holds (ltb (place_of name (names_of s)) s.kept) _ _)

    pub keep_demanded : (name : ℕ) (a : Result (Unit {0}) Refusal) (r : Station) (m : List ℕ) → outcome a r m ≡ keep_of name s l → KeepDemanded name s l a r m
    unfolding call_of
    keep_demanded name a r m e = record {
      called = demanded_of (Keep name) (outcome (change a) r m) (ap (tell change) e);
      ninth = λ h o.
          let is = ap (λ (x : Outcome (Result (Unit {0}) Refusal)). x.answer) e ∙ keep_answer name (order_checked s shape (length l) h o) in
          let k = place_of name (names_of s) in (
            λ z.
                let over = ltb-false k 8 (refused_when (ltb k 8) Ninth (ap refusal_number (sym is) ∙ z)) in
                let most = place_kept s name in
                (omega (arith, over, most, o.eight), no_name name o.eight (omega (arith, over, o.eight))),
            λ f. let at = no_place name o.eight f.1 in ap refusal_number is ∙ rw (le-ltb k 8 (omega (arith, at, f.0))),
          );
    }

    pub return_demanded : (name : ℕ) (a : Result (Unit {0}) Refusal) (r : Station) (m : List ℕ) → outcome a r m ≡ return_of name s l → ReturnDemanded name s l a r m
    unfolding call_of
    return_demanded name a r m e = record {
      called = demanded_of (Return name) (outcome (change a) r m) (ap (tell change) e);
      no_name = λ h o.
          let is = ap (λ (x : Outcome (Result (Unit {0}) Refusal)). x.answer) e ∙ return_answer name (order_checked s shape (length l) h o) in
          let k = place_of name (names_of s) in (
            λ z. no_name name o.eight (ltb-false k s.kept (refused_when (ltb k s.kept) NoName (ap refusal_number (sym is) ∙ z))),
            λ f. ap refusal_number is ∙ rw (le-ltb k s.kept (no_place name o.eight f)),
          );
    }

    module _ (brought : Brought) (rule template : List ℕ) (allowance : ℕ) (a : Result Applied Refusal) (r : Station) (m : List ℕ) (e : outcome a r m ≡ apply_of brought rule template allowance s l) where
      abbrev call : Call
      call = Apply brought rule template allowance

      abbrev bytes : List ℕ
      bytes = record_at s.lengths l 0

      -- the call that it is
      is_call : outcome (apply a) r m ≡ call_of call s l
      unfolding call_of
      is_call = ap (tell apply) e

      -- an apply of number 0 passed the checks, and made its result current
      bound_passes : applied_number a ≡ 0 → check_of s (length l) ≡ (Ok (tt {0}))
      bound_passes z = go (check_of s (length l)) refl
        where
          go : (k : Result (Unit {0}) Refusal) → check_of s (length l) ≡ k → k ≡ (Ok (tt {0}))
          go (Ok u) h = refl
          go (Err x) h =
              let n : applied_number a ≡ number_of x = ap (λ (o : Outcome Told). told_number o.answer) is_call ∙ refused_told call x h in
              absurd (omega (arith, z, n, numbered x))

      bound_current : applied_number a ≡ 0 → record_at r.lengths m 0 ≡ result_of brought rule template allowance bytes
      unfolding step_of held_by
      bound_current z =
          let f = one_call s l shape (bound_passes z) call in
          let x = applied_to brought rule template allowance bytes in
          let y = result_of brought rule template allowance bytes in
          let told : told_number (apply a) ≡ applied_number x =
          ap told_number (ap (λ (o : Outcome Told). o.answer) is_call ∙ f.answer ∙ step_answer (held_by s l) x y) in
          ap (λ (o : Outcome Told). record_at o.station.lengths o.records 0) is_call ∙ ap (λ (h : Shelf). h.current) f.held ∙ step_current (held_by s l) x y (sym told ∙ z)

      is_applied : check_of s (length l) ≡ (Ok (tt {0})) → a ≡ applied_to brought rule template allowance bytes
      unfolding apply_of unless_refused
      is_applied h = ap (λ (o : Outcome (Result Applied Refusal)). o.answer) e ∙ rw h (taken_answer (applied_to brought rule template allowance bytes) (result_of brought rule template allowance bytes) s l)

      pub apply_demanded : IfChecked s l (AsApplied brought rule template allowance s l a) → ApplyDemanded brought rule template allowance s l a r m
      unfolding result_of
      apply_demanded meant = record {
        called = demanded_of call (outcome (apply a) r m) is_call;
        as_applied = λ h o. meant (order_checked s shape (length l) h o);
        result = λ z accepted p q t i.
            let done = bound_passes z in
            let w = (meant done).answered accepted p q t i in
            let b = w.bound_exactly.0 z in
            let u = b.1.0 in
            let long = ap applied_length (sym (is_applied done)) ∙ w.shows_length u z b.1.1 in
            (u, b.1.1, b.1.2.0, bound_current z ∙ written_term brought.table u _ _ fresh long (w.bound_writes u z b.1.1));
      }

-- A new station

module _ (brought : Brought) (bytes : List ℕ) (s : Station) (l : List ℕ) (shape : Shaped s) where
  abbrev New : Outcome (Result (Unit {0}) Refusal) → Type 0
  New o = NewDemanded brought bytes s l o.answer o.station o.records

  refused_new : (r : Refusal) → (length l < room → number_of r ≡ number_of Full) → (room ≤ length l → Err r ≡ record_check brought bytes)
      → New (outcome (Err r) s l)
  refused_new r full answers = record {
    full = full;
    answers = answers;
    holds = λ z. absurd (omega (arith, z, numbered r));
    in_order_holds = λ z. absurd (omega (arith, z, numbered r));
    sessions = λ z. absurd (omega (arith, z, numbered r));
    careful = record { refused_alters = λ n. (refl, refl); others_stay = λ i n. refl; same_room = refl };
  }

  module _ (lent : room ≤ length l) (e : record_check brought bytes ≡ (Ok (tt {0}))) where
    abbrev s' : Station
    s' = lengthened (emptied s) 0 (length bytes)

    shape' : Shaped s'
    shape' = record { names = shape.names; lengths = length-set s.lengths 0 (length bytes) ∙ shape.lengths }

    done_new : New (with_record (Ok (tt {0})) (emptied s) l 0 bytes)
    done_new = record {
      full = λ h. absurd (omega (arith, h, lent));
      answers = λ h. sym e;
      holds = λ z. new_holds brought bytes s l shape lent e;
      in_order_holds = λ z. checked_order s' shape' (length (sets l (apart * 0) bytes)) (new_checked brought bytes s l shape lent e);
      sessions = λ z cs.
          subst (λ (h : Shelf). AsTold (run_calls (s', sets l (apart * 0) bytes) cs) (told h cs)) (new_holds brought bytes s l shape lent e)
          (session s' (sets l (apart * 0) bytes) shape' (new_checked brought bytes s l shape lent e) cs);
      careful = record {
        refused_alters = λ n. absurd (n refl);
        others_stay = λ i n. record_stays (emptied s) l 0 bytes i (omega arith) (omega (arith, shape.lengths)) n;
        same_room = length-sets l (apart * 0) bytes;
      };
    }

  new_by : (b : Bool) → ltb (length l) room ≡ b → (k : Result (Unit {0}) Refusal) → record_check brought bytes ≡ k → New (new_of brought bytes s l)
  new_by true h k e =
      let p = ltb-true (length l) room h in
      subst New (new_full brought bytes s l p) (refused_new Full (λ q. refl) (λ q. absurd (omega (arith, p, q))))
  new_by false h (Ok u) e =
      let p = ltb-false (length l) room h in
      subst New (sym (new_is brought bytes s l shape p e)) (done_new p e)
  new_by false h (Err r) e =
      let p = ltb-false (length l) room h in
      subst New (new_refused brought bytes s l p r e) (refused_new r (λ q. absurd (omega (arith, p, q))) (λ q. sym e))

  pub new_demanded : (a : Result (Unit {0}) Refusal) (r : Station) (m : List ℕ) → outcome a r m ≡ new_of brought bytes s l → NewDemanded brought bytes s l a r m
  new_demanded a r m e = subst New (sym e) (new_by (ltb (length l) room) refl (record_check brought bytes) refl)
