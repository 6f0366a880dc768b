-- Every list of calls on a station that passes its checks: the answers, the current record and the kept ones are what the calls say. And a byte of no record stays.
use Prim.Native.Nat.{ℕ, suc, ◌+◌, ◌*◌, ◌≤◌, ◌<◌}
use native.Mathlib.Omega.{arith}
use native.Mathlib.Nat.{min-le_left}
use mathlib.Core.Path.{◌≡◌, refl, ap, subst, ◌∙◌}
use mathlib.Core.List.{List, [], ◌∷◌}
use mathlib.Core.Bool.{Bool, true, false, cond}
use mathlib.Core.Logic.{◌⊎◌, inl, inr}
use lib.Dec.{ltb}
use lib.ListN.{length, get_or, set, take, length-take}
use lib.Seq.{sets, length-sets, get_or-set_same}
use borrow.Author.Tests.{ltb-true, ltb-false, le-ltb}
use Rattle.reader.specs.Brought.{Brought}
use Rattle.station.specs.Slot.{apart, room, record_at, names_of}
use Rattle.station.specs.Check.{place_of, distinct, check_of}
use Rattle.station.specs.Call.{Outcome, outcome, lengthened, named, emptied, with_record, unless_refused, keep_of, return_of, applied_to, result_of, taken_up, apply_of, record_check, new_of}
use Rattle.station.specs.Shelf.{Shelf, shelf, Call, Keep, Return, Apply}
use Rattle.station.specs.Session.{entries_from, held_by, call_of, run_calls, told, AsTold, InNone}
use Rattle.station.specs.declared.Station.{Station}
use Rattle.answers.specs.declared.Applied.{Applied}
use Rattle.answers.specs.declared.Refusal.{Refusal}
use Rattle.answers.specs.declared.Refusal.TheVariants.{NoName, Shelf as Ninth}
use Rattle.station.proofs.Changes.{place_most, accepted_short, accepted_some}
use Rattle.station.proofs.Records.{stored_byte, record_same}
use Rattle.station.proofs.Sound.{fit_all, sound_check}
use Rattle.station.proofs.Calls.{one_call}
use Rattle.station.proofs.Shapes.{Shaped}
use Rattle.std.specs.Prelude.{Result, Ok, Err}

pub session : (s : Station) (l : List ℕ) → Shaped s → check_of s (length l) ≡ (Ok (tt {0})) → (cs : List Call) → AsTold (run_calls (s, l) cs) (told (held_by s l) cs)
unfolding run_calls told
session s l shape e [] = record { answers = refl; held = refl }
session s l shape e (c ∷ cs) =
    let o = call_of c s l in
    let w = one_call s l shape e c in
    let r = subst (λ (h : Shelf). AsTold (run_calls (o.station, o.records) cs) (told h cs)) w.held (session o.station o.records w.shaped w.checked cs) in
    record { answers = λ t. w.answer t ∷ r.answers t; held = r.held }

-- a byte outside what is stored at a place
outside : (at n i : ℕ) → ((at ≤ i) × (i < at + n) → ⊥) → (i < at) ⊎ (at + n ≤ i)
outside at n i never = go (ltb i at) refl (ltb i (at + n)) refl
  where
    go : (b : Bool) → ltb i at ≡ b → (c : Bool) → ltb i (at + n) ≡ c → (i < at) ⊎ (at + n ≤ i)
    go true p c q = inl (ltb-true i at p)
    go false p true q = absurd (never (ltb-false i at p, ltb-true i (at + n) q))
    go false p false q = inr (ltb-false i (at + n) q)

-- where one record is stored, a byte of none stays
pub record_stays : (s : Station) (l : List ℕ) (m : ℕ) (bytes : List ℕ) (i : ℕ) → m ≤ s.kept → m < length s.lengths → InNone (lengthened s m (length bytes)) i
    → get_or (sets l (apart * m) bytes) i 0 ≡ get_or l i 0
record_stays s l m bytes i h g none =
    let long : get_or (set s.lengths m (length bytes)) m 0 ≡ length bytes = get_or-set_same s.lengths m (length bytes) 0 g in
    stored_byte bytes l (apart * m) i (outside (apart * m) (length bytes) i (λ p. none m h (p.0, omega (arith, p.1, long))))

refused_stays : {A : Type 0} (refused : Refusal → A) (a : Result (Unit {0}) Refusal) (s : Station) (l : List ℕ) (f : Unit {0} → Outcome A) (i : ℕ)
    → (InNone (f tt).station i → get_or (f tt).records i 0 ≡ get_or l i 0)
    → InNone (unless_refused refused a s l f).station i → get_or (unless_refused refused a s l f).records i 0 ≡ get_or l i 0
unfolding unless_refused
refused_stays refused (Ok u) s l f i w none = w none
refused_stays refused (Err r) s l f i w none = refl

-- a name's place is at most the number kept
pub place_kept : (s : Station) (name : ℕ) → place_of name (names_of s) ≤ s.kept
unfolding names_of
place_kept s name = omega (arith, place_most name (take s.kept s.names), length-take s.kept s.names, min-le_left s.kept (length s.names))

-- "other bytes stay"
pub others_stay : (s : Station) (l : List ℕ) → Shaped s → (c : Call) (i : ℕ) → InNone (call_of c s l).station i → get_or (call_of c s l).records i 0 ≡ get_or l i 0
unfolding call_of keep_of return_of apply_of taken_up
others_stay s l shape (Keep name) i none = refused_stays Err (check_of s (length l)) s l _ i (go (ltb k 8) refl) none
  where
    k : ℕ
    k = place_of name (names_of s)

    go : (b : Bool) → ltb k 8 ≡ b
        → InNone (cond b (with_record (Ok (tt {0})) (named s k name) l (suc k) (record_at s.lengths l 0)) (outcome (Err Ninth) s l)).station i
        → get_or (cond b (with_record (Ok (tt {0})) (named s k name) l (suc k) (record_at s.lengths l 0)) (outcome (Err Ninth) s l)).records i 0 ≡ get_or l i 0
    go true p none = record_stays (named s k name) l (suc k) (record_at s.lengths l 0) i (most (ltb k s.kept) refl) (omega (arith, ltb-true k 8 p, shape.lengths)) none
      where
        most : (b : Bool) → ltb k s.kept ≡ b → suc k ≤ cond b s.kept (s.kept + 1)
        most true q = omega (arith, ltb-true k s.kept q)
        most false q = omega (arith, place_kept s name)
    go false p none = refl
others_stay s l shape (Return name) i none = refused_stays Err (check_of s (length l)) s l _ i (go (ltb k s.kept) refl) none
  where
    k : ℕ
    k = place_of name (names_of s)

    go : (b : Bool) → ltb k s.kept ≡ b
        → InNone (cond b (with_record (Ok (tt {0})) s l 0 (record_at s.lengths l (suc k))) (outcome (Err NoName) s l)).station i
        → get_or (cond b (with_record (Ok (tt {0})) s l 0 (record_at s.lengths l (suc k))) (outcome (Err NoName) s l)).records i 0 ≡ get_or l i 0
    go true p none = record_stays s l 0 (record_at s.lengths l (suc k)) i (omega arith) (omega (arith, shape.lengths)) none
    go false p none = refl
others_stay s l shape (Apply brought rule template allowance) i none =
    refused_stays Err (check_of s (length l)) s l _ i (go (applied_to brought rule template allowance (record_at s.lengths l 0))) none
  where
    result : List ℕ
    result = result_of brought rule template allowance (record_at s.lengths l 0)

    go : (a : Result Applied Refusal) → InNone (taken_up a result s l).station i → get_or (taken_up a result s l).records i 0 ≡ get_or l i 0
    go (Ok (Applied.Bound n k)) none = record_stays s l 0 result i (omega arith) (omega (arith, shape.lengths)) none
    go (Ok (Applied.None n)) none = refl
    go (Ok (Applied.Spent n)) none = refl
    go (Err r) none = refl

-- a new station holds its record and keeps none
module _ (brought : Brought) (bytes : List ℕ) (s : Station) (l : List ℕ) (shape : Shaped s) (lent : room ≤ length l) (accepted : record_check brought bytes ≡ (Ok (tt {0}))) where
  abbrev s' : Station
  s' = lengthened (emptied s) 0 (length bytes)

  abbrev l' : List ℕ
  l' = sets l (apart * 0) bytes

  pub new_is : new_of brought bytes s l ≡ outcome (Ok (tt {0})) s' l'
  unfolding new_of unless_refused
  new_is = rw (le-ltb (length l) room lent, accepted)

  pub new_holds : held_by s' l' ≡ shelf bytes []
  unfolding held_by names_of entries_from
  new_holds = ap (λ (r : List ℕ). shelf r []) (record_same s.lengths l bytes 0 (omega (arith, shape.lengths)) (omega (arith, lent, accepted_short brought bytes accepted)))

  new_fits : (j : ℕ) → j < 1 → j < length (set s.lengths 0 (length bytes)) → (0 < get_or (set s.lengths 0 (length bytes)) j 0) × (get_or (set s.lengths 0 (length bytes)) j 0 ≤ apart)
  new_fits j h g =
      let z : j ≡ 0 = omega arith in
      let e : get_or (set s.lengths 0 (length bytes)) j 0 ≡ length bytes = ap (λ (k : ℕ). get_or (set s.lengths 0 (length bytes)) k 0) z ∙ get_or-set_same s.lengths 0 (length bytes) 0 (omega (arith, shape.lengths)) in
      (omega (arith, e, accepted_some brought bytes accepted), omega (arith, e, accepted_short brought bytes accepted))

  pub new_checked : check_of s' (length l') ≡ (Ok (tt {0}))
  unfolding names_of distinct
  new_checked = sound_check s' (length l') (record {
    lent = omega (arith, lent, length-sets l (apart * 0) bytes);
    few = omega arith;
    fit = fit_all 1 (set s.lengths 0 (length bytes)) new_fits;
    once = refl;
  })
