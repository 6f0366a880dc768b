-- What a check that passed tells.
use Prim.Native.Nat.{ℕ, zero, suc, ◌+◌, ◌≤◌, ◌<◌}
use native.Mathlib.Omega.{arith}
use mathlib.Core.Path.{◌≡◌, refl, ap}
use mathlib.Core.List.{List, [], ◌∷◌}
use mathlib.Core.Bool.{Bool, true, false, cond, ◌&&◌}
use lib.Dec.{ltb, leb}
use lib.ListN.{length, get_or, take}
use borrow.Author.Tests.{ltb-true, ltb-false, leb-true, lt-ltb, le-ltb, le-leb}
use Rattle.station.specs.Slot.{apart, room, names_of}
use Rattle.station.specs.Check.{all_fit, distinct, in_order, check_of}
use Rattle.station.specs.declared.Station.{Station}
use Rattle.answers.specs.declared.Refusal.{Refusal}
use Rattle.std.specs.Prelude.{Result, Ok, Err}

pub and_left : (a b : Bool) → (a && b) ≡ true → a ≡ true
and_left true b e = refl
and_left false b e = e

pub and_right : (a b : Bool) → (a && b) ≡ true → b ≡ true
and_right true b e = e
and_right false b e = absurd (false_true e)
  where
    false_true : false ≡ true → ⊥
    false_true e = let z : ◌≡◌ {A = ℕ} 0 1 = ap (λ (b : Bool). cond b 1 0) e in omega (arith, z)

pub fit_each : (n : ℕ) (l : List ℕ) → all_fit (take n l) ≡ true → (j : ℕ) → j < n → get_or l j 0 ≤ apart
unfolding all_fit
fit_each zero l e j h = absurd (omega arith)
fit_each (suc n) [] e j h = omega arith
fit_each (suc n) (k ∷ l) e zero h = leb-true k apart (and_right (ltb 0 k) (leb k apart) (and_left (ltb 0 k && leb k apart) (all_fit (take n l)) e))
fit_each (suc n) (k ∷ l) e (suc j) h = fit_each n l (and_right (ltb 0 k && leb k apart) (all_fit (take n l)) e) j (omega arith)

pub fit_some : (n : ℕ) (l : List ℕ) → all_fit (take n l) ≡ true → (j : ℕ) → j < n → j < length l → 0 < get_or l j 0
unfolding all_fit
fit_some zero l e j h g = absurd (omega arith)
fit_some (suc n) [] e j h g = absurd (omega arith)
fit_some (suc n) (k ∷ l) e zero h g = ltb-true 0 k (and_left (ltb 0 k) (leb k apart) (and_left (ltb 0 k && leb k apart) (all_fit (take n l)) e))
fit_some (suc n) (k ∷ l) e (suc j) h g = fit_some n l (and_right (ltb 0 k && leb k apart) (all_fit (take n l)) e) j (omega arith) (omega arith)

pub fit_all : (n : ℕ) (l : List ℕ) → ((j : ℕ) → j < n → j < length l → (0 < get_or l j 0) × (get_or l j 0 ≤ apart)) → all_fit (take n l) ≡ true
unfolding all_fit
fit_all zero l f = refl
fit_all (suc n) [] f = refl
fit_all (suc n) (k ∷ l) f =
    let h = f 0 (omega arith) (omega arith) in
    rw (lt-ltb 0 k h.0, le-leb k apart h.1, fit_all n l (λ j p q. f (suc j) (omega arith) (omega arith)))

-- of a station and the number of bytes lent, after the checks
pub record Sound (s : Station) (n : ℕ) : Type 0 where
  pub lent : room ≤ n
  pub few : s.kept ≤ 8
  pub fit : all_fit (take (s.kept + 1) s.lengths) ≡ true
  pub once : distinct (names_of s) ≡ true

pub done_refused : (r : Refusal) → Err r ≡ (Ok (tt {0})) → ⊥
done_refused r e = let z : ◌≡◌ {A = ℕ} 0 1 = ap (λ (a : Result (Unit {0}) Refusal). told a) e in omega (arith, z)
  where
    told : Result (Unit {0}) Refusal → ℕ
    told (Ok u) = 1
    told (Err r) = 0

pub sound : (s : Station) (n : ℕ) → check_of s n ≡ (Ok (tt {0})) → Sound s n
unfolding check_of in_order
sound s n e = go (ltb n room) refl (in_order s) refl e
  where
    go : (a : Bool) → ltb n room ≡ a → (b : Bool) → in_order s ≡ b → cond a (Err Rattle.answers.specs.declared.Refusal.TheVariants.Full)
        (cond b (Ok (tt {0})) (Err Rattle.answers.specs.declared.Refusal.TheVariants.Directory)) ≡ (Ok (tt {0})) → Sound s n
    go true p b q f = absurd (done_refused _ f)
    go false p false q f = absurd (done_refused _ f)
    go false p true q f =
        let few = leb s.kept 8 in
        let fit = all_fit (take (s.kept + 1) s.lengths) in
        let once = distinct (names_of s) in
        record {
          lent = ltb-false n room p;
          few = leb-true s.kept 8 (and_left few fit (and_left (few && fit) once q));
          fit = and_right few fit (and_left (few && fit) once q);
          once = and_right (few && fit) once q;
        }

module _ (s : Station) (n : ℕ) (ok : Sound s n) where
  pub length_fits : (j : ℕ) → j ≤ s.kept → get_or s.lengths j 0 ≤ apart
  length_fits j h = fit_each (s.kept + 1) s.lengths ok.fit j (omega arith)

pub sound_check : (s : Station) (n : ℕ) → Sound s n → check_of s n ≡ (Ok (tt {0}))
unfolding check_of in_order
sound_check s n ok = rw (le-ltb n room ok.lent, le-leb s.kept 8 ok.few, ok.fit, ok.once)
