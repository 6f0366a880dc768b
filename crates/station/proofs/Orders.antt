-- The checks of a station pass exactly where it is in order.
use Prim.Native.Nat.{ℕ, zero, suc, ◌+◌, ◌≤◌, ◌<◌}
use native.Mathlib.Omega.{arith}
use mathlib.Core.Path.{◌≡◌, refl, sym, ap, ◌∙◌}
use mathlib.Core.List.{List, [], ◌∷◌}
use mathlib.Core.Bool.{Bool, true, false, cond, ◌&&◌, not, false≢true}
use lib.Dec.{ltb, eqb}
use lib.ListN.{length, get_or}
use lib.Seq.{get_or-take, length-take-le}
use borrow.Author.Tests.{ltb-true, ltb-false, eqb-true, eq-eqb}
use Rattle.station.specs.Slot.{room, names_of}
use Rattle.station.specs.Check.{place_of, is_among, distinct, check_of}
use Rattle.station.specs.Demands.{InOrder}
use Rattle.station.specs.declared.Station.{Station}
use Rattle.station.proofs.Sound.{Sound, sound, sound_check, and_left, and_right, fit_each, fit_some, fit_all}
use Rattle.station.proofs.Shapes.{Shaped}
use Rattle.std.specs.Prelude.{Ok}

-- a name that stands at a place is among the names, and one that is among them stands at its place
pub among_at : (name : ℕ) (ms : List ℕ) (j : ℕ) → j < length ms → get_or ms j 0 ≡ name → place_of name ms < length ms
unfolding place_of
among_at name [] j h e = absurd (omega arith)
among_at name (m ∷ ms) zero h e = rw (eq-eqb m name e) (omega arith)
among_at name (m ∷ ms) (suc j) h e = go (eqb m name) (among_at name ms j (omega arith) e)
  where
    go : (b : Bool) → place_of name ms < length ms → cond b 0 (suc (place_of name ms)) < suc (length ms)
    go true r = omega arith
    go false r = omega arith

pub place_at : (name : ℕ) (ms : List ℕ) → place_of name ms < length ms → get_or ms (place_of name ms) 0 ≡ name
unfolding place_of
place_at name [] h = absurd (omega arith)
place_at name (m ∷ ms) h = go (eqb m name) refl h (place_at name ms)
  where
    go : (b : Bool) → eqb m name ≡ b → cond b 0 (suc (place_of name ms)) < suc (length ms) → (place_of name ms < length ms → get_or ms (place_of name ms) 0 ≡ name)
        → get_or (m ∷ ms) (cond b 0 (suc (place_of name ms))) 0 ≡ name
    go true e h r = eqb-true m name e
    go false e h r = r (omega arith)

among_not : (m : ℕ) (ms : List ℕ) → not (is_among m ms) ≡ true → length ms ≤ place_of m ms
among_not m ms e = go (ltb (place_of m ms) (length ms)) refl e
  where
    go : (b : Bool) → ltb (place_of m ms) (length ms) ≡ b → not b ≡ true → length ms ≤ place_of m ms
    go true p q = absurd (false≢true q)
    go false p q = ltb-false (place_of m ms) (length ms) p

unfoldable pub Once : List ℕ → Type 0
Once ms = (i j : ℕ) → i < length ms → j < length ms → get_or ms i 0 ≡ get_or ms j 0 → i ≡ j

distinct_once : (ms : List ℕ) → distinct ms ≡ true → Once ms
unfolding distinct Once
distinct_once [] d i j p q e = absurd (omega arith)
distinct_once (m ∷ ms) d zero zero p q e = refl
distinct_once (m ∷ ms) d zero (suc j) p q e =
    let a = among_not m ms (and_left (not (is_among m ms)) (distinct ms) d) in
    let b = among_at m ms j (omega arith) (sym e) in absurd (omega (arith, a, b))
distinct_once (m ∷ ms) d (suc i) zero p q e =
    let a = among_not m ms (and_left (not (is_among m ms)) (distinct ms) d) in
    let b = among_at m ms i (omega arith) e in absurd (omega (arith, a, b))
distinct_once (m ∷ ms) d (suc i) (suc j) p q e = ap suc (distinct_once ms (and_right (not (is_among m ms)) (distinct ms) d) i j (omega arith) (omega arith) e)

once_distinct : (ms : List ℕ) → Once ms → distinct ms ≡ true
unfolding distinct Once
once_distinct [] f = refl
once_distinct (m ∷ ms) f = go (ltb (place_of m ms) (length ms)) refl (once_distinct ms (λ i j p q e. less i j (f (suc i) (suc j) (omega arith) (omega arith) e)))
  where
    less : (i j : ℕ) → suc i ≡ suc j → i ≡ j
    less i j e = omega (arith, e)

    go : (b : Bool) → ltb (place_of m ms) (length ms) ≡ b → distinct ms ≡ true → (not b && distinct ms) ≡ true
    go true p r =
        let h = ltb-true (place_of m ms) (length ms) p in
        let z : suc (place_of m ms) ≡ 0 = f (suc (place_of m ms)) 0 (omega (arith, h)) (omega arith) (place_at m ms h) in absurd (omega (arith, z))
    go false p r = r

module _ (s : Station) (shape : Shaped s) where
  pub names_at : s.kept ≤ 8 → (i : ℕ) → i < s.kept → get_or (names_of s) i 0 ≡ get_or s.names i 0
  unfolding names_of
  names_at h i p = get_or-take s.kept s.names i 0 p

  pub names_long : s.kept ≤ 8 → length (names_of s) ≡ s.kept
  unfolding names_of
  names_long h = length-take-le s.kept s.names (omega (arith, shape.names))

  module _ (n : ℕ) where
    pub sound_order : Sound s n → InOrder s
    unfolding Once
    sound_order ok = record {
      eight = ok.few;
      fit = λ j h. (
        fit_some (s.kept + 1) s.lengths ok.fit j (omega arith) (omega (arith, ok.few, shape.lengths)),
        fit_each (s.kept + 1) s.lengths ok.fit j (omega arith),
      );
      once = λ i j p q e.
          let k = names_long ok.few in
          distinct_once (names_of s) ok.once i j (omega (arith, p, k)) (omega (arith, q, k)) (names_at ok.few i p ∙ e ∙ sym (names_at ok.few j q));
    }

    pub order_sound : room ≤ n → InOrder s → Sound s n
    unfolding Once
    order_sound h o = record {
      lent = h;
      few = o.eight;
      fit = fit_all (s.kept + 1) s.lengths (λ j p q. o.fit j (omega arith));
      once = once_distinct (names_of s) (λ i j p q e.
          let k = names_long o.eight in
          let p' : i < s.kept = omega (arith, p, k) in
          let q' : j < s.kept = omega (arith, q, k) in
          o.once i j p' q' (sym (names_at o.eight i p') ∙ e ∙ names_at o.eight j q'));
    }

    pub order_checked : room ≤ n → InOrder s → check_of s n ≡ (Ok (tt {0}))
    order_checked h o = sound_check s n (order_sound h o)

    pub checked_order : check_of s n ≡ (Ok (tt {0})) → InOrder s
    checked_order e = sound_order (sound s n e)
