-- Laws of the checks.
use Prim.Native.Nat.{ℕ, suc, ◌+◌, ◌-◌, ◌≤◌, ◌<◌}
use native.Mathlib.Omega.{arith}
use mathlib.Core.Path.{◌≡◌, refl, sym, ap, ◌∙◌}
use mathlib.Core.List.{List, [], ◌∷◌}
use mathlib.Core.Bool.{Bool, true, false, cond, not, ◌&&◌}
use lib.Dec.{eqb, ltb, leb}
use lib.ListN.{length, get_or, take, drop, drop_of_length-le, length-drop}
use lib.Seq.{drop-cons, take_all}
use borrow.Author.Tests.{lt-ltb, le-ltb, le-leb, lt-leb, ltb-false}
use Rattle.std.specs.List.{list_all}
use Rattle.std.specs.List.{position_or_len}
use Rattle.std.specs.Option.{unwrap_or}
use Rattle.std.specs.Prelude.{Ok, Err, Some, None}
use Rattle.answers.specs.declared.Refusal.TheVariants.{Full, Directory}
use Rattle.station.specs.Slot.{apart, room, names_of}
use Rattle.station.specs.declared.Station.{Station}
use Rattle.station.specs.Check.{place_of, distinct, all_fit, in_order, check_of}
use Rattle.station.proofs.Changes.{place_most}

-- each length tested, and the place of a name
pub fit_is : (ks : List ℕ) → list_all (λ (k : ℕ). ltb 0 k && leb k apart) ks ≡ all_fit ks
unfolding all_fit
fit_is [] = refl
fit_is (k ∷ ks) = ap (λ (b : Bool). ltb 0 k && leb k apart && b) (fit_is ks)

position_is : (name : ℕ) (ms : List ℕ) → position_or_len (λ (m : ℕ). eqb m name) ms ≡ place_of name ms
unfolding place_of
position_is name [] = refl
position_is name (m ∷ ms) = go (eqb m name) (position_is name ms)
  where
    go : (b : Bool) → position_or_len (λ (x : ℕ). eqb x name) ms ≡ place_of name ms
        → cond (not b) (1 + position_or_len (λ (x : ℕ). eqb x name) ms) 0 ≡ cond b 0 (suc (place_of name ms))
    go true e = refl
    go false e = omega (arith, e)

pub place_is : (name : ℕ) (ms : List ℕ)
    → unwrap_or (cond (ltb (position_or_len (λ (m : ℕ). eqb m name) ms) (length ms)) (Some (position_or_len (λ (m : ℕ). eqb m name) ms)) None) (length ms) ≡ place_of name ms
place_is name ms = rw (position_is name ms) (go (ltb (place_of name ms) (length ms)) refl)
  where
    go : (b : Bool) → ltb (place_of name ms) (length ms) ≡ b → unwrap_or (cond b (Some (place_of name ms)) None) (length ms) ≡ place_of name ms
    go true e = refl
    go false e = omega (arith, ltb-false (place_of name ms) (length ms) e, place_most name ms)

-- names from a place on, read one by one
module _ (l : List ℕ) (i : ℕ) where
  next : i < length l → drop i l ≡ get_or l i 0 ∷ drop (i + 1) l
  next h = let e : suc i ≡ i + 1 = omega arith in drop-cons l i 0 h ∙ ap (λ (j : ℕ). get_or l i 0 ∷ drop j l) e

  rest_is : take (length l - (i + 1)) (drop (i + 1) l) ≡ drop (i + 1) l
  rest_is = take_all (length l - (i + 1)) (drop (i + 1) l) (omega (arith, length-drop (i + 1) l))

  module _ (at : ℕ) (e : at ≡ place_of (get_or l i 0) (take (length l - (i + 1)) (drop (i + 1) l))) where
    at_is : at ≡ place_of (get_or l i 0) (drop (i + 1) l)
    at_is = e ∙ ap (place_of (get_or l i 0)) rest_is

    pub distinct_twice : i < length l → at < length (take (length l - (i + 1)) (drop (i + 1) l)) → distinct (drop i l) ≡ false
    unfolding distinct
    distinct_twice h g =
        let among : place_of (get_or l i 0) (drop (i + 1) l) < length (drop (i + 1) l) = omega (arith, g, at_is, ap length rest_is) in
        rw (next h, lt-ltb (place_of (get_or l i 0) (drop (i + 1) l)) (length (drop (i + 1) l)) among)

    pub distinct_next : i < length l → length (take (length l - (i + 1)) (drop (i + 1) l)) ≤ at → distinct (drop i l) ≡ distinct (drop (i + 1) l)
    unfolding distinct
    distinct_next h g =
        let alone : length (drop (i + 1) l) ≤ place_of (get_or l i 0) (drop (i + 1) l) = omega (arith, g, at_is, ap length rest_is) in
        rw (next h, le-ltb (place_of (get_or l i 0) (drop (i + 1) l)) (length (drop (i + 1) l)) alone)

  pub distinct_end : length l ≤ i → distinct (drop i l) ≡ true
  unfolding distinct
  distinct_end h = rw (drop_of_length-le l {i = i} h)

-- the station's own checks, and those with the number of bytes lent
module _ (s : Station) where
  module _ (n : ℕ) (e : n ≡ s.kept) where
    pub order_over : 8 < n → in_order s ≡ false
    unfolding in_order
    order_over h = rw (lt-leb s.kept 8 (omega (arith, e, h)))

    pub order_unfit : n ≤ 8 → all_fit (take (n + 1) s.lengths) ≡ false → in_order s ≡ false
    unfolding in_order
    order_unfit h f = rw (le-leb s.kept 8 (omega (arith, e, h)), sym (ap (λ (k : ℕ). all_fit (take (k + 1) s.lengths)) e) ∙ f)

    pub order_names : n ≤ 8 → all_fit (take (n + 1) s.lengths) ≡ true → distinct (take n s.names) ≡ in_order s
    unfolding in_order names_of
    order_names h f =
        ap (λ (k : ℕ). distinct (take k s.names)) e
        ∙ sym (rw (le-leb s.kept 8 (omega (arith, e, h)), sym (ap (λ (k : ℕ). all_fit (take (k + 1) s.lengths)) e) ∙ f))

  pub check_full : (n : ℕ) → n < room → check_of s n ≡ Err Full
  unfolding check_of
  check_full n h = rw (lt-ltb n room h)

  pub check_order : (n : ℕ) (b : Bool) → room ≤ n → in_order s ≡ b → check_of s n ≡ cond b (Ok (tt {0})) (Err Directory)
  unfolding check_of
  check_order n b h e = rw (le-ltb n room h, e)
