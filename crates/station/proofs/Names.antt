-- Names: one that is kept anew stands where it stood, or last.
use Prim.Native.Nat.{ℕ, zero, suc, ◌+◌, ◌<◌}
use native.Mathlib.Omega.{arith}
use mathlib.Core.Path.{◌≡◌, refl, sym, ap, ◌∙◌}
use mathlib.Core.List.{List, [], ◌∷◌}
use mathlib.Core.Bool.{Bool, true, false, cond, ◌&&◌, not}
use lib.Dec.{ltb, eqb, leb-suc-suc}
use lib.ListN.{length, take, set}
use borrow.Author.Tests.{eqb-true, eqb-false, ne_eqb, lt-ltb}
use Rattle.station.specs.Check.{place_of, is_among, distinct}
use Rattle.station.proofs.Sound.{and_left, and_right}

unfoldable pub keep_name : ℕ → List ℕ → List ℕ
keep_name name [] = name ∷ []
keep_name name (m ∷ ms) = cond (eqb m name) (name ∷ ms) (m ∷ keep_name name ms)

pub among_cons : (m x : ℕ) (xs : List ℕ) → is_among m (x ∷ xs) ≡ cond (eqb x m) true (is_among m xs)
unfolding place_of
among_cons m x xs = go (eqb x m)
  where
    go : (b : Bool) → ltb (cond b 0 (suc (place_of m xs))) (suc (length xs)) ≡ cond b true (is_among m xs)
    go true = lt-ltb 0 (suc (length xs)) (omega arith)
    go false = leb-suc-suc (suc (place_of m xs)) (length xs)

-- another name is among them as before
pub among_kept : (m name : ℕ) (ms : List ℕ) → (name ≡ m → ⊥) → is_among m (keep_name name ms) ≡ is_among m ms
unfolding place_of keep_name
among_kept m name [] ne = among_cons m name [] ∙ rw (ne_eqb name m ne)
among_kept m name (x ∷ xs) ne = go (eqb x name) refl (among_kept m name xs ne)
  where
    go : (b : Bool) → eqb x name ≡ b → is_among m (keep_name name xs) ≡ is_among m xs → is_among m (cond b (name ∷ xs) (x ∷ keep_name name xs)) ≡ is_among m (x ∷ xs)
    go true e r =
        let same : name ≡ x = sym (eqb-true x name e) in
        ap (λ (y : ℕ). is_among m (y ∷ xs)) same
    go false e r = among_cons m x (keep_name name xs) ∙ ap (cond (eqb x m) true) r ∙ sym (among_cons m x xs)

pub distinct_kept : (name : ℕ) (ms : List ℕ) → distinct ms ≡ true → distinct (keep_name name ms) ≡ true
unfolding distinct keep_name place_of
distinct_kept name [] d = refl
distinct_kept name (x ∷ xs) d = go (eqb x name) refl (distinct_kept name xs (and_right (not (is_among x xs)) (distinct xs) d))
  where
    go : (b : Bool) → eqb x name ≡ b → distinct (keep_name name xs) ≡ true → distinct (cond b (name ∷ xs) (x ∷ keep_name name xs)) ≡ true
    go true e r = ap (λ (y : ℕ). distinct (y ∷ xs)) (sym (eqb-true x name e)) ∙ d
    go false e r =
        let alone : is_among x (keep_name name xs) ≡ is_among x xs = among_kept x name xs (λ p. eqb-false x name e (sym p)) in
        (λ i. not (alone i) && r i) ∙ ap (λ (b : Bool). b && true) (and_left (not (is_among x xs)) (distinct xs) d)

take_longer : (c : Bool) (x n : ℕ) (xs : List ℕ) → take (cond c (suc n) (suc n + 1)) (x ∷ xs) ≡ x ∷ take (cond c n (n + 1)) xs
take_longer true x n xs = refl
take_longer false x n xs = let e : suc n + 1 ≡ suc (n + 1) = omega arith in rw e

-- the first n names of an array, with one stored at its place
pub stored_name : (name n : ℕ) (names : List ℕ) → place_of name (take n names) < length names
    → take (cond (ltb (place_of name (take n names)) n) n (n + 1)) (set names (place_of name (take n names)) name) ≡ keep_name name (take n names)
unfolding place_of keep_name
stored_name name zero [] h = absurd (omega arith)
stored_name name zero (x ∷ xs) h = refl
stored_name name (suc n) [] h = absurd (omega arith)
stored_name name (suc n) (x ∷ xs) h = go (eqb x name) h (stored_name name n xs)
  where
    go : (b : Bool) → cond b 0 (suc (place_of name (take n xs))) < suc (length xs)
        → (place_of name (take n xs) < length xs → take (cond (ltb (place_of name (take n xs)) n) n (n + 1)) (set xs (place_of name (take n xs)) name) ≡ keep_name name (take n xs))
        → take (cond (ltb (cond b 0 (suc (place_of name (take n xs)))) (suc n)) (suc n) (suc n + 1)) (set (x ∷ xs) (cond b 0 (suc (place_of name (take n xs)))) name) ≡ cond b (name ∷ take n xs) (x ∷ keep_name name (take n xs))
    go true g r =
        let p : 0 < suc n = omega arith in
        rw (lt-ltb 0 (suc n) p)
    go false g r =
        let k = place_of name (take n xs) in
        ap (λ (c : Bool). take (cond c (suc n) (suc n + 1)) (x ∷ set xs k name)) (leb-suc-suc (suc k) n)
        ∙ take_longer (ltb k n) x n (set xs k name)
        ∙ ap (λ (ys : List ℕ). x ∷ ys) (r (omega arith))
