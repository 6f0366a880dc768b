-- Bytes copied from one stretch to another.
use Prim.Native.Nat.{ℕ, suc, ◌+◌, ◌-◌, ◌≤◌, ◌<◌}
use native.Mathlib.Omega.{arith}
use mathlib.Core.Path.{◌≡◌, sym, ap, ◌∙◌}
use mathlib.Core.List.{List, ◌++◌}
use lib.ListN.{length, get_or, set, take, drop, length-drop, drop_of_length-le}
use lib.Seq.{sets, drop-cons, drop-set-lt, drop-set-add, take-set-le, length-take-le}
use Rattle.std.proofs.lemmas.List.Edits.{sets-eq}
use Rattle.std.specs.List.{copy_within}

-- byte by byte, at the front
pub front_next : (l bs : List ℕ) (i : ℕ) → i < length bs → sets l i (drop i bs) ≡ sets (set l i (get_or bs i 0)) (i + 1) (drop (i + 1) bs)
front_next l bs i h =
    let g : i + 1 ≡ suc i = omega arith in
    rw (drop-cons bs i 0 h, g)

pub front_end : (l bs : List ℕ) (i : ℕ) → length bs ≤ i → sets l i (drop i bs) ≡ l
front_end l bs i h = rw (drop_of_length-le bs {i = i} h)

-- a byte outside a stretch is stored: the stretch stays
pub kept_before : (l : List ℕ) (a n j v : ℕ) → j < a → take n (drop a (set l j v)) ≡ take n (drop a l)
kept_before l a n j v h = ap (take n) (drop-set-lt a l j v h)

pub kept_after : (l : List ℕ) (a n j v : ℕ) → a + n ≤ j → take n (drop a (set l j v)) ≡ take n (drop a l)
kept_after l a n j v h =
    let e : a + (j - a) ≡ j = omega arith in
    let g : n ≤ j - a = omega arith in
    ap (λ (k : ℕ). take n (drop a (set l k v))) (sym e) ∙ ap (take n) (drop-set-add a l (j - a) v) ∙ take-set-le n (drop a l) (j - a) v g

pub stretch_length : (l : List ℕ) (a n : ℕ) → a + n ≤ length l → length (take n (drop a l)) ≡ n
stretch_length l a n h = length-take-le n (drop a l) (omega (arith, length-drop a l))

pub copied : (l : List ℕ) (a b n : ℕ) → a + n ≤ length l → b + n ≤ length l → copy_within l a (a + n) b ≡ sets l b (take n (drop a l))
copied l a b n h g =
    let e : a + n - a ≡ n = omega arith in
    let m = stretch_length l a n h in
    ap (λ (k : ℕ). take b l ++ take k (drop a l) ++ drop (b + k) l) e
    ∙ sym (sets-eq (take n (drop a l)) l b (omega (arith, m)) ∙ ap (λ (k : ℕ). take b l ++ take n (drop a l) ++ drop (b + k) l) m)
