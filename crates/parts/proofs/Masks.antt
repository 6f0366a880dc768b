-- The laws of what is kept as a number: the mask of the assigned variables, and a part.
-- Assumes nothing.
use Prim.Native.Nat.{ℕ, suc, ◌+◌, ◌-◌, ◌*◌, ◌/◌, ◌%◌, ◌^◌, ◌<◌, ◌≤◌, max}
use native.Mathlib.Nat.{max-zero, max-le, le-max_right, pow-suc, lt_of_lt_of_le, mod-lt, div-eq_of_lt}
use native.Mathlib.Omega.{arith}
use mathlib.Core.Bool.{Bool, true, false}
use mathlib.Core.Path.{◌≡◌, refl, sym, ◌∙◌, ap, subst}
use lib.Bits.{bit_or, or_step, or_shr}
use lib.Dec.{eqb, ltb}
use lib.Pow.{pow_pos, pow_mono, pow-lt, pow-add, shl-shr, shr_lt, split, field, mod-mod-pow}
use borrow.Author.Tests.{eqb-true, eqb-false, ltb-true, ltb-false, eq-eqb}
use Rattle.answers.specs.Part.{part, bound_part}
use Rattle.term.specs.Code.{variables}
use Rattle.parts.specs.Packed.{bit, packed, unpacked}

-- The mask

pub power_fits : (v : ℕ) → v ≤ variables → 1 * 2 ^ v % 18446744073709551616 ≡ 2 ^ v
power_fits v h = by (2 ^ v) (pow-lt h')
  where
    h' : v < 64
    h' = omega arith

    by : (n : ℕ) → n < 2 ^ 64 → 1 * n % 18446744073709551616 ≡ n
    by n l = omega arith

or_odd : (x y : ℕ) → bit_or x y % 2 ≡ max (x % 2) (y % 2)
or_odd x y =
    let r : max (x % 2) (y % 2) ≤ 1 = max-le (omega arith) (omega arith) in
    by (bit_or x y) (bit_or (x / 2) (y / 2)) (max (x % 2) (y % 2)) r (or_step x y)
  where
    by : (n q k : ℕ) → k ≤ 1 → n ≡ q * 2 + k → n % 2 ≡ k
    by n q k l e = omega arith

one_same : (v : ℕ) → 2 ^ v / 2 ^ v ≡ 1
one_same v = let z : 2 ^ v ≡ 1 * 2 ^ v = omega arith in ap (λ (n : ℕ). n / 2 ^ v) z ∙ shl-shr 1 v

one_below : (i v : ℕ) → i < v → 2 ^ i / 2 ^ v ≡ 0
one_below i v h =
    let z : v ≡ 0 + v = omega arith in
    let l : 2 ^ i / 2 ^ v < 2 ^ 0 = shr_lt 0 v (subst (λ (n : ℕ). 2 ^ i < 2 ^ n) z (pow-lt h)) in
    omega (arith, l)

one_above : (d v : ℕ) → 2 ^ (suc d + v) / 2 ^ v % 2 ≡ 0
one_above d v =
    let e : 2 ^ (suc d + v) / 2 ^ v ≡ 2 ^ d * 2 = ap (λ (n : ℕ). n / 2 ^ v) (pow-add 2 (suc d) v) ∙ shl-shr (2 ^ suc d) v ∙ pow-suc 2 d in
    by (2 ^ (suc d + v) / 2 ^ v) (2 ^ d) e
  where
    by : (n k : ℕ) → n ≡ k * 2 → n % 2 ≡ 0
    by n k e = omega arith

one_other : (i v : ℕ) → (i ≡ v → ⊥) → 2 ^ i / 2 ^ v % 2 ≡ 0
one_other i v d = by (ltb i v) refl
  where
    by : (b : Bool) → ltb i v ≡ b → 2 ^ i / 2 ^ v % 2 ≡ 0
    by true h = ap (λ (n : ℕ). n % 2) (one_below i v (ltb-true i v h))
    by false h =
        let l = ltb-false i v h in
        let z : i ≡ suc (i - v - 1) + v = arrange l d in
        ap (λ (n : ℕ). 2 ^ n / 2 ^ v % 2) z ∙ one_above (i - v - 1) v
      where
        arrange : v ≤ i → (i ≡ v → ⊥) → i ≡ suc (i - v - 1) + v
        arrange l d = omega arith

or_bit : (a i v : ℕ) → bit_or a (2 ^ i) / 2 ^ v % 2 ≡ max (a / 2 ^ v % 2) (2 ^ i / 2 ^ v % 2)
or_bit a i v = ap (λ (n : ℕ). n % 2) (or_shr a (2 ^ i) v) ∙ or_odd (a / 2 ^ v) (2 ^ i / 2 ^ v)

-- one more variable in the mask
pub bit_new : (a v : ℕ) → bit (bit_or a (2 ^ v)) v ≡ true
bit_new a v =
    let e : 2 ^ v / 2 ^ v % 2 ≡ 1 = ap (λ (n : ℕ). n % 2) (one_same v) in
    let k : bit_or a (2 ^ v) / 2 ^ v % 2 ≡ max (a / 2 ^ v % 2) 1 = or_bit a v v ∙ ap (max (a / 2 ^ v % 2)) e in
    let u : max (a / 2 ^ v % 2) 1 ≤ 1 = max-le (omega arith) (omega arith) in
    let w : 1 ≤ max (a / 2 ^ v % 2) 1 = le-max_right (a / 2 ^ v % 2) 1 in
    eq-eqb (bit_or a (2 ^ v) / 2 ^ v % 2) 1 (omega (arith, k, u, w))

pub bit_other : (a i v : ℕ) → (i ≡ v → ⊥) → bit (bit_or a (2 ^ i)) v ≡ bit a v
bit_other a i v d = ap (λ (n : ℕ). eqb n 1) (or_bit a i v ∙ ap (max (a / 2 ^ v % 2)) (one_other i v d) ∙ max-zero (a / 2 ^ v % 2))

-- whoever was in the mask stays
pub bit_still : (a i v : ℕ) → bit a v ≡ true → bit (bit_or a (2 ^ i)) v ≡ true
bit_still a i v h = by (eqb i v) refl
  where
    by : (b : Bool) → eqb i v ≡ b → bit (bit_or a (2 ^ i)) v ≡ true
    by true e = ap (λ (n : ℕ). bit (bit_or a (2 ^ n)) v) (eqb-true i v e) ∙ bit_new a v
    by false e = bit_other a i v (eqb-false i v e) ∙ h

-- a mask of n variables

none_past : {a n v : ℕ} → a < 2 ^ n → n ≤ v → a / 2 ^ v ≡ 0
none_past l h = div-eq_of_lt (lt_of_lt_of_le l (pow_mono h))

pub bit_none : (a n v : ℕ) → a < 2 ^ n → n ≤ v → bit a v ≡ false
bit_none a n v l h = ap (λ (k : ℕ). eqb (k % 2) 1) (none_past {n = n} {v = v} l h)

pub below : (a n i : ℕ) → a < 2 ^ n → 0 < a / 2 ^ i → i < n
below a n i l h = by (ltb i n) refl
  where
    by : (b : Bool) → ltb i n ≡ b → i < n
    by true e = ltb-true i n e
    by false e = absurd (omega (arith, h, none_past {n = n} {v = i} l (ltb-false i n e)))

pub whole : (a n : ℕ) → a / 2 ^ n ≡ 0 → a % 2 ^ n ≡ a
whole a n e = by (2 ^ n) (split a n)
  where
    by : (k : ℕ) → a / 2 ^ n * k + a % 2 ^ n ≡ a → a % 2 ^ n ≡ a
    by k s = let z : 0 * k ≡ 0 = omega arith in omega (arith, sym (ap (λ (q : ℕ). q * k) e ∙ z), s)

-- the variables below n in a mask

pub bit_below : (a n v : ℕ) → v < n → bit (a % 2 ^ n) v ≡ bit a v
bit_below a n v h =
    let z : n ≡ n - suc v + 1 + v = omega arith in
    ap (λ (k : ℕ). eqb (k % 2) 1) (ap (λ (k : ℕ). a % 2 ^ k / 2 ^ v) z ∙ field a (n - suc v + 1) v)
    ∙ ap (λ (k : ℕ). eqb k 1) (mod-mod-pow (a / 2 ^ v) (n - suc v) 1)

pub bit_past : (a n v : ℕ) → n ≤ v → bit (a % 2 ^ n) v ≡ false
bit_past a n v h = bit_none (a % 2 ^ n) n v (mod-lt a (pow_pos n)) h

pub bit_next : (a n v : ℕ) → (v ≡ n → ⊥) → bit (a % 2 ^ n) v ≡ bit (a % 2 ^ (n + 1)) v
bit_next a n v d = by (ltb v n) refl
  where
    by : (b : Bool) → ltb v n ≡ b → bit (a % 2 ^ n) v ≡ bit (a % 2 ^ (n + 1)) v
    by true e = let l = ltb-true v n e in bit_below a n v l ∙ sym (bit_below a (n + 1) v (omega arith))
    by false e = let l = ltb-false v n e in bit_past a n v l ∙ sym (bit_past a (n + 1) v (arrange l d))
      where
        arrange : n ≤ v → (v ≡ n → ⊥) → n + 1 ≤ v
        arrange l d = omega arith

-- Numbers that are packed into one

pub part_back : (offset size n : ℕ) → n < 256 → unpacked (packed (bound_part offset size n)) ≡ bound_part offset size n
part_back offset size n h = by (offset % 65536) (size % 65536) (omega arith) (omega arith)
  where
    by : (o l : ℕ) → o < 65536 → l < 65536 → unpacked (packed (part o l n)) ≡ part o l n
    by o l i j =
        let x : (o + 65536 * l + 4294967296 * n) % 65536 ≡ o = omega arith in
        let q : (o + 65536 * l + 4294967296 * n) / 65536 ≡ l + 65536 * n = omega arith in
        let y : (l + 65536 * n) % 65536 ≡ l = omega arith in
        let d : (o + 65536 * l + 4294967296 * n) / 4294967296 ≡ n = omega arith in
        let z : n % 256 ≡ n = omega arith in
        rw (x, q, y, d, z)

-- more elements, of so many bytes
pub packed_longer : (offset size e n more n' size' : ℕ) → n' ≡ n + more → size' ≡ size + e → size' < 65536
    → packed (bound_part offset size n) + 65536 * e + 4294967296 * more ≡ packed (bound_part offset size' n')
packed_longer offset size e n more n' size' g h i =
    let x : size % 65536 ≡ size = omega arith in
    let y : size' % 65536 ≡ size + e = omega arith in
    by (offset % 65536) (size % 65536) (size' % 65536) (y ∙ ap (λ (k : ℕ). k + e) (sym x))
  where
    by : (o l l' : ℕ) → l' ≡ l + e → o + 65536 * l + 4294967296 * n + 65536 * e + 4294967296 * more ≡ o + 65536 * l' + 4294967296 * n'
    by o l l' j = omega arith

pub packed_below : (offset size n x : ℕ) → n < 256 → x ≡ packed (bound_part offset size n) → x < 2 ^ 48
packed_below offset size n x h e = by (offset % 65536) (size % 65536) (omega arith) (omega arith) e
  where
    by : (o l : ℕ) → o < 65536 → l < 65536 → x ≡ o + 65536 * l + 4294967296 * n → x < 2 ^ 48
    by o l i j f = omega arith
