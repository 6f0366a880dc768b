-- Decimal numbers: the fewest digits that hold a number are its decimal.
use Prim.Native.Nat.{ℕ, zero, suc, ◌-◌, ◌*◌, ◌/◌, ◌%◌, ◌^◌, ◌≤◌, ◌<◌}
use native.Mathlib.Nat.{pow-suc, pow-le-pow_right, mod-eq_of_lt, le-div_iff_mul-le, div-lt_iff_lt-mul}
use native.Mathlib.Omega.{arith}
use mathlib.Core.Path.{◌≡◌, refl, ap, ap₂, ◌∙◌}
use mathlib.Core.List.{List, [], ◌∷◌, ◌++◌}
use mathlib.Core.Bool.{Bool, true, false, cond}
use lib.Dec.{leb, ltb}
use lib.ListN.{length, take, length-append}
use borrow.Author.Tests.{lt-ltb, le-ltb, leb-true, leb-false}
use Rattle.io.specs.Digits.{hex_digit_ascii, last_digits, IsDigitCount}
use Rattle.output.specs.Decimal.{digit, decimal_of, decimal}

glyph_digit : (d : ℕ) → d < 10 → hex_digit_ascii d ≡ digit d
glyph_digit d h = rw (lt-ltb d 10 h)

one_digit : (n : ℕ) → n < 10 → hex_digit_ascii (n % 10) ≡ digit n
one_digit n h = ap hex_digit_ascii (mod-eq_of_lt h) ∙ glyph_digit n h

last_digit : (n : ℕ) → hex_digit_ascii (n % 10) ≡ digit (n % 10)
last_digit n = glyph_digit (n % 10) (omega arith)

-- a number of k + 2 digits is at least 10, and without the last has k + 1
ten_power : (k : ℕ) → 1 ≤ 10 ^ k
ten_power zero = omega arith
ten_power (suc k) = rw (pow-suc 10 k) (omega (arith, ten_power k))

power_before : (k : ℕ) → 10 ^ (suc (suc k) - 1) ≡ 10 ^ (suc k - 1) * 10
power_before k = let e : suc (suc k) - 1 ≡ suc (suc k - 1) = omega arith in rw e (pow-suc 10 (suc k - 1))

at_least : (n k : ℕ) → IsDigitCount 10 1 n (suc (suc k)) → 10 ^ (suc k - 1) * 10 ≤ n
at_least n k f = rw (← power_before k) (f.2 (omega arith))

fewer : (n k : ℕ) → IsDigitCount 10 1 n (suc (suc k)) → IsDigitCount 10 1 (n / 10) (suc k)
fewer n k f =
    let below : n < 10 ^ suc k * 10 = rw (← pow-suc 10 (suc k)) f.1 in
    (omega arith, (div-lt_iff_lt-mul {k = 10} (omega arith)).1 below, λ h. (le-div_iff_mul-le {k = 10} (omega arith)).1 (at_least n k f))

at_least_ten : (n k : ℕ) → IsDigitCount 10 1 n (suc (suc k)) → 10 ≤ n
at_least_ten n k f = omega (arith, at_least n k f, ten_power (suc k - 1))

fewest_decimal : (n k room : ℕ) → IsDigitCount 10 1 n k → k ≤ room → last_digits 10 k n ≡ decimal_of room n
unfolding decimal_of
fewest_decimal n zero room f h = absurd (omega (arith, f.0))
fewest_decimal n (suc k) zero f h = absurd (omega arith)
fewest_decimal n (suc zero) (suc room) f h =
    let l : n < 10 = f.1 in
    rw (lt-ltb n 10 l) (ap (λ (d : ℕ). d ∷ []) (one_digit n l))
fewest_decimal n (suc (suc k)) (suc room) f h =
    rw (le-ltb n 10 (at_least_ten n k f))
    (ap₂ ◌++◌ (fewest_decimal (n / 10) (suc k) room (fewer n k f) (omega arith)) (ap (λ (d : ℕ). d ∷ []) (last_digit n)))

-- 64 bits hold at most 20 digits
few_digits : (n k : ℕ) → IsDigitCount 10 1 n k → n < 18446744073709551616 → k ≤ 20
few_digits n k f h = go (leb k 20) refl
  where
    go : (b : Bool) → leb k 20 ≡ b → k ≤ 20
    go true e = leb-true k 20 e
    go false e =
        let l : 20 < k = leb-false k 20 e in
        let more : 20 ≤ k - 1 = omega arith in
        let p : 10 ^ 20 ≤ 10 ^ (k - 1) = pow-le-pow_right {n = 10} (omega arith) more in
        absurd (omega (arith, p, f.2 (omega arith)))

-- what is spelled out is the decimal
pub spelled : (n k : ℕ) (text : List ℕ) → n < 18446744073709551616 → IsDigitCount 10 1 n k → take k text ≡ last_digits 10 k n
    → take k text ≡ decimal n
spelled n k text h f e = e ∙ fewest_decimal n k 20 f (few_digits n k f h)

-- the digits that numbers below a power of ten need at most
pub few_length : (d room n : ℕ) → n < 10 ^ suc d → length (decimal_of room n) ≤ suc d
unfolding decimal_of
few_length d zero n h = omega arith
few_length zero (suc k) n h = let l : n < 10 = h in rw (lt-ltb n 10 l) (omega arith)
few_length (suc d) (suc k) n h =
    let below : n < 10 ^ suc d * 10 = rw (← pow-suc 10 (suc d)) h in
    let rest = few_length d k (n / 10) ((div-lt_iff_lt-mul {k = 10} (omega arith)).1 below) in
    go (ltb n 10) rest
  where
    go : (b : Bool) → length (decimal_of k (n / 10)) ≤ suc d
        → length (cond b (digit n ∷ []) (decimal_of k (n / 10) ++ (digit (n % 10) ∷ []))) ≤ suc (suc d)
    go true l = omega arith
    go false l = simp length-append (omega arith)

length_within : (room n : ℕ) → length (decimal_of room n) ≤ room
unfolding decimal_of
length_within zero n = omega arith
length_within (suc k) n = let rest = length_within k (n / 10) in go (ltb n 10) rest
  where
    go : (b : Bool) → length (decimal_of k (n / 10)) ≤ k → length (cond b (digit n ∷ []) (decimal_of k (n / 10) ++ (digit (n % 10) ∷ []))) ≤ suc k
    go true h = omega arith
    go false h = simp length-append (omega arith)

pub decimal_length : (n : ℕ) → length (decimal n) ≤ 20
decimal_length n = length_within 20 n
