-- The order of strings of one length: as numbers, by their bytes; and what lies between two of them.
use Prim.Native.Nat.{ℕ, zero, suc, ◌+◌, ◌<◌, ◌≤◌}
use mathlib.Core.Path.{◌≡◌, refl, sym, ap, ap₂}
use mathlib.Core.Logic.{◌⊎◌, inl, inr}
use mathlib.Core.List.{List, [], ◌∷◌}
use native.Mathlib.Omega.{arith}
use lib.ListN.{length, get_or, take}
use Rattle.anti_pattern.specs.Order.{Smaller}
use Rattle.example.specs.Odometer.{NotBefore}
use Rattle.example.proofs.Ordered.{Bytes}

-- a string as a number
unfoldable pub times : ℕ → ℕ → ℕ
times zero p = 0
times (suc b) p = p + times b p

unfoldable pub power_of : ℕ → ℕ
power_of zero = 1
power_of (suc n) = times 256 (power_of n)

unfoldable pub rank : List ℕ → ℕ
rank [] = 0
rank (b ∷ s) = times b (power_of (length s)) + rank s

times_more : (b c p : ℕ) → b < c → times b p + p ≤ times c p
unfolding times
times_more b zero p h = absurd (omega arith)
times_more zero (suc c) p h = omega arith
times_more (suc b) (suc c) p h = omega (arith, times_more b c p (omega arith))

pub rank_below : (s : List ℕ) → Bytes s → rank s < power_of (length s)
unfolding rank power_of
rank_below [] h = omega arith
rank_below (b ∷ s) h = omega (arith, rank_below s h.1, times_more b 256 (power_of (length s)) (omega (arith, h.0)))

pub smaller_rank : (x y : List ℕ) → Bytes x → Bytes y → length x ≡ length y → Smaller x y → rank x < rank y
unfolding rank
smaller_rank [] y h k e z = absurd z
smaller_rank (b ∷ x) [] h k e z = absurd z
smaller_rank (b ∷ x) (c ∷ y) h k e (inl z) =
    let p : power_of (length x) ≡ power_of (length y) = ap power_of (omega (arith, e)) in
    let i : times b (power_of (length x)) ≡ times b (power_of (length y)) = ap (times b) p in
    omega (arith, i, p, rank_below x h.1, times_more b c (power_of (length y)) z)
smaller_rank (b ∷ x) (c ∷ y) h k e (inr z) =
    let n : length x ≡ length y = omega (arith, e) in
    let i : times b (power_of (length x)) ≡ times c (power_of (length y)) = ap₂ times z.0 (ap power_of n) in
    omega (arith, i, smaller_rank x y h.1 k.1 n z.1)

-- one of the two
pub compare : (x s : List ℕ) → length x ≡ length s → Smaller x s ⊎ NotBefore s x
compare [] [] e = inr (inl refl)
compare [] (c ∷ s) e = absurd (omega (arith, e))
compare (b ∷ x) [] e = absurd (omega (arith, e))
compare (b ∷ x) (c ∷ s) e = go (less b c) (compare x s (omega (arith, e)))
  where
    less : (b c : ℕ) → (b < c) ⊎ ((b ≡ c) ⊎ (c < b))
    less zero zero = inr (inl refl)
    less zero (suc c) = inl (omega arith)
    less (suc b) zero = inr (inr (omega arith))
    less (suc b) (suc c) = up (less b c)
      where
        up : (b < c) ⊎ ((b ≡ c) ⊎ (c < b)) → (suc b < suc c) ⊎ ((suc b ≡ suc c) ⊎ (suc c < suc b))
        up (inl h) = inl (omega arith)
        up (inr (inl h)) = inr (inl (ap suc h))
        up (inr (inr h)) = inr (inr (omega arith))

    go : (b < c) ⊎ ((b ≡ c) ⊎ (c < b)) → Smaller x s ⊎ NotBefore s x → Smaller (b ∷ x) (c ∷ s) ⊎ NotBefore (c ∷ s) (b ∷ x)
    go (inl h) o = inl (inl h)
    go (inr (inr h)) o = inr (inr (inl h))
    go (inr (inl h)) (inl o) = inl (inr (h, o))
    go (inr (inl h)) (inr (inl o)) = inr (inl (ap₂ ◌∷◌ (sym h) o))
    go (inr (inl h)) (inr (inr o)) = inr (inr (inr (sym h, o)))

-- what comes from s on and before x, which begins as s does, begins so too
pub between : (k : ℕ) (s u x : List ℕ) → length u ≡ length s → length x ≡ length s → take k x ≡ take k s → NotBefore s u → Smaller u x → take k u ≡ take k s
between zero s u x lu lx e h z = refl
between (suc k) s u [] lu lx e h z = absurd (nothing u z)
  where
    nothing : (u : List ℕ) → Smaller u [] → ⊥
    nothing [] z = z
    nothing (b ∷ u) z = z
between (suc k) [] u (d ∷ x) lu lx e h z = absurd (omega (arith, lx))
between (suc k) (c ∷ s) [] (d ∷ x) lu lx e h z = absurd z
between (suc k) (c ∷ s) (b ∷ u) (d ∷ x) lu lx e (inl h) z = ap (take (suc k)) (sym h)
between (suc k) (c ∷ s) (b ∷ u) (d ∷ x) lu lx e (inr (inl h)) (inl z) = let i : d ≡ c = cc in absurd (omega (arith, i, h, z))
between (suc k) (c ∷ s) (b ∷ u) (d ∷ x) lu lx e (inr (inl h)) (inr z) = let i : d ≡ c = cc in absurd (omega (arith, i, h, z.0))
between (suc k) (c ∷ s) (b ∷ u) (d ∷ x) lu lx e (inr (inr h)) (inl z) = let i : d ≡ c = cc in absurd (omega (arith, i, h.0, z))
between (suc k) (c ∷ s) (b ∷ u) (d ∷ x) lu lx e (inr (inr h)) (inr z) =
    let i : take k x ≡ take k s = cc in
    ap₂ ◌∷◌ (sym h.0) (between k s u x (omega (arith, lu)) (omega (arith, lx)) i (inr h.1) z.1)

-- the byte behind a common beginning is no smaller in what comes later
pub later_byte : (k : ℕ) (s x : List ℕ) → length x ≡ length s → take k x ≡ take k s → NotBefore s x → get_or s k 0 ≤ get_or x k 0
later_byte k s x e h (inl i) = omega (arith, ap (λ (y : List ℕ). get_or y k 0) i)
later_byte k [] x e h (inr i) = absurd i
later_byte k (c ∷ s) [] e h (inr i) = absurd i
later_byte zero (c ∷ s) (b ∷ x) e h (inr (inl i)) = omega arith
later_byte zero (c ∷ s) (b ∷ x) e h (inr (inr i)) = omega (arith, i.0)
later_byte (suc k) (c ∷ s) (b ∷ x) e h (inr (inl i)) = let j : b ≡ c = cc in absurd (omega (arith, i, j))
later_byte (suc k) (c ∷ s) (b ∷ x) e h (inr (inr i)) =
    let j : take k x ≡ take k s = cc in later_byte k s x (omega (arith, e)) j (inr i.1)
