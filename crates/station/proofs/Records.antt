-- Records after one of them was stored.
use Prim.Native.Nat.{ℕ, zero, suc, ◌+◌, ◌*◌, ◌≤◌, ◌<◌}
use native.Mathlib.Omega.{arith}
use mathlib.Core.Path.{◌≡◌, refl, ap, ◌∙◌}
use mathlib.Core.List.{List, [], ◌∷◌, ◌++◌}
use mathlib.Core.Logic.{◌⊎◌, inl, inr}
use lib.ListN.{length, get_or, take, drop, set, length-append}
use lib.Seq.{sets, sets-eq, drop_at, drop-append-le, take-append_seam, length-take-le, get_or-set_same, get_or-set_other}
use Rattle.station.specs.Slot.{apart, record_at}
use Rattle.station.proofs.Copies.{kept_before, kept_after}

-- a stretch that has no byte in common with what is stored stays
pub stored_clear : (vs l : List ℕ) (at a n : ℕ) → (at + length vs ≤ a) ⊎ (a + n ≤ at) → take n (drop a (sets l at vs)) ≡ take n (drop a l)
stored_clear [] l at a n c = refl
stored_clear (v ∷ vs) l at a n (inl h) = stored_clear vs (set l at v) (suc at) a n (inl (omega arith)) ∙ kept_before l a n at v (omega arith)
stored_clear (v ∷ vs) l at a n (inr h) = stored_clear vs (set l at v) (suc at) a n (inr (omega arith)) ∙ kept_after l a n at v h

-- what is stored is there
pub stored_here : (vs l : List ℕ) (at : ℕ) → at + length vs ≤ length l → take (length vs) (drop at (sets l at vs)) ≡ vs
stored_here vs l at h =
    let front : length (take at l) ≡ at = length-take-le at l (omega arith) in
    ap (λ (r : List ℕ). take (length vs) (drop at r)) (sets-eq vs l at h)
    ∙ ap (take (length vs)) (drop-append-le at (take at l ++ vs) (drop (at + length vs) l) (omega (arith, length-append (take at l) vs, front)))
    ∙ ap (λ (r : List ℕ). take (length vs) (r ++ drop (at + length vs) l)) (drop_at (take at l) vs at front)
    ∙ take-append_seam vs (drop (at + length vs) l)

-- one byte
pub stored_byte : (vs l : List ℕ) (at i : ℕ) → (i < at) ⊎ (at + length vs ≤ i) → get_or (sets l at vs) i 0 ≡ get_or l i 0
stored_byte [] l at i c = refl
stored_byte (v ∷ vs) l at i (inl h) = stored_byte vs (set l at v) (suc at) i (inl (omega arith)) ∙ get_or-set_other l at i v 0 (λ e. omega (arith, e))
stored_byte (v ∷ vs) l at i (inr h) = stored_byte vs (set l at v) (suc at) i (inr (omega arith)) ∙ get_or-set_other l at i v 0 (λ e. omega (arith, e))

pub sides : (j m : ℕ) → (j ≡ m → ⊥) → (j < m) ⊎ (m < j)
sides zero zero ne = absurd (ne refl)
sides zero (suc m) ne = inl (omega arith)
sides (suc j) zero ne = inr (omega arith)
sides (suc j) (suc m) ne = go (sides j m (λ e. ne (ap suc e)))
  where
    go : (j < m) ⊎ (m < j) → (suc j < suc m) ⊎ (suc m < suc j)
    go (inl p) = inl (omega arith)
    go (inr p) = inr (omega arith)

module _ (lengths l bytes : List ℕ) (m : ℕ) where
  pub record_same : m < length lengths → apart * m + length bytes ≤ length l → record_at (set lengths m (length bytes)) (sets l (apart * m) bytes) m ≡ bytes
  unfolding record_at
  record_same h g = ap (λ (n : ℕ). take n (drop (apart * m) (sets l (apart * m) bytes))) (get_or-set_same lengths m (length bytes) 0 h) ∙ stored_here bytes l (apart * m) g

  pub record_other : (j : ℕ) → (j ≡ m → ⊥) → get_or lengths j 0 ≤ apart → length bytes ≤ apart → record_at (set lengths m (length bytes)) (sets l (apart * m) bytes) j ≡ record_at lengths l j
  unfolding record_at
  record_other j ne h g =
      ap (λ (n : ℕ). take n (drop (apart * j) (sets l (apart * m) bytes))) (get_or-set_other lengths m j (length bytes) 0 ne)
      ∙ stored_clear bytes l (apart * m) (apart * j) (get_or lengths j 0) (side (sides j m ne))
    where
      side : (j < m) ⊎ (m < j) → (apart * m + length bytes ≤ apart * j) ⊎ (apart * j + get_or lengths j 0 ≤ apart * m)
      side (inl p) = inr (omega (arith, h))
      side (inr p) = inl (omega (arith, g))
