-- Bytes stored one after the other: what is left to store.
use Prim.Native.Nat.{ℕ, zero, suc, ◌+◌, ◌≤◌, ◌<◌}
use native.Mathlib.Omega.{arith}
use mathlib.Core.Path.{◌≡◌, ap, ◌∙◌}
use mathlib.Core.List.{List, [], ◌∷◌, ◌++◌}
use lib.ListN.{length, get_or, set, drop, drop_of_length-le}
use lib.Seq.{sets, sets-eq}
use Rattle.term.proofs.Lists.{next_at}

pub sets_append : (l : List ℕ) (i : ℕ) (vs ws : List ℕ) → sets l i (vs ++ ws) ≡ sets (sets l i vs) (i + length vs) ws
sets_append l i [] ws = let e : i + zero ≡ i = omega arith in rw e
sets_append l i (v ∷ vs) ws =
    let e : suc i + length vs ≡ i + suc (length vs) = omega arith in
    rw (← e) (sets_append (set l i v) (suc i) vs ws)

-- at the front of an output
pub sets_front : (out s : List ℕ) (n : ℕ) → length s ≡ n → n ≤ length out → sets out 0 s ≡ s ++ drop n out
sets_front out s n e h =
    let z : 0 + length s ≡ n = omega arith in
    sets-eq s out 0 (omega arith) ∙ ap (λ (k : ℕ). s ++ drop k out) z

module _ (l : List ℕ) (i at : ℕ) where
  -- the byte at an index
  pub bytes_next : (bs : List ℕ) → i < length bs → sets l (at + i) (drop i bs) ≡ sets (set l (at + i) (get_or bs i 0)) (at + (i + 1)) (drop (i + 1) bs)
  bytes_next bs h =
      let e : at + (i + 1) ≡ suc (at + i) = omega arith in
      rw (next_at bs i h, e)

  pub bytes_end : (bs : List ℕ) → length bs ≤ i → sets l (at + i) (drop i bs) ≡ l
  bytes_end bs h = rw (drop_of_length-le bs h)
