-- Bytes stored one after the other, where there is room.
use Prim.Native.Nat.{ℕ, zero, suc, ◌+◌, ◌<◌, ◌≤◌}
use native.Mathlib.Omega.{arith}
use native.Mathlib.Numerals.{add-one}
use mathlib.Core.Path.{◌≡◌, refl, sym, ap, ◌∙◌}
use mathlib.Core.List.{List, [], ◌∷◌, ◌++◌}
use lib.ListN.{length, set, take, get_or, length-take}
use lib.Seq.{sets, set_out, set_comm, take_all}
use Rattle.term.proofs.Stores.{sets_append}

-- a byte in front of others may be stored after them
pub set_before : (l : List ℕ) (i j v : ℕ) (vs : List ℕ) → i < j → set (sets l j vs) i v ≡ sets (set l i v) j vs
set_before l i j v [] h = refl
set_before l i j v (w ∷ vs) h =
    set_before (set l j w) i (suc j) v vs (omega arith) ∙ ap (λ (x : List ℕ). sets x (suc j) vs) (set_comm l j i w v (λ e. omega arith))

-- past the end nothing is stored
pub stored_out : (l : List ℕ) (at : ℕ) (vs : List ℕ) → length l ≤ at → l ≡ sets l at vs
stored_out l at [] h = refl
stored_out l at (v ∷ vs) h =
    sym (ap (λ (x : List ℕ). sets x (suc at) vs) (set_out l at v h) ∙ sym (stored_out l (suc at) vs (omega arith)))

-- byte by byte

pub stored_first : (l : List ℕ) (at : ℕ) (s : List ℕ) → l ≡ sets l at (take 0 s)
stored_first l at [] = refl
stored_first l at (x ∷ s) = refl

take_next : (s : List ℕ) (i : ℕ) → i < length s → take (suc i) s ≡ take i s ++ (get_or s i 0 ∷ [])
take_next [] i h = absurd (omega arith)
take_next (x ∷ s) zero h = ap (x ∷◌) (none s)
  where
    none : (r : List ℕ) → take 0 r ≡ []
    none [] = refl
    none (y ∷ r) = refl
take_next (x ∷ s) (suc i) h = ap (x ∷◌) (take_next s i (omega arith))

pub stored_next : (out l : List ℕ) (at : ℕ) (s : List ℕ) (i : ℕ) → i < length s → out ≡ sets l at (take i s)
    → set out (at + i) (get_or s i 0) ≡ sets l at (take (i + 1) s)
stored_next out l at s i h e =
    let n : length (take i s) ≡ i = omega (arith, length-take i s) in
    rw (add-one i)
    (ap (λ (x : List ℕ). set x (at + i) (get_or s i 0)) e
    ∙ sym (ap (sets l at) (take_next s i h) ∙ sets_append l at (take i s) (get_or s i 0 ∷ []) ∙ ap (λ (k : ℕ). set (sets l at (take i s)) (at + k) (get_or s i 0)) n))

pub stored_last : (out l : List ℕ) (at : ℕ) (s : List ℕ) (i : ℕ) → length s ≤ i → out ≡ sets l at (take i s) → out ≡ sets l at s
stored_last out l at s i h e = e ∙ ap (sets l at) (take_all i s h)
