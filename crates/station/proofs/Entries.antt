-- What is kept, as a list of entries: what a name finds there, and what keeping under a name makes of it.
use Prim.Native.Nat.{ℕ, suc, ◌+◌, ◌≤◌, ◌<◌}
use native.Mathlib.Omega.{arith}
use mathlib.Core.Path.{◌≡◌, refl, ap, ◌∙◌}
use mathlib.Core.List.{List, [], ◌∷◌}
use mathlib.Core.Bool.{Bool, true, false, cond}
use lib.Dec.{eqb}
use lib.ListN.{length}
use Rattle.station.specs.Slot.{record_at}
use Rattle.station.specs.Check.{place_of}
use Rattle.station.specs.Shelf.{entry, keep_under, Kept, Nothing, under}
use Rattle.station.specs.Session.{entries_from}
use Rattle.station.proofs.Names.{keep_name}

module _ (lengths l : List ℕ) where
  pub entries_length : (ms : List ℕ) (i : ℕ) → length (entries_from lengths l ms i) ≡ length ms
  unfolding entries_from
  entries_length [] i = refl
  entries_length (m ∷ ms) i = ap suc (entries_length ms (suc i))

  pub under_kept : (name : ℕ) (ms : List ℕ) (i : ℕ) → place_of name ms < length ms → under name (entries_from lengths l ms i) ≡ Kept (record_at lengths l (i + place_of name ms))
  unfolding entries_from under place_of
  under_kept name [] i h = absurd (omega arith)
  under_kept name (m ∷ ms) i h = go (eqb m name) h (under_kept name ms (suc i))
    where
      go : (b : Bool) → cond b 0 (suc (place_of name ms)) < suc (length ms)
          → (place_of name ms < length ms → under name (entries_from lengths l ms (suc i)) ≡ Kept (record_at lengths l (suc i + place_of name ms)))
          → cond b (Kept (record_at lengths l i)) (under name (entries_from lengths l ms (suc i))) ≡ Kept (record_at lengths l (i + cond b 0 (suc (place_of name ms))))
      go true g r = let e : i ≡ i + 0 = omega arith in ap (λ (j : ℕ). Kept (record_at lengths l j)) e
      go false g r = let e : suc i + place_of name ms ≡ i + suc (place_of name ms) = omega arith in r (omega arith) ∙ ap (λ (j : ℕ). Kept (record_at lengths l j)) e

  pub under_none : (name : ℕ) (ms : List ℕ) (i : ℕ) → length ms ≤ place_of name ms → under name (entries_from lengths l ms i) ≡ Nothing
  unfolding entries_from under place_of
  under_none name [] i h = refl
  under_none name (m ∷ ms) i h = go (eqb m name) h (under_none name ms (suc i))
    where
      go : (b : Bool) → suc (length ms) ≤ cond b 0 (suc (place_of name ms)) → (length ms ≤ place_of name ms → under name (entries_from lengths l ms (suc i)) ≡ Nothing)
          → cond b (Kept (record_at lengths l i)) (under name (entries_from lengths l ms (suc i))) ≡ Nothing
      go true g r = absurd (omega arith)
      go false g r = r (omega arith)

  module _ (lengths' l' : List ℕ) where
    -- the same records give the same entries
    pub entries_same : (ms : List ℕ) (i : ℕ) → ((j : ℕ) → i ≤ j → j < i + length ms → record_at lengths' l' j ≡ record_at lengths l j) → entries_from lengths' l' ms i ≡ entries_from lengths l ms i
    unfolding entries_from
    entries_same [] i f = refl
    entries_same (m ∷ ms) i f = λ t. entry m (f i (omega arith) (omega arith) t) ∷ entries_same ms (suc i) (λ j h g. f j (omega arith) (omega arith)) t

    -- one record more, or another in its place
    pub entries_kept : (name : ℕ) (bytes : List ℕ) (ms : List ℕ) (i : ℕ)
        → ((j : ℕ) → i ≤ j → j < i + length ms → (j ≡ i + place_of name ms → ⊥) → record_at lengths' l' j ≡ record_at lengths l j)
        → record_at lengths' l' (i + place_of name ms) ≡ bytes
        → entries_from lengths' l' (keep_name name ms) i ≡ keep_under name bytes (entries_from lengths l ms i)
    unfolding entries_from keep_under keep_name place_of
    entries_kept name bytes [] i f e = let z : i ≡ i + 0 = omega arith in λ t. entry name ((ap (record_at lengths' l') z ∙ e) t) ∷ []
    entries_kept name bytes (m ∷ ms) i f e = go (eqb m name) f e (entries_kept name bytes ms (suc i))
      where
        go : (b : Bool)
            → ((j : ℕ) → i ≤ j → j < i + suc (length ms) → (j ≡ i + cond b 0 (suc (place_of name ms)) → ⊥) → record_at lengths' l' j ≡ record_at lengths l j)
            → record_at lengths' l' (i + cond b 0 (suc (place_of name ms))) ≡ bytes
            → (((j : ℕ) → suc i ≤ j → j < suc i + length ms → (j ≡ suc i + place_of name ms → ⊥) → record_at lengths' l' j ≡ record_at lengths l j)
            → record_at lengths' l' (suc i + place_of name ms) ≡ bytes → entries_from lengths' l' (keep_name name ms) (suc i) ≡ keep_under name bytes (entries_from lengths l ms (suc i)))
            → entries_from lengths' l' (cond b (name ∷ ms) (m ∷ keep_name name ms)) i ≡ cond b (entry name bytes ∷ entries_from lengths l ms (suc i)) (entry m (record_at lengths l i) ∷ keep_under name bytes (entries_from lengths l ms (suc i)))
        go true f e r =
            let z : i ≡ i + 0 = omega arith in
            let here : record_at lengths' l' i ≡ bytes = ap (record_at lengths' l') z ∙ e in
            λ t. entry name (here t) ∷ entries_same ms (suc i) (λ j h g. f j (omega arith) (omega arith) (λ p. omega (arith, p, h))) t
        go false f e r =
            let z : suc i + place_of name ms ≡ i + suc (place_of name ms) = omega arith in
            λ t. entry m (f i (omega arith) (omega arith) (λ p. omega (arith, p)) t) ∷ r (λ j h g ne. f j (omega arith) (omega arith) (λ p. ne (omega (arith, p)))) (ap (record_at lengths' l') z ∙ e) t
