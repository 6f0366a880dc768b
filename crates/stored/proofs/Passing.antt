-- The passes over bytes, one after the other: the old form of a stored record, and the length of the stored form of a record.
use Prim.Native.Nat.{ℕ, ◌+◌, ◌≤◌, ◌<◌}
use native.Mathlib.Omega.{arith}
use native.Mathlib.Numerals.{add-one}
use mathlib.Core.Path.{◌≡◌, refl, sym, ap, ◌∙◌}
use mathlib.Core.List.{List, [], ◌∷◌, ◌++◌}
use mathlib.Core.Bool.{Bool, true, false, cond}
use lib.ListN.{length, get_or, set, drop, length-set, length-append, drop_of_length-le}
use lib.Seq.{sets, drop-drop}
use Rattle.term.proofs.Lists.{next_at}
use Rattle.term.specs.Same.{count_next}
use Rattle.term.specs.Table.{is_list}
use Rattle.term.proofs.Stores.{sets_append}
use Rattle.stored.specs.Reading.{length_bytes}
use Rattle.stored.specs.Passes.{stretched, stripped, own_size, stored_size}

-- a node has bytes of its own
pub own_some : (list : Bool) → (1 ≤ own_size list) × (1 ≤ stored_size list) × (length_bytes list ≤ stored_size list)
own_some true = (omega arith, omega arith, omega arith)
own_some false = (omega arith, omega arith, omega arith)

-- the bytes of a length are passed over
past_length : (table s : List ℕ) → stripped table s 2 ≡ stripped table (drop 2 s) 0
unfolding stripped
past_length table [] = refl
past_length table (a ∷ []) = refl
past_length table (a ∷ b ∷ s) = refl

module _ (table s out₀ : List ℕ) where
  -- up to `at`; so many bytes are put
  pub record Stripping (out : List ℕ) (to at : ℕ) : Type 0 where
    pub fewer : to ≤ at
    pub near : at ≤ length s + 3
    pub kept : length out ≡ length out₀
    pub counted : length (stripped table s 0) ≡ to + length (stripped table (drop at s) 0)
    pub put : sets out₀ 0 (stripped table s 0) ≡ sets out to (stripped table (drop at s) 0)

  pub strip_starts : Stripping out₀ 0 0
  strip_starts = record { fewer = omega arith; near = omega arith; kept = refl; counted = omega arith; put = refl }

module _ {table s out₀ out : List ℕ} {to at : ℕ} (g : Stripping table s out₀ out to at) where
  -- what is left to put is known
  ends : (xs : List ℕ) → stripped table (drop at s) 0 ≡ xs → (to + length xs ≡ length (stripped table s 0)) × (sets out to xs ≡ sets out₀ 0 (stripped table s 0))
  ends xs e = (sym (g.counted ∙ ap (λ (x : List ℕ). to + length x) e), sym (g.put ∙ ap (sets out to) e))

  pub strip_ends : length s ≤ at → (to ≡ length (stripped table s 0)) × (out ≡ sets out₀ 0 (stripped table s 0))
  unfolding stripped
  strip_ends h = let e = ends [] (rw (drop_of_length-le s h) refl) in (omega (arith, e.0), e.1)

  goes_on : (xs : List ℕ) (n : ℕ) (out₁ : List ℕ) → stripped table (drop at s) 0 ≡ xs ++ stripped table (drop (at + n) s) 0 → length xs ≤ n → at + n ≤ length s + 3 → out₁ ≡ sets out to xs
      → length out₁ ≡ length out₀ → Stripping table s out₀ out₁ (to + length xs) (at + n)
  goes_on xs n out₁ e l k o q =
      let rest = stripped table (drop (at + n) s) 0 in
      record {
        fewer = omega (arith, g.fewer);
        near = k;
        kept = q;
        counted = omega (arith, g.counted, ap length e ∙ length-append xs rest);
        put = rw o (g.put ∙ ap (sets out to) e ∙ sets_append out to xs rest);
      }

  module _ (h : at < length s) where
    pub strip_other : is_list table (get_or s at 0) ≡ false → (out₁ : List ℕ) → out₁ ≡ set out to (get_or s at 0) → Stripping table s out₀ out₁ (to + 1) (at + 1)
    unfolding stripped
    strip_other l out₁ o =
        goes_on (get_or s at 0 ∷ []) 1 out₁ (rw (next_at s at h, l) refl) (omega arith) (omega arith) o (ap length o ∙ length-set out to (get_or s at 0) ∙ g.kept)

    module _ (l : is_list table (get_or s at 0) ≡ true) where
      pub strip_cut : length s ≤ at + 1 → (out₁ : List ℕ) → out₁ ≡ set out to (get_or s at 0)
          → (to + 1 ≡ length (stripped table s 0)) × (out₁ ≡ sets out₀ 0 (stripped table s 0))
      unfolding stripped
      strip_cut k out₁ o = let e = ends (get_or s at 0 ∷ []) (rw (next_at s at h, l, drop_of_length-le s k) refl) in (e.0, o ∙ e.1)

      pub strip_list : at + 1 < length s → (out₁ out₂ : List ℕ) → out₁ ≡ set out to (get_or s at 0) → out₂ ≡ set out₁ (to + 1) (get_or s (at + 1) 0)
          → Stripping table s out₀ out₂ (to + 2) (at + 4)
      unfolding stripped
      strip_list k out₁ out₂ o p =
          let z : at + 1 + 1 ≡ at + 2 = omega arith in
          let y : at + 4 ≡ at + 2 + 2 = omega arith in
          let d : drop 2 (drop (at + 2) s) ≡ drop (at + 4) s = drop-drop 2 (at + 2) s ∙ ap (λ (i : ℕ). drop i s) (sym y) in
          let e : stripped table (drop at s) 0 ≡ (get_or s at 0 ∷ get_or s (at + 1) 0 ∷ []) ++ stripped table (drop (at + 4) s) 0 =
          rw (next_at s at h, l, next_at s (at + 1) k, z)
          (ap (λ (x : List ℕ). get_or s at 0 ∷ get_or s (at + 1) 0 ∷ x) (past_length table (drop (at + 2) s) ∙ ap (λ (x : List ℕ). stripped table x 0) d)) in
          goes_on (get_or s at 0 ∷ get_or s (at + 1) 0 ∷ []) 4 out₂ e (omega arith) (omega arith) (rw (p, o, add-one to) refl)
          (ap length p ∙ length-set out₁ (to + 1) (get_or s (at + 1) 0) ∙ ap length o ∙ length-set out to (get_or s at 0) ∙ g.kept)

module _ (table s : List ℕ) where
  pub record Stretching (size : ℕ) (counting : Bool) (i : ℕ) : Type 0 where
    pub within : i ≤ length s
    pub most : size ≤ i + i + i
    pub counted : stretched table s false ≡ size + stretched table (drop i s) counting

  pub stretch_starts : Stretching 0 false 0
  stretch_starts = record { within = omega arith; most = omega arith; counted = omega arith }

module _ {table s : List ℕ} {size : ℕ} {counting : Bool} {i : ℕ} (g : Stretching table s size counting i) where
  pub stretch_ends : length s ≤ i → size ≡ stretched table s false
  unfolding stretched
  stretch_ends h = sym (g.counted ∙ ap (λ (x : List ℕ). size + stretched table x counting) (drop_of_length-le s h) ∙ omega arith)

  module _ (h : i < length s) (next : Bool) (is : next ≡ count_next table counting (get_or s i 0)) where
    stretch_by : (n : ℕ) → n ≡ cond next 3 1 → n ≤ 3 → Stretching table s (size + n) next (i + 1)
    unfolding stretched
    stretch_by n e l =
        let d : stretched table (drop i s) counting ≡ n + stretched table (drop (i + 1) s) next = rw (next_at s i h, ← is, e) in
        record { within = omega arith; most = omega (arith, g.most); counted = omega (arith, g.counted, d) }

    pub stretch_list : next ≡ true → Stretching table s (size + 2 + 1) next (i + 1)
    stretch_list t = let z : size + 3 ≡ size + 2 + 1 = omega arith in rw (← z) (stretch_by 3 (rw t) (omega arith))

    pub stretch_other : next ≡ false → Stretching table s (size + 1) next (i + 1)
    stretch_other t = stretch_by 1 (rw t) (omega arith)
