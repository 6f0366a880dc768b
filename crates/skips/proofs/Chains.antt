-- The laws of chains of symbols, and of an element that is set against one.
-- Assumes nothing.
use Prim.Native.Nat.{ℕ, zero, suc, ◌+◌, ◌-◌, ◌<◌, ◌≤◌}
use native.Mathlib.Omega.{arith}
use native.Mathlib.Nat.{zero-add}
use mathlib.Core.Path.{◌≡◌, refl, sym, ap, subst, ◌∙◌}
use mathlib.Core.List.{List, [], ◌∷◌}
use mathlib.Core.Bool.{Bool, true, false, cond, ◌||◌, true≢false}
use lib.ListN.{length, get_or, drop, length-drop}
use lib.Dec.{eqb}
use borrow.Author.Tests.{eqb-false}
use Rattle.term.proofs.Lists.{next_at}
use Rattle.term.specs.Code.{decode_of}
use Rattle.term.specs.Extent.{entry_of}
use Rattle.term.specs.Same.{same_byte}
use Rattle.term.specs.Table.{list}
use Rattle.skips.specs.Passed.{is_symbol, ends_chain, chain_of, pairs_after, differs_at}

-- Chains

module _ (table : List ℕ) where
  chain_none : (n : ℕ) (q : List ℕ) → length q ≡ 0 → chain_of table n q ≡ 0
  unfolding chain_of
  chain_none zero q e = refl
  chain_none (suc n) [] e = refl
  chain_none (suc n) (a ∷ q) e = absurd (omega (arith, e))

  chain_at : (m : ℕ) (q : List ℕ) (n : ℕ) → n < length q
      → chain_of table (suc m) (drop n q)
      ≡ cond (is_symbol (decode_of (get_or q n 0))) (suc (cond (ends_chain table (get_or q n 0)) 0 (chain_of table m (drop (n + 1) q)))) 0
  unfolding chain_of
  chain_at m q n h = rw (next_at q n h)

  pub chain_most : (m : ℕ) (q : List ℕ) → chain_of table m q ≤ m
  unfolding chain_of
  chain_most zero q = omega arith
  chain_most (suc m) [] = omega arith
  chain_most (suc m) (a ∷ q) = go (is_symbol (decode_of a)) (ends_chain table a) (chain_most m q)
    where
      go : (s l : Bool) → chain_of table m q ≤ m → cond s (suc (cond l 0 (chain_of table m q))) 0 ≤ suc m
      go true true i = omega arith
      go true false i = omega (arith, i)
      go false l i = omega arith

  -- the symbols of a chain are counted one by one
  module _ (most : ℕ) (q : List ℕ) where
    pub record Chaining (n : ℕ) : Type 0 where
      pub few : n ≤ most
      pub same : chain_of table most q ≡ n + chain_of table (most - n) (drop n q)

    pub chain_first : Chaining 0
    chain_first =
        let z : most - 0 ≡ most = omega arith in
        record { few = omega arith; same = sym (zero-add _ ∙ ap (λ (m : ℕ). chain_of table m q) z) }

    module _ {n : ℕ} (t : Chaining n) where
      done : chain_of table (most - n) (drop n q) ≡ 0 → n ≡ chain_of table most q
      done e = omega (arith, t.same, e)

      pub chain_full : most ≤ n → n ≡ chain_of table most q
      unfolding chain_of
      chain_full h = let z : most - n ≡ 0 = omega (arith, t.few) in done (ap (λ (m : ℕ). chain_of table m (drop n q)) z)

      pub chain_out : length q ≤ n → n ≡ chain_of table most q
      chain_out h = done (chain_none (most - n) (drop n q) (omega (arith, length-drop n q)))

      module _ (l : n < most) {i : ℕ} (is_i : i ≡ n) (h : i < length q) where
        next : chain_of table (most - n) (drop n q)
            ≡ cond (is_symbol (decode_of (get_or q i 0))) (suc (cond (ends_chain table (get_or q i 0)) 0 (chain_of table (most - (n + 1)) (drop (n + 1) q)))) 0
        next =
            let k : most - n ≡ suc (most - (n + 1)) = omega arith in
            rw is_i (ap (λ (m : ℕ). chain_of table m (drop n q)) k ∙ chain_at (most - (n + 1)) q n (omega (arith, h, is_i)))

        pub chain_other : is_symbol (decode_of (get_or q i 0)) ≡ false → n ≡ chain_of table most q
        chain_other f = done (next ∙ rw f)

        module _ (f : is_symbol (decode_of (get_or q i 0)) ≡ true) where
          pub chain_last : ends_chain table (get_or q i 0) ≡ true → n + 1 ≡ chain_of table most q
          chain_last g =
              let one : chain_of table (most - n) (drop n q) ≡ 1 = next ∙ rw (f, g) in omega (arith, t.same, one)

          pub chain_more : ends_chain table (get_or q i 0) ≡ false → Chaining (n + 1)
          chain_more g = record {
            few = omega arith;
            same =
                let more : chain_of table (most - n) (drop n q) ≡ suc (chain_of table (most - (n + 1)) (drop (n + 1) q)) = next ∙ rw (f, g) in
                omega (arith, t.same, more);
          }

  chain_opens : (a : ℕ) → ends_chain table a ≡ false → (entry_of table a ≡ 0 → ⊥) × (entry_of table a ≡ list → ⊥)
  unfolding ends_chain
  chain_opens a = go (eqb (entry_of table a) 0) (eqb (entry_of table a) list) refl refl
    where
      go : (b c : Bool) → eqb (entry_of table a) 0 ≡ b → eqb (entry_of table a) list ≡ c → b || c ≡ false
          → (entry_of table a ≡ 0 → ⊥) × (entry_of table a ≡ list → ⊥)
      go true c e f h = absurd (true≢false h)
      go false true e f h = absurd (true≢false h)
      go false false e f h = (eqb-false (entry_of table a) 0 e, eqb-false (entry_of table a) list f)

  -- a chain starts with a symbol; where it has more, that has children, and the first of them starts the rest of it
  module _ (q : List ℕ) (at : ℕ) (h : at < length q) where
    pub chain_some : (m : ℕ) → 0 < m → is_symbol (decode_of (get_or q at 0)) ≡ true → 0 < chain_of table m (drop at q)
    chain_some zero l e = absurd (omega arith)
    chain_some (suc m) l e =
        let is : chain_of table (suc m) (drop at q) ≡ suc (cond (ends_chain table (get_or q at 0)) 0 (chain_of table m (drop (at + 1) q))) =
        chain_at m q at h ∙ rw e in
        omega (arith, is)

    pub chain_symbol : (m n : ℕ) → n < chain_of table m (drop at q) → is_symbol (decode_of (get_or q at 0)) ≡ true
    unfolding chain_of
    chain_symbol zero n i = absurd (omega arith)
    chain_symbol (suc m) n i = go (is_symbol (decode_of (get_or q at 0))) (subst (λ (k : ℕ). n < k) (chain_at m q at h) i)
      where
        go : (s : Bool) → n < cond s (suc (cond (ends_chain table (get_or q at 0)) 0 (chain_of table m (drop (at + 1) q)))) 0 → s ≡ true
        go true j = refl
        go false j = absurd (omega arith)

    pub record Further (m n : ℕ) : Type 0 where
      pub children : entry_of table (get_or q at 0) ≡ 0 → ⊥
      pub fixed : entry_of table (get_or q at 0) ≡ list → ⊥
      pub rest : n < chain_of table (m - 1) (drop (at + 1) q)

    pub chain_further : (m n : ℕ) → 1 + n < chain_of table m (drop at q) → Further m n
    unfolding chain_of
    chain_further zero n i = absurd (omega arith)
    chain_further (suc m) n i =
        go (is_symbol (decode_of (get_or q at 0))) (ends_chain table (get_or q at 0)) refl (subst (λ (k : ℕ). 1 + n < k) (chain_at m q at h) i)
      where
        go : (s l : Bool) → ends_chain table (get_or q at 0) ≡ l → 1 + n < cond s (suc (cond l 0 (chain_of table m (drop (at + 1) q)))) 0
            → Further (suc m) n
        go true true e j = absurd (omega arith)
        go true false e j =
            let opens = chain_opens (get_or q at 0) e in
            let z : m ≡ suc m - 1 = omega arith in
            record { children = opens.0; fixed = opens.1; rest = subst (λ (k : ℕ). n < chain_of table k (drop (at + 1) q)) z (omega arith) }
        go false l e j = absurd (omega arith)

-- An element against a chain

module _ (classes : List ℕ) where
  differs_none : (n : ℕ) (x y : List ℕ) → (length x ≡ 0) → differs_at classes n x y ≡ 0
  unfolding differs_at
  differs_none zero x y e = refl
  differs_none (suc n) [] y e = refl
  differs_none (suc n) (a ∷ x) y e = absurd (omega (arith, e))

  differs_short : (n : ℕ) (x y : List ℕ) → (length y ≡ 0) → differs_at classes n x y ≡ 0
  unfolding differs_at
  differs_short zero x y e = refl
  differs_short (suc n) [] y e = refl
  differs_short (suc n) (a ∷ x) [] e = refl
  differs_short (suc n) (a ∷ x) (b ∷ y) e = absurd (omega (arith, e))

  differs_at_holds : (m : ℕ) (x y : List ℕ) (i j : ℕ) → i < length x → j < length y
      → differs_at classes (suc m) (drop i x) (drop j y)
      ≡ cond (same_byte classes false (get_or x i 0) (get_or y j 0)) (pairs_after 1 (differs_at classes m (drop (i + 1) x) (drop (j + 1) y))) 1
  unfolding differs_at
  differs_at_holds m x y i j h k = rw (next_at x i h, next_at y j k)

  pub differs_lengths : (n : ℕ) (x y : List ℕ) → 0 < differs_at classes n x y → (0 < length x) × (0 < length y)
  differs_lengths n x y h = (
    some (length x) (λ e. omega (arith, h, differs_none n x y e)),
    some (length y) (λ e. omega (arith, h, differs_short n x y e)),
  )
    where
      some : (k : ℕ) → (k ≡ 0 → ⊥) → 0 < k
      some zero e = absurd (e refl)
      some (suc k) e = omega arith

  -- one symbol differs, or agrees and a later one differs
  module _ (m : ℕ) (x y : List ℕ) (i j : ℕ) (h : i < length x) (k : j < length y) where
    pub differs_here : same_byte classes false (get_or x i 0) (get_or y j 0) ≡ false → differs_at classes (suc m) (drop i x) (drop j y) ≡ 1
    differs_here e = differs_at_holds m x y i j h k ∙ rw e

    pub differs_later : same_byte classes false (get_or x i 0) (get_or y j 0) ≡ true → 0 < differs_at classes (suc m) (drop i x) (drop j y)
        → (0 < differs_at classes m (drop (i + 1) x) (drop (j + 1) y))
        × (differs_at classes (suc m) (drop i x) (drop j y) ≡ 1 + differs_at classes m (drop (i + 1) x) (drop (j + 1) y))
    differs_later e = go (differs_at classes m (drop (i + 1) x) (drop (j + 1) y)) (differs_at_holds m x y i j h k ∙ rw e)
      where
        go : (d : ℕ) → differs_at classes (suc m) (drop i x) (drop j y) ≡ pairs_after 1 d → 0 < differs_at classes (suc m) (drop i x) (drop j y)
            → (0 < d) × (differs_at classes (suc m) (drop i x) (drop j y) ≡ 1 + d)
        go zero f l = absurd (omega (arith, f, l))
        go (suc d) f l = (omega arith, omega (arith, f))

  pub differs_most : (n : ℕ) (x y : List ℕ) → differs_at classes n x y ≤ n
  unfolding differs_at
  differs_most zero x y = omega arith
  differs_most (suc n) [] y = omega arith
  differs_most (suc n) (a ∷ x) [] = omega arith
  differs_most (suc n) (a ∷ x) (b ∷ y) = go (same_byte classes false a b) (differs_at classes n x y) (differs_most n x y)
    where
      go : (s : Bool) (k : ℕ) → k ≤ n → cond s (pairs_after 1 k) 1 ≤ suc n
      go true zero i = omega arith
      go true (suc k) i = omega (arith, i)
      go false k i = omega arith

  -- the symbols that agree are passed one by one
  module _ (symbols : ℕ) (x y : List ℕ) where
    pub record Agreeing (n : ℕ) : Type 0 where
      pub few : n ≤ symbols
      pub same : differs_at classes symbols x y ≡ pairs_after n (differs_at classes (symbols - n) (drop n x) (drop n y))

    after_none : (k : ℕ) → k ≡ pairs_after 0 k
    after_none zero = refl
    after_none (suc k) = omega arith

    after_next : (n k : ℕ) → pairs_after n (pairs_after 1 k) ≡ pairs_after (n + 1) k
    after_next n zero = refl
    after_next n (suc k) = omega arith

    pub agree_first : Agreeing 0
    agree_first =
        let z : symbols - 0 ≡ symbols = omega arith in
        record { few = omega arith; same = after_none _ ∙ ap (λ (m : ℕ). pairs_after 0 (differs_at classes m x y)) (sym z) }

    module _ {n : ℕ} (t : Agreeing n) where
      ended : differs_at classes (symbols - n) (drop n x) (drop n y) ≡ 0 → 0 ≡ differs_at classes symbols x y
      ended e = sym (t.same ∙ ap (pairs_after n) e)

      pub agree_all : symbols ≤ n → 0 ≡ differs_at classes symbols x y
      unfolding differs_at
      agree_all h =
          let z : symbols - n ≡ 0 = omega (arith, t.few) in ended (ap (λ (m : ℕ). differs_at classes m (drop n x) (drop n y)) z)

      pub agree_none : length x ≤ n → 0 ≡ differs_at classes symbols x y
      agree_none h = ended (differs_none (symbols - n) (drop n x) (drop n y) (omega (arith, length-drop n x)))

      pub agree_short : length y ≤ n → 0 ≡ differs_at classes symbols x y
      agree_short h = ended (differs_short (symbols - n) (drop n x) (drop n y) (omega (arith, length-drop n y)))

      module _ (l : n < symbols) {i : ℕ} (is_i : i ≡ n) (h : i < length x) (k : i < length y) where
        here : differs_at classes (symbols - n) (drop n x) (drop n y)
            ≡ cond (same_byte classes false (get_or x i 0) (get_or y i 0)) (pairs_after 1 (differs_at classes (symbols - (n + 1)) (drop (n + 1) x) (drop (n + 1) y))) 1
        here =
            let z : symbols - n ≡ suc (symbols - (n + 1)) = omega arith in
            rw is_i (ap (λ (m : ℕ). differs_at classes m (drop n x) (drop n y)) z
            ∙ differs_at_holds (symbols - (n + 1)) x y n n (omega (arith, h, is_i)) (omega (arith, k, is_i)))

        pub agree_differs : same_byte classes false (get_or x i 0) (get_or y i 0) ≡ false → n + 1 ≡ differs_at classes symbols x y
        agree_differs e =
            let differs : differs_at classes (symbols - n) (drop n x) (drop n y) ≡ 1 = here ∙ rw e in
            let one : differs_at classes symbols x y ≡ suc (n + 0) = t.same ∙ ap (pairs_after n) differs in
            omega (arith, one)

        pub agree_more : same_byte classes false (get_or x i 0) (get_or y i 0) ≡ true → Agreeing (n + 1)
        agree_more e =
            let next : differs_at classes (symbols - n) (drop n x) (drop n y)
            ≡ pairs_after 1 (differs_at classes (symbols - (n + 1)) (drop (n + 1) x) (drop (n + 1) y)) = here ∙ rw e in
            record { few = omega arith; same = t.same ∙ ap (pairs_after n) next ∙ after_next n (differs_at classes (symbols - (n + 1)) (drop (n + 1) x) (drop (n + 1) y)) }
