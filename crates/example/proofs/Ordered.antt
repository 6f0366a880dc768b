-- The strings are all there, each later than those before it.
use Prim.Native.Nat.{ℕ, zero, suc, ◌+◌, ◌<◌, ◌≤◌}
use mathlib.Core.Path.{◌≡◌, refl, sym, ◌∙◌, ap, subst}
use mathlib.Core.Logic.{◌⊎◌, inl, inr}
use mathlib.Core.List.{List, [], ◌∷◌, ◌++◌, map}
use native.Mathlib.Omega.{arith}
use lib.ListN.{length}
use Rattle.anti_pattern.specs.Order.{All, Member, Ascending, Smaller}
use Rattle.example.specs.Strings.{count, each, strings, up_to, Earlier}
use Rattle.example.proofs.Lists.{all_map, all_join, in_left, in_right, sorted_join, sorted_map, all_under, in_under, sorted_under}

-- every number is a byte
abbrev pub Bytes : List ℕ → Type 0
Bytes [] = Unit {0}
Bytes (b ∷ s) = (b ≤ 255) × Bytes s

pub or_equal : (b c : ℕ) → b ≤ c → (b ≡ c) ⊎ (suc b ≤ c)
or_equal zero zero l = inl refl
or_equal zero (suc c) l = inr (omega arith)
or_equal (suc b) zero l = absurd (omega arith)
or_equal (suc b) (suc c) l = go (or_equal b c (omega arith))
  where
    go : (b ≡ c) ⊎ (suc b ≤ c) → (suc b ≡ suc c) ⊎ (suc (suc b) ≤ suc c)
    go (inl e) = inl (ap suc e)
    go (inr k) = inr (omega arith)

-- the numbers from b up in front of strings

each_in : (c : ℕ) (s : List ℕ) (b n : ℕ) (ss : List (List ℕ)) → b ≤ c → c < b + n → Member s ss → Member (c ∷ s) (each (count b n) ss)
unfolding count each
each_in c s b zero ss l h i = absurd (omega arith)
each_in c s b (suc n) ss l h i = go (or_equal b c l) (λ k. each_in c s (suc b) n ss k (omega arith) i)
  where
    go : (b ≡ c) ⊎ (suc b ≤ c) → (suc b ≤ c → Member (c ∷ s) (each (count (suc b) n) ss)) → Member (c ∷ s) (map (λ r. b ∷ r) ss ++ each (count (suc b) n) ss)
    go (inl e) f =
        in_left (c ∷ s) (map (λ r. b ∷ r) ss) (each (count (suc b) n) ss)
        (subst (λ (x : ℕ). Member (x ∷ s) (map (λ r. b ∷ r) ss)) e (in_under (λ (r : List ℕ). b ∷ r) s ss i))
    go (inr k) f = in_right (c ∷ s) (map (λ r. b ∷ r) ss) (each (count (suc b) n) ss) (f k)

pub each_all : (P Q : List ℕ → Type 0) (b n : ℕ) (ss : List (List ℕ)) → ((c : ℕ) (s : List ℕ) → b ≤ c → c < b + n → Q s → P (c ∷ s)) → All Q ss
    → All P (each (count b n) ss)
unfolding count each
each_all P Q b zero ss f h = tt
each_all P Q b (suc n) ss f h =
    all_join P (map (λ s. b ∷ s) ss) (each (count (suc b) n) ss)
    (all_under (λ (s : List ℕ). b ∷ s) P ss (all_map Q (λ s. P (b ∷ s)) ss (λ s q. f b s (omega arith) (omega arith) q) h))
    (each_all P Q (suc b) n ss (λ c s l k q. f c s (omega arith) (omega arith) q) h)

all_strings : (ss : List (List ℕ)) → All (λ s. Unit {0}) ss
all_strings [] = tt
all_strings (s ∷ ss) = (tt, all_strings ss)

each_sorted : (b n : ℕ) (ss : List (List ℕ)) → Ascending Smaller ss → Ascending Smaller (each (count b n) ss)
unfolding count each
each_sorted b zero ss h = tt
each_sorted b (suc n) ss h =
    sorted_join Smaller (map (λ s. b ∷ s) ss) (each (count (suc b) n) ss)
    (sorted_under (λ (s : List ℕ). b ∷ s) Smaller Smaller (λ x y k. inr (refl, k)) ss h) (each_sorted (suc b) n ss h)
    (all_under (λ (s : List ℕ). b ∷ s) (λ x. All (Smaller x) (each (count (suc b) n) ss)) ss (all_map (λ s. Unit {0}) (λ s. All (Smaller (b ∷ s)) (each (count (suc b) n) ss)) ss
    (λ s u. each_all (Smaller (b ∷ s)) (λ r. Unit {0}) (suc b) n ss (λ c r l k q. inl (omega arith)) (all_strings ss)) (all_strings ss)))

-- the strings of one length

pub strings_in : (s : List ℕ) → Bytes s → Member s (strings (length s))
unfolding strings
strings_in [] h = inl refl
strings_in (b ∷ s) h = each_in b s 0 256 (strings (length s)) (omega arith) (omega (arith, h.0)) (strings_in s h.1)

pub strings_all : (n : ℕ) → All (λ s. (length s ≡ n) × Bytes s) (strings n)
unfolding strings
strings_all zero = ((refl, tt), tt)
strings_all (suc n) =
    each_all (λ s. (length s ≡ suc n) × Bytes s) (λ s. (length s ≡ n) × Bytes s) 0 256 (strings n) (λ c s l k q. (ap suc q.0, (omega arith, q.1))) (strings_all n)

strings_sorted : (n : ℕ) → Ascending Smaller (strings n)
unfolding strings
strings_sorted zero = (tt, tt)
strings_sorted (suc n) = each_sorted 0 256 (strings n) (strings_sorted n)

-- the strings of 1 to n bytes

pub up_to_in : (s : List ℕ) (n : ℕ) → Bytes s → 0 < length s → length s ≤ n → Member s (up_to n)
unfolding up_to
up_to_in s zero h l k = absurd (omega arith)
up_to_in s (suc n) h l k = go (or_equal (length s) (suc n) k) (λ m. up_to_in s n h l m)
  where
    go : (length s ≡ suc n) ⊎ (suc (length s) ≤ suc n) → (length s ≤ n → Member s (up_to n)) → Member s (up_to n ++ strings (suc n))
    go (inl e) f = in_right s (up_to n) (strings (suc n)) (subst (λ (m : ℕ). Member s (strings m)) e (strings_in s h))
    go (inr m) f = in_left s (up_to n) (strings (suc n)) (f (omega arith))

pub up_to_all : (n : ℕ) → All (λ s. (length s ≤ n) × Bytes s) (up_to n)
unfolding up_to
up_to_all zero = tt
up_to_all (suc n) =
    all_join (λ s. (length s ≤ suc n) × Bytes s) (up_to n) (strings (suc n))
    (all_map (λ s. (length s ≤ n) × Bytes s) (λ s. (length s ≤ suc n) × Bytes s) (up_to n) (λ s h. (omega (arith, h.0), h.1)) (up_to_all n))
    (all_map (λ s. (length s ≡ suc n) × Bytes s) (λ s. (length s ≤ suc n) × Bytes s) (strings (suc n)) (λ s h. (omega (arith, h.0), h.1)) (strings_all (suc n)))

pub up_to_sorted : (n : ℕ) → Ascending Earlier (up_to n)
unfolding up_to
up_to_sorted zero = tt
up_to_sorted (suc n) =
    sorted_join Earlier (up_to n) (strings (suc n)) (up_to_sorted n)
    (sorted_map Smaller Earlier (λ s. (length s ≡ suc n) × Bytes s) (strings (suc n)) (λ x y a b k. inr (a.0 ∙ sym b.0, k)) (strings_all (suc n)) (strings_sorted (suc n)))
    (all_map (λ s. (length s ≤ n) × Bytes s) (λ x. All (Earlier x) (strings (suc n))) (up_to n)
    (λ x h. all_map (λ s. (length s ≡ suc n) × Bytes s) (Earlier x) (strings (suc n)) (λ y k. inl (omega (arith, h.0, k.0))) (strings_all (suc n))) (up_to_all n))

-- the order is one way

smaller_once : (xs ys : List ℕ) → Smaller xs ys → Smaller ys xs → ⊥
smaller_once [] ys h k = h
smaller_once (x ∷ xs) [] h k = h
smaller_once (x ∷ xs) (y ∷ ys) (inl h) (inl k) = omega arith
smaller_once (x ∷ xs) (y ∷ ys) (inl h) (inr k) = omega (arith, k.0)
smaller_once (x ∷ xs) (y ∷ ys) (inr h) (inl k) = omega (arith, h.0)
smaller_once (x ∷ xs) (y ∷ ys) (inr h) (inr k) = smaller_once xs ys h.1 k.1

pub earlier_once : (xs ys : List ℕ) → Earlier xs ys → Earlier ys xs → ⊥
earlier_once xs ys (inl h) (inl k) = omega arith
earlier_once xs ys (inl h) (inr k) = omega (arith, k.0)
earlier_once xs ys (inr h) (inl k) = omega (arith, h.0)
earlier_once xs ys (inr h) (inr k) = smaller_once xs ys h.1 k.1
