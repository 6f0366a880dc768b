-- The step from a string to the next: what comes before the next comes before the string, or is passed over with it.
use Prim.Native.Nat.{ℕ, zero, suc, ◌+◌, ◌-◌, ◌<◌, ◌≤◌}
use mathlib.Core.Path.{◌≡◌, refl, sym, ◌∙◌, ap, ap₂, subst}
use mathlib.Core.Logic.{◌⊎◌, inl, inr}
use mathlib.Core.List.{List, [], ◌∷◌, ◌++◌}
use mathlib.Core.Bool.{true}
use native.Mathlib.Omega.{arith}
use lib.ListN.{length, get_or, take, set, replicate, length-replicate, length-append, length-set, get_or-append}
use lib.Seq.{take-suc, set_at, length-take-le, get_or-take}
use Rattle.term.specs.Limits.{TermAccepted}
use Rattle.term.specs.Pattern.{Pattern}
use Rattle.term.specs.Table.{table_accepted}
use Rattle.term.specs.Term.{Term}
use Rattle.anti_pattern.specs.Language.{Language}
use Rattle.anti_pattern.specs.Order.{Smaller}
use Rattle.example.specs.Least.{bytes_in, Passed, Behind}
use Rattle.example.specs.Odometer.{NotBefore, Stepped, Skips}
use Rattle.example.specs.Strings.{Earlier}
use Rattle.example.proofs.Ordered.{Bytes, or_equal}
use Rattle.example.proofs.Ranks.{rank, power_of, rank_below, smaller_rank, compare, between}
use Rattle.example.proofs.Records.{accepted_bytes}

pub zeros_least : (x : List ℕ) (n : ℕ) → Smaller x (replicate n 0) → ⊥
zeros_least [] n h = h
zeros_least (b ∷ x) zero h = h
zeros_least (b ∷ x) (suc n) (inl h) = omega arith
zeros_least (b ∷ x) (suc n) (inr h) = zeros_least x n h.1

pub zeros_bytes : (n : ℕ) → Bytes (replicate n 0)
zeros_bytes zero = tt
zeros_bytes (suc n) = (omega arith, zeros_bytes n)

-- bytes that could not be more
pub full_front : (k : ℕ) (s x : List ℕ) → Bytes x → length x ≡ length s → ((m : ℕ) → m < k → m < length s → get_or s m 0 ≡ 255) → Smaller x s ⊎ (take k x ≡ take k s)
full_front zero s x h e f = inr refl
full_front (suc k) [] [] h e f = inr refl
full_front (suc k) [] (b ∷ x) h e f = absurd (omega (arith, e))
full_front (suc k) (c ∷ s) [] h e f = absurd (omega (arith, e))
full_front (suc k) (c ∷ s) (b ∷ x) h e f =
    go (or_equal b c (omega (arith, h.0, f zero (omega arith) (omega arith))))
    (full_front k s x h.1 (omega (arith, e)) (λ m i j. f (suc m) (omega arith) (omega arith)))
  where
    go : (b ≡ c) ⊎ (suc b ≤ c) → Smaller x s ⊎ (take k x ≡ take k s) → Smaller (b ∷ x) (c ∷ s) ⊎ (take (suc k) (b ∷ x) ≡ take (suc k) (c ∷ s))
    go (inr i) o = inl (inl (omega (arith, i)))
    go (inl i) (inl o) = inl (inr (i, o))
    go (inl i) (inr o) = inr (ap₂ ◌∷◌ i o)

stepped_order : (i k m : ℕ) (s x : List ℕ) → Bytes x → length x ≡ length s → i < k → i < length s → ((j : ℕ) → i < j → j < k → get_or s j 0 ≡ 255)
    → Smaller x (take i s ++ (suc (get_or s i 0) ∷ replicate m 0)) → Smaller x s ⊎ (take k x ≡ take k s)
stepped_order i k m [] x h e l n f z = absurd (omega (arith, n))
stepped_order i k m (c ∷ s) [] h e l n f z = absurd (omega (arith, e))
stepped_order i zero m (c ∷ s) (b ∷ x) h e l n f z = absurd (omega (arith, l))
stepped_order zero (suc k) m (c ∷ s) (b ∷ x) h e l n f (inr z) = absurd (zeros_least x m z.1)
stepped_order zero (suc k) m (c ∷ s) (b ∷ x) h e l n f (inl z) =
    go (or_equal b c (omega arith)) (full_front k s x h.1 (omega (arith, e)) (λ j i n. f (suc j) (omega arith) (omega arith)))
  where
    go : (b ≡ c) ⊎ (suc b ≤ c) → Smaller x s ⊎ (take k x ≡ take k s) → Smaller (b ∷ x) (c ∷ s) ⊎ (take (suc k) (b ∷ x) ≡ take (suc k) (c ∷ s))
    go (inr i) o = inl (inl (omega (arith, i)))
    go (inl i) (inl o) = inl (inr (i, o))
    go (inl i) (inr o) = inr (ap₂ ◌∷◌ i o)
stepped_order (suc i) (suc k) m (c ∷ s) (b ∷ x) h e l n f (inl z) = inl (inl z)
stepped_order (suc i) (suc k) m (c ∷ s) (b ∷ x) h e l n f (inr z) =
    go (stepped_order i k m s x h.1 (omega (arith, e)) (omega (arith, l)) (omega (arith, n)) (λ j p r. f (suc j) (omega arith) (omega arith)) z.1)
  where
    go : Smaller x s ⊎ (take k x ≡ take k s) → Smaller (b ∷ x) (c ∷ s) ⊎ (take (suc k) (b ∷ x) ≡ take (suc k) (c ∷ s))
    go (inl o) = inl (inr (z.0, o))
    go (inr o) = inr (ap₂ ◌∷◌ z.0 o)

stepped_later : (i m : ℕ) (s : List ℕ) → i < length s → Smaller s (take i s ++ (suc (get_or s i 0) ∷ replicate m 0))
stepped_later i m [] n = absurd (omega (arith, n))
stepped_later zero m (c ∷ s) n = inl (omega arith)
stepped_later (suc i) m (c ∷ s) n = inr (refl, stepped_later i m s (omega (arith, n)))

stepped_bytes : (i m : ℕ) (s : List ℕ) → Bytes s → get_or s i 0 < 255 → Bytes (take i s ++ (suc (get_or s i 0) ∷ replicate m 0))
stepped_bytes zero m [] h l = (omega (arith, l), zeros_bytes m)
stepped_bytes (suc i) m [] h l = (omega (arith, l), zeros_bytes m)
stepped_bytes zero m (c ∷ s) h l = (omega (arith, l), zeros_bytes m)
stepped_bytes (suc i) m (c ∷ s) h l = (h.0, stepped_bytes i m s h.1 l)

pub stepped_long : (s : List ℕ) (k : ℕ) (r : List ℕ) → k ≤ length s → Stepped s k r → length r ≡ length s
stepped_long s k r h w =
    ap length w.bytes ∙ length-append (take w.place s) (suc (get_or s w.place 0) ∷ replicate (length s - suc w.place) 0)
    ∙ omega (arith, length-take-le w.place s (omega (arith, h, w.within)), length-replicate {A = ℕ} (length s - suc w.place) 0, h, w.within)

pub stepped_is_bytes : (s : List ℕ) (k : ℕ) (r : List ℕ) → Bytes s → Stepped s k r → Bytes r
stepped_is_bytes s k r b w = subst Bytes (sym w.bytes) (stepped_bytes w.place (length s - suc w.place) s b w.small)

-- fewer strings are left
pub left_falls : (s : List ℕ) (k : ℕ) (r : List ℕ) → Bytes s → k ≤ length s → Stepped s k r → power_of (length r) - rank r < power_of (length s) - rank s
left_falls s k r b h w =
    let n = stepped_long s k r h w in
    let i = smaller_rank s r b (stepped_is_bytes s k r b w) (sym n)
    (subst (Smaller s) (sym w.bytes) (stepped_later w.place (length s - suc w.place) s (omega (arith, h, w.within)))) in
    let p : power_of (length r) ≡ power_of (length s) = ap power_of n in
    omega (arith, i, p, rank_below r (stepped_is_bytes s k r b w))

module _ (l : Language) (accepted : table_accepted l.table ≡ true) (q : Pattern) (allowance : ℕ) (s : List ℕ) (k : ℕ)
    (before : Behind l q allowance s) (skips : Skips l q allowance s k) where
  abbrev Again : ℕ → Term → Type 0
  Again n u = rank (bytes_in l u) < n → length (bytes_in l u) ≡ length s → take k (bytes_in l u) ≡ take k s → NotBefore s (bytes_in l u) → Passed l q allowance u

  -- the records that are passed over, those of smaller rank first
  block_below : (n : ℕ) (t : Term) → rank (bytes_in l t) < n → TermAccepted l t → length (bytes_in l t) ≡ length s → take k (bytes_in l t) ≡ take k s
      → NotBefore s (bytes_in l t) → Passed l q allowance t
  block_below zero t r a e h later = absurd (omega arith)
  block_below (suc n) t r a e h later = skips t a e h later (λ u b z. go u b z (λ i j x y. block_below n u i b j x y))
    where
      by : (u : Term) → TermAccepted l u → length (bytes_in l u) ≡ length (bytes_in l t) → Smaller (bytes_in l u) (bytes_in l t) → Again n u
          → Smaller (bytes_in l u) s ⊎ NotBefore s (bytes_in l u) → Passed l q allowance u
      by u b x z g (inl y) = before u b (inr (x ∙ e, y))
      by u b x z g (inr y) =
          g (omega (arith, r, smaller_rank (bytes_in l u) (bytes_in l t) (accepted_bytes l accepted u b) (accepted_bytes l accepted t a) x z))
          (x ∙ e) (between k s (bytes_in l u) (bytes_in l t) (x ∙ e) e h y z) y

      go : (u : Term) → TermAccepted l u → Earlier (bytes_in l u) (bytes_in l t) → Again n u → Passed l q allowance u
      go u b (inl z) g = before u b (inl (omega (arith, z, e)))
      go u b (inr z) g = by u b z.0 z.1 g (compare (bytes_in l u) s (z.0 ∙ e))

  in_block : (u : Term) → TermAccepted l u → length (bytes_in l u) ≡ length s → Smaller (bytes_in l u) s ⊎ (take k (bytes_in l u) ≡ take k s) → Passed l q allowance u
  in_block u b e (inl z) = before u b (inr (e, z))
  in_block u b e (inr z) = by (compare (bytes_in l u) s e)
    where
      by : Smaller (bytes_in l u) s ⊎ NotBefore s (bytes_in l u) → Passed l q allowance u
      by (inl y) = before u b (inr (e, y))
      by (inr y) = block_below (suc (rank (bytes_in l u))) u (omega arith) b e z y

  pub stepped_behind : k ≤ length s → (r : List ℕ) → Stepped s k r → Behind l q allowance r
  stepped_behind h r w u b (inl z) = before u b (inl (omega (arith, z, stepped_long s k r h w)))
  stepped_behind h r w u b (inr z) =
      let e = z.0 ∙ stepped_long s k r h w in
      in_block u b e
      (stepped_order w.place k (length s - suc w.place) s (bytes_in l u) (accepted_bytes l accepted u b) e w.within
      (omega (arith, h, w.within)) w.full (subst (Smaller (bytes_in l u)) w.bytes z.1))

  -- after the last string of a length come those that are one longer
  pub all_behind : ((m : ℕ) → m < k → get_or s m 0 ≡ 255) → Behind l q allowance (replicate (suc (length s)) 0)
  all_behind f u b (inr z) = absurd (zeros_least (bytes_in l u) (suc (length s)) z.1)
  all_behind f u b (inl z) = go (or_equal (length (bytes_in l u)) (length s) (omega (arith, z, length-replicate {A = ℕ} (suc (length s)) 0)))
    where
      go : (length (bytes_in l u) ≡ length s) ⊎ (suc (length (bytes_in l u)) ≤ length s) → Passed l q allowance u
      go (inr i) = before u b (inl (omega (arith, i)))
      go (inl i) = in_block u b i (full_front k s (bytes_in l u) (accepted_bytes l accepted u b) i (λ m x y. f m x))

-- one byte stored, in front of zeros
pub store_front : (s r : List ℕ) (j m v : ℕ) → j < length s → r ≡ take (suc j) s ++ replicate m 0 → set r j v ≡ take j s ++ (v ∷ replicate m 0)
store_front s r j m v h e =
    ap (λ (x : List ℕ). set x j v) (e ∙ ap (λ (x : List ℕ). x ++ replicate m 0) (take-suc s j 0 h) ∙ append_again (take j s))
    ∙ set_at (take j s) (get_or s j 0) (replicate m 0) v j (length-take-le j s (omega arith))
  where
    append_again : (p : List ℕ) → (p ++ (get_or s j 0 ∷ [])) ++ replicate m 0 ≡ p ++ (get_or s j 0 ∷ replicate m 0)
    append_again [] = refl
    append_again (x ∷ p) = ap (x ∷◌) (append_again p)

-- the bytes from i on are 0, and those of them before k could not be more
pub record Turned (s : List ℕ) (k : ℕ) (r : List ℕ) (i : ℕ) : Type 0 where
  pub within : i ≤ length s
  pub long : length r ≡ length s
  pub bytes : r ≡ take i s ++ replicate (length s - i) 0
  pub full : (m : ℕ) → i ≤ m → m < k → get_or s m 0 ≡ 255

module _ (s : List ℕ) (k : ℕ) (r : List ℕ) (i : ℕ) (h : Turned s k r i) (some : 0 < i) where
  back : suc (i - 1) ≡ i
  back = omega arith

  pub turned_byte : get_or r (i - 1) 0 ≡ get_or s (i - 1) 0
  turned_byte =
      ap (λ (x : List ℕ). get_or x (i - 1) 0) h.bytes
      ∙ get_or-append (take i s) (replicate (length s - i) 0) 0 (i - 1) (omega (arith, some, length-take-le i s h.within))
      ∙ get_or-take i s (i - 1) 0 (omega arith)

  stored : (v : ℕ) → set r (i - 1) v ≡ take (i - 1) s ++ (v ∷ replicate (length s - i) 0)
  stored v =
      store_front s r (i - 1) (length s - i) v (omega (arith, some, h.within)) (h.bytes ∙ ap (λ (n : ℕ). take n s ++ replicate (length s - i) 0) (sym back))

  pub turned_steps : i - 1 < k → get_or r (i - 1) 0 < 255 → Stepped s k (set r (i - 1) (get_or r (i - 1) 0 + 1))
  turned_steps l m = record {
    place = i - 1;
    within = l;
    small = omega (arith, m, turned_byte);
    full = λ j x y. h.full j (omega (arith, x)) y;
    bytes =
        let v : get_or r (i - 1) 0 + 1 ≡ suc (get_or s (i - 1) 0) = omega (arith, turned_byte) in
        let n : length s - i ≡ length s - suc (i - 1) = omega (arith, some) in
        stored (get_or r (i - 1) 0 + 1) ∙ ap₂ (λ (x m : ℕ). take (i - 1) s ++ (x ∷ replicate m 0)) v n;
  }

  pub turned_again : (i - 1 < k → 255 ≤ get_or r (i - 1) 0) → get_or r (i - 1) 0 ≤ 255 → Turned s k (set r (i - 1) 0) (i - 1)
  turned_again f b = record {
    within = omega (arith, h.within);
    long = length-set r (i - 1) 0 ∙ h.long;
    bytes =
        let n : suc (length s - i) ≡ length s - (i - 1) = omega (arith, some, h.within) in
        stored 0 ∙ ap (λ (m : ℕ). take (i - 1) s ++ replicate m 0) n;
    full = λ m x y. go m x y (or_equal (i - 1) m x);
  }
    where
      go : (m : ℕ) → i - 1 ≤ m → m < k → ((i - 1) ≡ m) ⊎ (suc (i - 1) ≤ m) → get_or s m 0 ≡ 255
      go m x y (inl e) =
          sym (ap (λ (n : ℕ). get_or s n 0) e) ∙ sym turned_byte
          ∙ omega (arith, f (omega (arith, e, y)), b)
      go m x y (inr z) = h.full m (omega (arith, z)) y

pub turned_end : (s : List ℕ) (k : ℕ) (r : List ℕ) (i : ℕ) → Turned s k r i → i ≡ 0 → ((m : ℕ) → m < k → get_or s m 0 ≡ 255) × (r ≡ replicate (length s) 0)
turned_end s k r i h e = (
  λ m y. h.full m (omega (arith, e)) y,
  h.bytes ∙ ap (λ (n : ℕ). take n s ++ replicate (length s - n) 0) e ∙ ap (λ (n : ℕ). replicate n 0) none,
)
  where
    none : length s - 0 ≡ length s
    none = omega arith
