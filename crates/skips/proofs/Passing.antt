-- The laws of elements that are passed over together.
-- Assumes nothing.
use Prim.Native.Nat.{ℕ, zero, suc, ◌+◌, ◌-◌, ◌*◌, ◌/◌, ◌<◌, ◌≤◌}
use native.Mathlib.Omega.{arith}
use native.Mathlib.Nat.{zero-add, mul-add, mul-one, mul_comm, mul-le-mul, mul-div-le, div-lt_iff_lt-mul}
use mathlib.Core.Path.{◌≡◌, refl, sym, ap, subst, ◌∙◌}
use mathlib.Core.List.{List, [], ◌∷◌}
use mathlib.Core.Bool.{Bool, true, false, cond, ◌&&◌, ◌||◌, true≢false}
use lib.ListN.{length, get_or, take, drop, length-drop}
use lib.Seq.{drop-drop, get_or-take}
use lib.Dec.{eqb, leb, ltb}
use borrow.Author.Tests.{le-leb, lt-leb, eq-eqb, ne_eqb, eqb-true, leb-true, leb-false, lt-ltb, le-ltb, ltb-true}
use Rattle.term.proofs.Lists.{rest_part}
use Rattle.term.proofs.Spans.{span_none, span_fixed, span_within}
use Rattle.term.proofs.SameParts.{and_true}
use Rattle.term.specs.Class.{class_of}
use Rattle.term.specs.Extent.{entry_of, span_of, extent_of}
use Rattle.term.specs.Same.{count_next, same_byte, same_part}
use Rattle.skips.specs.Passed.{starts_of, differs_at, failing_of, passed_over, before, passed_of, Passes, dearest_of, affordable_of, leaf_at, alike_of}
use Rattle.skips.specs.declared.Passed.{Passed}
use Rattle.skips.proofs.Chains.{differs_most}

-- What stands at the start of a part

module _ (table classes : List ℕ) where
  -- a number of children that is the same is of one class too
  by_class : (counting : Bool) (a b : ℕ) → same_byte classes counting a b ≡ true → same_byte classes false a b ≡ true
  by_class true a b e = eq-eqb (class_of classes a) (class_of classes b) (ap (class_of classes) (eqb-true a b e))
  by_class false a b e = e

  same_at : (counting : Bool) (x y : List ℕ) (i : ℕ) → i < length x → same_part table classes counting x y ≡ true
      → same_byte classes false (get_or x i 0) (get_or y i 0) ≡ true
  unfolding same_part
  same_at counting [] y i h e = absurd (omega arith)
  same_at counting (a ∷ x) [] i h e = absurd (true≢false (sym e))
  same_at counting (a ∷ x) (b ∷ y) zero h e =
      by_class counting a b (and_true (same_byte classes counting a b) (same_part table classes (count_next table counting a) x y) e).0
  same_at counting (a ∷ x) (b ∷ y) (suc i) h e =
      same_at (count_next table counting a) x y i (omega arith)
      (and_true (same_byte classes counting a b) (same_part table classes (count_next table counting a) x y) e).1

  module _ (x r : List ℕ) where
    pub starts_short : length r < length x → false ≡ starts_of table classes x r
    unfolding starts_of
    starts_short h = rw (lt-leb (length x) (length r) h) refl

    pub starts_is : length x ≤ length r → same_part table classes false x (take (length x) r) ≡ starts_of table classes x r
    unfolding starts_of
    starts_is h = rw (le-leb (length x) (length r) h) refl

    pub starts_differs : (i : ℕ) → i < length x → length x ≤ length r → same_byte classes false (get_or x i 0) (get_or r i 0) ≡ false
        → false ≡ starts_of table classes x r
    starts_differs i l h n = go (same_part table classes false x (take (length x) r)) refl ∙ starts_is h
      where
        go : (b : Bool) → same_part table classes false x (take (length x) r) ≡ b → false ≡ same_part table classes false x (take (length x) r)
        go true e =
            absurd (true≢false (sym (same_at false x (take (length x) r) i l e) ∙ ap (λ (y : ℕ). same_byte classes false (get_or x i 0) y) (get_or-take (length x) r i 0 l) ∙ n))
        go false e = sym e

    -- only bytes with the first and the last of a part can be its own
    pub alike_apart : (first last : ℕ) → first ≡ class_of classes (get_or x 0 0) → last ≡ class_of classes (get_or x (length x - 1) 0) → 0 < length x
        → alike_of classes first last (length x) r ≡ false → starts_of table classes x r ≡ false
    unfolding alike_of
    alike_apart first last is_first is_last some =
        rw (is_first, is_last) (go (leb (length x) (length r)) (same_byte classes false (get_or x 0 0) (get_or r 0 0)) refl refl)
      where
        go : (a b : Bool) → leb (length x) (length r) ≡ a → same_byte classes false (get_or x 0 0) (get_or r 0 0) ≡ b
            → a && (b && same_byte classes false (get_or x (length x - 1) 0) (get_or r (length x - 1) 0)) ≡ false → starts_of table classes x r ≡ false
        go true true e f g = sym (starts_differs (length x - 1) (omega arith) (leb-true (length x) (length r) e) g)
        go true false e f g = sym (starts_differs 0 some (leb-true (length x) (length r) e) f)
        go false b e f g = sym (starts_short (leb-false (length x) (length r) e))

-- the bytes of a part, from the middle of a list on, as the code takes them
pub part_starts : (table classes x r : List ℕ) (at : ℕ) → length x ≤ length (take (length r - at) (drop at r))
    → same_part table classes false x (take (at + length x - at) (drop at r)) ≡ starts_of table classes x (take (length r - at) (drop at r))
part_starts table classes x r at h =
    let e : at + length x - at ≡ length x = omega arith in
    ap (λ (n : ℕ). same_part table classes false x (take n (drop at r))) e
    ∙ ap (λ (l : List ℕ). same_part table classes false x (take (length x) l)) (sym (rest_part at r))
    ∙ starts_is table classes x (take (length r - at) (drop at r)) h

module _ (classes : List ℕ) (first last size : ℕ) (r : List ℕ) where
  pub alike_short : length r < size → false ≡ alike_of classes first last size r
  unfolding alike_of
  alike_short h = rw (lt-leb size (length r) h) refl

  pub alike_first : size ≤ length r → eqb first (class_of classes (get_or r 0 0)) ≡ false → false ≡ alike_of classes first last size r
  unfolding alike_of
  alike_first h e = rw (le-leb size (length r) h, e) refl

  pub alike_last : size ≤ length r → eqb first (class_of classes (get_or r 0 0)) ≡ true
      → eqb last (class_of classes (get_or r (size - 1) 0)) ≡ alike_of classes first last size r
  unfolding alike_of
  alike_last h e = rw (le-leb size (length r) h, e) refl

  pub alike_within : alike_of classes first last size r ≡ true → size ≤ length r
  unfolding alike_of
  alike_within e = leb-true size (length r) (and_true (leb size (length r)) _ e).0

-- an empty part stands everywhere
pub starts_none : (table classes r : List ℕ) → starts_of table classes [] r ≡ true
unfolding starts_of same_part
starts_none table classes r = rw (le-leb 0 (length r) (omega arith)) refl

pub starts_empty : (table classes x r : List ℕ) → length x ≡ 0 → starts_of table classes x r ≡ true
starts_empty table classes [] r e = starts_none table classes r
starts_empty table classes (a ∷ x) r e = absurd (omega (arith, e))

-- Elements

-- a symbol without children has one byte
pub leaf_extent : (table s : List ℕ) → 0 < length s → entry_of table (get_or s 0 0) ≡ 0 → 1 ≡ extent_of table s
unfolding extent_of
leaf_extent table [] h e = absurd (omega arith)
leaf_extent table (b ∷ s) h e =
    let z : entry_of table b + 0 ≡ 0 = omega (arith, e) in
    sym (span_fixed table b 0 s (λ f. omega (arith, e, f)) ∙ ap (λ (n : ℕ). suc (span_of table s false n)) z ∙ ap suc (span_none table s))

pub leaf_none : (table s : List ℕ) (i : ℕ) → length s ≤ i → false ≡ leaf_at table s i
unfolding leaf_at
leaf_none table s i h = rw (le-ltb i (length s) h) refl

pub leaf_some : (table s : List ℕ) (i : ℕ) → i < length s → eqb (entry_of table (get_or s i 0)) 0 ≡ leaf_at table s i
unfolding leaf_at
leaf_some table s i h = rw (lt-ltb i (length s) h) refl

leaf_is : (table s : List ℕ) (i : ℕ) → leaf_at table s i ≡ true → (i < length s) × (entry_of table (get_or s i 0) ≡ 0)
unfolding leaf_at
leaf_is table s i e =
    let a = and_true (ltb i (length s)) (eqb (entry_of table (get_or s i 0)) 0) e in
    (ltb-true i (length s) a.0, eqb-true (entry_of table (get_or s i 0)) 0 a.1)

span_leaf : (table : List ℕ) (b n : ℕ) (s : List ℕ) → entry_of table b ≡ 0 → span_of table (b ∷ s) false (suc n) ≡ suc (span_of table s false n)
span_leaf table b n s e =
    let z : entry_of table b + n ≡ n = omega (arith, e) in
    span_fixed table b n s (λ f. omega (arith, e, f)) ∙ ap (λ (k : ℕ). suc (span_of table s false k)) z

span_parent : (table : List ℕ) (b n : ℕ) (s : List ℕ) → entry_of table b ≡ n → n < 255 → extent_of table (b ∷ s) ≡ suc (span_of table s false n)
unfolding extent_of
span_parent table b n s e h =
    let z : entry_of table b + 0 ≡ n = omega (arith, e) in
    span_fixed table b 0 s (λ f. omega (arith, e, f)) ∙ ap (λ (k : ℕ). suc (span_of table s false k)) z

-- a symbol with one or two children that have none
pub one_leaf : (table s : List ℕ) → entry_of table (get_or s 0 0) ≡ 1 → leaf_at table s 1 ≡ true → (2 ≡ extent_of table s) × (2 ≤ length s)
one_leaf table [] e f = absurd (omega (arith, (leaf_is table [] 1 f).0))
one_leaf table (a ∷ []) e f = absurd (omega (arith, (leaf_is table (a ∷ []) 1 f).0))
one_leaf table (a ∷ b ∷ s) e f =
    (sym (span_parent table a 1 (b ∷ s) e (omega arith) ∙ ap suc (span_leaf table b 0 s (leaf_is table (a ∷ b ∷ s) 1 f).1 ∙ ap suc (span_none table s))), omega arith)

pub two_leaves : (table s : List ℕ) → entry_of table (get_or s 0 0) ≡ 2 → leaf_at table s 1 ≡ true → leaf_at table s 2 ≡ true
    → (3 ≡ extent_of table s) × (3 ≤ length s)
two_leaves table [] e f g = absurd (omega (arith, (leaf_is table [] 2 g).0))
two_leaves table (a ∷ []) e f g = absurd (omega (arith, (leaf_is table (a ∷ []) 2 g).0))
two_leaves table (a ∷ b ∷ []) e f g = absurd (omega (arith, (leaf_is table (a ∷ b ∷ []) 2 g).0))
two_leaves table (a ∷ b ∷ d ∷ s) e f g =
    let all = a ∷ b ∷ d ∷ s in (
      sym (span_parent table a 2 (b ∷ d ∷ s) e (omega arith)
          ∙ ap suc (span_leaf table b 1 (d ∷ s) (leaf_is table all 1 f).1 ∙ ap suc (span_leaf table d 0 s (leaf_is table all 2 g).1 ∙ ap suc (span_none table s)))),
      omega arith,
    )

-- Elements that fail

module _ (table classes x r : List ℕ) where
  pub failing_stands : (symbols : ℕ) → symbols ≡ 0 → starts_of table classes x r ≡ true → 0 ≡ failing_of table classes symbols x r
  unfolding failing_of
  failing_stands zero z e = rw e refl
  failing_stands (suc n) z e = absurd (omega (arith, z))

  pub failing_part : (symbols : ℕ) → symbols ≡ 0 → starts_of table classes x r ≡ false → 1 ≡ failing_of table classes symbols x r
  unfolding failing_of
  failing_part zero z e = rw e refl
  failing_part (suc n) z e = absurd (omega (arith, z))

  -- a part that fails does not stand there, and is one pair
  pub failing_apart : 0 < failing_of table classes 0 x r → (starts_of table classes x r ≡ false) × (failing_of table classes 0 x r ≡ 1)
  unfolding failing_of
  failing_apart = go (starts_of table classes x r)
    where
      go : (b : Bool) → 0 < cond b 0 1 → (b ≡ false) × (◌≡◌ {A = ℕ} (cond b 0 1) 1)
      go true h = absurd (omega arith)
      go false h = (refl, refl)

  pub failing_chain : (symbols : ℕ) → 0 < symbols → differs_at classes symbols x r ≡ failing_of table classes symbols x r
  unfolding failing_of
  failing_chain zero h = absurd (omega arith)
  failing_chain (suc n) h = refl

  pub failing_most : (symbols : ℕ) → 1 + failing_of table classes symbols x r ≤ dearest_of symbols
  unfolding failing_of dearest_of
  failing_most zero = go (starts_of table classes x r)
    where
      go : (b : Bool) → 1 + cond b 0 1 ≤ 2
      go true = omega arith
      go false = omega arith
  failing_most (suc n) = omega (arith, differs_most classes (suc n) x r)

-- Elements that are passed over

some : (n : ℕ) → eqb n 0 ≡ false → 0 < n
some zero z = absurd (true≢false z)
some (suc n) z = omega arith

pub passed_is : (p q : Passed) → p.elements ≡ q.elements → p.size ≡ q.size → p.count ≡ q.count → p ≡ q
passed_is p q a b c =
    let e : passed_over p.elements p.size p.count ≡ passed_over q.elements q.size q.count = rw (a, b, c) in e

module _ (table classes : List ℕ) (symbols : ℕ) (x : List ℕ) where
  abbrev failing : List ℕ → ℕ
  failing r = failing_of table classes symbols x r

  abbrev passing : List ℕ → ℕ → Passed
  passing r most = passed_of table classes symbols x r most

  abbrev ends_at : List ℕ → Bool
  ends_at r = eqb (length r) 0 || eqb (failing r) 0

  passed_end : (r : List ℕ) (k : ℕ) → ends_at r ≡ true → passing r k ≡ passed_over 0 0 0
  unfolding passed_of
  passed_end r zero h = refl
  passed_end r (suc k) h = rw h refl

  passed_more : (r : List ℕ) (k : ℕ) → ends_at r ≡ false
      → passing r (suc k) ≡ before 1 (extent_of table r) (1 + failing r) (passing (drop (extent_of table r) r) k)
  unfolding passed_of
  passed_more r k h = rw h refl

  -- what is passed over fails, and is at most so many
  abbrev Fair : List ℕ → ℕ → Passed → Type 0
  Fair r most p = (p.elements ≤ most) × Passes table classes symbols x r p.elements p.size p.count

  passed_fair : (r : List ℕ) (most : ℕ) → Fair r most (passing r most)
  unfolding passed_of
  passed_fair r zero = (omega arith, Passes.none)
  passed_fair r (suc most) = go (eqb (length r) 0) (eqb (failing r) 0) refl refl (passed_fair (drop (extent_of table r) r) most)
    where
      go : (a b : Bool) → eqb (length r) 0 ≡ a → eqb (failing r) 0 ≡ b
          → Fair (drop (extent_of table r) r) most (passing (drop (extent_of table r) r) most)
          → Fair r (suc most)
          (cond (a || b) (passed_over 0 0 0) (before 1 (extent_of table r) (1 + failing r) (passing (drop (extent_of table r) r) most)))
      go true b e f i = (omega arith, Passes.none)
      go false true e f i = (omega arith, Passes.none)
      go false false e f i = (omega (arith, i.0), Passes.more (some (length r) e) (some (failing r) f) i.1)

  -- the search for the first that may hold
  pub record Seeking (r : List ℕ) (most n at count : ℕ) : Type 0 where
    pub few : n ≤ most
    pub within : at ≤ length r
    pub little : count ≤ 256 * n
    pub same : passing r most ≡ before n at count (passing (drop at r) (most - n))

  pub seek_first : (r : List ℕ) (most : ℕ) → Seeking r most 0 0 0
  seek_first r most = record {
    few = omega arith;
    within = omega arith;
    little = omega arith;
    same =
        let z : most - 0 ≡ most = omega arith in
        sym (ap (λ (k : ℕ). before 0 0 0 (passing r k)) z
        ∙ passed_is (before 0 0 0 (passing r most)) (passing r most) (zero-add _) (zero-add _) (zero-add _));
  }

  module _ {r : List ℕ} {most n at count : ℕ} (t : Seeking r most n at count) where
    done : passing (drop at r) (most - n) ≡ passed_over 0 0 0 → passed_over n at count ≡ passed_of table classes symbols x r most
    done e =
        sym (t.same ∙ ap (before n at count) e
        ∙ passed_is (before n at count (passed_over 0 0 0)) (passed_over n at count) (omega arith) (omega arith) (omega arith))

    -- as many as there may be, with their count by any equal term
    pub seek_last : most ≤ n → (c : ℕ) → c ≡ count → passed_over most at c ≡ passed_of table classes symbols x r most
    unfolding passed_of
    seek_last h c e =
        let all : most ≡ n = omega (arith, t.few) in
        let z : most - n ≡ 0 = omega (arith, t.few) in
        passed_is (passed_over most at c) (passed_over n at count) all refl e ∙ done (ap (passing (drop at r)) z)

    pub seek_out : length r ≤ at → passed_over n at count ≡ passed_of table classes symbols x r most
    seek_out h =
        let z : length (drop at r) ≡ 0 = omega (arith, length-drop at r) in
        done (passed_end (drop at r) (most - n) (ap (λ (b : Bool). b || eqb (failing (drop at r)) 0) (eq-eqb (length (drop at r)) 0 z)))

    module _ (low : at < length r) (pairs : ℕ) (is_pairs : pairs ≡ failing (take (length r - at) (drop at r))) where
      here : failing (drop at r) ≡ pairs
      here = ap failing (sym (rest_part at r)) ∙ sym is_pairs

      ends_by : (b : Bool) → eqb pairs 0 ≡ b → ends_at (drop at r) ≡ b
      ends_by b e =
          ap (λ (c : Bool). c || eqb (failing (drop at r)) 0) (ne_eqb (length (drop at r)) 0 (λ z. omega (arith, z, length-drop at r)))
          ∙ ap (λ (k : ℕ). eqb k 0) here ∙ e

      pub seek_stop : pairs ≡ 0 → passed_over n at count ≡ passed_of table classes symbols x r most
      seek_stop e = done (passed_end (drop at r) (most - n) (ends_by true (eq-eqb pairs 0 e)))

      pub seek_more : n < most → (pairs ≡ 0 → ⊥) → pairs ≤ 255
          → (e : ℕ) → e ≡ extent_of table (take (length r - at) (drop at r)) → at + e ≤ length r
          → (c : ℕ) → c ≡ count + 1 + pairs → Seeking r most (n + 1) (at + e) c
      seek_more l f small e is-e w c is_c = record {
        few = omega arith;
        within = w;
        little = omega (arith, t.little, is_c);
        same =
            let one = extent_of table (drop at r) in
            let i : e ≡ one = is-e ∙ ap (extent_of table) (rest_part at r) in
            let k : most - n ≡ suc (most - (n + 1)) = omega arith in
            let p = passing (drop one (drop at r)) (most - (n + 1)) in
            let d : drop one (drop at r) ≡ drop (at + e) r = drop-drop one at r ∙ ap (λ (m : ℕ). drop (at + m) r) (sym i) in
            t.same ∙ ap (λ (m : ℕ). before n at count (passing (drop at r) m)) k
            ∙ ap (before n at count) (passed_more (drop at r) (most - (n + 1)) (ends_by false (ne_eqb pairs 0 f)))
            ∙ passed_is (before n at count (before 1 one (1 + failing (drop at r)) p)) (before (n + 1) (at + e) c p)
            (omega arith) (omega (arith, i)) (omega (arith, here, is_c))
            ∙ ap (λ (l : List ℕ). before (n + 1) (at + e) c (passing l (most - (n + 1)))) d;
      }

  pub seek_none : (r : List ℕ) (most : ℕ) → failing r ≡ 0 → passed_over 0 0 0 ≡ passed_of table classes symbols x r most
  seek_none r most e =
      done (seek_first r most) (passed_end r (most - 0) (ap (λ (k : ℕ). eqb (length r) 0 || eqb k 0) e ∙ go (eqb (length r) 0)))
    where
      go : (b : Bool) → b || true ≡ true
      go true = refl
      go false = refl

  -- what callers rely on
  pub seek_by : {r : List ℕ} {most : ℕ} {p : Passed} → p ≡ passed_of table classes symbols x r most
      → (p ≡ passed_of table classes symbols x r most)
      × ((p.elements ≤ most) × Passes table classes symbols x r p.elements p.size p.count)
  seek_by {r} {most} e = (e, subst (Fair r most) (sym e) (passed_fair r most))

pub passed_part : (table classes x r : List ℕ) (symbols most : ℕ) → symbols ≡ 0
    → passed_of table classes 0 x r most ≡ passed_of table classes symbols x r most
passed_part table classes x r symbols most z = rw z

-- one symbol is a part of one byte

failing_one : (table classes x r : List ℕ) → 0 < length r → failing_of table classes 1 x r ≡ failing_of table classes 0 (take 1 x) r
unfolding failing_of differs_at starts_of same_part
failing_one table classes x [] h = absurd (omega arith)
failing_one table classes [] (b ∷ r) h = rw (le-leb 0 (length (b ∷ r)) (omega arith)) refl
failing_one table classes (a ∷ x) (b ∷ r) h = rw (le-leb 1 (length (b ∷ r)) (omega arith)) (go (same_byte classes false a b))
  where
    go : (s : Bool) → ◌≡◌ {A = ℕ} (cond s 0 1) (cond (s && true) 0 1)
    go true = refl
    go false = refl

module _ (table classes x : List ℕ) where
  one_is : (r : List ℕ) (most : ℕ) → passed_of table classes 0 (take 1 x) r most ≡ passed_of table classes 1 x r most
  unfolding passed_of
  one_is r zero = refl
  one_is r (suc most) = go (eqb (length r) 0) refl (one_is (drop (extent_of table r) r) most)
    where
      go : (b : Bool) → eqb (length r) 0 ≡ b
          → passed_of table classes 0 (take 1 x) (drop (extent_of table r) r) most ≡ passed_of table classes 1 x (drop (extent_of table r) r) most
          → cond (b || eqb (failing_of table classes 0 (take 1 x) r) 0) (passed_over 0 0 0)
          (before 1 (extent_of table r) (1 + failing_of table classes 0 (take 1 x) r)
          (passed_of table classes 0 (take 1 x) (drop (extent_of table r) r) most))
          ≡ cond (b || eqb (failing_of table classes 1 x r) 0) (passed_over 0 0 0)
          (before 1 (extent_of table r) (1 + failing_of table classes 1 x r) (passed_of table classes 1 x (drop (extent_of table r) r) most))
      go true e i = refl
      go false e i = rw (i, failing_one table classes x r (some (length r) e)) refl

  pub passed_one : (r : List ℕ) (symbols most : ℕ) → symbols ≡ 1
      → passed_of table classes 0 (take 1 x) r most ≡ passed_of table classes symbols x r most
  passed_one r symbols most z = rw z (one_is r most)

-- what is passed over lies within
pub passes_within : {table classes x : List ℕ} {symbols : ℕ} {r : List ℕ} {k size count : ℕ} → Passes table classes symbols x r k size count → size ≤ length r
unfolding extent_of
passes_within Passes.none = omega arith
passes_within {table} {r = r} (Passes.more low fails p) =
    omega (arith, passes_within p, length-drop (extent_of table r) r, span_within table r false 1)

-- and is paid at its dearest
pub passes_paid : {table classes x : List ℕ} {symbols : ℕ} {r : List ℕ} {k size count : ℕ} → Passes table classes symbols x r k size count
    → count ≤ dearest_of symbols * k
passes_paid Passes.none = omega arith
passes_paid {table} {classes} {x} {symbols} {r} (Passes.more {k = k} low fails p) =
    omega (arith, passes_paid p, failing_most table classes x r symbols, mul-add (dearest_of symbols) 1 k, mul-one (dearest_of symbols))

-- what can be paid

pub dearest_part : (symbols : ℕ) → symbols ≡ 0 → 2 ≡ dearest_of symbols
unfolding dearest_of
dearest_part zero e = refl
dearest_part (suc n) e = absurd (omega (arith, e))

pub dearest_chain : (symbols : ℕ) → (symbols ≡ 0 → ⊥) → 1 + symbols ≡ dearest_of symbols
unfolding dearest_of
dearest_chain zero e = absurd (e refl)
dearest_chain (suc n) e = refl

pub dearest_some : (symbols : ℕ) → 2 ≤ dearest_of symbols
unfolding dearest_of
dearest_some zero = omega arith
dearest_some (suc n) = omega arith

dearest_most : (symbols : ℕ) → dearest_of symbols ≤ symbols + 2
unfolding dearest_of
dearest_most zero = omega arith
dearest_most (suc n) = omega arith

module _ (symbols elements left each : ℕ) (is_each : each ≡ dearest_of symbols) where
  pub afford_fits : symbols < 256 → elements < 256 → each * elements ≤ 257 * 255
  afford_fits s e = mul-le-mul {n₂ = 257} {m₂ = 255} (omega (arith, s, is_each, dearest_most symbols)) (omega (arith, e))

  pub afford_all : each * elements ≤ left → (elements ≡ affordable_of symbols elements left) × (dearest_of symbols * elements ≤ left)
  unfolding affordable_of
  afford_all h = rw (← is_each) (rw (le-leb (each * elements) left h) refl, h)

  pub afford_less : left < each * elements
      → (left / each ≡ affordable_of symbols elements left) × (left / each ≤ elements) × (dearest_of symbols * (left / each) ≤ left)
  unfolding affordable_of
  afford_less h =
      let some : 0 < each = omega (arith, is_each, dearest_some symbols) in
      let few : left / each < elements = (div-lt_iff_lt-mul some).1 (omega (arith, h, mul_comm each elements)) in
      rw (← is_each) (rw (lt-leb (each * elements) left h) refl, omega (arith, few), mul-div-le left each)
