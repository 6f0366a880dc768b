-- When two parts, two terms or two runs are the same up to class; and equal bytes are equal trees.
use Prim.Native.Nat.{ℕ, suc, ◌+◌, ◌<◌, ◌≤◌}
use native.Mathlib.Omega.{arith}
use native.Mathlib.Numerals.{add-one}
use mathlib.Core.Path.{◌≡◌, refl, sym, ap, ap₂, ◌∙◌, subst}
use mathlib.Core.List.{List, [], ◌∷◌, ◌++◌}
use mathlib.Core.Bool.{Bool, true, false, cond, ◌&&◌, and-false}
use lib.ListN.{length, get_or, take, drop, drop_of_length-le, take-append-drop, get_or-eq_default}
use lib.Seq.{drop-cons}
use lib.Dec.{eqb}
use borrow.Author.Tests.{eqb-true, eqb-false, eq-eqb, ne_eqb}
use Rattle.term.specs.Table.{list, is_list, width}
use Rattle.term.specs.Class.{class_of, Alike}
use Rattle.term.specs.Code.{byte_of}
use Rattle.term.specs.Tree.{Tree, Trees, branch, empty, more, number, list_code, own, encode, encodes}
use Rattle.term.specs.Term.{Term, Terms, node, nil, ◌::◌, size, sizes, term_tree, term_trees, terms_of, term_bytes, terms_bytes, count}
use Rattle.term.specs.Limits.{Written, Counted, Shape, below_of, Fits, FitAll}
use Rattle.term.specs.Same.{same_term, same_terms, count_next, same_byte, same_part}
use Rattle.term.specs.declared.Code.{Code}
use Rattle.term.specs.declared.Code.TheVariants.{Symbol, Name, Run, Complement}
use Rattle.term.proofs.Codes.{byte_injective}
use Rattle.term.proofs.Sizes.{take_terms, number_terms, node_bytes, encodes_append}
use Rattle.term.proofs.Trees.{terms_back}

pub and_true : (a b : Bool) → a && b ≡ true → (a ≡ true) × (b ≡ true)
and_true true b h = (refl, h)
and_true false b h = let z : ◌≡◌ {A = ℕ} 0 1 = ap (λ (x : Bool). cond x 1 0) h in absurd (omega arith)

and_assoc : (a b c : Bool) → (a && (b && c)) ≡ ((a && b) && c)
and_assoc true b c = refl
and_assoc false b c = refl

-- bytes

module _ (classes : List ℕ) where
  -- by what they are
  pub byte_number : (counting : Bool) (x y : ℕ) → counting ≡ true → eqb x y ≡ same_byte classes counting x y
  byte_number counting x y e = rw e

  pub byte_symbol : (counting : Bool) (x y : ℕ) → counting ≡ false → same_byte classes false x y ≡ same_byte classes counting x y
  byte_symbol counting x y e = rw e

  pub byte_equal : (counting : Bool) (x : ℕ) → same_byte classes counting x x ≡ true
  byte_equal true x = eq-eqb x x refl
  byte_equal false x = eq-eqb (class_of classes x) (class_of classes x) refl

  -- symbols
  pub symbol_none : (x y : ℕ) → length classes ≡ 0 → (x ≡ y → ⊥) → false ≡ same_byte classes false x y
  symbol_none x y h n = go classes h
    where
      go : (l : List ℕ) → length l ≡ 0 → false ≡ same_byte l false x y
      go [] h = sym (ne_eqb x y n)
      go (c ∷ l) h = absurd (omega arith)

pub next_none : (table : List ℕ) (counting : Bool) (x : ℕ) → length table ≤ x → false ≡ count_next table counting x
next_none table true x h = refl
next_none table false x h = rw (get_or-eq_default table 0 h)

pub next_read : (table : List ℕ) (counting : Bool) (x : ℕ) → counting ≡ false → eqb (get_or table x 0) list ≡ count_next table counting x
next_read table counting x e = rw e

-- parts

module _ (table classes : List ℕ) where
  pub same_refl : (counting : Bool) (xs : List ℕ) → same_part table classes counting xs xs ≡ true
  unfolding same_part
  same_refl counting [] = refl
  same_refl counting (x ∷ xs) = rw (byte_equal classes counting x) (same_refl (count_next table counting x) xs)

  -- what follows both may be the same too
  pub same_append : (counting : Bool) (xs ys zs : List ℕ) → same_part table classes counting xs ys ≡ true
      → same_part table classes counting (xs ++ zs) (ys ++ zs) ≡ true
  unfolding same_part
  same_append counting [] [] zs h = same_refl counting zs
  same_append counting [] (y ∷ ys) zs h = let z : ◌≡◌ {A = ℕ} 0 1 = ap (λ (x : Bool). cond x 1 0) h in absurd (omega arith)
  same_append counting (x ∷ xs) [] zs h = let z : ◌≡◌ {A = ℕ} 0 1 = ap (λ (x : Bool). cond x 1 0) h in absurd (omega arith)
  same_append counting (x ∷ xs) (y ∷ ys) zs h =
      let a = and_true (same_byte classes counting x y) (same_part table classes (count_next table counting x) xs ys) h in
      rw a.0 (same_append (count_next table counting x) xs ys zs a.1)

  pub same_lengths : (counting : Bool) (x y : List ℕ) → (length x ≡ length y → ⊥) → same_part table classes counting x y ≡ false
  unfolding same_part
  same_lengths counting [] [] n = absurd (n refl)
  same_lengths counting [] (y ∷ ys) n = refl
  same_lengths counting (x ∷ xs) [] n = refl
  same_lengths counting (x ∷ xs) (y ∷ ys) n =
      rw (same_lengths (count_next table counting x) xs ys (λ e. n (ap suc e))) (and-false (same_byte classes counting x y))

  -- at a place of both

  pub same_end : (counting : Bool) (x y : List ℕ) (i : ℕ) → length x ≤ i → length y ≤ i → same_part table classes counting (drop i x) (drop i y) ≡ true
  unfolding same_part
  same_end counting x y i h k = rw (drop_of_length-le x h, drop_of_length-le y k)

  pub same_step : (counting : Bool) (x y : List ℕ) (i : ℕ) → i < length x → i < length y
      → same_part table classes counting (drop i x) (drop i y)
      ≡ (same_byte classes counting (get_or x i 0) (get_or y i 0)
      && same_part table classes (count_next table counting (get_or x i 0)) (drop (i + 1) x) (drop (i + 1) y))
  unfolding same_part
  same_step counting x y i h k = rw (add-one i, drop-cons x i 0 h, drop-cons y i 0 k)

  module _ (counting : Bool) (x y : List ℕ) (i : ℕ) (h : i < length x) (k : i < length y) where
    pub same_differs : same_byte classes counting (get_or x i 0) (get_or y i 0) ≡ false → same_part table classes counting (drop i x) (drop i y) ≡ false
    same_differs e = same_step counting x y i h k ∙ rw e

    pub same_next : same_byte classes counting (get_or x i 0) (get_or y i 0) ≡ true → (next : Bool) → next ≡ count_next table counting (get_or x i 0)
        → same_part table classes counting (drop i x) (drop i y) ≡ same_part table classes next (drop (i + 1) x) (drop (i + 1) y)
    same_next e next n = same_step counting x y i h k ∙ rw (e, n)

-- without classes the bytes decide
pub same_bytes : (table table' : List ℕ) (b c : Bool) (xs ys : List ℕ) → same_part table [] b xs ys ≡ same_part table' [] c xs ys
unfolding same_part
same_bytes table table' b c [] [] = refl
same_bytes table table' b c [] (y ∷ ys) = refl
same_bytes table table' b c (x ∷ xs) [] = refl
same_bytes table table' b c (x ∷ xs) (y ∷ ys) =
    ap₂ ◌&&◌ (byte b c) (same_bytes table table' (count_next table b x) (count_next table' c x) xs ys)
  where
    byte : (b c : Bool) → same_byte [] b x y ≡ same_byte [] c x y
    byte true true = refl
    byte true false = refl
    byte false true = refl
    byte false false = refl

pub same_none : (table classes x y : List ℕ) → length classes ≡ 0 → same_part table classes false x y ≡ same_part [] [] true x y
same_none table [] x y h = same_bytes table [] false true x y
same_none table (c ∷ classes) x y h = absurd (omega arith)

pub same_byte_step : (x y : List ℕ) (i : ℕ) → i < length x → i < length y
    → same_part [] [] true (drop i x) (drop i y) ≡ (eqb (get_or x i 0) (get_or y i 0) && same_part [] [] true (drop (i + 1) x) (drop (i + 1) y))
same_byte_step x y i h k =
    same_step [] [] true x y i h k
    ∙ ap (λ (m : Bool). eqb (get_or x i 0) (get_or y i 0) && m) (same_bytes [] [] false true (drop (i + 1) x) (drop (i + 1) y))

-- terms

module _ (classes : List ℕ) where
  mutual
    pub same_term_holds : (t : Term) → same_term classes t t ≡ true
    same_term_holds (node s ts) = rw (eq-eqb (class_of classes s) (class_of classes s) refl) (same_terms_holds ts)

    pub same_terms_holds : (ts : Terms) → same_terms classes ts ts ≡ true
    same_terms_holds nil = refl
    same_terms_holds (t :: ts) = rw (same_term_holds t) (same_terms_holds ts)

  pub same_counts : (ts us : Terms) → same_terms classes ts us ≡ true → count ts ≡ count us
  same_counts nil nil h = refl
  same_counts nil (u :: us) h = let z : ◌≡◌ {A = ℕ} 0 1 = ap (λ (x : Bool). cond x 1 0) h in absurd (omega arith)
  same_counts (t :: ts) nil h = let z : ◌≡◌ {A = ℕ} 0 1 = ap (λ (x : Bool). cond x 1 0) h in absurd (omega arith)
  same_counts (t :: ts) (u :: us) h =
      let a = and_true (same_term classes t u) (same_terms classes ts us) h in ap suc (same_counts ts us a.1)

  pub unlike_counts : (ts us : Terms) → (count ts ≡ count us → ⊥) → same_terms classes ts us ≡ false
  unlike_counts nil nil n = absurd (n refl)
  unlike_counts nil (u :: us) n = refl
  unlike_counts (t :: ts) nil n = refl
  unlike_counts (t :: ts) (u :: us) n =
      rw (unlike_counts ts us (λ e. n (ap suc e))) (and-false (same_term classes t u))

-- where each symbol is its own class the same terms are equal
module _ (classes : List ℕ) (single : (s : ℕ) → class_of classes s ≡ s) where
  mutual
    pub term_equal : (t u : Term) → same_term classes t u ≡ true → t ≡ u
    term_equal (node s ts) (node r us) h =
        let a = and_true (eqb (class_of classes s) (class_of classes r)) (same_terms classes ts us) h in
        ap₂ node (sym (single s) ∙ eqb-true (class_of classes s) (class_of classes r) a.0 ∙ single r) (terms_equal ts us a.1)

    pub terms_equal : (ts us : Terms) → same_terms classes ts us ≡ true → ts ≡ us
    terms_equal nil nil h = refl
    terms_equal nil (u :: us) h = let z : ◌≡◌ {A = ℕ} 0 1 = ap (λ (x : Bool). cond x 1 0) h in absurd (omega arith)
    terms_equal (t :: ts) nil h = let z : ◌≡◌ {A = ℕ} 0 1 = ap (λ (x : Bool). cond x 1 0) h in absurd (omega arith)
    terms_equal (t :: ts) (u :: us) h =
        let a = and_true (same_term classes t u) (same_terms classes ts us) h in
        ap₂ ◌::◌ (term_equal t u a.0) (terms_equal ts us a.1)

-- trees: bytes that start with two trees start with one

module _ (table : List ℕ) where
  own_equal : (l : Bool) (m n : ℕ) (xs ys : List ℕ) → (l ≡ false → m ≡ n) → cond l (m ∷ xs) xs ≡ cond l (n ∷ ys) ys → (m ≡ n) × (xs ≡ ys)
  own_equal true m n xs ys h e = (cc, cc)
  own_equal false m n xs ys h e = (h refl, e)

  counted_false : (l : Bool) (m n k : ℕ) → Counted l m k → Counted l n k → l ≡ false → m ≡ n
  counted_false true m n k g h e = let z : ◌≡◌ {A = ℕ} 0 1 = ap (λ (x : Bool). cond x 0 1) e in absurd (omega arith)
  counted_false false m n k g h e = g ∙ sym h

  shape_fixed : (c : Code) (in_list inList' : Bool) (m n : ℕ) → Shape table in_list c m → Shape table inList' c n → list_code table c ≡ false → m ≡ n
  unfolding Shape list_code
  shape_fixed (Symbol s) in_list inList' m n g h e = counted_false (is_list table s) m n (get_or table s 0) g.1 h.1 e
  shape_fixed (Name v) in_list inList' m n g h e = g ∙ sym h
  shape_fixed (Run v) in_list inList' m n g h e = g.0 ∙ sym h.0
  shape_fixed Complement in_list inList' m n g h e = g ∙ sym h
  shape_fixed Code.Refused in_list inList' m n g h e = absurd g

  own_same : (c : Code) (in_list inList' : Bool) (m n : ℕ) (xs ys : List ℕ) → Shape table in_list c m → Shape table inList' c n
      → own table c m xs ≡ own table c n ys → (m ≡ n) × (xs ≡ ys)
  unfolding own
  own_same c in_list inList' m n xs ys g h e = own_equal (list_code table c) m n xs ys (shape_fixed c in_list inList' m n g h) (cc)

  own_one : (records : Bool) (c d : Code) (in_list inList' : Bool) (m n : ℕ) (xs ys : List ℕ) → Written records c → Written records d
      → Shape table in_list c m → Shape table inList' d n → own table c m xs ≡ own table d n ys → (c ≡ d) × (m ≡ n) × (xs ≡ ys)
  unfolding own
  own_one records c d in_list inList' m n xs ys v w g h e =
      let z : byte_of c ≡ byte_of d = cc in
      let i : c ≡ d = byte_injective records c d v w z in
      let a = own_same c in_list inList' m n xs ys g (rw i h) (e ∙ ap (λ (x : Code). own table x n ys) (sym i)) in
      (i, a.0, a.1)

  mutual
    unfolding Fits encode number

    pub one_tree : (records : Bool) (t u : Tree) (left left' : ℕ) (in_list inList' : Bool) (bs cs : List ℕ)
        → Fits table records t left in_list → Fits table records u left' inList' → encode table t bs ≡ encode table u cs → (t ≡ u) × (bs ≡ cs)
    one_tree records (branch c ts) (branch d us) left left' in_list inList' bs cs g h e =
        let a = own_one records c d in_list inList' (number ts) (number us) (encodes table ts bs) (encodes table us cs) g.1 h.1 g.2 h.2 e in
        let b = one_run records ts us (below_of c left) (below_of d left') (list_code table c) (list_code table d) bs cs g.3 h.3 a.1 a.2 in
        (ap₂ branch a.0 b.0, b.1)

    pub one_run : (records : Bool) (ts us : Trees) (left left' : ℕ) (in_list inList' : Bool) (bs cs : List ℕ)
        → FitAll table records ts left in_list → FitAll table records us left' inList' → number ts ≡ number us
        → encodes table ts bs ≡ encodes table us cs → (ts ≡ us) × (bs ≡ cs)
    one_run records empty empty left left' in_list inList' bs cs g h n e = (refl, e)
    one_run records empty (more u us) left left' in_list inList' bs cs g h n e = absurd (omega arith)
    one_run records (more t ts) empty left left' in_list inList' bs cs g h n e = absurd (omega arith)
    one_run records (more t ts) (more u us) left left' in_list inList' bs cs g h n e =
        let a = one_tree records t u left left' in_list inList' (encodes table ts bs) (encodes table us cs) g.0 h.0 e in
        let b = one_run records ts us left left' in_list inList' bs cs g.1 h.1 (omega arith) a.1 in
        (ap₂ more a.0 b.0, b.1)

  pub branch_some : (t : Tree) (bs : List ℕ) → 0 < length (encode table t bs)
  unfolding encode own
  branch_some (branch c ts) bs = omega arith

  -- a run's bytes by themselves
  pub whole_run : (records : Bool) (ts us : Trees) (left left' : ℕ) (in_list inList' : Bool)
      → FitAll table records ts left in_list → FitAll table records us left' inList' → encodes table ts [] ≡ encodes table us [] → ts ≡ us
  unfolding Fits encode
  whole_run records empty empty left left' in_list inList' g h e = refl
  whole_run records empty (more u us) left left' in_list inList' g h e = absurd (omega (arith, branch_some u (encodes table us []), ap length e))
  whole_run records (more t ts) empty left left' in_list inList' g h e = absurd (omega (arith, branch_some t (encodes table ts []), ap length e))
  whole_run records (more t ts) (more u us) left left' in_list inList' g h e =
      let a = one_tree records t u left left' in_list inList' (encodes table ts []) (encodes table us []) g.0 h.0 e in
      ap₂ more a.0 (whole_run records ts us left left' in_list inList' g.1 h.1 a.1)

-- terms and runs of a record

trees_terms : (ts us : Terms) → term_trees ts ≡ term_trees us → ts ≡ us
trees_terms ts us e = sym (terms_back ts) ∙ ap terms_of e ∙ terms_back us

module _ (table : List ℕ) (ts us : Terms) (left left' : ℕ) (in_list inList' : Bool)
    (g : FitAll table true (term_trees ts) left in_list) (h : FitAll table true (term_trees us) left' inList') where
  pub run_of_bytes : terms_bytes table ts [] ≡ terms_bytes table us [] → ts ≡ us
  run_of_bytes e = trees_terms ts us (whole_run table true (term_trees ts) (term_trees us) left left' in_list inList' g h e)

-- Bytes of runs are the same exactly if the runs are, up to class

module _ (table classes : List ℕ) (k : Alike table classes) where
  -- symbols of one class are lists both, or neither
  pub entry_alike : (s r : ℕ) → class_of classes s ≡ class_of classes r → get_or table s 0 ≡ get_or table r 0
  entry_alike s r e = sym (k.alike s) ∙ ap (λ (c : ℕ). get_or table c 0) e ∙ k.alike r

  class_list : (s r : ℕ) → class_of classes s ≡ class_of classes r → is_list table s ≡ is_list table r
  class_list s r e = ap (λ (b : ℕ). eqb b list) (entry_alike s r e)

  mutual
    unfolding size

    pub same_size : (t u : Term) → same_term classes t u ≡ true → size table t ≡ size table u
    same_size (node s ts) (node r us) h =
        let a = and_true (eqb (class_of classes s) (class_of classes r)) (same_terms classes ts us) h in
        let i : width table s ≡ width table r =
        ap (λ (b : Bool). cond b 2 1) (class_list s r (eqb-true (class_of classes s) (class_of classes r) a.0)) in
        ap₂ ◌+◌ i (same_sizes ts us a.1)

    pub same_sizes : (ts us : Terms) → same_terms classes ts us ≡ true → sizes table ts ≡ sizes table us
    same_sizes nil nil h = refl
    same_sizes nil (u :: us) h = let z : ◌≡◌ {A = ℕ} 0 1 = ap (λ (x : Bool). cond x 1 0) h in absurd (omega arith)
    same_sizes (t :: ts) nil h = let z : ◌≡◌ {A = ℕ} 0 1 = ap (λ (x : Bool). cond x 1 0) h in absurd (omega arith)
    same_sizes (t :: ts) (u :: us) h =
        let a = and_true (same_term classes t u) (same_terms classes ts us) h in ap₂ ◌+◌ (same_size t u a.0) (same_sizes ts us a.1)

  abbrev part : List ℕ → List ℕ → Bool
  part xs ys = same_part table classes false xs ys

  -- the children of two nodes of one class
  children_same : (ts us : Terms) (l : Bool) (n : ℕ) (xs ys : List ℕ) → Counted l (count ts) n → Counted l (count us) n
      → (count ts ≡ count us → part (terms_bytes table ts xs) (terms_bytes table us ys) ≡ (same_terms classes ts us && part xs ys))
      → same_part table classes l (cond l (count ts ∷ terms_bytes table ts xs) (terms_bytes table ts xs))
      (cond l (count us ∷ terms_bytes table us ys) (terms_bytes table us ys)) ≡ (same_terms classes ts us && part xs ys)
  unfolding same_part
  children_same ts us false n xs ys g h f = f (g ∙ sym h)
  children_same ts us true n xs ys g h f = go (eqb (count ts) (count us)) refl
    where
      go : (m : Bool) → eqb (count ts) (count us) ≡ m
          → (m && part (terms_bytes table ts xs) (terms_bytes table us ys)) ≡ (same_terms classes ts us && part xs ys)
      go true e = f (eqb-true (count ts) (count us) e)
      go false e = rw (unlike_counts classes ts us (eqb-false (count ts) (count us) e))

  node_same : (s r : ℕ) (ts us : Terms) (xs ys : List ℕ) → Counted (is_list table s) (count ts) (get_or table s 0)
      → Counted (is_list table r) (count us) (get_or table r 0)
      → (count ts ≡ count us → part (terms_bytes table ts xs) (terms_bytes table us ys) ≡ (same_terms classes ts us && part xs ys))
      → (eqb (class_of classes s) (class_of classes r)
      && same_part table classes (is_list table s) (cond (is_list table s) (count ts ∷ terms_bytes table ts xs) (terms_bytes table ts xs))
      (cond (is_list table r) (count us ∷ terms_bytes table us ys) (terms_bytes table us ys)))
      ≡ ((eqb (class_of classes s) (class_of classes r) && same_terms classes ts us) && part xs ys)
  node_same s r ts us xs ys g h f = go (eqb (class_of classes s) (class_of classes r)) refl
    where
      go : (m : Bool) → eqb (class_of classes s) (class_of classes r) ≡ m
          → (m && same_part table classes (is_list table s) (cond (is_list table s) (count ts ∷ terms_bytes table ts xs) (terms_bytes table ts xs))
          (cond (is_list table r) (count us ∷ terms_bytes table us ys) (terms_bytes table us ys))) ≡ ((m && same_terms classes ts us) && part xs ys)
      go true e =
          let z = eqb-true (class_of classes s) (class_of classes r) e in
          let i : get_or table r 0 ≡ get_or table s 0 = sym (entry_alike s r z) in
          let d : Counted (is_list table s) (count us) (get_or table s 0) = subst (λ (b : ℕ). Counted (eqb b list) (count us) b) i h in
          rw (i) (children_same ts us (is_list table s) (get_or table s 0) xs ys g d f)
      go false e = refl

  node_front : (s r : ℕ) (ts us : Terms) (xs ys : List ℕ) → Counted (is_list table s) (count ts) (get_or table s 0)
      → Counted (is_list table r) (count us) (get_or table r 0)
      → (count ts ≡ count us → part (terms_bytes table ts xs) (terms_bytes table us ys) ≡ (same_terms classes ts us && part xs ys))
      → part (term_bytes table (node s ts) xs) (term_bytes table (node r us) ys) ≡ (same_term classes (node s ts) (node r us) && part xs ys)
  unfolding same_part
  node_front s r ts us xs ys g h f =
      ap₂ part (node_bytes table s ts xs) (node_bytes table r us ys) ∙ node_same s r ts us xs ys g h f

  mutual
    unfolding Fits Shape encode

    pub same_front : (t u : Term) (left left' : ℕ) (in_list inList' : Bool) (xs ys : List ℕ) → Fits table true (term_tree t) left in_list
        → Fits table true (term_tree u) left' inList'
        → part (term_bytes table t xs) (term_bytes table u ys) ≡ (same_term classes t u && part xs ys)
    same_front (node s ts) (node r us) left left' in_list inList' xs ys g h =
        node_front s r ts us xs ys
        (subst (λ (n : ℕ). Counted (is_list table s) n (get_or table s 0)) (number_terms ts) g.2.1)
        (subst (λ (n : ℕ). Counted (is_list table r) n (get_or table r 0)) (number_terms us) h.2.1)
        (λ e. same_fronts ts us _ _ _ _ xs ys g.3 h.3 e)

    -- runs of as many terms, in front of other bytes
    pub same_fronts : (ts us : Terms) (left left' : ℕ) (in_list inList' : Bool) (xs ys : List ℕ) → FitAll table true (term_trees ts) left in_list
        → FitAll table true (term_trees us) left' inList' → count ts ≡ count us
        → part (terms_bytes table ts xs) (terms_bytes table us ys) ≡ (same_terms classes ts us && part xs ys)
    same_fronts nil nil left left' in_list inList' xs ys g h n = refl
    same_fronts nil (u :: us) left left' in_list inList' xs ys g h n = absurd (omega arith)
    same_fronts (t :: ts) nil left left' in_list inList' xs ys g h n = absurd (omega arith)
    same_fronts (t :: ts) (u :: us) left left' in_list inList' xs ys g h n =
        same_front t u left left' in_list inList' (terms_bytes table ts xs) (terms_bytes table us ys) g.0 h.0
        ∙ ap (λ (m : Bool). same_term classes t u && m) (same_fronts ts us left left' in_list inList' xs ys g.1 h.1 (omega arith))
        ∙ and_assoc (same_term classes t u) (same_terms classes ts us) (part xs ys)

  -- L1: "equality of parts promises equal terms up to class": two parts that are the bytes of runs are the same exactly if the runs are
  pub same_run : (ts us : Terms) (left left' : ℕ) (in_list inList' : Bool) → FitAll table true (term_trees ts) left in_list
      → FitAll table true (term_trees us) left' inList' → part (terms_bytes table ts []) (terms_bytes table us []) ≡ same_terms classes ts us
  unfolding Fits encode same_part
  same_run nil nil left left' in_list inList' g h = refl
  same_run nil (u :: us) left left' in_list inList' g h = same_lengths table classes false [] (terms_bytes table (u :: us) [])
      (λ e. omega (arith, branch_some table (term_tree u) (terms_bytes table us []), e))
  same_run (t :: ts) nil left left' in_list inList' g h = same_lengths table classes false (terms_bytes table (t :: ts) []) []
      (λ e. omega (arith, branch_some table (term_tree t) (terms_bytes table ts []), e))
  same_run (t :: ts) (u :: us) left left' in_list inList' g h =
      same_front t u left left' in_list inList' (terms_bytes table ts []) (terms_bytes table us []) g.0 h.0
      ∙ ap (λ (m : Bool). same_term classes t u && m) (same_run ts us left left' in_list inList' g.1 h.1)

  -- a run against the front of another of as many terms, as long as itself
  module _ (w x : Terms) (left left' : ℕ) (in_list inList' : Bool) (g : FitAll table true (term_trees w) left in_list)
      (h : FitAll table true (term_trees x) left' inList') (bs : List ℕ) where
    pub same_part_holds : same_terms classes w x ≡ true → part (terms_bytes table w []) (take (sizes table w) (terms_bytes table x bs)) ≡ true
    same_part_holds e =
        ap (part (terms_bytes table w [])) (ap (λ (n : ℕ). take n (terms_bytes table x bs)) (same_sizes w x e) ∙ take_terms table x bs)
        ∙ same_run w x left left' in_list inList' g h ∙ e

    pub part_same : count w ≡ count x → part (terms_bytes table w []) (take (sizes table w) (terms_bytes table x bs)) ≡ true → same_terms classes w x ≡ true
    part_same n e =
        let r = drop (sizes table w) (terms_bytes table x bs) in
        let z : part (terms_bytes table w r) (terms_bytes table x bs) ≡ true =
        ap₂ part (encodes_append table (term_trees w) [] r) (sym (take-append-drop (sizes table w) (terms_bytes table x bs)))
        ∙ same_append table classes false (terms_bytes table w []) (take (sizes table w) (terms_bytes table x bs)) r e in
        (and_true (same_terms classes w x) (part r bs) (sym (same_fronts w x left left' in_list inList' r bs g h n) ∙ z)).0
