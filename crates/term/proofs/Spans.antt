-- How far the count of trees goes: byte by byte, and over the bytes of a tree.
use Prim.Native.Nat.{ℕ, zero, suc, ◌+◌, ◌-◌, ◌<◌, ◌≤◌}
use native.Mathlib.Omega.{arith}
use native.Mathlib.Nat.{zero-add, suc-add}
use native.Mathlib.Numerals.{add-one}
use mathlib.Core.Path.{◌≡◌, refl, sym, ap, ◌∙◌}
use mathlib.Core.List.{List, [], ◌∷◌}
use mathlib.Core.Bool.{Bool, true, false, cond}
use lib.ListN.{length, get_or, drop, length-drop}
use lib.Seq.{drop-cons}
use lib.Dec.{eqb}
use borrow.Author.Tests.{eqb-true, eqb-false, lt-ltb, le-ltb, ne_eqb}
use Rattle.term.specs.Code.{byte_of}
use Rattle.term.specs.Table.{largest_table, list, is_list}
use Rattle.term.specs.Tree.{Tree, Trees, branch, empty, more, number, list_code, own, encode, encodes}
use Rattle.term.specs.Term.{Term, Terms, count, size, sizes, term_tree, term_trees, term_bytes, terms_bytes}
use Rattle.term.specs.Pattern.{Pattern, pattern_tree, pattern_bytes}
use Rattle.term.specs.Limits.{Written, Counted, Shape, below_of, Fits, FitAll}
use Rattle.term.specs.Extent.{kids_of, entry_of, span_of, extent_of}
use Rattle.term.specs.declared.Code.{Code}
use Rattle.term.specs.declared.Code.TheVariants.{Symbol, Name, Run, Complement}
use Rattle.term.proofs.Codes.{code_back}
use Rattle.term.proofs.Sizes.{number_terms, branch_length, more_length, term_size, terms_sizes}

module _ (table : List ℕ) where
  -- bytes

  pub entry_symbol : (s : ℕ) → s < length table → entry_of table s ≡ get_or table s 0
  unfolding entry_of
  entry_symbol s h = rw (lt-ltb s (length table) h)

  pub span_none : (s : List ℕ) → span_of table s false 0 ≡ 0
  unfolding span_of
  span_none [] = refl
  span_none (b ∷ s) = refl

  pub span_fixed : (b n : ℕ) (s : List ℕ) → (entry_of table b ≡ list → ⊥)
      → span_of table (b ∷ s) false (suc n) ≡ suc (span_of table s false (entry_of table b + n))
  unfolding span_of
  span_fixed b n s h = rw (ne_eqb (entry_of table b) list h)

  pub span_list : (b c n : ℕ) (s : List ℕ) → entry_of table b ≡ list
      → span_of table (b ∷ c ∷ s) false (suc n) ≡ suc (suc (span_of table s false (c + n)))
  unfolding span_of
  span_list b c n s h = rw h

  -- each tree takes a byte at least
  pub span_all : (s : List ℕ) (counting : Bool) (n : ℕ) → length s ≤ n → span_of table s counting n ≡ length s
  unfolding span_of
  span_all [] counting n h = refl
  span_all (b ∷ s) true n h = ap suc (span_all s false (b + n) (omega arith))
  span_all (b ∷ s) false zero h = absurd (omega arith)
  span_all (b ∷ s) false (suc n) h =
      ap suc
      (either (eqb (entry_of table b) list) (span_all s true n (omega arith)) (span_all s false (entry_of table b + n) (omega arith)))
    where
      either : (l : Bool) {x y z : ℕ} → x ≡ z → y ≡ z → cond l x y ≡ z
      either true e f = e
      either false e f = f

  pub span_within : (s : List ℕ) (counting : Bool) (n : ℕ) → span_of table s counting n ≤ length s
  unfolding span_of
  span_within [] counting n = omega arith
  span_within (b ∷ s) true n = omega (arith, span_within s false (b + n))
  span_within (b ∷ s) false zero = omega arith
  span_within (b ∷ s) false (suc n) =
      either (eqb (entry_of table b) list) (span_within s true n) (span_within s false (entry_of table b + n))
    where
      either : (l : Bool) {x y : ℕ} → x ≤ length s → y ≤ length s → suc (cond l x y) ≤ length (b ∷ s)
      either true f g = omega (arith, f)
      either false f g = omega (arith, g)

  -- the bytes of a tree at a place end within the list
  pub extent_within : (s : List ℕ) (at : ℕ) → at ≤ length s → at + extent_of table (drop at s) ≤ length s
  unfolding extent_of
  extent_within s at h = omega (arith, span_within (drop at s) false 1, length-drop at s)

  -- so many trees and then so many more
  pub span_split : (s : List ℕ) (counting : Bool) (a b : ℕ)
      → span_of table s counting (a + b) ≡ span_of table s counting a + span_of table (drop (span_of table s counting a) s) false b
  unfolding span_of
  span_split [] counting a b = refl
  span_split (x ∷ s) true a b =
      let e : x + (a + b) ≡ (x + a) + b = omega arith in
      ap suc (ap (span_of table s false) e ∙ span_split s false (x + a) b) ∙ sym (suc-add _ _)
  span_split (x ∷ s) false zero b = ap (span_of table (x ∷ s) false) (zero-add b) ∙ sym (zero-add _)
  span_split (x ∷ s) false (suc a) b =
      let e : entry_of table x + (a + b) ≡ (entry_of table x + a) + b = omega arith in
      ap (span_of table (x ∷ s) false) (suc-add a b)
      ∙ go (eqb (entry_of table x) list) (span_split s true a b) (ap (span_of table s false) e ∙ span_split s false (entry_of table x + a) b)
    where
      go : (l : Bool)
          → span_of table s true (a + b) ≡ span_of table s true a + span_of table (drop (span_of table s true a) s) false b
          → span_of table s false (entry_of table x + (a + b))
          ≡ span_of table s false (entry_of table x + a) + span_of table (drop (span_of table s false (entry_of table x + a)) s) false b
          → suc (cond l (span_of table s true (a + b)) (span_of table s false (entry_of table x + (a + b))))
          ≡ suc (cond l (span_of table s true a) (span_of table s false (entry_of table x + a)))
          + span_of table (drop (suc (cond l (span_of table s true a) (span_of table s false (entry_of table x + a)))) (x ∷ s)) false b
      go true f g = ap suc f ∙ sym (suc-add _ _)
      go false f g = ap suc g ∙ sym (suc-add _ _)

  -- one tree and then so many more
  pub span_next : (s : List ℕ) (n : ℕ) → span_of table s false (suc n) ≡ extent_of table s + span_of table (drop (extent_of table s) s) false n
  unfolding extent_of
  span_next s n =
      let e : suc n ≡ 1 + n = omega arith in
      ap (span_of table s false) e ∙ span_split s false 1 n

  pub one_span : (s : List ℕ) → span_of table s false 1 ≡ extent_of table s
  unfolding extent_of
  one_span s = refl

  pub extent_some : (s : List ℕ) → 0 < length s → 0 < extent_of table s
  unfolding extent_of span_of
  extent_some [] h = absurd (omega arith)
  extent_some (b ∷ s) h = omega arith

  -- the same at a place, where `end` is the earliest place at which the trees can be over

  pub extent_start : (s : List ℕ) (count end : ℕ) → end ≡ count → span_of table s false count ≡ 0 + span_of table (drop 0 s) false (end - 0)
  extent_start s count end e =
      let a : end - 0 ≡ count = omega (arith, e) in
      sym (zero-add _ ∙ ap (span_of table (drop 0 s) false) a)

  pub extent_over : (s : List ℕ) (at end : ℕ) → end ≤ at → at + span_of table (drop at s) false (end - at) ≡ at
  extent_over s at end h =
      let z : end - at ≡ 0 = omega arith in
      ap (λ (n : ℕ). at + span_of table (drop at s) false n) z ∙ omega (arith, span_none (drop at s))

  pub extent_all : (s : List ℕ) (at end : ℕ) → at ≤ length s → length s ≤ end → at + span_of table (drop at s) false (end - at) ≡ length s
  extent_all s at end h k = omega (arith, length-drop at s, span_all (drop at s) false (end - at) (omega (arith, length-drop at s)))

  pub extent_fixed : (s : List ℕ) (at end e : ℕ) → at < end → at < length s → e ≡ entry_of table (get_or s at 0) → (e ≡ list → ⊥)
      → at + span_of table (drop at s) false (end - at) ≡ at + 1 + span_of table (drop (at + 1) s) false (end + e - (at + 1))
  extent_fixed s at end e h k i d =
      let n : end - at ≡ suc (end - (at + 1)) = omega arith in
      let m : entry_of table (get_or s at 0) + (end - (at + 1)) ≡ end + e - (at + 1) = omega arith in
      let f : span_of table (drop at s) false (end - at) ≡ suc (span_of table (drop (at + 1) s) false (end + e - (at + 1))) =
      rw (n, add-one at, drop-cons s at 0 k, ← add-one at)
      (span_fixed (get_or s at 0) (end - (at + 1)) (drop (at + 1) s) (λ z. d (i ∙ z))
      ∙ ap (λ (x : ℕ). suc (span_of table (drop (at + 1) s) false x)) m) in
      omega arith

  pub extent_list : (s : List ℕ) (at end c : ℕ) → at < end → at + 1 < length s → entry_of table (get_or s at 0) ≡ list → c ≡ get_or s (at + 1) 0
      → at + span_of table (drop at s) false (end - at) ≡ at + 2 + span_of table (drop (at + 2) s) false (end + 1 + c - (at + 2))
  extent_list s at end c h k i j =
      let n : end - at ≡ suc (end - (at + 1)) = omega arith in
      let m : get_or s (at + 1) 0 + (end - (at + 1)) ≡ end + 1 + c - (at + 2) = omega arith in
      let two : suc (at + 1) ≡ at + 2 = omega arith in
      let a : drop at s ≡ get_or s at 0 ∷ get_or s (at + 1) 0 ∷ drop (at + 2) s =
      drop-cons s at 0 (omega arith) ∙ rw (← add-one at, drop-cons s (at + 1) 0 k, two) in
      let f : span_of table (drop at s) false (end - at) ≡ suc (suc (span_of table (drop (at + 2) s) false (end + 1 + c - (at + 2)))) =
      rw (n, a)
      (span_list (get_or s at 0) (get_or s (at + 1) 0) (end - (at + 1)) (drop (at + 2) s) i
      ∙ ap (λ (x : ℕ). suc (suc (span_of table (drop (at + 2) s) false x))) m) in
      omega arith

-- trees

-- what the entry of a code says of its number of children
abbrev pub Says : Bool → ℕ → ℕ → Type 0
Says true entry n = entry ≡ list
Says false entry n = (entry ≡ n) × (entry ≡ list → ⊥)

module _ (table : List ℕ) (small : length table ≤ largest_table) where
  entry_other : (c : Code) → Written false c → 200 ≤ byte_of c → entry_of table (byte_of c) ≡ kids_of c
  unfolding entry_of
  entry_other c w h = rw (le-ltb (byte_of c) (length table) (omega arith), code_back false c w)

  says_symbol : (s n : ℕ) (l : Bool) → is_list table s ≡ l → s < length table → Counted l n (get_or table s 0) → Says l (entry_of table s) n
  says_symbol s n true e h k = entry_symbol table s h ∙ eqb-true (get_or table s 0) list e
  says_symbol s n false e h k = (entry_symbol table s h ∙ sym k, λ z. eqb-false (get_or table s 0) list e (sym (entry_symbol table s h) ∙ z))

  pub entry_says : (records in_list : Bool) (c : Code) (n : ℕ) → Written records c → Shape table in_list c n → Says (list_code table c) (entry_of table (byte_of c)) n
  unfolding Written Shape list_code byte_of
  entry_says records in_list (Symbol s) n w h = says_symbol s n (is_list table s) refl h.0 h.1
  entry_says true in_list (Name v) n w h = absurd w
  entry_says false in_list (Name v) n w h = let z = entry_other (Name v) w (omega arith) in (omega arith, λ e. omega arith)
  entry_says true in_list (Run v) n w h = absurd w
  entry_says false in_list (Run v) n w h = let z = entry_other (Run v) w (omega arith) in (omega arith, λ e. omega arith)
  entry_says records in_list Complement n w h = let z = entry_other Complement tt (omega arith) in (omega arith, λ e. omega arith)
  entry_says records in_list Code.Refused n w h = absurd h

  span_own : (l : Bool) (b n k : ℕ) (bs : List ℕ) → Says l (entry_of table b) n
      → span_of table (b ∷ cond l (n ∷ bs) bs) false (suc k) ≡ cond l 2 1 + span_of table bs false (n + k)
  span_own true b n k bs h = span_list table b n k bs h ∙ omega arith
  span_own false b n k bs h =
      span_fixed table b k bs h.1 ∙ ap (λ (x : ℕ). suc (span_of table bs false (x + k))) h.0 ∙ omega arith

  mutual
    unfolding Fits encode own number

    pub span_tree : (records : Bool) (t : Tree) (left : ℕ) (in_list : Bool) (n : ℕ) (bs : List ℕ) → Fits table records t left in_list
        → span_of table (encode table t bs) false (suc n) ≡ length (encode table t []) + span_of table bs false n
    span_tree records (branch c ts) left in_list n bs h =
        span_own (list_code table c) (byte_of c) (number ts) n (encodes table ts bs) (entry_says records in_list c (number ts) h.1 h.2)
        ∙ omega (arith, span_trees records ts (below_of c left) (list_code table c) n bs h.3, branch_length table c ts)

    pub span_trees : (records : Bool) (ts : Trees) (left : ℕ) (in_list : Bool) (n : ℕ) (bs : List ℕ) → FitAll table records ts left in_list
        → span_of table (encodes table ts bs) false (number ts + n) ≡ length (encodes table ts []) + span_of table bs false n
    span_trees records empty left in_list n bs h =
        let z : 0 + n ≡ n = omega arith in
        ap (λ (k : ℕ). span_of table bs false k) z ∙ omega arith
    span_trees records (more t ts) left in_list n bs h =
        let z : suc (number ts) + n ≡ suc (number ts + n) = omega arith in
        ap (λ (k : ℕ). span_of table (encode table t (encodes table ts bs)) false k) z
        ∙ span_tree records t left in_list (number ts + n) (encodes table ts bs) h.0
        ∙ omega (arith, span_trees records ts left in_list n bs h.1, more_length table t ts)

  pub span_terms : (records : Bool) (ts : Terms) (left : ℕ) (in_list : Bool) (bs : List ℕ) → FitAll table records (term_trees ts) left in_list
      → span_of table (terms_bytes table ts bs) false (count ts) ≡ sizes table ts
  span_terms records ts left in_list bs h =
      let n : count ts ≡ number (term_trees ts) + 0 = omega (arith, number_terms ts) in
      ap (span_of table (terms_bytes table ts bs) false) n
      ∙ omega (arith, span_trees records (term_trees ts) left in_list 0 bs h, span_none table bs, terms_sizes table ts)

  pub extent_tree : (records : Bool) (t : Tree) (left : ℕ) (in_list : Bool) (bs : List ℕ) → Fits table records t left in_list
      → extent_of table (encode table t bs) ≡ length (encode table t [])
  unfolding extent_of
  extent_tree records t left in_list bs h = span_tree records t left in_list 0 bs h ∙ omega (arith, span_none table bs)

  pub extent_term : (records : Bool) (t : Term) (left : ℕ) (in_list : Bool) (bs : List ℕ) → Fits table records (term_tree t) left in_list
      → extent_of table (term_bytes table t bs) ≡ size table t
  extent_term records t left in_list bs h = extent_tree records (term_tree t) left in_list bs h ∙ term_size table t

  pub extent_pattern : (q : Pattern) (left : ℕ) (in_list : Bool) (bs : List ℕ) → Fits table false (pattern_tree q) left in_list
      → extent_of table (pattern_bytes table q bs) ≡ length (pattern_bytes table q [])
  extent_pattern q left in_list bs h = extent_tree false (pattern_tree q) left in_list bs h
