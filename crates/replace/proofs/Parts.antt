-- Terms that stand in a part of a record: how many, and how deep they nest.
use Prim.Native.Nat.{ℕ, ◌+◌, ◌-◌, ◌≤◌, ◌<◌}
use native.Mathlib.Omega.{arith}
use mathlib.Core.Path.{◌≡◌, refl, sym, ap, ap₂, subst, ◌∙◌}
use mathlib.Core.List.{List, [], ◌∷◌}
use mathlib.Core.Bool.{Bool, true, false, cond, ◌&&◌}
use lib.ListN.{length, get_or, take, drop, length-drop}
use lib.Dec.{eqb, ltb}
use borrow.Author.Tests.{lt-ltb}
use Rattle.term.specs.Table.{is_list}
use Rattle.term.specs.Code.{byte_of}
use Rattle.term.specs.Tree.{branch, number, list_code, own, encode, encodes}
use Rattle.term.specs.Term.{Term, Terms, node, nil, ◌::◌, single, size, sizes, term_tree, term_trees, terms_bytes}
use Rattle.term.specs.Limits.{Shape, below_of, Fits, FitAll}
use Rattle.term.specs.Extent.{extent_of}
use Rattle.term.specs.declared.Code.TheVariants.{Symbol}
use Rattle.term.proofs.Spans.{entry_symbol, extent_term}
use Rattle.reader.proofs.Nodes.{own_size, own_past}
use Rattle.term.proofs.SameParts.{branch_some}
use Rattle.term.proofs.Joins.{sizes_single}
use Rattle.term.proofs.Sizes.{past_term, branch_length, terms_sizes, take_terms}
use Rattle.replace.specs.Growth.{nests, nest_all}
use Rattle.replace.specs.Filling.{own_bytes, Run, TellsNesting, ChildrenOf}
use Rattle.replace.proofs.Forests.{part_rest}
use Rattle.replace.proofs.Limits.{and_both}

-- The children of a tree

empty_list : (l : List ℕ) → length l ≡ 0 → l ≡ []
empty_list [] h = refl
empty_list (x ∷ l) h = absurd (omega arith)

two_one : (b : Bool) → 0 < cond b 2 1
two_one true = omega arith
two_one false = omega arith

module _ (table t r : List ℕ) where
  pub children_short : length t < 2 → r ≡ [] → ChildrenOf table t r
  unfolding ChildrenOf list_code
  children_short h e x ts l i =
      let n = branch_length table (Symbol x) ts in
      let z : length (encodes table ts []) ≡ 0 = omega (arith, ap length i, n, two_one (is_list table x)) in
      e ∙ sym (empty_list (encodes table ts []) z)

  pub children_long : (own : ℕ) → own ≡ own_bytes table (get_or t 0 0) → r ≡ take (length t - own) (drop own t) → ChildrenOf table t r
  unfolding ChildrenOf encode own byte_of list_code
  children_long n o e x ts l i =
      let b : get_or t 0 0 ≡ x = ap (λ (y : List ℕ). get_or y 0 0) i in
      let w : n ≡ own_size table (Symbol x) = o ∙ ap (own_bytes table) b ∙ ap (λ (k : ℕ). cond (eqb k 255) 2 1) (entry_symbol table x l) in
      e ∙ part_rest t n ∙ ap₂ drop w i ∙ own_past table (Symbol x) (number ts) (encodes table ts [])

-- Terms still to come of a part

pub record Left (table s : List ℕ) (at : ℕ) (rs : Terms) : Type 0 where
  pub small : length table ≤ 200
  pub left : ℕ
  pub in_list : Bool
  pub stands : drop at s ≡ terms_bytes table rs []
  pub fits : FitAll table true (term_trees rs) left in_list

pub whole_left : (table s : List ℕ) (ts : Terms) → Run table s ts → Left table s 0 ts
whole_left table s ts r = record { small = r.small; left = r.left; in_list = r.in_list; stands = r.bytes; fits = r.fits }

module _ (table s : List ℕ) (at : ℕ) where
  pub none_behind : (rs : Terms) → length s ≤ at → Left table s at rs → rs ≡ nil
  unfolding encode
  none_behind nil l h = refl
  none_behind (t :: rs) l h =
      absurd (omega (arith, length-drop at s, ap length h.stands, branch_some table (term_tree t) (terms_bytes table rs [])))

  -- the first of them
  pub record First (n : ℕ) (rs : Terms) : Type 0 where
    pub sym_of : ℕ
    pub kids : Terms
    pub others : Terms
    pub is : rs ≡ node sym_of kids :: others
    pub in_table : sym_of < length table
    pub tree : take n (drop at s) ≡ encode table (branch (Symbol sym_of) (term_trees kids)) []
    pub inside : Run table (terms_bytes table kids []) kids
    pub onward : Left table s (at + n) others

  pub first_left : (n : ℕ) (rs : Terms) → at < length s → n ≡ extent_of table (take (length s - at) (drop at s)) → Left table s at rs → First n rs
  unfolding encode Fits Shape
  first_left n nil l e h = absurd (omega (arith, length-drop at s, ap length h.stands))
  first_left n (node x us :: rs) l e h =
      let z : n ≡ size table (node x us) =
      e ∙ ap (extent_of table) (part_rest s at ∙ h.stands) ∙ extent_term table h.small true (node x us) h.left h.in_list (terms_bytes table rs []) h.fits.0 in
      record {
        sym_of = x;
        kids = us;
        others = rs;
        is = refl;
        in_table = h.fits.0.2.0;
        tree = ap₂ take (z ∙ sym (sizes_single table (node x us))) h.stands ∙ take_terms table (single (node x us)) (terms_bytes table rs []);
        inside = record { small = h.small; left = below_of (Symbol x) h.left; in_list = list_code table (Symbol x); bytes = refl; fits = h.fits.0.3 };
        onward = record {
          small = h.small;
          left = h.left;
          in_list = h.in_list;
          stands = ap (λ (k : ℕ). drop (at + k) s) z ∙ past_term table s at (node x us) (terms_bytes table rs []) h.stands;
          fits = h.fits.1;
        };
      }

-- How deep

mutual
  unfolding size

  short_nests : (table : List ℕ) (left : ℕ) (t : Term) → size table t ≤ left → nests left t ≡ true
  short_nests table left (node s ts) h =
      and_both (ltb 0 left) (nest_all (left - 1) ts) (lt-ltb 0 left (omega (arith, two_one (is_list table s)))) (short_nest_all table (left - 1) ts (omega (arith, two_one (is_list table s))))

  pub short_nest_all : (table : List ℕ) (left : ℕ) (ts : Terms) → sizes table ts ≤ left → nest_all left ts ≡ true
  short_nest_all table left nil h = refl
  short_nest_all table left (t :: ts) h = and_both (nests left t) (nest_all left ts) (short_nests table left t (omega arith)) (short_nest_all table left ts (omega arith))

module _ (table s : List ℕ) (left : ℕ) where
  pub short_tells : length s ≤ left → TellsNesting table s left true
  unfolding TellsNesting
  short_tells h ts r = sym (short_nest_all table left ts (omega (arith, terms_sizes table ts, ap length r.bytes)))

  pub deep_tells : (length s ≤ left → ⊥) → left ≡ 0 → TellsNesting table s left false
  unfolding TellsNesting encode
  deep_tells h e ts r = go ts r.bytes
    where
      first : (t : Term) (us : Terms) → false ≡ (nests left t && nest_all left us)
      first (node x ks) us = rw e

      go : (ts : Terms) → s ≡ terms_bytes table ts [] → false ≡ nest_all left ts
      go nil b = absurd (h (omega (arith, ap length b)))
      go (t :: us) b = first t us

  abbrev pub Nesting : ℕ → Type 0
  Nesting at = (at ≤ length s) × ((ts : Terms) → Run table s ts → (rs : Terms) × Left table s at rs × (nest_all left ts ≡ nest_all left rs))

  pub nesting_first : Nesting 0
  nesting_first = (omega arith, λ ts r. (ts, whole_left table s ts r, refl))

  module _ (at n : ℕ) (tree inside : List ℕ) (b : Bool) (some : 0 < left) (l : at < length s) (e : n ≡ extent_of table (take (length s - at) (drop at s)))
      (is : tree ≡ take (at + n - at) (drop at s)) (c : ChildrenOf table tree inside) (tells : TellsNesting table inside (left - 1) b) (m : Nesting at) where
    same_nest : (rs : Terms) (f : First table s at n rs) → nest_all left rs ≡ (b && nest_all left f.others)
    unfolding ChildrenOf TellsNesting
    same_nest rs f =
        let z : at + n - at ≡ n = omega arith in
        let i : inside ≡ terms_bytes table f.kids [] = c f.sym_of (term_trees f.kids) f.in_table (is ∙ ap (λ (k : ℕ). take k (drop at s)) z ∙ f.tree) in
        let g : b ≡ nest_all (left - 1) f.kids = tells f.kids (subst (λ (y : List ℕ). Run table y f.kids) (sym i) f.inside) in
        ap (nest_all left) f.is
        ∙ ap₂ (λ (x y : Bool). (x && y) && nest_all left f.others) (lt-ltb 0 left some) (sym g)

    pub nesting_next : b ≡ true → at + n ≤ length s → Nesting (at + n)
    nesting_next h w = (
      w,
      λ ts r.
          let g = m.1 ts r in
          let f = first_left table s at n g.0 l e g.1 in
          (f.others, f.onward, g.2 ∙ same_nest g.0 f ∙ ap (λ (x : Bool). x && nest_all left f.others) h),
    )

    pub nesting_stops : b ≡ false → TellsNesting table s left false
    unfolding TellsNesting
    nesting_stops h ts r =
        let g = m.1 ts r in
        let f = first_left table s at n g.0 l e g.1 in
        sym (g.2 ∙ same_nest g.0 f ∙ ap (λ (x : Bool). x && nest_all left f.others) h)

  pub nesting_last : (at : ℕ) → length s ≤ at → Nesting at → TellsNesting table s left true
  unfolding TellsNesting
  nesting_last at l m ts r = let g = m.1 ts r in sym (g.2 ∙ ap (nest_all left) (none_behind table s at g.0 l g.1))

-- no bytes of a part
pub no_part : (t : List ℕ) → take (0 - 0) (drop 0 t) ≡ []
no_part [] = refl
no_part (x ∷ t) = refl
