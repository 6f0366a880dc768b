-- Terms and patterns as trees and back.
use Prim.Native.Nat.{ℕ}
use native.Mathlib.Omega.{arith}
use mathlib.Core.Path.{◌≡◌, refl, sym, ap, ap₂, ◌∙◌}
use mathlib.Core.List.{List}
use mathlib.Core.Bool.{Bool, true, false, true≢false}
use Rattle.term.specs.Code.{byte_of}
use Rattle.term.specs.Tree.{Tree, Trees, branch, empty, more, number, list_code}
use Rattle.term.specs.Term.{Term, Terms, node, nil, ◌::◌, term_tree, term_trees, term_of, terms_of}
use Rattle.term.specs.Pattern.{Pattern, Children, name, symbol, complement, end, plain, run, pattern_tree, child_trees, pattern_of, children_of, first, child}
use Rattle.term.specs.Limits.{Written, Shape, below_of, Fits, FitAll}
use Rattle.term.specs.declared.Code.{Code}
use Rattle.term.specs.declared.Code.TheVariants.{Symbol, Name, Run, Complement}

mutual
  unfolding term_of byte_of

  pub term_back : (t : Term) → term_of (term_tree t) ≡ t
  term_back (node s ts) = ap (node s) (terms_back ts)

  pub terms_back : (ts : Terms) → terms_of (term_trees ts) ≡ ts
  terms_back nil = refl
  terms_back (t :: ts) = ap₂ ◌::◌ (term_back t) (terms_back ts)

child_plain : (q p : Pattern) (qs : Children) → child (pattern_tree q) p qs ≡ plain p qs
child_plain (name v) p qs = refl
child_plain (symbol s rs) p qs = refl
child_plain (complement q) p qs = refl

mutual
  unfolding pattern_of

  pub pattern_back : (q : Pattern) → pattern_of (pattern_tree q) ≡ q
  pattern_back (name v) = refl
  pattern_back (symbol s qs) = ap (symbol s) (children_back qs)
  pattern_back (complement q) = ap complement (ap first (child_plain q (pattern_of (pattern_tree q)) end) ∙ pattern_back q)

  children_back : (qs : Children) → children_of (child_trees qs) ≡ qs
  children_back end = refl
  children_back (plain q qs) = child_plain q (pattern_of (pattern_tree q)) (children_of (child_trees qs)) ∙ ap₂ plain (pattern_back q) (children_back qs)
  children_back (run v qs) = ap (run v) (children_back qs)

-- a tree within the limits is that of the term, or the pattern, that it is read as
mutual
  unfolding Fits Written term_of byte_of

  pub term_tree_holds : (table : List ℕ) (t : Tree) (left : ℕ) (in_list : Bool) → Fits table true t left in_list → term_tree (term_of t) ≡ t
  term_tree_holds table (branch (Symbol s) ts) left in_list f = ap (branch (Symbol s)) (term_trees_holds table ts (below_of (Symbol s) left) (list_code table (Symbol s)) f.3)
  term_tree_holds table (branch (Name v) ts) left in_list f = absurd f.1
  term_tree_holds table (branch (Run v) ts) left in_list f = absurd f.1
  term_tree_holds table (branch Complement ts) left in_list f = absurd f.1
  term_tree_holds table (branch Code.Refused ts) left in_list f = absurd f.1

  term_trees_holds : (table : List ℕ) (ts : Trees) (left : ℕ) (in_list : Bool) → FitAll table true ts left in_list → term_trees (terms_of ts) ≡ ts
  term_trees_holds table empty left in_list f = refl
  term_trees_holds table (more t ts) left in_list f = ap₂ more (term_tree_holds table t left in_list f.0) (term_trees_holds table ts left in_list f.1)

no_trees : (ts : Trees) → number ts ≡ 0 → empty ≡ ts
unfolding number
no_trees empty e = refl
no_trees (more t ts) e = absurd (omega arith)

-- outside a list no run name stands
outside_list : (table : List ℕ) (t : Tree) (left : ℕ) → Fits table false t left false → (p : Pattern) (qs : Children) → child t p qs ≡ plain p qs
unfolding Fits Shape
outside_list table (branch (Symbol s) ts) left f p qs = refl
outside_list table (branch (Name v) ts) left f p qs = refl
outside_list table (branch (Run v) ts) left f p qs = absurd (true≢false (sym f.2.1))
outside_list table (branch Complement ts) left f p qs = refl
outside_list table (branch Code.Refused ts) left f p qs = refl

inside : (table : List ℕ) (ts : Trees) (left : ℕ) → number ts ≡ 1 → FitAll table false ts left false → child_trees (children_of ts) ≡ ts
    → more (pattern_tree (first (children_of ts))) empty ≡ ts
unfolding number pattern_of Fits
inside table empty left n f h = absurd (omega arith)
inside table (more t (more x ts)) left n f h = absurd (omega arith)
inside table (more t empty) left n f h =
    let e : child t (pattern_of t) end ≡ plain (pattern_of t) end = outside_list table t left f.0 (pattern_of t) end in
    ap (λ (qs : Children). more (pattern_tree (first qs)) empty) e ∙ ap child_trees (sym e) ∙ h

mutual
  unfolding Fits Written Shape list_code pattern_of

  child_tree : (table : List ℕ) (t : Tree) (left : ℕ) (in_list : Bool) → Fits table false t left in_list → (qs : Children)
      → child_trees (child t (pattern_of t) qs) ≡ more t (child_trees qs)
  child_tree table (branch (Symbol s) ts) left in_list f qs =
      ap (λ (us : Trees). more (branch (Symbol s) us) (child_trees qs)) (child_trees_holds table ts (below_of (Symbol s) left) (list_code table (Symbol s)) f.3)
  child_tree table (branch (Name v) ts) left in_list f qs = ap (λ (us : Trees). more (branch (Name v) us) (child_trees qs)) (no_trees ts f.2)
  child_tree table (branch (Run v) ts) left in_list f qs = ap (λ (us : Trees). more (branch (Run v) us) (child_trees qs)) (no_trees ts f.2.0)
  child_tree table (branch Complement ts) left in_list f qs =
      ap (λ (us : Trees). more (branch Complement us) (child_trees qs))
      (inside table ts (below_of Complement left) f.2 f.3 (child_trees_holds table ts (below_of Complement left) (list_code table Complement) f.3))
  child_tree table (branch Code.Refused ts) left in_list f qs = absurd f.1

  child_trees_holds : (table : List ℕ) (ts : Trees) (left : ℕ) (in_list : Bool) → FitAll table false ts left in_list → child_trees (children_of ts) ≡ ts
  child_trees_holds table empty left in_list f = refl
  child_trees_holds table (more t ts) left in_list f = child_tree table t left in_list f.0 (children_of ts) ∙ ap (more t) (child_trees_holds table ts left in_list f.1)

pub pattern_tree_holds : (table : List ℕ) (t : Tree) (left : ℕ) → Fits table false t left false → pattern_tree (pattern_of t) ≡ t
pattern_tree_holds table t left f =
    let e : more (pattern_tree (pattern_of t)) empty ≡ more t empty =
    ap child_trees (sym (outside_list table t left f (pattern_of t) end)) ∙ child_tree table t left false f end in
    cc
