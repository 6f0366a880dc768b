-- What a term, or a pattern, is spliced to is a term, or a pattern.
use Prim.Native.Nat.{ℕ}
use mathlib.Core.Path.{◌≡◌, refl, sym, ap, ap₂, ◌∙◌}
use mathlib.Core.List.{List}
use mathlib.Core.Bool.{Bool, true, false, cond}
use Rattle.term.specs.Tree.{Tree, Trees, branch, empty, more}
use Rattle.term.specs.Term.{Term, Terms, node, nil, ◌::◌, ◌⧺◌, term_tree, term_trees, term_of}
use Rattle.term.specs.Pattern.{Pattern, Children, name, symbol, complement, end, plain, run, pattern_tree, child_trees, pattern_of}
use Rattle.term.specs.declared.Code.TheVariants.{Symbol, Name, Run, Complement}
use Rattle.term.proofs.Trees.{term_back, pattern_back}
use Rattle.splice.specs.Splicing.{◌⊕◌, list_class, same_list, placed, splice, splice_all, splice_term, splice_pattern}
use Rattle.splice.proofs.Converting.{placed_none}
use Rattle.std.specs.Prelude.{Option, Some, None}

-- sequences joined

terms_join : (us ts : Terms) → term_trees (us ⧺ ts) ≡ term_trees us ⊕ term_trees ts
unfolding ◌⊕◌
terms_join nil ts = refl
terms_join (u :: us) ts = ap (more (term_tree u)) (terms_join us ts)

children_join : (ps qs : Children) → (rs : Children) × (child_trees ps ⊕ child_trees qs ≡ child_trees rs)
unfolding ◌⊕◌
children_join end qs = (qs, refl)
children_join (plain p ps) qs = let r = children_join ps qs in (plain p r.0, ap (more (pattern_tree p)) r.1)
children_join (run v ps) qs = let r = children_join ps qs in (run v r.0, ap (more (branch (Run v) empty)) r.1)

module _ (classes table : List ℕ) where
  term_placed : (a : Option ℕ) (t : Term) (ts : Terms) → (us : Terms) × (placed classes table a (term_tree t) (term_trees ts) ≡ term_trees us)
  term_placed a (node s us) ts = go (same_list a (list_class classes table (Symbol s)))
    where
      go : (b : Bool) → (vs : Terms) × (cond b (term_trees us ⊕ term_trees ts) (more (term_tree (node s us)) (term_trees ts)) ≡ term_trees vs)
      go true = (us ⧺ ts, sym (terms_join us ts))
      go false = (node s us :: ts, refl)

  mutual
    unfolding splice

    term_spliced : (t : Term) → (u : Term) × (splice classes table (term_tree t) ≡ term_tree u)
    term_spliced (node s ts) = let r = terms_spliced (list_class classes table (Symbol s)) ts in (node s r.0, ap (branch (Symbol s)) r.1)

    terms_spliced : (a : Option ℕ) (ts : Terms) → (us : Terms) × (splice_all classes table a (term_trees ts) ≡ term_trees us)
    terms_spliced a nil = (nil, refl)
    terms_spliced a (t :: ts) =
        let r = term_spliced t in
        let q = terms_spliced a ts in
        let p = term_placed a r.0 q.0 in
        (p.0, ap₂ (placed classes table a) r.1 q.1 ∙ p.1)

  pub splice_term_holds : (t : Term) → term_tree (splice_term classes table t) ≡ splice classes table (term_tree t)
  splice_term_holds t = let r = term_spliced t in ap (λ (x : Tree). term_tree (term_of x)) r.1 ∙ ap term_tree (term_back r.0) ∙ sym r.1

  pattern_placed : (a : Option ℕ) (q : Pattern) (qs : Children) → (ps : Children) × (placed classes table a (pattern_tree q) (child_trees qs) ≡ child_trees ps)
  pattern_placed a (name v) qs = go (same_list a (list_class classes table (Name v)))
    where
      go : (b : Bool) → (vs : Children) × (cond b (empty ⊕ child_trees qs) (more (branch (Name v) empty) (child_trees qs)) ≡ child_trees vs)
      go true = children_join end qs
      go false = (plain (name v) qs, refl)
  pattern_placed a (symbol s us) qs = go (same_list a (list_class classes table (Symbol s)))
    where
      go : (b : Bool) → (vs : Children) × (cond b (child_trees us ⊕ child_trees qs) (more (pattern_tree (symbol s us)) (child_trees qs)) ≡ child_trees vs)
      go true = children_join us qs
      go false = (plain (symbol s us) qs, refl)
  pattern_placed a (complement q) qs = go (same_list a (list_class classes table Complement))
    where
      go : (b : Bool)
          → (vs : Children) × (cond b (more (pattern_tree q) empty ⊕ child_trees qs) (more (pattern_tree (complement q)) (child_trees qs)) ≡ child_trees vs)
      go true = children_join (plain q end) qs
      go false = (plain (complement q) qs, refl)

  run_placed : (a : Option ℕ) (v : ℕ) (ts : Trees) → placed classes table a (branch (Run v) empty) ts ≡ more (branch (Run v) empty) ts
  unfolding list_class
  run_placed None v ts = refl
  run_placed (Some k) v ts = refl

  mutual
    unfolding splice list_class

    pattern_spliced : (q : Pattern) → (p : Pattern) × (splice classes table (pattern_tree q) ≡ pattern_tree p)
    pattern_spliced (name v) = (name v, refl)
    pattern_spliced (symbol s qs) = let r = children_spliced (list_class classes table (Symbol s)) qs in (symbol s r.0, ap (branch (Symbol s)) r.1)
    pattern_spliced (complement q) =
        let r = pattern_spliced q in
        (complement r.0, ap (branch Complement) (placed_none classes table (splice classes table (pattern_tree q)) empty ∙ ap (λ (x : Tree). more x empty) r.1))

    children_spliced : (a : Option ℕ) (qs : Children) → (ps : Children) × (splice_all classes table a (child_trees qs) ≡ child_trees ps)
    children_spliced a end = (end, refl)
    children_spliced a (plain q qs) =
        let r = pattern_spliced q in
        let s = children_spliced a qs in
        let p = pattern_placed a r.0 s.0 in
        (p.0, ap₂ (placed classes table a) r.1 s.1 ∙ p.1)
    children_spliced a (run v qs) =
        let s = children_spliced a qs in
        (run v s.0, run_placed a v (splice_all classes table a (child_trees qs)) ∙ ap (more (branch (Run v) empty)) s.1)

  pub splice_pattern_holds : (q : Pattern) → pattern_tree (splice_pattern classes table q) ≡ splice classes table (pattern_tree q)
  splice_pattern_holds q =
      let r = pattern_spliced q in ap (λ (x : Tree). pattern_tree (pattern_of x)) r.1 ∙ ap pattern_tree (pattern_back r.0) ∙ sym r.1
