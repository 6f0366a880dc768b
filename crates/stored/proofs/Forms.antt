-- The bytes of the stored form: how they join, how many there are, and what the old form's bytes come to.
use Prim.Native.Nat.{ℕ, ◌+◌, ◌*◌, ◌≤◌}
use native.Mathlib.Omega.{arith}
use mathlib.Core.Path.{◌≡◌, refl, ap, ◌∙◌}
use mathlib.Core.List.{List, [], ◌∷◌, ◌++◌}
use mathlib.Core.Bool.{Bool, true, false, cond}
use lib.ListN.{length, length-append}
use Rattle.term.specs.Code.{byte_of}
use Rattle.term.specs.Table.{is_list}
use Rattle.term.specs.Tree.{Tree, Trees, branch, empty, more, number, list_code, own, encode, encodes}
use Rattle.term.specs.Term.{Term, Terms, node, nil, ◌::◌, term_tree, term_trees}
use Rattle.term.specs.declared.Code.{Code}
use Rattle.term.specs.declared.Code.TheVariants.{Symbol}
use Rattle.term.proofs.Sizes.{branch_length as old_branch_length, more_length as old_more_length}
use Rattle.sheet.specs.Word.{word}
use Rattle.stored.specs.Form.{tell, store, stores}
use Rattle.stored.specs.Passes.{stretched, stripped, stored_size}

-- a node's own bytes

node_append : (l : Bool) (b k n : ℕ) (xs ys zs : List ℕ) → xs ≡ ys ++ zs
    → b ∷ cond l (k ∷ tell l n xs) (tell l n xs) ≡ (b ∷ cond l (k ∷ tell l n ys) (tell l n ys)) ++ zs
unfolding tell word
node_append true b k n xs ys zs h = ap (λ (x : List ℕ). b ∷ k ∷ word n ++ x) h
node_append false b k n xs ys zs h = ap (λ (x : List ℕ). b ∷ x) h

node_length : (l : Bool) (b k n : ℕ) (bs : List ℕ) → length (b ∷ cond l (k ∷ tell l n bs) (tell l n bs)) ≡ stored_size l + length bs
unfolding tell word
node_length true b k n bs = omega arith
node_length false b k n bs = omega arith

at_most_twice : (l : Bool) (a b : ℕ) → a ≤ 2 * b → stored_size l + a ≤ 2 * (cond l 2 1 + b)
at_most_twice true a b h = omega arith
at_most_twice false a b h = omega arith

module _ (table : List ℕ) where
  mutual
    unfolding store own

    pub store_append : (t : Tree) (bs cs : List ℕ) → store table t (bs ++ cs) ≡ store table t bs ++ cs
    store_append (branch c ts) bs cs =
        node_append (list_code table c) (byte_of c) (number ts) (length (stores table ts [])) (stores table ts (bs ++ cs)) (stores table ts bs) cs
        (stores_append ts bs cs)

    pub stores_append : (ts : Trees) (bs cs : List ℕ) → stores table ts (bs ++ cs) ≡ stores table ts bs ++ cs
    stores_append empty bs cs = refl
    stores_append (more t ts) bs cs = ap (store table t) (stores_append ts bs cs) ∙ store_append t (stores table ts bs) cs

  pub store_length : (t : Tree) (bs : List ℕ) → length (store table t bs) ≡ length (store table t []) + length bs
  store_length t bs = ap length (store_append t [] bs) ∙ length-append (store table t []) bs

  pub branch_length : (c : Code) (ts : Trees) → length (store table (branch c ts) []) ≡ stored_size (list_code table c) + length (stores table ts [])
  unfolding store own
  branch_length c ts = node_length (list_code table c) (byte_of c) (number ts) (length (stores table ts [])) (stores table ts [])

  pub more_length : (t : Tree) (ts : Trees) → length (stores table (more t ts) []) ≡ length (store table t []) + length (stores table ts [])
  unfolding store
  more_length t ts = store_length t (stores table ts [])

  -- a list takes two bytes more, for the two that it has at least: so at most twice as many in all
  mutual
    unfolding store encode

    pub store_twice : (t : Tree) → length (store table t []) ≤ 2 * length (encode table t [])
    store_twice (branch c ts) =
        rw (branch_length c ts, old_branch_length table c ts)
        (at_most_twice (list_code table c) (length (stores table ts [])) (length (encodes table ts [])) (stores_twice ts))

    stores_twice : (ts : Trees) → length (stores table ts []) ≤ 2 * length (encodes table ts [])
    stores_twice empty = omega arith
    stores_twice (more t ts) = rw (more_length t ts, old_more_length table t ts) (omega (arith, store_twice t, stores_twice ts))

  -- The passes over the bytes of a term

  stretched_own : (l : Bool) (b k : ℕ) (bs : List ℕ) → is_list table b ≡ l
      → stretched table (b ∷ cond l (k ∷ bs) bs) false ≡ stored_size l + stretched table bs false
  unfolding stretched
  stretched_own true b k bs e = rw e (omega arith)
  stretched_own false b k bs e = rw e (omega arith)

  mutual
    unfolding encode own list_code byte_of store

    -- the length of the stored form
    pub stretched_term : (t : Term) (bs : List ℕ)
        → stretched table (encode table (term_tree t) bs) false ≡ length (store table (term_tree t) []) + stretched table bs false
    stretched_term (node s ts) bs =
        stretched_own (is_list table s) s (number (term_trees ts)) (encodes table (term_trees ts) bs) refl
        ∙ omega (arith, branch_length (Symbol s) (term_trees ts), stretched_terms ts bs)

    stretched_terms : (ts : Terms) (bs : List ℕ)
        → stretched table (encodes table (term_trees ts) bs) false ≡ length (stores table (term_trees ts) []) + stretched table bs false
    stretched_terms nil bs = omega arith
    stretched_terms (t :: ts) bs =
        stretched_term t (encodes table (term_trees ts) bs) ∙ omega (arith, more_length (term_tree t) (term_trees ts), stretched_terms ts bs)

  stripped_own : (l : Bool) (b k n : ℕ) (bs : List ℕ) → is_list table b ≡ l
      → stripped table (b ∷ cond l (k ∷ tell l n bs) (tell l n bs)) 0 ≡ b ∷ cond l (k ∷ stripped table bs 0) (stripped table bs 0)
  unfolding stripped tell word
  stripped_own true b k n bs e = rw e
  stripped_own false b k n bs e = rw e

  mutual
    unfolding encode own list_code byte_of store

    -- the old form
    pub stripped_term : (t : Term) (bs : List ℕ)
        → stripped table (store table (term_tree t) bs) 0 ≡ encode table (term_tree t) (stripped table bs 0)
    stripped_term (node s ts) bs =
        stripped_own (is_list table s) s (number (term_trees ts)) (length (stores table (term_trees ts) [])) (stores table (term_trees ts) bs) refl
        ∙ ap (λ (x : List ℕ). s ∷ cond (is_list table s) (number (term_trees ts) ∷ x) x) (stripped_terms ts bs)

    stripped_terms : (ts : Terms) (bs : List ℕ)
        → stripped table (stores table (term_trees ts) bs) 0 ≡ encodes table (term_trees ts) (stripped table bs 0)
    stripped_terms nil bs = refl
    stripped_terms (t :: ts) bs = stripped_term t (stores table (term_trees ts) bs) ∙ ap (encode table (term_tree t)) (stripped_terms ts bs)
