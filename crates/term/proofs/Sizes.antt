-- The bytes of trees, terms and patterns: how they join, how many there are, and what lies past them.
use Prim.Native.Nat.{ℕ, zero, suc, ◌+◌}
use native.Mathlib.Omega.{arith}
use mathlib.Core.Path.{◌≡◌, refl, ap, ◌∙◌}
use mathlib.Core.List.{List, [], ◌∷◌, ◌++◌}
use mathlib.Core.Bool.{Bool, true, false, cond}
use lib.ListN.{length, take, drop, length-append}
use lib.Seq.{take_at}
use Rattle.term.proofs.Lists.{past_front}
use Rattle.term.specs.Code.{byte_of}
use Rattle.term.specs.Table.{is_list, width}
use Rattle.term.specs.Tree.{Tree, Trees, branch, empty, more, number, list_code, own, encode, encodes}
use Rattle.term.specs.Term.{Term, Terms, node, nil, ◌::◌, count, size, sizes, term_tree, term_trees, term_bytes, terms_bytes}
use Rattle.term.specs.Pattern.{Children, symbol, end, plain, run, child_trees, pattern_bytes}
use Rattle.term.specs.declared.Code.{Code}
use Rattle.term.specs.declared.Code.TheVariants.{Symbol}

-- numbers of children

pub number_terms : (ts : Terms) → number (term_trees ts) ≡ count ts
unfolding number
number_terms nil = refl
number_terms (t :: ts) = ap suc (number_terms ts)

abbrev pub arity : Children → ℕ
arity end = zero
arity (plain q qs) = suc (arity qs)
arity (run v qs) = suc (arity qs)

pub number_children : (qs : Children) → number (child_trees qs) ≡ arity qs
unfolding number
number_children end = refl
number_children (plain q qs) = ap suc (number_children qs)
number_children (run v qs) = ap suc (number_children qs)

-- the bytes of child patterns, in front of others
abbrev pub children_bytes : List ℕ → Children → List ℕ → List ℕ
children_bytes table qs bs = encodes table (child_trees qs) bs

-- a front of some bytes

-- a node's own bytes

own_append : (l : Bool) (b n : ℕ) (xs ys zs : List ℕ) → xs ≡ ys ++ zs → b ∷ cond l (n ∷ xs) xs ≡ (b ∷ cond l (n ∷ ys) ys) ++ zs
own_append true b n xs ys zs h = ap (λ (x : List ℕ). b ∷ n ∷ x) h
own_append false b n xs ys zs h = ap (λ (x : List ℕ). b ∷ x) h

pub own_length : (l : Bool) (b n : ℕ) (bs : List ℕ) → length (b ∷ cond l (n ∷ bs) bs) ≡ cond l 2 1 + length bs
own_length true b n bs = omega arith
own_length false b n bs = omega arith

module _ (table : List ℕ) where
  -- trees

  mutual
    unfolding encode own

    pub encode_append : (t : Tree) (bs cs : List ℕ) → encode table t (bs ++ cs) ≡ encode table t bs ++ cs
    encode_append (branch c ts) bs cs =
        own_append (list_code table c) (byte_of c) (number ts) (encodes table ts (bs ++ cs)) (encodes table ts bs) cs (encodes_append ts bs cs)

    pub encodes_append : (ts : Trees) (bs cs : List ℕ) → encodes table ts (bs ++ cs) ≡ encodes table ts bs ++ cs
    encodes_append empty bs cs = refl
    encodes_append (more t ts) bs cs = ap (encode table t) (encodes_append ts bs cs) ∙ encode_append t (encodes table ts bs) cs

  pub encode_length : (t : Tree) (bs : List ℕ) → length (encode table t bs) ≡ length (encode table t []) + length bs
  encode_length t bs = ap length (encode_append t [] bs) ∙ length-append (encode table t []) bs

  pub encodes_length : (ts : Trees) (bs : List ℕ) → length (encodes table ts bs) ≡ length (encodes table ts []) + length bs
  encodes_length ts bs = ap length (encodes_append ts [] bs) ∙ length-append (encodes table ts []) bs

  pub branch_length : (c : Code) (ts : Trees) → length (encode table (branch c ts) []) ≡ cond (list_code table c) 2 1 + length (encodes table ts [])
  unfolding encode own
  branch_length c ts = own_length (list_code table c) (byte_of c) (number ts) (encodes table ts [])

  pub more_length : (t : Tree) (ts : Trees) → length (encodes table (more t ts) []) ≡ length (encode table t []) + length (encodes table ts [])
  unfolding encode
  more_length t ts = encode_length t (encodes table ts [])

  pub past_tree : (l : List ℕ) (a : ℕ) (t : Tree) (bs : List ℕ) → drop a l ≡ encode table t bs → drop (a + length (encode table t [])) l ≡ bs
  past_tree l a t bs h = past_front l a (length (encode table t [])) (encode table t []) bs (h ∙ encode_append t [] bs) refl

  -- terms

  pub node_bytes : (s : ℕ) (ts : Terms) (bs : List ℕ)
      → term_bytes table (node s ts) bs ≡ s ∷ cond (is_list table s) (count ts ∷ terms_bytes table ts bs) (terms_bytes table ts bs)
  unfolding encode own byte_of list_code
  node_bytes s ts bs = rw (number_terms ts)

  mutual
    unfolding size encode list_code

    pub term_size : (t : Term) → length (term_bytes table t []) ≡ size table t
    term_size (node s ts) = branch_length (Symbol s) (term_trees ts) ∙ ap (λ (n : ℕ). width table s + n) (terms_sizes ts)

    pub terms_sizes : (ts : Terms) → length (terms_bytes table ts []) ≡ sizes table ts
    terms_sizes nil = refl
    terms_sizes (t :: ts) = more_length (term_tree t) (term_trees ts) ∙ omega (arith, term_size t, terms_sizes ts)

  pub terms_length : (ts : Terms) (bs : List ℕ) → length (terms_bytes table ts bs) ≡ sizes table ts + length bs
  terms_length ts bs = encodes_length (term_trees ts) bs ∙ ap (λ (n : ℕ). n + length bs) (terms_sizes ts)

  pub past_term : (l : List ℕ) (a : ℕ) (t : Term) (bs : List ℕ) → drop a l ≡ term_bytes table t bs → drop (a + size table t) l ≡ bs
  past_term l a t bs h = past_front l a (size table t) (term_bytes table t []) bs (h ∙ encode_append (term_tree t) [] bs) (term_size t)

  pub past_terms : (l : List ℕ) (a : ℕ) (ts : Terms) (bs : List ℕ) → drop a l ≡ terms_bytes table ts bs → drop (a + sizes table ts) l ≡ bs
  past_terms l a ts bs h = past_front l a (sizes table ts) (terms_bytes table ts []) bs (h ∙ encodes_append (term_trees ts) [] bs) (terms_sizes ts)

  pub take_terms : (ts : Terms) (bs : List ℕ) → take (sizes table ts) (terms_bytes table ts bs) ≡ terms_bytes table ts []
  take_terms ts bs =
      ap (take (sizes table ts)) (encodes_append (term_trees ts) [] bs) ∙ take_at (terms_bytes table ts []) bs (sizes table ts) (terms_sizes ts)

  -- patterns

  pub symbol_bytes : (s : ℕ) (qs : Children) (bs : List ℕ)
      → pattern_bytes table (symbol s qs) bs ≡ s ∷ cond (is_list table s) (arity qs ∷ children_bytes table qs bs) (children_bytes table qs bs)
  unfolding encode own byte_of list_code
  symbol_bytes s qs bs = rw (number_children qs)
