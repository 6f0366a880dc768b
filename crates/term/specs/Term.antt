-- Terms: finite trees of symbols. Document 01's "state", or "record", is the bytes of a term; its "run" is a sequence of terms.
use Rattle.std.specs.Prelude.{ℕ, zero, suc, ◌+◌, List}
use Rattle.term.specs.Table.{width}
use Rattle.term.specs.Tree.{Tree, Trees, branch, empty, more, encode, encodes}
use Rattle.term.specs.Code.{byte_of}
use Rattle.term.specs.declared.Code.TheVariants.{Symbol}

infixr 67 ◌::◌
mutual
  -- a symbol and its children
  pub data Term : Type 0 where
    node : ℕ → Terms → Term

  pub data Terms : Type 0 where
    nil : Terms
    ◌::◌ : Term → Terms → Terms

infixr 65 ◌⧺◌
-- two sequences joined
abbrev pub ◌⧺◌ : Terms → Terms → Terms
nil ⧺ us = us
(t :: ts) ⧺ us = t :: (ts ⧺ us)

-- the number of elements
abbrev pub count : Terms → ℕ
count nil = zero
count (t :: ts) = suc (count ts)

-- the sequence of one term
abbrev pub single : Term → Terms
single t = t :: nil

-- the length in bytes
unfoldable mutual
  pub size : List ℕ → Term → ℕ
  size table (node s ts) = width table s + sizes table ts

  pub sizes : List ℕ → Terms → ℕ
  sizes table nil = zero
  sizes table (t :: ts) = size table t + sizes table ts

-- as trees of codes, and back
abbrev mutual
  pub term_tree : Term → Tree
  term_tree (node s ts) = branch (Symbol s) (term_trees ts)

  pub term_trees : Terms → Trees
  term_trees nil = empty
  term_trees (t :: ts) = more (term_tree t) (term_trees ts)

unfoldable mutual
  pub term_of : Tree → Term
  term_of (branch c ts) = node (byte_of c) (terms_of ts)

  pub terms_of : Trees → Terms
  terms_of empty = nil
  terms_of (more t ts) = term_of t :: terms_of ts

-- their bytes, in front of others
abbrev pub term_bytes : List ℕ → Term → List ℕ → List ℕ
term_bytes table t bs = encode table (term_tree t) bs

abbrev pub terms_bytes : List ℕ → Terms → List ℕ → List ℕ
terms_bytes table ts bs = encodes table (term_trees ts) bs
