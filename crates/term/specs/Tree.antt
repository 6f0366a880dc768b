-- What the bytes of records and of patterns have in common: a tree of codes, root first, then its children from left to right.
use Rattle.std.specs.Prelude.{ℕ, zero, suc, List, ◌∷◌, Bool, false, cond}
use Rattle.term.specs.Table.{is_list}
use Rattle.term.specs.Code.{byte_of}
use Rattle.term.specs.declared.Code.{Code}
use Rattle.term.specs.declared.Code.TheVariants.{Symbol, Name, Run, Complement}

mutual
  -- a node: its code and its children
  pub data Tree : Type 0 where
    branch : Code → Trees → Tree

  pub data Trees : Type 0 where
    empty : Trees
    more : Tree → Trees → Trees

unfoldable pub number : Trees → ℕ
number empty = zero
number (more t ts) = suc (number ts)

unfoldable pub list_code : List ℕ → Code → Bool
list_code table (Symbol s) = is_list table s
list_code table (Name v) = false
list_code table (Run v) = false
list_code table Complement = false
list_code table Code.Refused = false

-- a node's own bytes in front of others: its code's, and for a list its number of children
unfoldable pub own : List ℕ → Code → ℕ → List ℕ → List ℕ
own table c n bs = byte_of c ∷ cond (list_code table c) (n ∷ bs) bs

unfoldable mutual
  -- the bytes of a tree in front of others
  pub encode : List ℕ → Tree → List ℕ → List ℕ
  encode table (branch c ts) bs = own table c (number ts) (encodes table ts bs)

  pub encodes : List ℕ → Trees → List ℕ → List ℕ
  encodes table empty bs = bs
  encodes table (more t ts) bs = encode table t (encodes table ts bs)
