-- The stored form. Document 02's L7: "The new recorders store, after a list node's number of children, the length in bytes of all its children in
-- the stored form, two bytes, low byte first."
use Rattle.std.specs.Prelude.{ℕ, List, [], ◌++◌, Bool, true, false, length}
use Rattle.term.specs.Tree.{Tree, Trees, branch, empty, more, number, list_code, own}
use Rattle.term.specs.Term.{Term, term_tree}
use Rattle.sheet.specs.Word.{word}

-- a list's length, in front of others; other nodes tell none
unfoldable pub tell : Bool → ℕ → List ℕ → List ℕ
tell true n bs = word n ++ bs
tell false n bs = bs

unfoldable mutual
  -- the stored bytes of a tree in front of others
  pub store : List ℕ → Tree → List ℕ → List ℕ
  store table (branch c ts) bs = own table c (number ts) (tell (list_code table c) (length (stores table ts [])) (stores table ts bs))

  pub stores : List ℕ → Trees → List ℕ → List ℕ
  stores table empty bs = bs
  stores table (more t ts) bs = store table t (stores table ts bs)

-- those of a term
abbrev pub stored_bytes : List ℕ → Term → List ℕ → List ℕ
stored_bytes table t bs = store table (term_tree t) bs

-- "A stored record has at most 8,192 bytes."
abbrev pub longest_stored : ℕ
longest_stored = 8192
