-- Sequences of terms joined: their bytes, sizes and limits. What stands at the start of a tree's bytes.
use Prim.Native.Nat.{ℕ, ◌+◌, ◌<◌}
use native.Mathlib.Omega.{arith}
use mathlib.Core.Path.{◌≡◌, refl, ap, ◌∙◌}
use mathlib.Core.List.{List, []}
use mathlib.Core.Bool.{Bool, false}
use lib.ListN.{length, get_or, drop}
use Rattle.term.proofs.Lists.{front}
use Rattle.term.specs.Code.{decode_of, byte_of}
use Rattle.term.specs.Tree.{Tree, branch, empty, list_code, own, encode}
use Rattle.term.specs.Term.{Term, Terms, nil, ◌::◌, ◌⧺◌, single, size, sizes, term_trees, term_bytes, terms_bytes}
use Rattle.term.specs.Limits.{Fits, FitAll}
use Rattle.term.specs.declared.Code.{Code}
use Rattle.term.proofs.Codes.{code_back}

module _ (table : List ℕ) where
  pub bytes_join : (us ts : Terms) (bs : List ℕ) → terms_bytes table (us ⧺ ts) bs ≡ terms_bytes table us (terms_bytes table ts bs)
  unfolding encode
  bytes_join nil ts bs = refl
  bytes_join (u :: us) ts bs = ap (term_bytes table u) (bytes_join us ts bs)

  pub sizes_join : (us ts : Terms) → sizes table (us ⧺ ts) ≡ sizes table us + sizes table ts
  unfolding size
  sizes_join nil ts = omega arith
  sizes_join (u :: us) ts = let i = sizes_join us ts in omega arith

  pub sizes_none : sizes table nil ≡ 0
  unfolding size
  sizes_none = refl

  pub sizes_single : (t : Term) → sizes table (single t) ≡ size table t
  unfolding size
  sizes_single t = omega arith

  pub fit_split : (records : Bool) (us ts : Terms) (left : ℕ) (in_list : Bool) → FitAll table records (term_trees (us ⧺ ts)) left in_list
      → FitAll table records (term_trees us) left in_list × FitAll table records (term_trees ts) left in_list
  unfolding Fits
  fit_split records nil ts left in_list f = (tt, f)
  fit_split records (u :: us) ts left in_list f = let r = fit_split records us ts left in_list f.1 in ((f.0, r.0), r.1)

  -- a name, or a run name, is one byte
  pub leaf_length : (c : Code) → list_code table c ≡ false → length (encode table (branch c empty) []) ≡ 1
  unfolding encode own
  leaf_length c e = rw e

abbrev pub root_of : Tree → Code
root_of (branch c ts) = c

-- the code of a pattern's node is that of the byte that stands there
pub first_code : (table l : List ℕ) (a : ℕ) (t : Tree) (bs : List ℕ) (left : ℕ) (in_list : Bool) → Fits table false t left in_list
    → drop a l ≡ encode table t bs → (a < length l) × (decode_of (get_or l a 0) ≡ root_of t)
unfolding Fits encode own
first_code table l a (branch c ts) bs left in_list h e =
    let f = front l a (byte_of c) _ e in
    (f.0, ap decode_of f.1 ∙ code_back false c h.1)
