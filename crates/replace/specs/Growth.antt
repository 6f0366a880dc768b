-- The limits of a result: those of a record. "19 (outgrown) for a result over 4,096 bytes, nesting 32 or 255 elements".
use Rattle.std.specs.Prelude.{ℕ, ◌-◌, List, Bool, true, cond, ◌&&◌, ltb, leb}
use Rattle.term.specs.Limits.{longest_record, nesting}
use Rattle.term.specs.Table.{is_list}
use Rattle.term.specs.Term.{Term, Terms, node, nil, ◌::◌, count, size}

-- nested at most so deep: "The root has nesting 1, a child one more than its parent"
abbrev mutual
  pub nests : ℕ → Term → Bool
  nests left (node s ts) = ltb 0 left && nest_all (left - 1) ts

  pub nest_all : ℕ → Terms → Bool
  nest_all left nil = true
  nest_all left (t :: ts) = nests left t && nest_all left ts

-- each list has a number of children that a byte can tell
abbrev mutual
  pub narrow : List ℕ → Term → Bool
  narrow table (node s ts) = cond (is_list table s) (leb (count ts) 255) true && narrow_all table ts

  pub narrow_all : List ℕ → Terms → Bool
  narrow_all table nil = true
  narrow_all table (t :: ts) = narrow table t && narrow_all table ts

unfoldable pub within_limits : List ℕ → Term → Bool
within_limits table u = leb (size table u) longest_record && (nests nesting u && narrow table u)
