-- "two records that can be spliced can be turned into each other by such replacements, either way, and exchanges within a class"
use Rattle.std.specs.Prelude.{ℕ, ◌≡◌, List, Some}
use Rattle.term.specs.Tree.{Tree, Trees, branch, more}
use Rattle.term.specs.declared.Code.{Code}
use Rattle.term.specs.declared.Code.TheVariants.{Symbol}
use Rattle.term.specs.Class.{class_of}
use Rattle.splice.specs.Splicing.{◌⊕◌, list_class}

-- one replacement or one exchange, anywhere in a tree
pub data Step (classes table : List ℕ) : Tree → Tree → Type 0 where
  -- a list directly inside a list of its class, replaced by its elements
  replaced : (c d : Code) (k : ℕ) (ts us vs : Trees) → list_class classes table c ≡ Some k → list_class classes table d ≡ Some k
      → Step classes table (branch c (ts ⊕ more (branch d us) vs)) (branch c (ts ⊕ us ⊕ vs))
  -- a symbol exchanged for another of its class
  exchanged : (s r : ℕ) (ts : Trees) → class_of classes s ≡ class_of classes r → Step classes table (branch (Symbol s) ts) (branch (Symbol r) ts)
  -- in a child
  inside : (c : Code) (ts vs : Trees) (t u : Tree) → Step classes table t u → Step classes table (branch c (ts ⊕ more t vs)) (branch c (ts ⊕ more u vs))

-- any number of them, one after the other, either way, through trees of some kind
pub data TurnedThrough (Kind : Tree → Type 0) (classes table : List ℕ) : Tree → Tree → Type 0 where
  done : (t : Tree) → Kind t → TurnedThrough Kind classes table t t
  forth : (t u v : Tree) → Kind t → Step classes table t u → TurnedThrough Kind classes table u v → TurnedThrough Kind classes table t v
  back : (t u v : Tree) → Kind t → Step classes table u t → TurnedThrough Kind classes table u v → TurnedThrough Kind classes table t v

-- through any trees
abbrev pub Turned : List ℕ → List ℕ → Tree → Tree → Type 0
Turned classes table t u = TurnedThrough (λ v. Unit {0}) classes table t u
