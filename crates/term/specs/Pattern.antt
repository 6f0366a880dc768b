-- Patterns, document 01's "rules". A run name can only stand as a direct child, among plain child patterns.
use Rattle.std.specs.Prelude.{ℕ, List}
use Rattle.term.specs.Tree.{Tree, Trees, branch, empty, more, encode}
use Rattle.term.specs.declared.Code.{Code}
use Rattle.term.specs.declared.Code.TheVariants.{Symbol, Name, Run, Complement}

mutual
  pub data Pattern : Type 0 where
    name : ℕ → Pattern
    symbol : ℕ → Children → Pattern
    complement : Pattern → Pattern

  pub data Children : Type 0 where
    end : Children
    plain : Pattern → Children → Children
    run : ℕ → Children → Children

-- as trees of codes
abbrev mutual
  pub pattern_tree : Pattern → Tree
  pattern_tree (name v) = branch (Name v) empty
  pattern_tree (symbol s qs) = branch (Symbol s) (child_trees qs)
  pattern_tree (complement q) = branch Complement (more (pattern_tree q) empty)

  pub child_trees : Children → Trees
  child_trees end = empty
  child_trees (plain q qs) = more (pattern_tree q) (child_trees qs)
  child_trees (run v qs) = more (branch (Run v) empty) (child_trees qs)

-- and back; a tree that is no pattern's does not come up
abbrev pub first : Children → Pattern
first end = name 0
first (plain q qs) = q
first (run v qs) = name v

abbrev pub made : Code → Children → Pattern
made (Symbol s) qs = symbol s qs
made (Name v) qs = name v
made (Run v) qs = name v
made Complement qs = complement (first qs)
made Code.Refused qs = name 0

abbrev pub child : Tree → Pattern → Children → Children
child (branch (Run v) ts) q qs = run v qs
child (branch (Symbol s) ts) q qs = plain q qs
child (branch (Name v) ts) q qs = plain q qs
child (branch Complement ts) q qs = plain q qs
child (branch Code.Refused ts) q qs = plain q qs

unfoldable mutual
  pub pattern_of : Tree → Pattern
  pattern_of (branch c ts) = made c (children_of ts)

  pub children_of : Trees → Children
  children_of empty = end
  children_of (more t ts) = child t (pattern_of t) (children_of ts)

-- their bytes, in front of others
abbrev pub pattern_bytes : List ℕ → Pattern → List ℕ → List ℕ
pattern_bytes table q bs = encode table (pattern_tree q) bs
