-- "Edition 2 of the rule language lets a list directly inside a list of the same symbol, up to class, mean its elements in its place."
use Rattle.std.specs.Prelude.{ℕ, List, cond, Option}
use Rattle.term.specs.Tree.{Tree, Trees, branch, empty, more}
use Rattle.term.specs.Term.{Term, term_tree, term_of}
use Rattle.term.specs.Pattern.{Pattern, pattern_tree, pattern_of}
use Rattle.term.specs.declared.Code.{Code}
use Rattle.term.specs.Splicing.{stand_in}
pub use Rattle.term.specs.Splicing.{class_in, in_list, same_list}

infixr 65 ◌⊕◌
-- two sequences joined
unfoldable pub ◌⊕◌ : Trees → Trees → Trees
empty ⊕ us = us
(more t ts) ⊕ us = more t (ts ⊕ us)

-- what a node is as a list: the class of its symbol, or no list. A name, a run name and a complement are no lists
unfoldable pub list_class : List ℕ → List ℕ → Code → Option ℕ
list_class classes table c = class_in classes (stand_in table c)

-- a tree in front of others, as a child of what stands around it: its elements in its place, or the tree itself
abbrev pub placed : List ℕ → List ℕ → Option ℕ → Tree → Trees → Trees
placed classes table around (branch c us) ts = cond (same_list around (list_class classes table c)) (us ⊕ ts) (more (branch c us) ts)

-- a record's or a pattern's tree spliced; a list keeps its own symbol
unfoldable mutual
  pub splice : List ℕ → List ℕ → Tree → Tree
  splice classes table (branch c ts) = branch c (splice_all classes table (list_class classes table c) ts)

  -- the children of what stands around them
  pub splice_all : List ℕ → List ℕ → Option ℕ → Trees → Trees
  splice_all classes table around empty = empty
  splice_all classes table around (more t ts) = placed classes table around (splice classes table t) (splice_all classes table around ts)

-- terms and patterns spliced
abbrev pub splice_term : List ℕ → List ℕ → Term → Term
splice_term classes table t = term_of (splice classes table (term_tree t))

abbrev pub splice_pattern : List ℕ → List ℕ → Pattern → Pattern
splice_pattern classes table q = pattern_of (splice classes table (pattern_tree q))
