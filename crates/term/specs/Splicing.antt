-- Spliced trees, document 02's L6: "Edition 2 of the rule language lets a list directly inside a list of the same symbol, up to class, mean its
-- elements in its place."
use Rattle.std.specs.Prelude.{ℕ, ◌≡◌, List, Bool, true, false, cond, eqb, Option, Some, None}
use Rattle.term.specs.Class.{class_of}
use Rattle.term.specs.Language.{Language}
use Rattle.term.specs.Table.{is_list}
use Rattle.term.specs.Tree.{Tree, Trees, branch, empty, more}
use Rattle.term.specs.declared.Code.{Code}
use Rattle.term.specs.declared.Code.TheVariants.{Symbol, Name, Run, Complement}
use Rattle.term.specs.declared.Edition.{Edition}
use Rattle.term.specs.declared.Edition.TheVariants.{One, Two}

-- where a node's children stand: directly in a list, of its symbol, or elsewhere
abbrev pub stand_in : List ℕ → Code → Option ℕ
stand_in table (Symbol s) = cond (is_list table s) (Some s) None
stand_in table (Name v) = None
stand_in table (Run v) = None
stand_in table Complement = None
stand_in table Code.Refused = None

abbrev pub in_list : Option ℕ → Bool
in_list (Some s) = true
in_list None = false

-- the class of the list that something stands directly in; none elsewhere
abbrev pub class_in : List ℕ → Option ℕ → Option ℕ
class_in classes (Some s) = Some (class_of classes s)
class_in classes None = None

abbrev pub same_list : Option ℕ → Option ℕ → Bool
same_list (Some k) (Some l) = eqb k l
same_list (Some k) None = false
same_list None l = false

-- whether a node, whose children stand so, is a list "directly inside a list of the same symbol, up to class"
abbrev pub directly : List ℕ → Option ℕ → Option ℕ → Bool
directly classes stand children = same_list (class_in classes stand) (class_in classes children)

-- 16, "at a node of edition 2"; in edition 1 such a list "is an element like any other"
abbrev pub unspliced : Edition → List ℕ → Option ℕ → Option ℕ → Bool
unspliced One classes stand children = false
unspliced Two classes stand children = directly classes stand children

module _ (l : Language) where
  abbrev mutual
    -- "Edition 2 entries must come already spliced": no node of a tree that stands so is unspliced
    pub SplicedAt : Option ℕ → Tree → Type 0
    SplicedAt stand (branch c ts) = (unspliced l.edition l.classes stand (stand_in l.table c) ≡ false) × SplicedAll (stand_in l.table c) ts

    pub SplicedAll : Option ℕ → Trees → Type 0
    SplicedAll stand empty = Unit {0}
    SplicedAll stand (more t ts) = SplicedAt stand t × SplicedAll stand ts

  abbrev pub Spliced : Tree → Type 0
  Spliced t = SplicedAt None t
