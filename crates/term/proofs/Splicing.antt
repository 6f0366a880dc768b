-- Laws of spliced trees.
use Prim.Native.Nat.{ℕ}
use mathlib.Core.Path.{◌≡◌, refl}
use mathlib.Core.List.{List}
use mathlib.Core.Bool.{Bool, true, false, cond}
use Rattle.term.specs.Language.{Language, language}
use Rattle.term.specs.Splicing.{stand_in, in_list, unspliced, SplicedAt, SplicedAll}
use Rattle.term.specs.Table.{is_list}
use Rattle.term.specs.Tree.{Tree, Trees, branch, empty, more, list_code}
use Rattle.term.specs.declared.Code.{Code}
use Rattle.term.specs.declared.Code.TheVariants.{Symbol, Name, Run, Complement}
use Rattle.term.specs.declared.Edition.{Edition}
use Rattle.term.specs.declared.Edition.TheVariants.{One, Two}
use Rattle.std.specs.Prelude.{Option, Some, None}

-- a node's children stand in a list exactly if it is one
pub stand_list : (table : List ℕ) (c : Code) → in_list (stand_in table c) ≡ list_code table c
unfolding list_code
stand_list table (Symbol s) = by (is_list table s)
  where
    by : (b : Bool) → in_list (cond b (Some s) None) ≡ b
    by true = refl
    by false = refl
stand_list table (Name v) = refl
stand_list table (Run v) = refl
stand_list table Complement = refl
stand_list table Code.Refused = refl

-- in edition 1 every tree is spliced
module _ (table classes : List ℕ) where
  mutual
    pub one_spliced : (stand : (Option ℕ)) (t : Tree) → SplicedAt (language One table classes) stand t
    one_spliced stand (branch c ts) = (refl, one_spliced_all (stand_in table c) ts)

    pub one_spliced_all : (stand : (Option ℕ)) (ts : Trees) → SplicedAll (language One table classes) stand ts
    one_spliced_all stand empty = tt
    one_spliced_all stand (more t ts) = (one_spliced stand t, one_spliced_all stand ts)

-- a node that is no list is spliced wherever it stands
pub leaf_spliced : (edition : Edition) (classes : List ℕ) (stand : (Option ℕ)) → unspliced edition classes stand None ≡ false
leaf_spliced One classes stand = refl
leaf_spliced Two classes (Some s) = refl
leaf_spliced Two classes None = refl

-- what stands elsewhere is in no list
elsewhere_spliced : (edition : Edition) (classes : List ℕ) (children : (Option ℕ)) → unspliced edition classes None children ≡ false
elsewhere_spliced One classes children = refl
elsewhere_spliced Two classes children = refl

module _ (l : Language) where
  pub spliced_elsewhere : (stand : (Option ℕ)) (t : Tree) → SplicedAt l stand t → SplicedAt l None t
  spliced_elsewhere stand (branch c ts) h = (elsewhere_spliced l.edition l.classes (stand_in l.table c), h.1)
