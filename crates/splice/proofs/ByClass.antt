-- Trees up to class, document 02's L1, and spliced ones by the class of the list around them: the theorems go by these, and say what they show
-- without them.
use Prim.Native.Nat.{ℕ, ◌≤◌}
use mathlib.Core.Path.{◌≡◌}
use mathlib.Core.List.{List}
use mathlib.Core.Bool.{false}
use lib.ListN.{get_or}
use Rattle.term.specs.Class.{class_of}
use Rattle.term.specs.Tree.{Tree, Trees, branch, empty, more}
use Rattle.term.specs.declared.Code.{Code}
use Rattle.splice.specs.Splicing.{list_class, same_list}
use Rattle.term.specs.declared.Code.TheVariants.{Symbol, Name, Run, Complement}
use Rattle.std.specs.Prelude.{Option, None}

-- of an accepted class list: no entry is above its own index, an entry is its own class, and table bytes are alike within a class
pub record Classes (table classes : List ℕ) : Type 0 where
  pub low : (s : ℕ) → class_of classes s ≤ s
  pub own : (s : ℕ) → class_of classes (class_of classes s) ≡ class_of classes s
  pub alike : (s : ℕ) → get_or table (class_of classes s) 0 ≡ get_or table s 0

unfoldable pub class_code : List ℕ → Code → Code
class_code classes (Symbol s) = Symbol (class_of classes s)
class_code classes (Name v) = Name v
class_code classes (Run v) = Run v
class_code classes Complement = Complement
class_code classes Code.Refused = Code.Refused

-- each symbol replaced by its class
unfoldable mutual
  pub classed : List ℕ → Tree → Tree
  classed classes (branch c ts) = branch (class_code classes c) (classed_all classes ts)

  pub classed_all : List ℕ → Trees → Trees
  classed_all classes empty = empty
  classed_all classes (more t ts) = more (classed classes t) (classed_all classes ts)

-- equal up to class
abbrev pub UpToClass : List ℕ → Tree → Tree → Type 0
UpToClass classes t u = classed classes t ≡ classed classes u

-- "already spliced": no list directly inside a list of its class
unfoldable mutual
  pub SplicedIn : List ℕ → List ℕ → Option ℕ → Tree → Type 0
  SplicedIn classes table around (branch c ts) =
      (same_list around (list_class classes table c) ≡ false) × AllSplicedIn classes table (list_class classes table c) ts

  pub AllSplicedIn : List ℕ → List ℕ → Option ℕ → Trees → Type 0
  AllSplicedIn classes table around empty = Unit {0}
  AllSplicedIn classes table around (more t ts) = SplicedIn classes table around t × AllSplicedIn classes table around ts

-- a root stands in no list
abbrev pub Spliced : List ℕ → List ℕ → Tree → Type 0
Spliced classes table t = SplicedIn classes table None t
