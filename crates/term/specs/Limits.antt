-- The limits that a record's and a pattern's tree keeps.
use Rattle.std.specs.Prelude.{ℕ, ◌-◌, ◌<◌, ◌≤◌, ◌≡◌, List, [], Bool, true, false, length, get_or}
use Rattle.term.specs.Table.{is_list}
use Rattle.term.specs.Code.{names, variables}
use Rattle.term.specs.Language.{Language}
use Rattle.term.specs.Splicing.{Spliced}
use Rattle.term.specs.Tree.{Tree, Trees, branch, empty, more, number, list_code, encode}
use Rattle.term.specs.Term.{Term, term_tree}
use Rattle.term.specs.Pattern.{Pattern, pattern_tree}
use Rattle.term.specs.declared.Code.{Code}
use Rattle.term.specs.declared.Code.TheVariants.{Symbol, Name, Run, Complement}

-- the codes that a record can hold, and those that a pattern can
unfoldable pub Written : Bool → Code → Type 0
Written true (Symbol b) = Unit {0}
Written true (Name v) = ⊥
Written true (Run v) = ⊥
Written true Complement = ⊥
Written true Code.Refused = ⊥
Written false (Symbol b) = b < 200
Written false (Name v) = v < names
Written false (Run v) = (names ≤ v) × (v < variables)
Written false Complement = Unit {0}
Written false Code.Refused = ⊥

-- as many children as the table says; a list has any number that a byte can tell
abbrev pub Counted : Bool → ℕ → ℕ → Type 0
Counted true n k = n ≤ 255
Counted false n k = n ≡ k

-- how many children a node has, and where it may stand: a run name only as a direct child of a list
unfoldable pub Shape : List ℕ → Bool → Code → ℕ → Type 0
Shape table in_list (Symbol s) n = (s < length table) × Counted (is_list table s) n (get_or table s 0)
Shape table in_list (Name v) n = n ≡ 0
Shape table in_list (Run v) n = (n ≡ 0) × (in_list ≡ true)
Shape table in_list Complement n = n ≡ 1
Shape table in_list Code.Refused n = ⊥

-- the nesting left for a node's children, of what is left for the node. Document 02's L5: "A complement's child now has the complement's own nesting."
abbrev pub below_of : Code → ℕ → ℕ
below_of (Symbol b) left = left - 1
below_of (Name v) left = left - 1
below_of (Run v) left = left - 1
below_of Complement left = left
below_of Code.Refused left = left - 1

unfoldable mutual
  -- over the table, nested at most so deep, each run name in a list
  pub Fits : List ℕ → Bool → Tree → ℕ → Bool → Type 0
  Fits table records (branch c ts) left in_list =
      (0 < left) × Written records c × Shape table in_list c (number ts) × FitAll table records ts (below_of c left) (list_code table c)

  pub FitAll : List ℕ → Bool → Trees → ℕ → Bool → Type 0
  FitAll table records empty left in_list = Unit {0}
  FitAll table records (more t ts) left in_list = Fits table records t left in_list × FitAll table records ts left in_list

-- the longest record and the longest pattern, in bytes
abbrev pub longest_record : ℕ
longest_record = 4096

abbrev pub longest_pattern : ℕ
longest_pattern = 256

abbrev pub longest : Bool → ℕ
longest true = longest_record
longest false = longest_pattern

-- the root has nesting 1, and this is the deepest
abbrev pub nesting : ℕ
nesting = 32

pub record Accepted (l : Language) (records : Bool) (t : Tree) : Type 0 where
  pub short : length (encode l.table t []) ≤ longest records
  pub fits : Fits l.table records t nesting false
  pub spliced : Spliced l t

-- bytes
abbrev pub Octets : List ℕ → Type 0
Octets s = (i : ℕ) → get_or s i 0 ≤ 255

abbrev pub TermAccepted : Language → Term → Type 0
TermAccepted l t = Accepted l true (term_tree t)

abbrev pub PatternAccepted : Language → Pattern → Type 0
PatternAccepted l q = Accepted l false (pattern_tree q)
