-- What the converter's pass makes of so many trees at the start of some bytes.
use Rattle.std.specs.Prelude.{ℕ, ◌+◌, ◌≤◌, ◌≡◌, List, [], ◌∷◌, Bool, true, false, cond, ◌&&◌, length, set, leb, eqb, Option, Some, None}
use Rattle.std.proofs.lemmas.List.Edits.{sets}
use Rattle.term.specs.Table.{list, largest_table}
use Rattle.term.specs.Tree.{Tree, Trees, empty, more, number, encodes}
use Rattle.term.specs.Limits.{FitAll, longest_record}
use Rattle.term.specs.Extent.{entry_of}
use Rattle.term.specs.Class.{class_of}
use Rattle.splice.specs.Splicing.{in_list, splice, splice_all}
use Rattle.splice.specs.Converting.{most_elements, all_narrow}
use Rattle.splice.specs.declared.Head.{Head}
use Rattle.splice.specs.declared.Put.{Put}

-- where a record's bytes end
abbrev pub farthest : ℕ
farthest = longest_record

abbrev pub head : ℕ → ℕ → Option ℕ → Head
head size kids class = record { size = size; kids = kids; class = class }

-- a list's, with its number of children behind its symbol
abbrev pub list_head : ℕ → List ℕ → Option Head
list_head class [] = None
list_head class (n ∷ s) = Some (head 2 n (Some class))

unfoldable pub head_of : List ℕ → List ℕ → List ℕ → Option Head
head_of table classes [] = None
head_of table classes (b ∷ s) = cond (eqb (entry_of table b) list) (list_head (class_of classes b) s) (Some (head 1 (entry_of table b) None))

abbrev pub narrow_node : Bool → ℕ → Bool
narrow_node list n = cond list (leb n most_elements) true

abbrev pub stored : Bool → List ℕ → ℕ → ℕ → List ℕ
stored list out at n = cond (list && leb n most_elements) (set out at n) out

-- what a node comes to by what its children came to, if a byte can tell their number
abbrev pub node_put : Head → Put → Option Put
node_put h r = cond (narrow_node (in_list h.class) r.elements) (Some (record { used = h.size + r.used; put = h.size + r.put; elements = 1 })) None

-- these trees, within limits, stand at the start of s, in what stands around them
pub record Standing (table s : List ℕ) (n : ℕ) (a : Option ℕ) (ts : Trees) : Type 0 where
  pub small : length table ≤ largest_table
  pub rest : List ℕ
  pub records : Bool
  pub left : ℕ
  pub bytes : s ≡ encodes table ts rest
  pub many : number ts ≡ n
  pub fits : FitAll table records ts left (in_list a)

-- what the trees ts come to that are spliced to us, where a byte can tell each list's number
pub record ComesTo (table : List ℕ) (ts us : Trees) (r : Put) : Type 0 where
  pub used : r.used ≡ length (encodes table ts [])
  pub put : r.put ≡ length (encodes table us [])
  pub elements : r.elements ≡ number us
  pub narrow : all_narrow table us ≡ true

-- what is answered of them
abbrev pub Answers : List ℕ → Trees → Trees → Option Put → Type 0
Answers table ts us None = all_narrow table us ≡ false
Answers table ts us (Some r) = ComesTo table ts us r

-- what is put in the output: the bytes of us, as far as there is room
abbrev pub Stored : List ℕ → Trees → ℕ → List ℕ → List ℕ → Type 0
Stored table us at out after = all_narrow table us ≡ true → after ≡ sets out at (encodes table us [])

-- of such trees
unfoldable pub Puts : List ℕ → List ℕ → List ℕ → ℕ → Option ℕ → Option Put → Type 0
Puts table classes s n a r = (ts : Trees) → Standing table s n a ts → Answers table ts (splice_all classes table a ts) r

unfoldable pub Stores : List ℕ → List ℕ → List ℕ → ℕ → Option ℕ → ℕ → List ℕ → List ℕ → Type 0
Stores table classes s n a at out after = (ts : Trees) → Standing table s n a ts → Stored table (splice_all classes table a ts) at out after

-- of one that stays as a node, whatever stands around it
abbrev pub one : Tree → Trees
one t = more t empty

unfoldable pub PutsNode : List ℕ → List ℕ → List ℕ → Option Put → Type 0
PutsNode table classes s r = (a : Option ℕ) (t : Tree) → Standing table s 1 a (one t) → Answers table (one t) (one (splice classes table t)) r

unfoldable pub StoresNode : List ℕ → List ℕ → List ℕ → ℕ → List ℕ → List ℕ → Type 0
StoresNode table classes s at out after =
    (a : Option ℕ) (t : Tree) → Standing table s 1 a (one t) → Stored table (one (splice classes table t)) at out after

-- no more is put than there was, of whatever bytes
abbrev pub PutWithin : List ℕ → Put → Type 0
PutWithin s r = (r.put ≤ r.used) × (r.elements ≤ r.used) × (r.used ≤ length s)
