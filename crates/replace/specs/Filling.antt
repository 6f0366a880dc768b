-- What the private functions answer: of the trees of a template, and of the parts that are put into it.
use Rattle.std.specs.Prelude.{ℕ, ◌+◌, ◌*◌, ◌≤◌, ◌<◌, ◌≡◌, List, [], Bool, true, false, cond, ◌&&◌, length, get_or, take, eqb, leb, Result, Option, Some, None}
use Rattle.std.proofs.lemmas.List.Edits.{sets}
use Rattle.answers.specs.Answers.{applied_number}
use Rattle.answers.specs.Part.{part}
use Rattle.answers.specs.declared.Applied.{Applied}
use Rattle.term.specs.Code.{names, variables, decode_of}
use Rattle.term.specs.Extent.{entry_of, extent_of}
use Rattle.term.specs.Limits.{Fits, FitAll, nesting, longest_pattern}
use Rattle.term.specs.Part.{part_bytes}
use Rattle.term.specs.Pattern.{Pattern, Children, name, symbol, complement, end, plain, run, pattern_tree, child_trees, pattern_bytes}
use Rattle.term.specs.Table.{list, largest_table, table_accepted}
use Rattle.term.specs.Term.{Term, Terms, nil, count, single, sizes, term_trees, terms_bytes}
use Rattle.term.specs.Tree.{Trees, branch, encode, encodes}
use Rattle.term.specs.declared.Code.TheVariants.{Symbol}
use Rattle.anti_pattern.specs.Language.{Language, Classed, TermsOf}
use Rattle.anti_pattern.specs.Meaning.{Assignment}
use Rattle.anti_pattern.specs.Place.{assigned}
use Rattle.anti_pattern.specs.Search.{Env, first_answer, whole}
use Rattle.anti_pattern.specs.Variables.{free, among}
use Rattle.matcher.specs.Demands.{offset_in, length_in, terms_in}
use Rattle.parts.specs.Shown.{entry_width}
use Rattle.term.specs.Splicing.{same_list}
use Rattle.replace.specs.Call.{Input, result, measured, look_on}
use Rattle.replace.specs.Growth.{nest_all, narrow_all}
use Rattle.replace.specs.Instance.{instance}
use Rattle.replace.specs.Splice.{spliced_in, listed_in, placed_all, spliced_instances}
use Rattle.replace.specs.Loose.{loose, loose_all}
use Rattle.replace.specs.declared.Filled.{Filled}
use Rattle.answers.specs.declared.Refusal.{Refusal}

-- a part has at most so many bytes, and so has what one byte of a template is filled to; no place in the output lies farther
abbrev pub longest_part : ℕ
longest_part = 65535

abbrev pub part_room : ℕ
part_room = longest_part + 1

abbrev pub farthest : ℕ
farthest = part_room * longest_pattern

-- the bytes of a node's own
abbrev pub own_bytes : List ℕ → ℕ → ℕ
own_bytes table b = cond (eqb (entry_of table b) list) 2 1

-- the bytes of child patterns, in front of others
abbrev pub children_bytes : List ℕ → Children → List ℕ → List ℕ
children_bytes table qs bs = encodes table (child_trees qs) bs

-- marks say which variables stand in a list
abbrev pub Marks : List Bool → List ℕ → Type 0
Marks marks vs = (v : ℕ) → v < variables → get_or marks v false ≡ among v vs

-- the bytes of a pattern that is accepted in some edition
pub record Reads (table s : List ℕ) (q : Pattern) : Type 0 where
  pub table_accepted_holds : table_accepted table ≡ true
  pub bytes : pattern_bytes table q [] ≡ s
  pub fits : Fits table false (pattern_tree q) nesting false

unfoldable pub MarksFree : List ℕ → List ℕ → List Bool → Type 0
MarksFree table s marks = (p : Pattern) → Reads table s p → Marks marks (free p)

unfoldable pub MarksLoose : List ℕ → List ℕ → List Bool → Bool → Type 0
MarksLoose table s marks r = (q : Pattern) → Reads table s q → (vs : List ℕ) → Marks marks vs → r ≡ loose vs q

-- of two accepted patterns, whether the second is loose
unfoldable pub TellsLoose : List ℕ → List ℕ → List ℕ → Bool → Type 0
TellsLoose table rule template r = (p q : Pattern) → Reads table rule p → Reads table template q → r ≡ loose (free p) q

-- the part that an answer has for a variable
unfoldable pub part_in : List ℕ → List ℕ → ℕ → List ℕ
part_in bytes answer v =
    cond (leb (length answer) (entry_width * v + 1)) (take 0 bytes) (part_bytes bytes (part (offset_in answer v) (length_in answer v) 0))

-- terms within limits stand in a part of a record
pub record Run (table s : List ℕ) (ts : Terms) : Type 0 where
  pub small : length table ≤ largest_table
  pub left : ℕ
  pub in_list : Bool
  pub bytes : s ≡ terms_bytes table ts []
  pub fits : FitAll table true (term_trees ts) left in_list

unfoldable pub TellsNesting : List ℕ → List ℕ → ℕ → Bool → Type 0
TellsNesting table s left r = (ts : Terms) → Run table s ts → r ≡ nest_all left ts

-- the children of a tree whose root is a symbol
unfoldable pub ChildrenOf : List ℕ → List ℕ → List ℕ → Type 0
ChildrenOf table t r = (x : ℕ) (ts : Trees) → x < length table → t ≡ encode table (branch (Symbol x) ts) [] → r ≡ encodes table ts []

-- child patterns within limits, each somewhere
abbrev pub Limited : List ℕ → Children → Type 0
Limited table end = Unit {0}
Limited table (plain q qs) = ((left : ℕ) × (in_list : Bool) × Fits table false (pattern_tree q) left in_list) × Limited table qs
Limited table (run v qs) = ((names ≤ v) × (v < variables)) × Limited table qs

-- of the variables vs the answer has the parts that are assigned, with their numbers of terms
pub record Lent (table bytes answer : List ℕ) (vs : List ℕ) (a : Assignment) : Type 0 where
  pub part : (v : ℕ) → v < variables → among v vs ≡ true → Run table (part_in bytes answer v) (assigned (a v))
  pub terms : (v : ℕ) → v < variables → among v vs ≡ true → terms_in answer v ≡ count (assigned (a v))
  pub one : (v : ℕ) → v < names → among v vs ≡ true → (t : Term) × (assigned (a v) ≡ single t)

-- no list of a template stands directly inside a list of its class
abbrev mutual
  pub Apart : (ℕ → Option ℕ) → Option ℕ → Pattern → Type 0
  Apart listed around (name v) = Unit {0}
  Apart listed around (symbol s qs) = (same_list around (listed s) ≡ false) × AllApart listed (listed s) qs
  Apart listed around (complement q) = Unit {0}

  pub AllApart : (ℕ → Option ℕ) → Option ℕ → Children → Type 0
  AllApart listed around end = Unit {0}
  AllApart listed around (plain q qs) = Apart listed around q × AllApart listed around qs
  AllApart listed around (run v qs) = AllApart listed around qs

-- child patterns of a template, and an assignment whose parts are put in
pub record Filling (table : List ℕ) (listed : ℕ → Option ℕ) (around : Option ℕ) (s bytes answer : List ℕ) (qs : Children) (vs : List ℕ) (a : Assignment) : Type 0 where
  pub small : length table ≤ largest_table
  pub stands : s ≡ children_bytes table qs []
  pub limited : Limited table qs
  pub firm : loose_all vs qs ≡ false
  pub apart : AllApart listed around qs
  pub lent : Lent table bytes answer vs a

abbrev pub fit_all : List ℕ → ℕ → Terms → Bool
fit_all table left ts = nest_all left ts && narrow_all table ts

abbrev pub filled : ℕ → ℕ → Filled
filled n k = record { length = n; elements = k }

abbrev pub filled_to : Bool → ℕ → ℕ → Option Filled
filled_to true n k = Some (filled n k)
filled_to false n k = None

-- a part's terms that nest at most so deep, stored
unfoldable pub TellsStored : List ℕ → List ℕ → ℕ → ℕ → List ℕ → Bool → List ℕ → Type 0
TellsStored table s left at out r after = (ts : Terms) → Run table s ts → (r ≡ nest_all left ts) × (nest_all left ts ≡ true → after ≡ sets out at s)

-- the bytes of a term as a child, and how many terms they are
unfoldable pub PlacedBytes : List ℕ → Bool → List ℕ → List ℕ → Type 0
PlacedBytes table true t r = ChildrenOf table t r
PlacedBytes table false t r = r ≡ t

abbrev pub placed_terms : Bool → List ℕ → ℕ
placed_terms true t = get_or t 1 0
placed_terms false t = 1

-- terms, each as a child of what stands around, put in the output
abbrev pub PutIn : List ℕ → ℕ → ℕ → List ℕ → Option Filled → List ℕ → Terms → Type 0
PutIn table left at out r after ts =
    (r ≡ filled_to (nest_all left ts) (sizes table ts) (count ts)) × (nest_all left ts ≡ true → after ≡ sets out at (terms_bytes table ts []))

unfoldable pub PutsEach : List ℕ → (ℕ → Option ℕ) → Option ℕ → List ℕ → ℕ → ℕ → List ℕ → Option Filled → List ℕ → Type 0
PutsEach table listed around s left at out r after = (ts : Terms) → Run table s ts
    → PutIn table left at out r after (placed_all listed around ts nil)

-- the same of the part that an answer has for a variable
unfoldable pub Puts : List ℕ → (ℕ → Option ℕ) → Option ℕ → List ℕ → List ℕ → ℕ → ℕ → ℕ → List ℕ → Option Filled → List ℕ → Type 0
Puts table listed around bytes answer v left at out r after = (ts : Terms) → Run table (part_in bytes answer v) ts → terms_in answer v ≡ count ts
    → PutIn table left at out r after (placed_all listed around ts nil)

unfoldable pub Fills : List ℕ → (ℕ → Option ℕ) → Option ℕ → List ℕ → List ℕ → List ℕ → ℕ → Option Filled → Type 0
Fills table listed around s bytes answer left r = (qs : Children) (vs : List ℕ) (a : Assignment) → Filling table listed around s bytes answer qs vs a
    → r ≡ filled_to (fit_all table left (spliced_instances listed around qs a)) (sizes table (spliced_instances listed around qs a)) (count (spliced_instances listed around qs a))

unfoldable pub Stores : List ℕ → (ℕ → Option ℕ) → Option ℕ → List ℕ → List ℕ → List ℕ → ℕ → ℕ → List ℕ → List ℕ → Type 0
Stores table listed around s bytes answer left at out after = (qs : Children) (vs : List ℕ) (a : Assignment) → Filling table listed around s bytes answer qs vs a
    → fit_all table left (spliced_instances listed around qs a) ≡ true → after ≡ sets out at (terms_bytes table (spliced_instances listed around qs a) [])

-- the same of one tree, which ends where its bytes do
unfoldable pub FillsTree : List ℕ → (ℕ → Option ℕ) → Option ℕ → List ℕ → List ℕ → List ℕ → ℕ → Option Filled → Type 0
FillsTree table listed around t bytes answer left r = length t ≡ extent_of table t → Fills table listed around t bytes answer left r

unfoldable pub StoresTree : List ℕ → (ℕ → Option ℕ) → Option ℕ → List ℕ → List ℕ → List ℕ → ℕ → ℕ → List ℕ → List ℕ → Type 0
StoresTree table listed around t bytes answer left at out after =
    length t ≡ extent_of table t → Stores table listed around t bytes answer left at out after

-- and of one that has a symbol, whatever stands around it
unfoldable pub FillsNode : List ℕ → (ℕ → Option ℕ) → List ℕ → List ℕ → List ℕ → ℕ → Option Filled → Type 0
FillsNode table listed t bytes answer left r =
    (around : Option ℕ) (x : ℕ) → decode_of (get_or t 0 0) ≡ Symbol x → FillsTree table listed around t bytes answer left r

unfoldable pub StoresNode : List ℕ → (ℕ → Option ℕ) → List ℕ → List ℕ → List ℕ → ℕ → ℕ → List ℕ → List ℕ → Type 0
StoresNode table listed t bytes answer left at out after =
    (around : Option ℕ) (x : ℕ) → decode_of (get_or t 0 0) ≡ Symbol x → StoresTree table listed around t bytes answer left at out after

-- no more than so many bytes and elements
abbrev pub FilledWithin : ℕ → Option Filled → Type 0
FilledWithin most (Some f) = (f.length ≤ most) × (f.elements ≤ 256 * most)
FilledWithin most None = Unit {0}

-- a template and the parts that are put into it, which are terms of the language
pub record Whole (l : Language) (template bytes answer : List ℕ) (q : Pattern) (vs : List ℕ) (a : Assignment) : Type 0 where
  pub filling : Filling l.table (listed_in l) None template bytes answer (plain q end) vs a
  pub spoken : (v : ℕ) → among v vs ≡ true → TermsOf l (assigned (a v))

-- the answer where the rule is bound, by a template's instance
unfoldable pub Measures : Language → List ℕ → List ℕ → List ℕ → ℕ → Result Applied Refusal → Type 0
Measures l template bytes answer n r = (q : Pattern) (vs : List ℕ) (a : Assignment) → Whole l template bytes answer q vs a
    → r ≡ measured l.table (result (spliced_in l (instance q a)) n)

-- a look at input that passed its checks; where it is bound, the answer buffer is ready for the template
unfoldable pub LooksInto : Language → List ℕ → List ℕ → List ℕ → ℕ → Result Applied Refusal → List ℕ → Type 0
LooksInto l rule template bytes allowance r answer = Classed l → (p q : Pattern) (t : Term) → Input l rule template bytes p q t
    → (r ≡ look_on l p q t allowance)
    × (applied_number r ≡ 0 → (e : Env) × (first_answer (whole l p t).out ≡ Some e) × Whole l template bytes answer q (free p) e.value)

abbrev pub ShortWhereBound : List ℕ → Result Applied Refusal → Type 0
ShortWhereBound template r = applied_number r ≡ 0 → length template ≤ longest_pattern
