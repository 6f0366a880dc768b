-- The checks of one node, in their order: 2, 4, 5, 7, 16, then 2 for a missing number of children.
use Rattle.std.specs.Prelude.{ℕ, List, Bool, true, false, cond, length, get_or, ltb, eqb, Option, Some, None, Result, Ok, Err}
use Rattle.answers.specs.declared.Refusal.TheVariants.{Short, BadCode, Deep, Stray, Unspliced}
use Rattle.term.specs.Table.{is_list}
use Rattle.term.specs.Code.{code_in}
use Rattle.term.specs.Language.{Language}
use Rattle.term.specs.Limits.{below_of}
use Rattle.term.specs.Splicing.{in_list, unspliced}
use Rattle.term.specs.declared.Code.{Code}
use Rattle.term.specs.declared.Code.TheVariants.{Symbol, Name, Run, Complement}
use Rattle.answers.specs.declared.Refusal.{Refusal}
use Rattle.reader.specs.declared.Open.{Open}

-- an open node: the number of its own bytes and of its children, the list that these stand in, and the nesting left for them
abbrev pub opened : ℕ → ℕ → Option ℕ → ℕ → Open
opened size kids inside low = record { size = size; kids = kids; inside = inside; low = low }

-- a code that is allowed, and a symbol that is in the table; else 4
abbrev pub known : List ℕ → Code → Bool
known table (Symbol b) = ltb b (length table)
known table (Name v) = true
known table (Run v) = true
known table Complement = true
known table Code.Refused = false

-- a list has its number of children in a second byte; else 2
abbrev pub list_node : ℕ → ℕ → List ℕ → Result Open Refusal
list_node b low s = cond (ltb (length s) 2) (Err Short) (Ok (opened 2 (get_or s 1 0) (Some b) low))

-- "16 (unspliced) at a node of edition 2, after 7"
abbrev pub unless_unspliced : Bool → Result Open Refusal → Result Open Refusal
unless_unspliced b n = cond b (Err Unspliced) n

-- a known code's node, with so much nesting left for its children; a run name elsewhere than in a list is 7
unfoldable pub open_node : Language → Option ℕ → ℕ → List ℕ → Code → Result Open Refusal
open_node l stand low s (Symbol b) =
    cond (is_list l.table b)
    (unless_unspliced (unspliced l.edition l.classes stand (Some b)) (list_node b low s))
    (Ok (opened 1 (get_or l.table b 0) None low))
open_node l stand low s (Name v) = Ok (opened 1 0 None low)
open_node l stand low s (Run v) = cond (in_list stand) (Ok (opened 1 0 None low)) (Err Stray)
open_node l stand low s Complement = Ok (opened 1 1 None low)
open_node l stand low s Code.Refused = Err BadCode

-- no nesting left is 5
abbrev pub unless_deep : ℕ → Result Open Refusal → Result Open Refusal
unless_deep left n = cond (eqb left 0) (Err Deep) n

unfoldable pub code_node : Language → Option ℕ → ℕ → List ℕ → Code → Result Open Refusal
code_node l stand left s c =
    cond (known l.table c)
    (unless_deep left (open_node l stand (below_of c left) s c))
    (Err BadCode)

-- the node at the start of s, of a record or a pattern, where it stands so, with so much nesting left
unfoldable pub node_at : Language → Bool → Option ℕ → ℕ → List ℕ → Result Open Refusal
node_at l records stand left s =
    cond (eqb (length s) 0) (Err Short) (code_node l stand left s (code_in records (get_or s 0 0)))
