-- What one turn of a level's pairs does: q is the pattern from the next pair on, r the record from there on, `bytes` the whole record, which has the
-- parts that variables are assigned. Pairs are taken root first, left to right.
use Rattle.std.specs.Prelude.{ℕ, List, Bool, false, cond, ◌&&◌, ◌||◌, length, get_or, take, drop, leb, eqb}
use Rattle.answers.specs.Part.{is_absent}
use Rattle.answers.specs.declared.Part.{Part}
use Rattle.term.specs.Table.{list}
use Rattle.term.specs.Code.{decode_of}
use Rattle.term.specs.Extent.{entry_of, extent_of}
use Rattle.term.specs.Part.{part_bytes}
use Rattle.term.specs.Same.{same_byte, same_part}
use Rattle.term.specs.declared.Code.{Code}
use Rattle.term.specs.declared.Code.TheVariants.{Symbol, Name, Run, Complement}
use Rattle.parts.specs.Packed.{part_of}
use Rattle.steps.specs.declared.Stop.TheVariants.{Failure, NoAllowance, NoPair, RunName}
use Rattle.steps.specs.declared.Step.{Step}
use Rattle.steps.specs.declared.Step.TheVariants.{Stops, Fails, Closes, Opens, Passes, Binds, PutsBy}

-- the variable of a code, 0 where there is none
abbrev pub variable_of : Code → ℕ
variable_of (Symbol b) = 0
variable_of (Name v) = v
variable_of (Run v) = v
variable_of Complement = 0
variable_of Code.Refused = 0

unfoldable pub variable_in : List ℕ → ℕ
variable_in q = cond (eqb (length q) 0) 0 (variable_of (decode_of (get_or q 0 0)))

-- whether the bytes of a part stand at the start of r
unfoldable pub stands_of : List ℕ → List ℕ → List ℕ → Part → List ℕ → Bool
stands_of table classes bytes had r = leb had.length (length r) && same_part table classes false (part_bytes bytes had) (take had.length r)

-- a node with no child pattern left: an element left over is a failure
unfoldable pub over_step : Bool → ℕ → Step
over_step outermost elements = cond (eqb elements 0) (cond outermost (Stops NoPair) Closes) (Stops Failure)

-- a symbol of one class with the record's: its children are entered, in pattern and record; a list's second byte is their number
unfoldable pub symbol_step : List ℕ → List ℕ → List ℕ → List ℕ → ℕ → Step
symbol_step table classes q r b =
    cond (same_byte classes false b (get_or r 0 0))
    (cond (eqb (entry_of table b) 0) (Passes 1 1)
    (cond (eqb (entry_of table b) list)
    (cond (leb 2 (length q) && leb 2 (length r)) (Opens (get_or q 1 0) (get_or r 1 0) 2) Fails)
    (Opens (entry_of table b) (entry_of table b) 1)))
    Fails

-- an assigned name or run name: as many elements as its own must be left, and those there be its own
unfoldable pub assigned_step : List ℕ → List ℕ → List ℕ → Part → List ℕ → ℕ → Step
assigned_step table classes bytes had r elements =
    cond (leb had.elements elements && stands_of table classes bytes had r) (Passes had.elements had.length) Fails

-- an unassigned name takes the node; an assigned one must equal it
unfoldable pub name_step : List ℕ → List ℕ → List ℕ → List ℕ → ℕ → Part → ℕ → Step
name_step table classes bytes r v had elements = cond (is_absent had) (Binds v (extent_of table r)) (assigned_step table classes bytes had r elements)

-- an unassigned run name leaves a choice; an assigned one tries its own length only, counted even where it does not fit
unfoldable pub run_step : List ℕ → List ℕ → List ℕ → ℕ → Part → List ℕ → ℕ → ℕ → Step
run_step table classes bytes v had r elements left =
    cond (is_absent had) (Stops (RunName v)) (cond (eqb left 0) (Stops NoAllowance) (assigned_step table classes bytes had r elements))

-- a complement is put by; the last child pattern of a level is all that is left of it, and where its node ends does not matter
unfoldable pub complement_step : Bool → List ℕ → List ℕ → List ℕ → Step
complement_step last table q r = cond last (PutsBy (length q) 0) (PutsBy (extent_of table q) (extent_of table r))

-- a pattern node, the last of its level or not, is set against a record node
unfoldable pub pair_step : Bool → Code → List ℕ → List ℕ → List ℕ → List ℕ → List ℕ → Part → ℕ → Step
pair_step last (Symbol b) table classes bytes q r had elements = symbol_step table classes q r b
pair_step last (Name v) table classes bytes q r had elements = name_step table classes bytes r v had elements
pair_step last (Run v) table classes bytes q r had elements = Fails
pair_step last Complement table classes bytes q r had elements = complement_step last table q r
pair_step last Code.Refused table classes bytes q r had elements = Fails

-- a plain child pattern: with no element left it fails uncounted
unfoldable pub plain_step : Bool → Code → List ℕ → List ℕ → List ℕ → List ℕ → List ℕ → Part → ℕ → ℕ → Step
plain_step last c table classes bytes q r had elements left =
    cond (eqb elements 0 || eqb (length r) 0) (Stops Failure)
    (cond (eqb left 0) (Stops NoAllowance) (pair_step last c table classes bytes q r had elements))

unfoldable pub code_step : Bool → Code → List ℕ → List ℕ → List ℕ → List ℕ → List ℕ → Part → ℕ → ℕ → Step
code_step last (Symbol b) table classes bytes q r had elements left = plain_step last (Symbol b) table classes bytes q r had elements left
code_step last (Name v) table classes bytes q r had elements left = plain_step last (Name v) table classes bytes q r had elements left
code_step last (Run v) table classes bytes q r had elements left = run_step table classes bytes v had r elements left
code_step last Complement table classes bytes q r had elements left = plain_step last Complement table classes bytes q r had elements left
code_step last Code.Refused table classes bytes q r had elements left = Stops Failure

-- what the next turn does in a node, a level's outermost or not, with so many child patterns and elements left, where the variable here has the part given
unfoldable pub step_of : Bool → List ℕ → List ℕ → List ℕ → List ℕ → List ℕ → Part → ℕ → ℕ → ℕ → Step
step_of outermost table classes bytes q r had children elements left =
    cond (eqb children 0) (over_step outermost elements)
    (cond (eqb (length q) 0) (Stops Failure)
    (code_step (outermost && eqb children 1) (decode_of (get_or q 0 0)) table classes bytes q r had elements left))

-- The same from a byte of the pattern and one of the record on, by what the variables are assigned: a mask, and a number for each

abbrev pub part_for : Code → ℕ → List ℕ → Part
part_for c assigned parts = part_of assigned parts (variable_of c)

abbrev pub plain_step_from : Bool → Code → List ℕ → List ℕ → List ℕ → List ℕ → ℕ → List ℕ → ℕ → ℕ → ℕ → ℕ → Step
plain_step_from last c table classes pattern bytes assigned parts elements at node left =
    plain_step last c table classes bytes (drop at pattern) (drop node bytes) (part_for c assigned parts) elements left

abbrev pub step_from : Bool → List ℕ → List ℕ → List ℕ → List ℕ → ℕ → List ℕ → ℕ → ℕ → ℕ → ℕ → ℕ → Step
step_from outermost table classes pattern bytes assigned parts children elements at node left =
    step_of outermost table classes bytes (drop at pattern) (drop node bytes) (part_of assigned parts (variable_in (drop at pattern))) children elements left
