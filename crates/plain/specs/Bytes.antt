-- The check for a plain pattern and the tier on bytes, as the code has them; only the contracts of private functions cite them. Of accepted input they
-- are the check and the tier on trees (proofs/Looked, proofs/Linked).
use Rattle.std.specs.Prelude.{ℕ, zero, suc, ◌+◌, ◌-◌, ◌^◌, ◌<◌, ◌≤◌, ◌≡◌, List, [], ◌∷◌, Bool, true, false, cond, length, get_or, drop, set, replicate, eqb, ltb, Result, Ok, Option, Some, None}
use Rattle.std.specs.Int.Bits.{bit_or}
use Rattle.answers.specs.Part.{bound_part}
use Rattle.answers.specs.declared.Answer.{Answer}
use Rattle.answers.specs.declared.Answer.TheVariants.{Bound}
use Rattle.term.specs.Code.{variables, decode_of}
use Rattle.term.specs.Extent.{entry_of, span_of, extent_of}
use Rattle.term.specs.Same.{same_byte}
use Rattle.term.specs.Table.{list}
use Rattle.term.specs.declared.Code.{Code}
use Rattle.term.specs.declared.Code.TheVariants.{Symbol, Name, Run, Complement}
use Rattle.parts.specs.Packed.{bit, packed, part_places, parts_in}
use Rattle.parts.specs.Shown.{shown_parts}
use Rattle.plain.specs.declared.runs.Runs.{Runs}
use Rattle.plain.specs.declared.check.Look.{Look}
use Rattle.plain.specs.declared.tier.Turn.{Turn}
use Rattle.plain.specs.declared.tier.Turn.TheVariants.{Fails, Enters, Notes, TakesNode, TakesRun}
use Rattle.plain.specs.declared.tier.Tiering.{Tiering}
use Rattle.answers.specs.declared.Refusal.{Refusal}

-- Run names

abbrev pub runs : ℕ → ℕ → Runs
runs number variable = record { number = number; variable = variable }

abbrev pub also_run : Code → Runs → Runs
also_run (Symbol b) found = found
also_run (Name v) found = found
also_run (Run v) found = runs (found.number + 1) v
also_run Complement found = found
also_run Code.Refused found = found

-- how many of the first n trees of s are run names, and the variable of the last of them
unfoldable pub runs_among : List ℕ → List ℕ → ℕ → Runs → Runs
runs_among table s zero found = found
runs_among table [] (suc n) found = found
runs_among table (b ∷ s) (suc n) found = runs_among table (drop (extent_of table (b ∷ s)) (b ∷ s)) n (also_run (decode_of b) found)

abbrev pub no_runs : Runs
no_runs = runs 0 0

-- the sum over all bytes of s, each taken for a code
unfoldable pub sum_of : (Code → ℕ) → List ℕ → ℕ
sum_of f [] = 0
sum_of f (b ∷ s) = f (decode_of b) + sum_of f s

abbrev pub run_code : Code → ℕ
run_code (Symbol b) = 0
run_code (Name v) = 0
run_code (Run v) = 1
run_code Complement = 0
run_code Code.Refused = 0

-- a symbol without children
abbrev pub is_leaf : List ℕ → Code → Bool
is_leaf table (Symbol b) = eqb (entry_of table b) 0
is_leaf table (Name v) = false
is_leaf table (Run v) = false
is_leaf table Complement = false
is_leaf table Code.Refused = false

-- The check

-- the variables seen after a node, and the bytes of its own
abbrev pub passing : ℕ → ℕ → Option Look
passing seen width = Some (record { seen = seen; width = width })

-- a list whose bytes are these has at most one run name
unfoldable pub look_list : List ℕ → List ℕ → ℕ → Option Look
look_list table q seen =
    cond (ltb (length q) 2) None (cond (ltb 1 (runs_among table (drop 2 q) (get_or q 1 0) no_runs).number) None (passing seen 2))

unfoldable pub look_symbol : List ℕ → List ℕ → ℕ → ℕ → Option Look
look_symbol table q seen b = cond (eqb (entry_of table b) list) (look_list table q seen) (passing seen 1)

abbrev pub look_variable : ℕ → ℕ → Option Look
look_variable seen v = cond (bit seen v) None (passing (bit_or seen (2 ^ v)) 1)

-- a byte taken for a code
abbrev pub look_byte : Code → ℕ → Option Look
look_byte (Symbol b) seen = passing seen 1
look_byte (Name v) seen = look_variable seen v
look_byte (Run v) seen = look_variable seen v
look_byte Complement seen = None
look_byte Code.Refused seen = None

-- a pattern node, whose bytes stand at the start of q, after the variables of this mask: those after it, and the bytes of its own
abbrev pub look_by : Code → List ℕ → List ℕ → ℕ → Option Look
look_by (Symbol b) table q seen = look_symbol table q seen b
look_by (Name v) table q seen = look_variable seen v
look_by (Run v) table q seen = look_variable seen v
look_by Complement table q seen = None
look_by Code.Refused table q seen = None

unfoldable pub look_of : List ℕ → List ℕ → ℕ → Option Look
look_of table q seen = look_by (decode_of (get_or q 0 0)) table q seen

abbrev pub on_pass : Option Look → (ℕ → ℕ → Bool) → Bool
on_pass None f = false
on_pass (Some look) f = f look.seen look.width

-- the nodes from here on; `counting` where the next byte is a list's number of children
unfoldable pub plain_from : List ℕ → List ℕ → Bool → ℕ → Bool
plain_from table [] counting seen = true
plain_from table (b ∷ s) true seen = plain_from table s false seen
plain_from table (b ∷ s) false seen = on_pass (look_of table (b ∷ s) seen) (λ x w. plain_from table s (eqb w 2) x)

-- a byte's weight: none for a symbol, one for a variable, two for what no plain pattern has
abbrev pub weight_of : Code → ℕ
weight_of (Symbol b) = 0
weight_of (Name v) = 1
weight_of (Run v) = 1
weight_of Complement = 2
weight_of Code.Refused = 2

abbrev pub weights_of : List ℕ → ℕ
weights_of = sum_of weight_of

-- the bytes of a list at the root, of which the second is no code
abbrev pub root_bytes : List ℕ → Code → ℕ
root_bytes table (Symbol b) = cond (eqb (entry_of table b) list) 2 0
root_bytes table (Name v) = 0
root_bytes table (Run v) = 0
root_bytes table Complement = 0
root_bytes table Code.Refused = 0

-- what one pass tells: true of plain patterns only
abbrev pub SurelyPlain : List ℕ → List ℕ → Bool → Type 0
SurelyPlain table s told = told ≡ true → plain_from table s false 0 ≡ true

-- its own bytes are one or two of q
abbrev pub LookWithin : List ℕ → Option Look → Type 0
LookWithin q None = Unit {0}
LookWithin q (Some look) = (1 ≤ look.width) × (look.width ≤ 2) × (look.width ≤ length q)

-- The tier

-- a list against a list: where the numbers of children differ, a run name takes what its other child patterns leave
unfoldable pub list_step : ℕ → ℕ → Runs → Turn
list_step n m found =
    cond (eqb n m) (Enters 2) (cond (eqb found.number 0) Fails (cond (ltb m (n - 1)) Fails (Notes found.variable (m - (n - 1)))))

unfoldable pub list_of : List ℕ → List ℕ → List ℕ → Turn
list_of table q r =
    cond (ltb (length q) 2) Fails
    (cond (ltb (length r) 2) Fails (list_step (get_or q 1 0) (get_or r 1 0) (runs_among table (drop 2 q) (get_or q 1 0) no_runs)))

unfoldable pub symbol_of : List ℕ → List ℕ → List ℕ → List ℕ → ℕ → Turn
symbol_of table classes q r b =
    cond (eqb (length r) 0) Fails
    (cond (same_byte classes false b (get_or r 0 0)) (cond (eqb (entry_of table b) list) (list_of table q r) (Enters 1)) Fails)

-- a pattern node, whose bytes stand at the start of q, set against the record's bytes r
abbrev pub turn_by : Code → List ℕ → List ℕ → List ℕ → List ℕ → Turn
turn_by (Symbol b) table classes q r = symbol_of table classes q r b
turn_by (Name v) table classes q r = TakesNode v (extent_of table r)
turn_by (Run v) table classes q r = TakesRun v
turn_by Complement table classes q r = Fails
turn_by Code.Refused table classes q r = Fails

unfoldable pub turn_of : List ℕ → List ℕ → List ℕ → List ℕ → Turn
turn_of table classes q r = turn_by (decode_of (get_or q 0 0)) table classes q r

-- it stays within q and r, and variables are those of the answer
abbrev pub TurnWithin : List ℕ → List ℕ → Turn → Type 0
TurnWithin q r Fails = Unit {0}
TurnWithin q r (Enters width) = (1 ≤ width) × (width ≤ 2) × (width ≤ length q) × (width ≤ length r)
TurnWithin q r (Notes v n) = (v < variables) × (2 ≤ length q) × (2 ≤ length r)
TurnWithin q r (TakesNode v size) = (v < variables) × (size ≤ length r)
TurnWithin q r (TakesRun v) = v < variables

-- where the tier ends: whether all nodes hold, the count, and what the variables have, by mask and parts
pub record Ending : Type 0 where
  pub fits : Bool
  pub count : ℕ
  pub assigned : ℕ
  pub parts : List ℕ

abbrev pub ending : Bool → ℕ → ℕ → List ℕ → Ending
ending fits count assigned parts = record { fits = fits; count = count; assigned = assigned; parts = parts }

abbrev pub tiering_of : Ending → Tiering
tiering_of e = record { count = e.count; assigned = cond e.fits (Some e.assigned) None }

-- where the tier stands in the record, the lengths noted for run names, and what the variables have
pub record Standing : Type 0 where
  pub node : ℕ
  pub lengths : List ℕ
  pub assigned : ℕ
  pub parts : List ℕ

abbrev pub standing : ℕ → List ℕ → ℕ → List ℕ → Standing
standing node lengths assigned parts = record { node = node; lengths = lengths; assigned = assigned; parts = parts }

-- a variable takes n elements of so many bytes
abbrev pub takes : Standing → ℕ → ℕ → ℕ → Standing
takes s v size n =
    standing (s.node + size) s.lengths (bit_or s.assigned (2 ^ v)) (set s.parts v (packed (bound_part s.node size n)))

-- a run name takes as many elements as are noted for it
abbrev pub takes_run : List ℕ → List ℕ → Standing → ℕ → Standing
takes_run table bytes s v = takes s v (span_of table (drop s.node bytes) false (get_or s.lengths v 0)) (get_or s.lengths v 0)

-- after a step; `f` goes on
abbrev pub stepped : List ℕ → List ℕ → Turn → Standing → ℕ → (Bool → Standing → Ending) → Ending
stepped table bytes Fails s n f = ending false n s.assigned s.parts
stepped table bytes (Enters width) s n f = f (eqb width 2) (standing (s.node + width) s.lengths s.assigned s.parts)
stepped table bytes (Notes v k) s n f = f true (standing (s.node + 2) (set s.lengths v k) s.assigned s.parts)
stepped table bytes (TakesNode v size) s n f = f false (takes s v size 1)
stepped table bytes (TakesRun v) s n f = f false (takes_run table bytes s v)

-- the nodes from here on, after so many; `counting` where the next byte is a list's number of children
unfoldable pub tier_from : List ℕ → List ℕ → List ℕ → List ℕ → Bool → Standing → ℕ → Ending
tier_from table classes bytes [] counting s n = ending true n s.assigned s.parts
tier_from table classes bytes (b ∷ q) true s n = tier_from table classes bytes q false s n
tier_from table classes bytes (b ∷ q) false s n =
    stepped table bytes (turn_of table classes (b ∷ q) (drop s.node bytes)) s (n + 1) (λ c x. tier_from table classes bytes q c x (n + 1))

-- how many nodes at the start of q are symbols without children that hold, each against the byte of r at its place
unfoldable pub leaves_of : List ℕ → List ℕ → List ℕ → List ℕ → ℕ
leaves_of table classes [] r = 0
leaves_of table classes (b ∷ q) [] = 0
leaves_of table classes (b ∷ q) (x ∷ r) = cond (is_leaf table (decode_of b)) (cond (same_byte classes false b x) (suc (leaves_of table classes q r)) 0) 0

-- a run name has length 1 unless another is noted
abbrev pub standing_start : List ℕ → Standing
standing_start parts = standing 0 (replicate variables 1) 0 parts

unfoldable pub tier_on : List ℕ → List ℕ → List ℕ → List ℕ → List ℕ → Ending
tier_on table classes pattern bytes parts = tier_from table classes bytes pattern false (standing_start parts) 0

-- The call of bytes as they are

-- a symbol may hold where it is the record's; any other code may hold
abbrev pub may_hold : List ℕ → Code → ℕ → Bool
may_hold classes (Symbol b) r = same_byte classes false b r
may_hold classes (Name v) r = true
may_hold classes (Run v) r = true
may_hold classes Complement r = true
may_hold classes Code.Refused r = true

unfoldable pub root_may_hold : List ℕ → List ℕ → List ℕ → Bool
root_may_hold classes q r = cond (eqb (length q) 0) true (cond (eqb (length r) 0) true (may_hold classes (decode_of (get_or q 0 0)) (get_or r 0 0)))

abbrev pub no_parts : List ℕ
no_parts = replicate part_places 0

abbrev pub told_ending : Ending → Result Answer Refusal
told_ending e = cond e.fits (Ok (Bound e.count)) (Ok (Answer.None e.count))

abbrev pub shown_ending : Ending → List ℕ → List ℕ
shown_ending e before = cond e.fits (shown_parts (parts_in e.assigned e.parts 0 variables) before) before
