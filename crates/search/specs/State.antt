-- Where the search of a level stands, and what the turns of its pairs make of it.
use Rattle.std.specs.Prelude.{ℕ, zero, suc, ◌+◌, ◌-◌, List, [], ◌∷◌, ◌++◌, Bool, true, false, get_or, drop, set}
use Rattle.answers.specs.Part.{part, bound_part}
use Rattle.answers.specs.declared.Part.{Part}
use Rattle.steps.specs.Turn.{variable_in, step_of}
use Rattle.search.specs.declared.place.Place.{Place}
use Rattle.search.specs.declared.place.Remaining.{Remaining}
use Rattle.search.specs.declared.place.Next.{Next}
use Rattle.steps.specs.declared.Stop.{Stop}
use Rattle.steps.specs.declared.Stop.TheVariants.{Failure}
use Rattle.steps.specs.declared.Step.{Step}
use Rattle.steps.specs.declared.Step.TheVariants.{Stops, Fails, Closes, Opens, Passes, Binds, PutsBy}

-- The state

-- what is left of an open node: child patterns, and elements of the record
abbrev pub remaining : ℕ → ℕ → Remaining
remaining children elements = record { children = children; elements = elements }

-- a complement that was put by: where it stands in the pattern, the bytes of its inside, and its node in the record
pub record PutBy : Type 0 where
  pub at : ℕ
  pub size : ℕ
  pub node : ℕ

abbrev pub put_by : ℕ → ℕ → ℕ → PutBy
put_by at size node = record { at = at; size = size; node = node }

abbrev pub place : ℕ → ℕ → ℕ → ℕ → Place
place children elements at node = record { children = children; elements = elements; at = at; node = node }

-- its two halves, and both together
abbrev pub remaining_in : Place → Remaining
remaining_in p = remaining p.children p.elements

abbrev pub next_in : Place → Next
next_in p = record { at = p.at; node = p.node }

abbrev pub place_from : Remaining → Next → Place
place_from r n = place r.children r.elements n.at n.node

-- what each name and run name is assigned, the nodes that are open around the innermost one, the complements put by, and the place
pub record State : Type 0 where
  pub parts : List Part
  pub frames : List Remaining
  pub waiting : List PutBy
  pub place : Place

abbrev pub state : List Part → List Remaining → List PutBy → Place → State
state parts frames waiting p = record { parts = parts; frames = frames; waiting = waiting; place = p }

abbrev pub part_in_state : State → ℕ → Part
part_in_state s v = get_or s.parts v (part 0 0 0)

-- past a child of so many bytes that holds of so many elements, of so many bytes
abbrev pub place_past : Place → ℕ → ℕ → ℕ → Place
place_past p elements codes size = place (p.children - 1) (p.elements - elements) (p.at + codes) (p.node + size)

-- into a node's children, past its own bytes
abbrev pub entered : Place → ℕ → ℕ → ℕ → Place
entered p children elements width = place children elements (p.at + width) (p.node + width)

-- back to what is left of the node around it
abbrev pub reopened : Place → Remaining → Place
reopened p r = place_from r (next_in p)

abbrev pub closed_by : List Remaining → State → State
closed_by [] s = s
closed_by (f ∷ fs) s = state s.parts fs s.waiting (reopened s.place f)

abbrev pub closed : State → State
closed s = closed_by s.frames s

-- whether no node is open around
abbrev pub alone : List Remaining → Bool
alone [] = true
alone (f ∷ fs) = false

-- A turn

-- the variable at a place of the pattern, 0 where there is none
unfoldable pub variable_at : List ℕ → ℕ → ℕ
variable_at pattern at = variable_in (drop at pattern)

-- what the next turn does at a place, where its variable has the part given
unfoldable pub step_at : Bool → List ℕ → List ℕ → List ℕ → List ℕ → Part → Place → ℕ → Step
step_at outermost table classes pattern bytes had p left =
    step_of outermost table classes bytes (drop p.at pattern) (drop p.node bytes) had p.children p.elements left

-- The pairs of a level that leave no choice

-- where they stop, the allowance left, and the state there
pub record Walked : Type 0 where
  pub stop : Stop
  pub left : ℕ
  pub state : State

abbrev pub walked : Stop → ℕ → State → Walked
walked stop left s = record { stop = stop; left = left; state = s }

-- the state after a step: the walk stops, or goes on by f
unfoldable pub walk_by : Step → (State → ℕ → Walked) → State → ℕ → Walked
walk_by (Stops stop) f s left = walked stop left s
walk_by Fails f s left = walked Failure (left - 1) s
walk_by Closes f s left = f (closed s) left
walk_by (Opens children elements width) f s left =
    f (state s.parts (remaining (s.place.children - 1) (s.place.elements - 1) ∷ s.frames) s.waiting (entered s.place children elements width))
    (left - 1)
walk_by (Passes elements size) f s left = f (state s.parts s.frames s.waiting (place_past s.place elements 1 size)) (left - 1)
walk_by (Binds v size) f s left =
    f (state (set s.parts v (bound_part s.place.node size 1)) s.frames s.waiting (place_past s.place 1 1 size)) (left - 1)
walk_by (PutsBy codes size) f s left =
    f (state s.parts s.frames (s.waiting ++ put_by s.place.at (codes - 1) s.place.node ∷ []) (place_past s.place 1 codes size)) (left - 1)

-- a walk has fewer turns than this, as each takes a byte of the pattern or closes a node
abbrev pub turns : ℕ
turns = 1024

-- so many turns at most
unfoldable pub walk_of : ℕ → List ℕ → List ℕ → List ℕ → List ℕ → State → ℕ → Walked
walk_of zero table classes pattern bytes s left = walked Failure left s
walk_of (suc n) table classes pattern bytes s left =
    walk_by (step_at (alone s.frames) table classes pattern bytes (part_in_state s (variable_at pattern s.place.at)) s.place left)
    (walk_of n table classes pattern bytes) s left
