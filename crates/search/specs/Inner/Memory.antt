-- What the search keeps in the buffers that are lent to it, a part for each variable and a stack, and what a call leaves there. Nothing is undone:
-- an entry that is still in use lies within the marks of every call that can change the buffers, or belongs to a variable that is assigned before it.
use Rattle.std.specs.Prelude.{ℕ, suc, ◌+◌, ◌-◌, ◌/◌, ◌%◌, ◌<◌, ◌≤◌, ◌≡◌, List, [], ◌∷◌, true, false, length, get_or, set}
use Rattle.answers.specs.Part.{is_absent}
use Rattle.term.specs.Code.{variables}
use Rattle.term.specs.Limits.{longest_pattern}
use Rattle.parts.specs.Packed.{bit, part_in, part_places}
use Rattle.search.specs.State.{PutBy, State, remaining, put_by, part_in_state}
use Rattle.search.specs.declared.place.Remaining.{Remaining}
use Rattle.search.specs.declared.place.Place.{Place}
use Rattle.search.specs.declared.marks.Marks.{Marks}
use Rattle.search.specs.declared.marks.Nodes.{Nodes}
use Rattle.search.specs.declared.marks.Queue.{Queue}

-- The buffers: a part for each variable and three for where a level halts; a place in the stack for each byte of the longest pattern

abbrev pub stack_places : ℕ
stack_places = longest_pattern

-- How much of them is in use

abbrev pub marks : ℕ → ℕ → ℕ → ℕ → Marks
marks inner frames first waiting = record { inner = inner; frames = frames; first = first; waiting = waiting }

-- their two halves, and both together
abbrev pub nodes_in : Marks → Nodes
nodes_in m = record { inner = m.inner; frames = m.frames }

abbrev pub queue_in : Marks → Queue
queue_in m = record { first = m.first; waiting = m.waiting }

abbrev pub marks_of : Nodes → Queue → Marks
marks_of n q = marks n.inner n.frames q.first q.waiting

-- Open nodes, from the front of the stack: each is a number, with 1 more than the place of the one around it, or 0

abbrev pub frame_in : ℕ → Remaining
frame_in x = remaining (x % 256) (x / 256 % 256)

abbrev pub outer : ℕ → ℕ
outer x = x / 65536

-- one more is opened, on top
abbrev pub opened_marks : Marks → Marks
opened_marks m = marks (m.frames + 1) (m.frames + 1) m.first m.waiting

-- what is left of the node open here, once a child of it is entered, goes on the stack
pub record FramePushed (m : Marks) (p : Place) (stack stack' : List ℕ) (r : Marks) : Type 0 where
  pub number : ℕ
  pub is : frame_in number ≡ remaining (p.children - 1) (p.elements - 1)
  pub link : outer number ≡ m.inner
  pub written : stack' ≡ set stack m.frames number
  pub marks : r ≡ opened_marks m

-- the innermost one, of this number, is closed
abbrev pub closed_marks : Marks → ℕ → Marks
closed_marks m x = marks (outer x) m.frames m.first m.waiting

-- those from the one at inner - 1 outwards
abbrev pub Linked : List ℕ → ℕ → List Remaining → Type 0
Linked stack inner [] = inner ≡ 0
Linked stack inner (f ∷ fs) =
    (0 < inner) × (frame_in (get_or stack (inner - 1) 0) ≡ f) × (outer (get_or stack (inner - 1) 0) < inner) × Linked stack (outer (get_or stack (inner - 1) 0)) fs

-- Complements put by, from the back of the stack: each is a number

abbrev pub from_back : ℕ → ℕ
from_back i = stack_places - 1 - i

abbrev pub put_by_in : ℕ → PutBy
put_by_in x = put_by (x % 256) (x / 256 % 256) (x / 65536)

-- one more is put by
abbrev pub put_by_marks : Marks → Marks
put_by_marks m = marks m.inner m.frames m.first (m.waiting + 1)

-- the complement here, of so many bytes, goes on the stack
pub record ComplementPushed (m : Marks) (p : Place) (codes : ℕ) (stack stack' : List ℕ) (r : Marks) : Type 0 where
  pub number : ℕ
  pub is : put_by_in number ≡ put_by p.at (codes - 1) p.node
  pub written : stack' ≡ set stack (from_back m.waiting) number
  pub marks : r ≡ put_by_marks m

-- those from the one at first up to the end
abbrev pub Queued : List ℕ → ℕ → ℕ → List PutBy → Type 0
Queued stack first end [] = first ≡ end
Queued stack first end (c ∷ cs) = (first < end) × (put_by_in (get_or stack (from_back first) 0) ≡ c) × Queued stack (suc first) end cs

-- the inside of one lies within the pattern, and the stack has room for its search
pub record Inside (codes bytes at : ℕ) (m : Marks) (c : PutBy) : Type 0 where
  pub within : c.at + 1 + c.size ≤ codes
  pub node : c.node ≤ bytes
  pub room : m.frames + m.waiting + c.size + (codes - at) ≤ stack_places

abbrev pub Insides : ℕ → ℕ → ℕ → Marks → List PutBy → Type 0
Insides codes bytes at m [] = Unit {0}
Insides codes bytes at m (c ∷ cs) = Inside codes bytes at m c × Insides codes bytes at m cs

-- the buffers' lengths
pub record Sized (parts stack : List ℕ) : Type 0 where
  pub of_parts : length parts ≡ part_places
  pub of_stack : length stack ≡ stack_places

-- The invariant: the buffers hold the state s of a level, whose pattern has so many bytes, on a record of so many; every byte of the pattern that
-- is left has room in the stack
pub record LiesIn (codes bytes assigned : ℕ) (parts stack : List ℕ) (m : Marks) (p : Place) (s : State) : Type 0 where
  pub sized : Sized parts stack
  pub place : s.place ≡ p
  pub all_variables : length s.parts ≡ variables
  pub shown : (v : ℕ) → v < variables → part_in_state s v ≡ part_in assigned parts v
  pub present : (v : ℕ) → v < variables → bit assigned v ≡ true → is_absent (part_in_state s v) ≡ false
  pub linked : Linked stack m.inner s.frames
  pub innermost : m.inner ≤ m.frames
  pub queued : Queued stack m.first m.waiting s.waiting
  pub insides : Insides codes bytes p.at m s.waiting
  pub at : p.at ≤ codes
  pub node : p.node ≤ bytes
  pub room : m.frames + m.waiting + (codes - p.at) ≤ stack_places

pub record Holding (codes bytes assigned : ℕ) (parts stack : List ℕ) (m : Marks) (p : Place) : Type 0 where
  pub state : State
  pub holds : LiesIn codes bytes assigned parts stack m p state

-- The frame condition: what a call with these marks leaves alone
pub record Kept (assigned : ℕ) (m : Marks) (parts stack parts' stack' : List ℕ) : Type 0 where
  pub of_parts : (v : ℕ) → v < variables → bit assigned v ≡ true → get_or parts' v 0 ≡ get_or parts v 0
  pub of_frames : (i : ℕ) → i < m.frames → get_or stack' i 0 ≡ get_or stack i 0
  pub of_waiting : (i : ℕ) → i < m.waiting → get_or stack' (from_back i) 0 ≡ get_or stack (from_back i) 0
  pub sized : Sized parts stack → Sized parts' stack'
