-- What the functions of the search keep to: places within pattern and record, and the definition that each reply meets.
use Rattle.std.specs.Prelude.{ℕ, ◌<◌, ◌≤◌, ◌≡◌, List, true, false, length}
use Rattle.term.specs.Code.{variables}
use Rattle.term.specs.Limits.{longest_record, longest_pattern}
use Rattle.search.specs.State.{State, walked, turns, walk_of}
use Rattle.parts.specs.Packed.{bit}
use Rattle.search.specs.Inner.Lent.{Handed, Lent, lent_of, Held, Keeps}
use Rattle.search.specs.declared.place.Place.{Place}
use Rattle.search.specs.declared.marks.Marks.{Marks}
use Rattle.steps.specs.declared.Stop.{Stop}
use Rattle.steps.specs.declared.Stop.TheVariants.{Failure, NoAllowance, NoPair, RunName}
use Rattle.search.specs.declared.walk.Stopped.{Stopped}

-- pattern and record keep document 01's limits
pub record Short (pattern bytes : List ℕ) : Type 0 where
  pub of_pattern : length pattern ≤ longest_pattern
  pub of_record : length bytes ≤ longest_record

-- where a walk stopped
abbrev pub stopped : Stop → ℕ → ℕ → Marks → Place → Stopped
stopped stop left assigned m p = record { stop = stop; left = left; assigned = assigned; marks = m; place = p }

-- a run name
pub record Ready (codes v : ℕ) (p : Place) : Type 0 where
  pub variable : v < variables
  pub children : 0 < p.children
  pub at : p.at < codes

abbrev pub StopsAt : ℕ → Place → Stop → Type 0
StopsAt codes p Failure = Unit {0}
StopsAt codes p NoAllowance = Unit {0}
StopsAt codes p NoPair = Unit {0}
StopsAt codes p (RunName v) = Ready codes v p

-- a run name that leaves a choice is not assigned
abbrev pub Unassigned : ℕ → Stop → Type 0
Unassigned assigned Failure = Unit {0}
Unassigned assigned NoAllowance = Unit {0}
Unassigned assigned NoPair = Unit {0}
Unassigned assigned (RunName v) = bit assigned v ≡ false

-- further on: the buffers hold a state of the level there, and what was in use stays
pub record Moved (i : Handed) (e : Lent) (m : Marks) (p : Place) (x : Lent) (k : Marks) (q : Place) (s : State) : Type 0 where
  pub holds : Held i x k q s
  pub kept : Keeps e m x
  pub still : (v : ℕ) → bit e.assigned v ≡ true → bit x.assigned v ≡ true
  pub more_frames : m.frames ≤ k.frames
  pub more_waiting : m.waiting ≤ k.waiting
  pub same_first : k.first ≡ m.first
  pub further : p.at ≤ q.at

-- the pairs stop in a state of which something is so
pub record Reaches (i : Handed) (e : Lent) (m : Marks) (p : Place) (parts stack : List ℕ) (r : Stopped) (So : State → Type 0) : Type 0 where
  pub end : State
  pub so : So end
  pub moved : Moved i e m p (lent_of r.assigned r.left parts stack) r.marks r.place end
  pub stops : StopsAt (length i.pattern) r.place r.stop
  pub unassigned : Unassigned r.assigned r.stop

-- that the walk from the state s ends there
abbrev pub WalkIs : Handed → Lent → Marks → Place → List ℕ → List ℕ → Stopped → State → Type 0
WalkIs i e m p parts stack r s =
    Reaches i e m p parts stack r
    (λ end. walk_of turns i.table i.classes i.pattern i.bytes s e.left ≡ walked r.stop r.left end)

abbrev pub Walks : Handed → Lent → Marks → Place → List ℕ → List ℕ → Stopped → Type 0
Walks i e m p parts stack r = (s : State) → Held i e m p s → WalkIs i e m p parts stack r s
