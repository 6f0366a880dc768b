-- A level that halts where its pairs stop, and what it reports of that.
use Rattle.std.specs.Prelude.{ℕ, ◌+◌, ◌-◌, ◌%◌, ◌<◌, ◌≤◌, ◌≡◌, List, Bool, true, false, cond, length, get_or, set, ltb}
use Rattle.answers.specs.Part.{bound_part}
use Rattle.term.specs.Code.{variables}
use Rattle.search.specs.State.{place, place_from}
use Rattle.parts.specs.Packed.{packed, unpacked}
use Rattle.search.specs.Inner.Memory.{marks, marks_of, Holding}
use Rattle.search.specs.Inner.Lent.{Handed, Lent, Change, lent_of, ◌⇒◌}
use Rattle.search.specs.Inner.Bounds.{stopped, Walks}
use Rattle.search.specs.Inner.Replies.{failure, Assignable, run_start, LevelIs, RestIs}
use Rattle.search.specs.declared.place.Place.{Place}
use Rattle.search.specs.declared.marks.Marks.{Marks}
use Rattle.search.specs.declared.marks.Nodes.{Nodes}
use Rattle.search.specs.declared.marks.Queue.{Queue}
use Rattle.search.specs.declared.place.Remaining.{Remaining}
use Rattle.search.specs.declared.place.Next.{Next}
use Rattle.search.specs.declared.walk.Stopped.{Stopped}
use Rattle.steps.specs.declared.Stop.{Stop}
use Rattle.steps.specs.declared.Stop.TheVariants.{Failure, NoAllowance, NoPair, RunName}
use Rattle.search.specs.declared.Finding.{Finding}
use Rattle.search.specs.declared.Finding.TheVariants.{Found, Failed, Spent}

abbrev pub halted_as : Stop → Finding
halted_as Failure = Failed
halted_as NoAllowance = Spent
halted_as NoPair = Found
halted_as (RunName v) = Found

-- the run name, or the number after the last variable for none
abbrev pub run_of : Stop → ℕ
run_of Failure = variables
run_of NoAllowance = variables
run_of NoPair = variables
run_of (RunName v) = v

-- and back
abbrev pub stop_in : Finding → ℕ → Stop
stop_in Failed run = Failure
stop_in Spent run = NoAllowance
stop_in Found run = cond (ltb run variables) (RunName (run % 256)) NoPair

-- behind the variables' parts
abbrev pub report_in : List ℕ → Stop → Marks → Place → List ℕ
report_in parts stop m p =
    set (set (set parts (variables + 2) (packed (bound_part m.waiting (run_of stop) 0)))
    (variables + 1) (packed (bound_part m.inner m.frames p.children)))
    variables (packed (bound_part p.node p.at p.elements))

pub record Reports (parts : List ℕ) (stop : Stop) (m : Marks) (p : Place) (outcome : Finding) (parts' : List ℕ) : Type 0 where
  pub children : p.children < 256
  pub elements : p.elements < 256
  pub ended : outcome ≡ halted_as stop
  pub written : parts' ≡ report_in parts stop m p

-- what is read there
abbrev pub reported_by : List ℕ → Finding → ℕ → ℕ → ℕ → Stopped
reported_by parts outcome left assigned first =
    stopped (stop_in outcome (unpacked (get_or parts (variables + 2) 0)).length) left assigned
    (marks (unpacked (get_or parts (variables + 1) 0)).offset (unpacked (get_or parts (variables + 1) 0)).length first (unpacked (get_or parts (variables + 2) 0)).offset)
    (place (unpacked (get_or parts (variables + 1) 0)).elements (unpacked (get_or parts variables 0)).elements
    (unpacked (get_or parts variables 0)).length (unpacked (get_or parts variables 0)).offset)

-- there is no report on a failure
abbrev pub Told : Bool → Stopped → List ℕ → Finding → ℕ → List ℕ → Type 0
Told true r parts outcome assigned' parts' = (outcome ≡ Failed) × (parts' ≡ parts)
Told false r parts outcome assigned' parts' = (assigned' ≡ r.assigned) × Reports parts r.stop r.marks r.place outcome parts'

-- what the walk reached, with these parts, and what is told of it
pub record Halts (i : Handed) (c : Change) (m : Marks) (p : Place) (outcome : Finding) : Type 0 where
  pub reached : Stopped
  pub parts : List ℕ
  pub walks : Walks i c.before m p parts c.after.stack reached
  pub same_left : c.after.left ≡ reached.left
  pub told : Told (failure reached.stop) reached parts outcome c.after.assigned c.after.parts

-- or the level goes on
pub record HaltsOr (halts : Bool) (i : Handed) (c : Change) (m : Marks) (p : Place) (outcome : Finding) (Going : Type 0) : Type 0 where
  pub halted : halts ≡ true → Halts i c m p outcome
  pub going : halts ≡ false → Going

abbrev pub RestBy : Bool → Handed → Change → Marks → Place → Finding → Type 0
RestBy halts i c m p outcome = HaltsOr halts i c m p outcome (RestIs i c m p outcome)

-- one that halts gives no variable any element
pub record Halting (halts : Bool) (v first most size : ℕ) : Type 0 where
  pub none : halts ≡ true → (v ≡ variables) × (first ≡ 0) × (most ≡ 0) × (size ≡ 0)

-- the place is behind the first of the lengths that v is given, v has them as its part, and they end where `least` elements are left
pub record Begun (codes bytes assigned : ℕ) (parts stack : List ℕ) (v : ℕ) (halts : Bool) (least : ℕ) (m : Marks) (p : Place) : Type 0 where
  pub first : ℕ
  pub most : ℕ
  pub from : ℕ
  pub holding : Holding codes bytes assigned parts stack m (run_start first from p)
  pub free : Assignable assigned v
  pub some : first ≤ most
  pub few : most < 256
  pub last : most ≡ p.elements + first - least
  pub behind : from ≤ p.node
  pub within : p.node ≤ bytes
  pub named : first < most → v < variables
  pub all : v < variables → least ≡ 0
  pub written : v < variables → get_or parts v 0 ≡ packed (bound_part from (p.node - from) first)
  pub halting : Halting halts v first most (p.node - from)

-- the same where marks and place are handed in halves
abbrev pub BegunAt : ℕ → ℕ → ℕ → List ℕ → List ℕ → ℕ → Bool → ℕ → Nodes → Queue → Remaining → Next → Type 0
BegunAt codes bytes assigned parts stack v halts least nodes queue remaining next =
    Begun codes bytes assigned parts stack v halts least (marks_of nodes queue) (place_from remaining next)

-- the level from there
pub record Levels (i : Handed) (c : Change) (v : ℕ) (halts : Bool) (least : ℕ) (m : Marks) (p : Place) (outcome : Finding) : Type 0 where
  pub from : (b : Begun (length i.pattern) (length i.bytes) c.before.assigned c.before.parts c.before.stack v halts least m p)
      → HaltsOr halts i c m (run_start b.first b.from p) outcome
      (LevelIs i c v b.first (p.node - b.from) b.most m (run_start b.first b.from p) outcome)

abbrev pub LevelsAt : Handed → Change → ℕ → Bool → ℕ → Nodes → Queue → Remaining → Next → Finding → Type 0
LevelsAt i c v halts least nodes queue remaining next outcome =
    Levels i c v halts least (marks_of nodes queue) (place_from remaining next) outcome

-- what is read of a level that halts
pub record PairsAre (i : Handed) (e : Lent) (m : Marks) (p : Place) (parts stack : List ℕ) (r : Stopped) : Type 0 where
  pub outcome : Finding
  pub assigned : ℕ
  pub left : ℕ
  pub halts : Halts i (e ⇒ lent_of assigned left parts stack) m p outcome
  pub is : r ≡ reported_by parts outcome left assigned m.first
