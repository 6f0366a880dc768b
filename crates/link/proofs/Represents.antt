-- What a state of the search on bytes stands for: a stack of frames, an assignment, and complements put by.
use Prim.Native.Nat.{ℕ, ◌+◌, ◌-◌, ◌<◌, ◌≤◌}
use mathlib.Core.Path.{◌≡◌}
use mathlib.Core.List.{List, [], ◌∷◌}
use mathlib.Core.Bool.{Bool, true, false}
use lib.ListN.{length, get_or, take, drop}
use Rattle.answers.specs.Part.{part}
use Rattle.answers.specs.declared.Part.{Part}
use Rattle.term.specs.Code.{variables}
use Rattle.term.specs.Tree.{Trees}
use Rattle.term.specs.Term.{Terms, count, single, sizes, term_trees, terms_bytes}
use Rattle.term.specs.Pattern.{Children, end, plain, child_trees, pattern_bytes}
use Rattle.term.specs.Limits.{FitAll}
use Rattle.term.proofs.Sizes.{arity, children_bytes}
use Rattle.anti_pattern.specs.Search.{Env}
use Rattle.anti_pattern.specs.Place.{assigned_part}
use Rattle.anti_pattern.proofs.Machine.{Frame, Pending}
use Rattle.anti_pattern.proofs.Meter.{Metered, met, missed, used_up}
use Rattle.search.specs.State.{remaining, PutBy, State}
use Rattle.search.specs.declared.place.Remaining.{Remaining}
use Rattle.search.specs.Level.{Reply, reply, failed_at, spent_at}
use Rattle.search.specs.declared.place.Place.{Place}
use Rattle.search.specs.declared.Finding.TheVariants.{Found}
use Rattle.std.specs.Prelude.{Some}

-- trees within the limits
pub record Limited (table : List ℕ) (records : Bool) (ts : Trees) : Type 0 where
  pub left : ℕ
  pub in_list : Bool
  pub fit : FitAll table records ts left in_list

-- The place

-- the bytes of what is left of the frames around: of the pattern, all there are, and of the record
abbrev pub codes_left : List ℕ → List Frame → List ℕ
codes_left table [] = []
codes_left table (f ∷ fs) = children_bytes table f.patterns (codes_left table fs)

abbrev pub bytes_left : List ℕ → List Frame → List ℕ → List ℕ
bytes_left table [] bs = bs
bytes_left table (f ∷ fs) bs = terms_bytes table f.elements (bytes_left table fs bs)

-- a frame around: its counts, and the place of its first element left
pub record Around (table : List ℕ) (c : Remaining) (node : ℕ) (f : Frame) : Type 0 where
  pub counted : c ≡ remaining (arity f.patterns) (count f.elements)
  pub at : f.at ≡ node
  pub patterns : Limited table false (child_trees f.patterns)
  pub elements : Limited table true (term_trees f.elements)

-- the elements of each frame around stand behind those of the frame within it
abbrev pub Stacked : List ℕ → List Remaining → ℕ → List Frame → Type 0
Stacked table [] node [] = Unit {0}
Stacked table [] node (f ∷ fs) = ⊥
Stacked table (c ∷ cs) node [] = ⊥
Stacked table (c ∷ cs) node (f ∷ fs) = Around table c node f × Stacked table cs (node + sizes table f.elements) fs

-- the child patterns and elements of the innermost frame come next, then those of the frames around; each of these took a byte of the pattern or more
pub record Here (table pattern bytes : List ℕ) (p : Place) (frames : List Remaining) (qs : Children) (ts : Terms) (fs : List Frame) : Type 0 where
  pub bytes_after : List ℕ
  pub codes : drop p.at pattern ≡ children_bytes table qs (codes_left table fs)
  pub stands : drop p.node bytes ≡ terms_bytes table ts (bytes_left table fs bytes_after)
  pub within : p.node ≤ length bytes
  pub children : p.children ≡ arity qs
  pub elements : p.elements ≡ count ts
  pub few : length fs + (length pattern - p.at) ≤ length pattern
  pub around : Stacked table frames (p.node + sizes table ts) fs
  pub patterns_limited : Limited table false (child_trees qs)
  pub elements_limited : Limited table true (term_trees ts)

-- The parts shown

-- a run of terms stands at an offset of the record
pub record Stands (table bytes : List ℕ) (at : ℕ) (w : Terms) : Type 0 where
  pub after : List ℕ
  pub stands : drop at bytes ≡ terms_bytes table w after
  pub within : at ≤ length bytes
  pub limited : Limited table true (term_trees w)

-- each variable's part shows what is assigned to it; a name's is one term
pub record Shown (table bytes : List ℕ) (parts : List Part) (e : Env) : Type 0 where
  pub room : length parts ≡ variables
  pub shown : (v : ℕ) → v < variables → get_or parts v (part 0 0 0) ≡ assigned_part table (e.value v) (e.offset v)
  pub stands : (v : ℕ) (w : Terms) → e.value v ≡ Some w → Stands table bytes (e.offset v) w
  pub one : (v : ℕ) (w : Terms) → v < 32 → e.value v ≡ Some w → count w ≡ 1

-- The complements put by

-- where the inside's bytes are, and where its term stands
pub record Waits (table pattern bytes : List ℕ) (c : PutBy) (d : Pending) : Type 0 where
  pub codes : take c.size (drop (c.at + 1) pattern) ≡ pattern_bytes table d.inside []
  pub limited : Limited table false (child_trees (plain d.inside end))
  pub at : d.at ≡ c.node
  pub stands : Stands table bytes c.node (single d.term)

abbrev pub AllWait : List ℕ → List ℕ → List ℕ → List PutBy → List Pending → Type 0
AllWait table pattern bytes [] [] = Unit {0}
AllWait table pattern bytes [] (d ∷ ds) = ⊥
AllWait table pattern bytes (c ∷ cs) [] = ⊥
AllWait table pattern bytes (c ∷ cs) (d ∷ ds) = Waits table pattern bytes c d × AllWait table pattern bytes cs ds

-- The state

-- of the frames the innermost is qs against ts
pub record Represents (table pattern bytes : List ℕ) (s : State) (qs : Children) (ts : Terms) (fs : List Frame) (e : Env) (ds : List Pending) : Type 0 where
  pub here : Here table pattern bytes s.place s.frames qs ts fs
  pub shown : Shown table bytes s.parts e
  pub waiting : AllWait table pattern bytes s.waiting ds

-- The reply

-- what it says of the search under the allowance
pub data Agrees (table bytes : List ℕ) : Metered → Reply → Type 0 where
  is_found : {e : Env} {left : ℕ} {parts : List Part} → Shown table bytes parts e → Agrees table bytes (met e left) (reply Found left parts)
  is_failed : {left : ℕ} → Agrees table bytes (missed left) (failed_at left)
  is_spent : {left : ℕ} → Agrees table bytes used_up (spent_at left)
