-- What the functions of the search of levels reply, and what they ask for.
use Rattle.std.specs.Prelude.{ℕ, zero, suc, ◌+◌, ◌-◌, ◌<◌, ◌≤◌, ◌≡◌, List, Option, Some, None, Bool, true, false, cond, length, get_or, take, drop, set, eqb}
use Rattle.answers.specs.Part.{part, bound_part}
use Rattle.answers.specs.declared.Part.{Part}
use Rattle.term.specs.Code.{variables}
use Rattle.term.specs.Extent.{extent_of}
use Rattle.search.specs.State.{PutBy, State, place, state}
use Rattle.search.specs.Level.{Reply, reply, failed_at, spent_at, start_of, or_else, complements_of, stop_by, level_of, levels, end_of}
use Rattle.parts.specs.Packed.{bit, part_in, parts_in}
use Rattle.search.specs.Inner.Memory.{Holding}
use Rattle.search.specs.Inner.Lent.{Handed, Lent, Change, input_of, Held, Keeps, levels_in, level_in}
use Rattle.search.specs.declared.place.Place.{Place}
use Rattle.search.specs.declared.marks.Marks.{Marks}
use Rattle.steps.specs.declared.Stop.{Stop}
use Rattle.steps.specs.declared.Stop.TheVariants.{Failure, NoAllowance, NoPair, RunName}
use Rattle.search.specs.declared.Finding.{Finding}
use Rattle.search.specs.declared.Finding.TheVariants.{Found, Failed, Spent}
use Rattle.search.specs.declared.Ended.{Ended}

abbrev pub failure : Stop → Bool
failure Failure = true
failure NoAllowance = false
failure NoPair = false
failure (RunName v) = false

abbrev pub found : Finding → Bool
found Found = true
found Failed = false
found Spent = false

abbrev pub turned : Finding → Finding
turned Found = Failed
turned Failed = Found
turned Spent = Spent

-- the reply that outcome, allowance and parts shown stand for
abbrev pub reply_with : Finding → ℕ → List Part → Reply
reply_with Found left shown = reply Found left shown
reply_with Failed left shown = failed_at left
reply_with Spent left shown = spent_at left

-- the same by mask and parts
abbrev pub reply_of : Finding → ℕ → ℕ → List ℕ → Reply
reply_of outcome left assigned parts = reply_with outcome left (parts_in assigned parts 0 variables)

-- Lengths

-- the variable v is given n elements of so many bytes, from the place on
abbrev pub given : State → ℕ → ℕ → ℕ → State
given s v n size =
    state (set s.parts v (bound_part s.place.node size n)) s.frames s.waiting
    (place s.place.children (s.place.elements - n) s.place.at (s.place.node + size))

-- n elements are given, and k lengths more tried where that fails; the first is counted already
unfoldable pub tries_of : (State → ℕ → Reply) → List ℕ → List ℕ → ℕ → State → ℕ → ℕ → ℕ → ℕ → Reply
tries_of lv table bytes v s zero n size left = lv (given s v n size) left
tries_of lv table bytes v s (suc k) n size left =
    or_else (lv (given s v n size) left)
    (λ l. cond (eqb l 0) (spent_at l)
    (tries_of lv table bytes v s k (n + 1) (size + extent_of table (drop (s.place.node + size) bytes)) (l - 1)))

-- What is asked for

-- a variable that is not assigned, or the number after the last for none
pub record Assignable (assigned v : ℕ) : Type 0 where
  pub below : v ≤ variables
  pub free : v < variables → bit assigned v ≡ false

-- the place at which a run starts, from the place behind its first n elements
abbrev pub run_start : ℕ → ℕ → Place → Place
run_start n from p = place p.children (p.elements + n) p.at from

-- the buffers hold a state at some place
pub record Resting (codes bytes assigned : ℕ) (parts stack : List ℕ) (m : Marks) : Type 0 where
  pub place : Place
  pub holding : Holding codes bytes assigned parts stack m place

-- the marks of a level that starts with these in use
abbrev pub inside : Marks → Marks
inside m = record { inner = 0; frames = m.frames; first = m.waiting; waiting = m.waiting }

-- a complement whose inside can be searched
pub record Testable (codes bytes assigned : ℕ) (parts stack : List ℕ) (m : Marks) (c : PutBy) : Type 0 where
  pub within : c.at + 1 + c.size ≤ codes
  pub holding : Holding c.size bytes assigned parts stack (inside m) (place 1 1 0 c.node)

-- The first pair

-- the search of the level from a node counts its first pair and no other
pub record EndsAtOnce (table classes pattern bytes : List ℕ) (node left : ℕ) (outcome : Finding) : Type 0 where
  pub some : 0 < left
  pub ends : (shown : List Part) (n : ℕ) → 0 < n
      → level_of n table classes bytes pattern (start_of shown node) left ≡ reply_with outcome (left - 1) shown

-- what the first pair decides alone
abbrev pub Decides : List ℕ → List ℕ → List ℕ → List ℕ → ℕ → ℕ → Option Finding → Type 0
Decides table classes pattern bytes node left (Some outcome) = EndsAtOnce table classes pattern bytes node left outcome
Decides table classes pattern bytes node left None = Unit {0}

-- the same within a complement, where the buffers hold what is assigned; what is assigned there is dropped
pub record EndsInside (table classes pattern bytes : List ℕ) (assigned : ℕ) (parts : List ℕ) (node left : ℕ) (outcome : Finding) : Type 0 where
  pub some : 0 < left
  pub ends : (shown : List Part) → ((v : ℕ) → v < variables → get_or shown v (part 0 0 0) ≡ part_in assigned parts v) → (n : ℕ) → 0 < n
      → end_of (level_of n table classes bytes pattern (start_of shown node) left) ≡ record { outcome = outcome; left = left - 1 }

abbrev pub DecidesInside : List ℕ → List ℕ → List ℕ → List ℕ → ℕ → List ℕ → ℕ → ℕ → Option Finding → Type 0
DecidesInside table classes pattern bytes assigned parts node left (Some outcome) = EndsInside table classes pattern bytes assigned parts node left outcome
DecidesInside table classes pattern bytes assigned parts node left None = Unit {0}

-- The replies

-- a call that ends so replies what the definition says of whatever state the buffers hold before it, with any number of levels that is enough;
-- and what is in use stays
pub record Replies {E X : Type 0} (stands : E → Lent → X) (i : Handed) (c : Change) (m : Marks) (p : Place) (end : E) (enough : ℕ)
    (means : State → ℕ → X) : Type 0 where
  pub replies : (s : State) → Held i c.before m p s → (n : ℕ) → enough ≤ n → stands end c.after ≡ means s n
  pub kept : Keeps c.before m c.after

abbrev pub reply_in : Finding → Lent → Reply
reply_in outcome x = reply_of outcome x.left x.assigned x.parts

-- of a level whose variable v has its first elements, of so many bytes, and may have more
abbrev pub LevelIs : Handed → Change → ℕ → ℕ → ℕ → ℕ → Marks → Place → Finding → Type 0
LevelIs i c v first size most m p outcome =
    Replies reply_in i c m p outcome (levels i.pattern p.at)
    (λ s n. tries_of (level_in i n) i.table i.bytes v s (most - first) first size c.before.left)

-- of the rest of a level
abbrev pub RestIs : Handed → Change → Marks → Place → Finding → Type 0
RestIs i c m p outcome = Replies reply_in i c m p outcome (levels i.pattern p.at) (λ s n. level_in i n s c.before.left)

-- of what follows where the pairs stop
abbrev pub follow_in : Handed → Stop → ℕ → State → ℕ → Reply
follow_in i stop n s left = stop_by stop (levels_in i n) i.table i.pattern i.bytes s left

abbrev pub FollowIs : Handed → Change → Stop → Marks → Place → Finding → Type 0
FollowIs i c stop m p outcome =
    Replies reply_in i c m p outcome (levels i.pattern p.at - 1) (λ s n. follow_in i stop n s c.before.left)

-- of a complement: how its inside ends, turned
abbrev pub inside_in : Handed → PutBy → Handed
inside_in i c = input_of i.table i.classes (take c.size (drop (c.at + 1) i.pattern)) i.bytes

abbrev pub end_in : Finding → Lent → Ended
end_in outcome x = record { outcome = outcome; left = x.left }

abbrev pub opposite_of : Reply → Ended
opposite_of r = record { outcome = turned r.outcome; left = r.left }

abbrev pub ComplementIs : Handed → Change → PutBy → Marks → Finding → Type 0
ComplementIs i c d m outcome =
    Replies end_in (inside_in i d) c (inside m) (place 1 1 0 d.node) outcome (levels i.pattern (length i.pattern) - 1)
    (λ s n. opposite_of (level_in (inside_in i d) n s c.before.left))

-- of those put by, wherever the pairs stopped
abbrev pub ComplementsAre : Handed → Change → Marks → Finding → Type 0
ComplementsAre i c m outcome =
    (p : Place) → Replies reply_in i c m p outcome (levels i.pattern (length i.pattern) - 1)
    (λ s n. complements_of (levels_in i n) i.pattern s.parts s.waiting c.before.left)
