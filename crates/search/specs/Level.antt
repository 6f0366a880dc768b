-- The search of levels: the whole pattern is a level, and so is the inside of each complement.
use Rattle.std.specs.Prelude.{ℕ, zero, suc, ◌+◌, ◌-◌, ◌*◌, List, [], ◌∷◌, Bool, true, false, cond, ◌&&◌, length, take, drop, set, replicate, leb, eqb}
use Rattle.answers.specs.Part.{absent, bound_part}
use Rattle.answers.specs.declared.Part.{Part}
use Rattle.term.specs.Code.{variables}
use Rattle.term.specs.Limits.{longest_record, longest_pattern}
use Rattle.term.specs.Extent.{extent_of}
use Rattle.search.specs.State.{PutBy, State, Walked, place, state, place_past, turns, walk_of}
use Rattle.steps.specs.declared.Stop.{Stop}
use Rattle.steps.specs.declared.Stop.TheVariants.{Failure, NoAllowance, NoPair, RunName}
use Rattle.search.specs.declared.Finding.{Finding}
use Rattle.search.specs.declared.Finding.TheVariants.{Found, Failed, Spent}
use Rattle.search.specs.declared.Ended.{Ended}

-- how a search ended, the allowance left, and where it is found what each name and run name is assigned
pub record Reply : Type 0 where
  pub outcome : Finding
  pub left : ℕ
  pub parts : List Part

abbrev pub reply : Finding → ℕ → List Part → Reply
reply outcome left parts = record { outcome = outcome; left = left; parts = parts }

-- only what is found shows parts
abbrev pub failed_at : ℕ → Reply
failed_at left = reply Failed left (replicate variables absent)

abbrev pub spent_at : ℕ → Reply
spent_at left = reply Spent left (replicate variables absent)

abbrev pub failed : Finding → Bool
failed Found = false
failed Failed = true
failed Spent = false

-- a level's start: one pattern node against the record node at a place
abbrev pub start_of : List Part → ℕ → State
start_of parts node = state parts [] [] (place 1 1 0 node)

-- Run names. The search of the level, `lv`, goes on after each length.

-- the run name v is assigned n elements of so many bytes
abbrev pub tried : State → ℕ → ℕ → ℕ → State
tried s v n size =
    state (set s.parts v (bound_part s.place.node size n)) s.frames s.waiting (place_past s.place n 1 size)

-- the reply, or where it failed what comes next
abbrev pub or_else : Reply → (ℕ → Reply) → Reply
or_else r next = cond (failed r.outcome) (next r.left) r

-- an unassigned one tries a length, and k more after it where that fails
unfoldable pub lengths_of : (State → ℕ → Reply) → List ℕ → List ℕ → ℕ → State → ℕ → ℕ → ℕ → ℕ → Reply
lengths_of lv table bytes v s zero n size left = cond (eqb left 0) (spent_at left) (lv (tried s v n size) (left - 1))
lengths_of lv table bytes v s (suc k) n size left =
    cond (eqb left 0) (spent_at left)
    (or_else (lv (tried s v n size) (left - 1))
    (λ l. lengths_of lv table bytes v s k (n + 1) (size + extent_of table (drop (s.place.node + size) bytes)) l))

-- Complements. A search of levels, `lv`, takes the level's own part of the pattern.

-- the inside is a level of its own, that starts from the assignments made so far
unfoldable pub inside_of : (List ℕ → State → ℕ → Reply) → List ℕ → List Part → PutBy → ℕ → Reply
inside_of lv pattern parts c left = lv (take c.size (drop (c.at + 1) pattern)) (start_of parts c.node) left

-- a complement holds where the search of its inside fails, and goes on with what comes next; the assignments made inside are dropped
abbrev pub refuted : Finding → ℕ → (ℕ → Reply) → Reply
refuted Found left next = failed_at left
refuted Failed left next = next left
refuted Spent left next = spent_at left

abbrev pub and_then : Reply → (ℕ → Reply) → Reply
and_then r next = refuted r.outcome r.left next

-- those put by, in the order met: one that does not hold is a failure, and the later ones are not begun
unfoldable pub complements_of : (List ℕ → State → ℕ → Reply) → List ℕ → List Part → List PutBy → ℕ → Reply
complements_of lv pattern parts [] left = reply Found left parts
complements_of lv pattern parts (c ∷ cs) left =
    and_then (inside_of lv pattern parts c left) (λ l. complements_of lv pattern parts cs l)

-- Levels

abbrev pub stop_by : Stop → (List ℕ → State → ℕ → Reply) → List ℕ → List ℕ → List ℕ → State → ℕ → Reply
stop_by Failure lv table pattern bytes s left = failed_at left
stop_by NoAllowance lv table pattern bytes s left = spent_at left
stop_by NoPair lv table pattern bytes s left = complements_of lv pattern s.parts s.waiting left
stop_by (RunName v) lv table pattern bytes s left = lengths_of (lv pattern) table bytes v s s.place.elements 0 0 left

unfoldable pub after_walk : Walked → (List ℕ → State → ℕ → Reply) → List ℕ → List ℕ → List ℕ → Reply
after_walk w lv table pattern bytes = stop_by w.stop lv table pattern bytes w.state w.left

-- the search of a level, with at most so many others within it
unfoldable pub level_of : ℕ → List ℕ → List ℕ → List ℕ → List ℕ → State → ℕ → Reply
level_of zero table classes bytes pattern s left = failed_at left
level_of (suc n) table classes bytes pattern s left =
    after_walk (walk_of turns table classes pattern bytes s left) (level_of n table classes bytes) table pattern bytes

-- each level within another has less of the pattern, or starts further on in it
abbrev pub levels : List ℕ → ℕ → ℕ
levels pattern at = (longest_pattern + 1) * length pattern + (length pattern - at) + 1

-- the search of a whole pattern on a record, within document 01's limits
unfoldable pub search_of : List ℕ → List ℕ → List ℕ → List ℕ → ℕ → Reply
search_of table classes pattern bytes allowance =
    cond (leb (length pattern) longest_pattern && leb (length bytes) longest_record)
    (level_of (levels pattern 0) table classes bytes pattern (start_of (replicate variables absent) 0) allowance)
    (failed_at allowance)

-- without what the answer buffer shows
abbrev pub end_of : Reply → Ended
end_of r = record { outcome = r.outcome; left = r.left }
