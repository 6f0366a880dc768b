-- The next answer on bytes (document 02, L3): the check on the way to the given answer, and on the way back the search resumed after it.
-- g has the given length of the run name v at v.
use Rattle.std.specs.Prelude.{ℕ, zero, suc, ◌+◌, ◌-◌, List, false, cond, get_or, drop, replicate, eqb, ltb}
use Rattle.answers.specs.Part.{absent}
use Rattle.term.specs.Code.{variables}
use Rattle.term.specs.Extent.{span_of, extent_of}
use Rattle.search.specs.State.{State, Walked, turns, walk_of}
use Rattle.search.specs.Level.{Reply, failed_at, spent_at, start_of, tried, or_else, lengths_of, complements_of, level_of, levels}
use Rattle.steps.specs.declared.Stop.{Stop}
use Rattle.steps.specs.declared.Stop.TheVariants.{Failure, NoAllowance, NoPair, RunName}
use Rattle.search.specs.declared.Finding.{Finding}
use Rattle.search.specs.declared.Finding.TheVariants.{Found, Failed, Spent}

-- the search resumed after the given answer ends; or the lengths given belong to no answer
pub data Pass : Type 0 where
  ends : Reply → Pass
  unknown : Pass

-- where the complements put by hold the given answer is known, and the search goes on as after a failure
abbrev pub resumed_by : Finding → ℕ → Pass
resumed_by Found left = ends (failed_at left)
resumed_by Failed left = unknown
resumed_by Spent left = ends (spent_at left)

abbrev pub or_further : Pass → (ℕ → Reply) → Pass
or_further (ends r) next = ends (or_else r next)
or_further unknown next = unknown

-- the k lengths after n
unfoldable pub further_of : (State → ℕ → Reply) → List ℕ → List ℕ → ℕ → State → ℕ → ℕ → ℕ → ℕ → Reply
further_of lv table bytes v s zero n size left = failed_at left
further_of lv table bytes v s (suc k) n size left =
    lengths_of lv table bytes v s k (n + 1) (size + extent_of table (drop (s.place.node + size) bytes)) left

-- a free run name tries its given length only, fitting or not; gl goes on after it
unfoldable pub given_length_of : (State → ℕ → Pass) → (State → ℕ → Reply) → List ℕ → List ℕ → ℕ → ℕ → State → ℕ → Pass
given_length_of gl lv table bytes n v s left =
    cond (eqb left 0) (ends (spent_at left))
    (cond (ltb s.place.elements n) unknown
    (or_further (gl (tried s v n (span_of table (drop s.place.node bytes) false n)) (left - 1))
    (λ l. further_of lv table bytes v s (s.place.elements - n) n (span_of table (drop s.place.node bytes) false n) l)))

abbrev pub given_by : Stop → (State → ℕ → Pass) → (List ℕ → State → ℕ → Reply) → List ℕ → List ℕ → List ℕ → List ℕ → State → ℕ → Pass
given_by Failure gl lv table pattern bytes g s left = unknown
given_by NoAllowance gl lv table pattern bytes g s left = ends (spent_at left)
given_by NoPair gl lv table pattern bytes g s left =
    resumed_by (complements_of lv pattern s.parts s.waiting left).outcome (complements_of lv pattern s.parts s.waiting left).left
given_by (RunName v) gl lv table pattern bytes g s left = given_length_of gl (lv pattern) table bytes (get_or g v 0) v s left

unfoldable pub after_given : Walked → (State → ℕ → Pass) → (List ℕ → State → ℕ → Reply) → List ℕ → List ℕ → List ℕ → List ℕ → Pass
after_given w gl lv table pattern bytes g = given_by w.stop gl lv table pattern bytes g w.state w.left

-- the rest of the level, with at most so many levels within
unfoldable pub given_of : ℕ → List ℕ → List ℕ → List ℕ → List ℕ → List ℕ → State → ℕ → Pass
given_of zero table classes bytes pattern g s left = unknown
given_of (suc n) table classes bytes pattern g s left =
    after_given (walk_of turns table classes pattern bytes s left) (given_of n table classes bytes pattern g) (level_of n table classes bytes) table pattern bytes g

-- the whole pattern on a record, within document 01's limits
abbrev pub pass_of : List ℕ → List ℕ → List ℕ → List ℕ → List ℕ → ℕ → Pass
pass_of table classes pattern bytes g allowance =
    given_of (levels pattern 0) table classes bytes pattern g (start_of (replicate variables absent) 0) allowance
