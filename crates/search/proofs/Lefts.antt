-- A search leaves no more of its allowance than it was given.
use Prim.Native.Nat.{ℕ, zero, suc, ◌+◌, ◌-◌, ◌≤◌}
use native.Mathlib.Omega.{arith}
use native.Mathlib.Nat.{le_refl, le_trans}
use mathlib.Core.List.{List, [], ◌∷◌}
use mathlib.Core.Bool.{Bool, true, false, cond, ◌&&◌}
use lib.ListN.{length, get_or, take, drop, replicate}
use lib.Dec.{eqb, ltb, leb}
use Rattle.answers.specs.Part.{absent}
use Rattle.answers.specs.declared.Part.{Part}
use Rattle.term.specs.Limits.{longest_record, longest_pattern}
use Rattle.term.specs.Code.{variables}
use Rattle.term.specs.Extent.{span_of, extent_of}
use Rattle.search.specs.State.{turns, PutBy, State, Walked, alone, variable_at, part_in_state, closed, step_at, walk_by, walk_of}
use Rattle.search.specs.Level.{Reply, failed, start_of, tried, or_else, lengths_of, inside_of, refuted, complements_of, stop_by, after_walk, level_of, levels, search_of}
use Rattle.search.specs.Given.{Pass, ends, unknown, resumed_by, or_further, further_of, given_length_of, given_by, after_given, given_of}
use Rattle.search.specs.Following.{followed_of, next_pass}
use Rattle.search.specs.Spread.{free_in, spread_to}
use Rattle.steps.specs.declared.Step.{Step}
use Rattle.steps.specs.declared.Step.TheVariants.{Stops, Fails, Closes, Opens, Passes, Binds, PutsBy}
use Rattle.steps.specs.declared.Stop.{Stop}
use Rattle.steps.specs.declared.Stop.TheVariants.{Failure, NoAllowance, NoPair, RunName}
use Rattle.search.specs.declared.Finding.{Finding}
use Rattle.search.specs.declared.Finding.TheVariants.{Found, Failed, Spent}

-- of two replies, and of one after the other

either : (b : Bool) (x y : Reply) {n : ℕ} → x.left ≤ n → y.left ≤ n → (cond b x y).left ≤ n
either true x y h k = h
either false x y h k = k

or_left : (r : Reply) (next : ℕ → Reply) {n : ℕ} → ((l : ℕ) → (next l).left ≤ l) → r.left ≤ n → (or_else r next).left ≤ n
or_left r next h k = either (failed r.outcome) (next r.left) r (le_trans (h r.left) k) k

refuted_left : (o : Finding) (left : ℕ) (next : ℕ → Reply) {n : ℕ} → ((l : ℕ) → (next l).left ≤ l) → left ≤ n → (refuted o left next).left ≤ n
refuted_left Found left next h k = k
refuted_left Failed left next h k = le_trans (h left) k
refuted_left Spent left next h k = k

-- of a pass, where it ends
data Leaves (n : ℕ) : Pass → Type 0 where
  leaves : {r : Reply} → r.left ≤ n → Leaves n (ends r)
  unknown_leaves : Leaves n unknown

either_leaves : {n : ℕ} (b : Bool) {x y : Pass} → Leaves n x → Leaves n y → Leaves n (cond b x y)
either_leaves true h k = h
either_leaves false h k = k

leaves_more : {m n : ℕ} {p : Pass} → Leaves m p → m ≤ n → Leaves n p
leaves_more (leaves h) k = leaves (le_trans h k)
leaves_more unknown_leaves k = unknown_leaves

resumed_leaves : {n : ℕ} (o : Finding) (left : ℕ) → left ≤ n → Leaves n (resumed_by o left)
resumed_leaves Found left h = leaves h
resumed_leaves Failed left h = unknown_leaves
resumed_leaves Spent left h = leaves h

further_leaves : {n : ℕ} {p : Pass} (next : ℕ → Reply) → ((l : ℕ) → (next l).left ≤ l) → Leaves n p → Leaves n (or_further p next)
further_leaves next h (leaves {r} k) = leaves (or_left r next h k)
further_leaves next h unknown_leaves = unknown_leaves

followed_left : (allowance : ℕ) {p : Pass} → Leaves allowance p → (followed_of allowance p).left ≤ allowance
followed_left allowance (leaves h) = h
followed_left allowance unknown_leaves = le_refl allowance

-- of a walk, and of what it leads to

next_left_holds : (b : Step) (f : State → ℕ → Walked) → ((s : State) (l : ℕ) → (f s l).left ≤ l) → (s : State) (left : ℕ) → (walk_by b f s left).left ≤ left
unfolding walk_by
next_left_holds (Stops stop) f h s left = le_refl left
next_left_holds Fails f h s left = omega arith
next_left_holds Closes f h s left = h (closed s) left
next_left_holds (Opens children elements width) f h s left = le_trans (h _ (left - 1)) (omega arith)
next_left_holds (Passes elements size) f h s left = le_trans (h _ (left - 1)) (omega arith)
next_left_holds (Binds v size) f h s left = le_trans (h _ (left - 1)) (omega arith)
next_left_holds (PutsBy codes size) f h s left = le_trans (h _ (left - 1)) (omega arith)

module _ (table classes bytes : List ℕ) where
  walk_left : (n : ℕ) (pattern : List ℕ) (s : State) (left : ℕ) → (walk_of n table classes pattern bytes s left).left ≤ left
  unfolding walk_of
  walk_left zero pattern s left = le_refl left
  walk_left (suc n) pattern s left =
      next_left_holds (step_at (alone s.frames) table classes pattern bytes (part_in_state s (variable_at pattern s.place.at)) s.place left)
      (walk_of n table classes pattern bytes) (walk_left n pattern) s left

  lengths_left : (lv : State → ℕ → Reply) → ((s : State) (l : ℕ) → (lv s l).left ≤ l) → (v : ℕ) (s : State) (k n size left : ℕ)
      → (lengths_of lv table bytes v s k n size left).left ≤ left
  unfolding lengths_of
  lengths_left lv h v s zero n size left = either (eqb left 0) _ _ (le_refl left) (le_trans (h (tried s v n size) (left - 1)) (omega arith))
  lengths_left lv h v s (suc k) n size left =
      let m = size + extent_of table (drop (s.place.node + size) bytes) in
      either (eqb left 0) _ _ (le_refl left)
      (or_left (lv (tried s v n size) (left - 1)) (lengths_of lv table bytes v s k (n + 1) m) (lengths_left lv h v s k (n + 1) m)
      (le_trans (h (tried s v n size) (left - 1)) (omega arith)))

  module _ (lv : List ℕ → State → ℕ → Reply) (h : (pattern : List ℕ) (s : State) (l : ℕ) → (lv pattern s l).left ≤ l) (pattern : List ℕ) where
    complements_left : (parts : List Part) (cs : List PutBy) (left : ℕ) → (complements_of lv pattern parts cs left).left ≤ left
    unfolding complements_of inside_of
    complements_left parts [] left = le_refl left
    complements_left parts (c ∷ cs) left =
        let r = inside_of lv pattern parts c left in
        refuted_left r.outcome r.left (complements_of lv pattern parts cs) (complements_left parts cs)
        (h (take c.size (drop (c.at + 1) pattern)) (start_of parts c.node) left)

    stop_left : (stop : Stop) (s : State) (left : ℕ) → (stop_by stop lv table pattern bytes s left).left ≤ left
    stop_left Failure s left = le_refl left
    stop_left NoAllowance s left = le_refl left
    stop_left NoPair s left = complements_left s.parts s.waiting left
    stop_left (RunName v) s left = lengths_left (lv pattern) (h pattern) v s s.place.elements 0 0 left

  level_left : (n : ℕ) (pattern : List ℕ) (s : State) (left : ℕ) → (level_of n table classes bytes pattern s left).left ≤ left
  unfolding level_of after_walk
  level_left zero pattern s left = le_refl left
  level_left (suc n) pattern s left =
      let w = walk_of turns table classes pattern bytes s left in
      le_trans (stop_left (level_of n table classes bytes) (level_left n) pattern w.stop w.state w.left) (walk_left turns pattern s left)

  pub search_left : (pattern : List ℕ) (allowance : ℕ) → (search_of table classes pattern bytes allowance).left ≤ allowance
  unfolding search_of
  search_left pattern allowance =
      either (leb (length pattern) longest_pattern && leb (length bytes) longest_record) _ _
      (level_left (levels pattern 0) pattern (start_of (replicate variables absent) 0) allowance) (le_refl allowance)

  -- of a pass

  pass_further : (lv : State → ℕ → Reply) → ((s : State) (l : ℕ) → (lv s l).left ≤ l) → (v : ℕ) (s : State) (k n size left : ℕ)
      → (further_of lv table bytes v s k n size left).left ≤ left
  unfolding further_of
  pass_further lv h v s zero n size left = le_refl left
  pass_further lv h v s (suc k) n size left =
      lengths_left lv h v s k (n + 1) (size + extent_of table (drop (s.place.node + size) bytes)) left

  given_length_left : (gl : State → ℕ → Pass) → ((s : State) (l : ℕ) → Leaves l (gl s l)) → (lv : State → ℕ → Reply)
      → ((s : State) (l : ℕ) → (lv s l).left ≤ l) → (n v : ℕ) (s : State) (left : ℕ) → Leaves left (given_length_of gl lv table bytes n v s left)
  unfolding given_length_of
  given_length_left gl g lv h n v s left =
      let size = span_of table (drop s.place.node bytes) false n in
      either_leaves (eqb left 0) (leaves (le_refl left))
      (either_leaves (ltb s.place.elements n) unknown_leaves
      (further_leaves (further_of lv table bytes v s (s.place.elements - n) n size) (pass_further lv h v s (s.place.elements - n) n size)
      (leaves_more (g (tried s v n size) (left - 1)) (omega arith))))

  given_by_left : (gl : State → ℕ → Pass) → ((s : State) (l : ℕ) → Leaves l (gl s l)) → (lv : List ℕ → State → ℕ → Reply)
      → ((pattern : List ℕ) (s : State) (l : ℕ) → (lv pattern s l).left ≤ l) → (pattern lengths : List ℕ) (stop : Stop) (s : State) (left : ℕ)
      → Leaves left (given_by stop gl lv table pattern bytes lengths s left)
  given_by_left gl g lv h pattern lengths Failure s left = unknown_leaves
  given_by_left gl g lv h pattern lengths NoAllowance s left = leaves (le_refl left)
  given_by_left gl g lv h pattern lengths NoPair s left =
      resumed_leaves (complements_of lv pattern s.parts s.waiting left).outcome _ (complements_left lv h pattern s.parts s.waiting left)
  given_by_left gl g lv h pattern lengths (RunName v) s left = given_length_left gl g (lv pattern) (h pattern) (get_or lengths v 0) v s left

  given_left : (n : ℕ) (pattern lengths : List ℕ) (s : State) (left : ℕ) → Leaves left (given_of n table classes bytes pattern lengths s left)
  unfolding given_of after_given
  given_left zero pattern lengths s left = unknown_leaves
  given_left (suc n) pattern lengths s left =
      let w = walk_of turns table classes pattern bytes s left in
      leaves_more
      (given_by_left (given_of n table classes bytes pattern lengths) (given_left n pattern lengths) (level_of n table classes bytes) (level_left n) pattern lengths
      w.stop w.state w.left) (walk_left turns pattern s left)

  pub following_left : (pattern given : List ℕ) (allowance : ℕ) → (followed_of allowance (next_pass table classes pattern bytes given allowance)).left ≤ allowance
  unfolding next_pass
  following_left pattern given allowance =
      followed_left allowance
      (either_leaves (leb (length pattern) longest_pattern && leb (length bytes) longest_record)
      (either_leaves (eqb (length given) (length (free_in table pattern)))
      (given_left (levels pattern 0) pattern (spread_to (free_in table pattern) given (replicate variables 0)) (start_of (replicate variables absent) 0) allowance)
      unknown_leaves) unknown_leaves)
