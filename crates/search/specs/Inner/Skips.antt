-- Lengths of a run name that are counted without being tried: after them the next child pattern cannot hold.
use Rattle.std.specs.Prelude.{ℕ, ◌+◌, ◌-◌, ◌*◌, ◌^◌, ◌<◌, ◌≤◌, ◌≡◌, List, Bool, true, false, length, get_or, drop, set}
use Rattle.term.specs.Code.{variables, decode_of}
use Rattle.term.specs.Limits.{longest_record}
use Rattle.term.specs.Extent.{extent_of}
use Rattle.term.specs.Part.{part_bytes}
use Rattle.term.specs.declared.Code.TheVariants.{Symbol, Name, Run}
use Rattle.skips.specs.Passed.{most_symbols, chain_of, Passes}
use Rattle.search.specs.State.{place}
use Rattle.parts.specs.Packed.{part_places, part_in}
use Rattle.search.specs.declared.place.Place.{Place}
use Rattle.search.specs.declared.skip.Skipped.{Skipped}
use Rattle.search.specs.declared.skip.Lengthening.{Lengthening}

-- behind so many elements more, which end at a byte
abbrev pub behind_in : Place → ℕ → ℕ → Place
behind_in p n node = place p.children (p.elements - n) p.at node

abbrev pub skipped : ℕ → ℕ → Bool → ℕ → Skipped
skipped lengths node over count = record { lengths = lengths; node = node; over = over; count = count }

-- what an element must start with for the child pattern at a place to hold: the chain of its symbols, or, of 0 symbols, the bytes of what its variable
-- is assigned, none where it is not; and whether the child pattern is plain
pub data Wants (table pattern bytes : List ℕ) (assigned : ℕ) (parts : List ℕ) (at : ℕ) : ℕ → List ℕ → Bool → Type 0 where
  symbol : {b : ℕ} → Symbol b ≡ decode_of (get_or pattern at 0)
      → Wants table pattern bytes assigned parts at (chain_of table most_symbols (drop at pattern)) (drop at pattern) true
  name : {v : ℕ} → Name v ≡ decode_of (get_or pattern at 0)
      → Wants table pattern bytes assigned parts at 0 (part_bytes bytes (part_in assigned parts v)) true
  run : {v : ℕ} → Run v ≡ decode_of (get_or pattern at 0)
      → Wants table pattern bytes assigned parts at 0 (part_bytes bytes (part_in assigned parts v)) false

-- some of the elements left, each of which fails against x; what is counted for them can be paid. They are all of a plain child pattern's where it is
-- over
pub record SkipsTo (table classes bytes : List ℕ) (symbols : ℕ) (x : List ℕ) (plain : Bool) (elements node left : ℕ) (r : Skipped) : Type 0 where
  pub size : ℕ
  pub passes : Passes table classes symbols x (drop node bytes) r.lengths size r.count
  pub ends : r.node ≡ node + size
  pub within : r.node ≤ length bytes
  pub few : r.lengths ≤ elements
  pub paid : r.count ≤ left
  pub all : r.over ≡ true → (plain ≡ true) × (r.lengths ≡ elements)

-- no length is passed over, or some after which the next child pattern does not hold
pub data Skips (table classes pattern bytes : List ℕ) (assigned : ℕ) (parts : List ℕ) (p : Place) (left : ℕ) (r : Skipped) : Type 0 where
  nothing : r ≡ skipped 0 p.node false 0 → Skips table classes pattern bytes assigned parts p left r
  some : {symbols : ℕ} {x : List ℕ} {plain : Bool} → 0 < p.children → p.at < length pattern
      → Wants table pattern bytes assigned parts p.at symbols x plain
      → SkipsTo table classes bytes symbols x plain p.elements p.node left r → Skips table classes pattern bytes assigned parts p left r

-- a run name's part can be lengthened: an element is left
pub record Lengthened (bytes : ℕ) (parts : List ℕ) (v : ℕ) (p : Place) : Type 0 where
  pub variable : v < variables
  pub sized : length parts ≡ part_places
  pub room : get_or parts v 0 < 2 ^ 48
  pub element : 0 < p.elements
  pub within : p.node ≤ bytes
  pub short : bytes ≤ longest_record

-- by one element, and those of the lengths that are passed over
pub record Lengthens (table classes pattern bytes : List ℕ) (assigned : ℕ) (parts : List ℕ) (v : ℕ) (p : Place) (left : ℕ) (parts' : List ℕ) (r : Lengthening) : Type 0 where
  pub further : Skipped
  pub skips : Skips table classes pattern bytes assigned parts (behind_in p 1 (p.node + extent_of table (drop p.node bytes))) left further
  pub place : r.place ≡ behind_in p (1 + further.lengths) further.node
  pub paid : r.left ≡ left - further.count
  pub over : r.over ≡ further.over
  pub written : parts' ≡ set parts v (get_or parts v 0 + 65536 * (further.node - p.node) + 4294967296 * (1 + further.lengths))
