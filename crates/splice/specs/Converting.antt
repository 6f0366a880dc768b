-- "A converter splices an edition 1 record or pattern; short output 12, last. … a spliced list of over 255 elements is 6, after 3"
use Rattle.std.specs.Prelude.{ℕ, ◌≡◌, List, [], ◌++◌, Bool, true, cond, ◌&&◌, length, drop, leb}
use Rattle.term.specs.Tree.{Tree, Trees, branch, empty, more, number, list_code, encode}
use Rattle.term.specs.Language.{simple}
use Rattle.term.specs.Limits.{Accepted}
use Rattle.reader.specs.Reading.{Parsed, refused, read, read_whole}
use Rattle.answers.specs.declared.Refusal.{Refusal}
use Rattle.answers.specs.declared.Refusal.TheVariants.{Long, Full}
use Rattle.splice.specs.Splicing.{splice}

-- the most elements that a list's byte can tell
abbrev pub most_elements : ℕ
most_elements = 255

-- a byte can tell each list's number of elements
unfoldable mutual
  pub narrow : List ℕ → Tree → Bool
  narrow table (branch c ts) = cond (list_code table c) (leb (number ts) most_elements) true && all_narrow table ts

  pub all_narrow : List ℕ → Trees → Bool
  all_narrow table empty = true
  all_narrow table (more t ts) = narrow table t && all_narrow table ts

-- a refusal, or the bytes that are written
pub data Conversion : Type 0 where
  kept : Refusal → Conversion
  written : List ℕ → Conversion

-- 12 where there is no room for the bytes
abbrev pub unless_full : ℕ → List ℕ → Conversion
unless_full room bs = cond (leb (length bs) room) (written bs) (kept Full)

-- the checks of edition 1, 3 among them, then 6, then 12. (1 and 14 come before.)
unfoldable pub splicing : List ℕ → List ℕ → ℕ → Parsed Tree → Conversion
splicing classes table room (refused r) = kept r
splicing classes table room (read t n) =
    cond (narrow table (splice classes table t)) (unless_full room (encode table (splice classes table t) [])) (kept Long)

-- the conversion of the bytes s, for an output of so many bytes
unfoldable pub converted : Bool → List ℕ → List ℕ → ℕ → List ℕ → Conversion
converted records classes table room s = splicing classes table room (read_whole records (simple table) s)

-- "Every call that writes shows the length and leaves the output past it."
abbrev pub output_after : List ℕ → Conversion → List ℕ
output_after out (kept r) = out
output_after out (written bs) = bs ++ drop (length bs) out

-- "records that can be spliced", and patterns
pub record Spliceable (classes table : List ℕ) (records : Bool) (t : Tree) : Type 0 where
  pub accepted : Accepted (simple table) records t
  pub narrow_lists : narrow table (splice classes table t) ≡ true
