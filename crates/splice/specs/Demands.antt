-- What is demanded of the converter, and of splicing. The theorems are in proofs/Demands.
use Rattle.std.specs.Prelude.{ℕ, ◌≤◌, ◌<◌, ◌≡◌, ◌↔◌, List, [], Bool, true, false, length, Option}
use Rattle.byte_answers.specs.Answers.{Writes}
use Rattle.term.specs.Language.{simple, language}
use Rattle.term.specs.Limits.{Accepted}
use Rattle.term.specs.Same.{same_part}
use Rattle.term.specs.Table.{table_accepted}
use Rattle.term.specs.Term.{Term, term_tree}
use Rattle.term.specs.Tree.{Tree, encode}
use Rattle.term.specs.declared.Edition.TheVariants.{Two}
use Rattle.reader.specs.Brought.{or_empty, list_accepted}
use Rattle.splice.specs.Call.{call}
use Rattle.splice.specs.Converting.{Spliceable, written}
use Rattle.splice.specs.Splicing.{splice}
use Rattle.splice.specs.Turning.{TurnedThrough, Turned}

abbrev pub spliced_bytes : List ℕ → List ℕ → Tree → List ℕ
spliced_bytes classes table t = encode table (splice classes table t) []

-- s are the bytes of a tree that can be spliced, by an accepted table and, if one is brought, an accepted class list
pub record Input (records : Bool) (table : List ℕ) (list : Option (List ℕ)) (s : List ℕ) (t : Tree) : Type 0 where
  pub table_accepted_holds : table_accepted table ≡ true
  pub list_accepted_holds : list_accepted table list ≡ true
  pub bytes : encode table t [] ≡ s
  pub can : Spliceable (or_empty list) table records t

-- of a call with the bytes s that shows this number and length and leaves `after` in the output, where `before` was
pub record Demanded (records : Bool) (table : List ℕ) (list : Option (List ℕ)) (s before : List ℕ) (number size : ℕ) (after : List ℕ) : Type 0 where
  -- the bytes are those of one tree
  pub one_tree : (t u : Tree) → Input records table list s t → Input records table list s u → t ≡ u
  -- refused exactly if s cannot be spliced or the output is too short
  pub refused_exactly : (0 < number) ↔ ((t : Tree) → Input records table list s t → length before < length (spliced_bytes (or_empty list) table t))
  pub untouched : 0 < number → (size ≡ 0) × (after ≡ before)
  -- what is written are the bytes spliced. "Every call that writes shows the length and leaves the output past it."
  pub writes : (t : Tree) → Input records table list s t → length (spliced_bytes (or_empty list) table t) ≤ length before
      → Writes before number size after (spliced_bytes (or_empty list) table t)
  -- they are accepted in edition 2
  pub accepted : (t : Tree) → Input records table list s t → Accepted (language Two table (or_empty list)) records (splice (or_empty list) table t)
  -- "Splicing twice changes nothing more"
  pub twice : (t : Tree) → Input records table list s t → (room : ℕ) → length (spliced_bytes (or_empty list) table t) ≤ room
      → call records table list room (spliced_bytes (or_empty list) table t) ≡ written (spliced_bytes (or_empty list) table t)

-- "two records that can be spliced can be turned into each other by such replacements, either way, and exchanges within a class, exactly
-- when their spliced bytes are equal up to class": through any trees, and just so through accepted ones only
pub record TurnedExactly (classes table : List ℕ) (t u : Term) : Type 0 where
  pub through_any : Turned classes table (term_tree t) (term_tree u)
      ↔ (same_part table classes false (spliced_bytes classes table (term_tree t)) (spliced_bytes classes table (term_tree u)) ≡ true)
  pub through_accepted : TurnedThrough (Accepted (simple table) true) classes table (term_tree t) (term_tree u)
      ↔ (same_part table classes false (spliced_bytes classes table (term_tree t)) (spliced_bytes classes table (term_tree u)) ≡ true)
