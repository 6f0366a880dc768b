-- What the passes over the bytes do, which only the contracts of private functions cite.
use Rattle.std.specs.Prelude.{ℕ, zero, suc, ◌+◌, ◌-◌, ◌≤◌, ◌≡◌, List, [], ◌∷◌, Bool, true, cond, ◌||◌, length, get_or, eqb, Option, None}
use Rattle.std.proofs.lemmas.List.Edits.{sets}
use Rattle.term.specs.Language.{Language}
use Rattle.term.specs.Limits.{nesting}
use Rattle.term.specs.Table.{is_list}
use Rattle.term.specs.Same.{count_next}
use Rattle.term.specs.Tree.{Trees, empty}
use Rattle.reader.specs.Reading.{Parsed, refused, read, read_all, read_tree}
use Rattle.sheet.specs.Word.{word, word_bytes, word_at}
use Rattle.stored.specs.Form.{stores, longest_stored}
use Rattle.stored.specs.Reading.{length_bytes, agrees}

-- the length of the stored form, byte by byte of the old one; `counting` where the next byte is a list's number of children
unfoldable pub stretched : List ℕ → List ℕ → Bool → ℕ
stretched table [] counting = 0
stretched table (b ∷ s) counting = cond (count_next table counting b) 3 1 + stretched table s (count_next table counting b)

-- of a list's bytes behind its symbol, how many are still to come after a byte: its number of children, and the two of its length
abbrev pub behind : List ℕ → ℕ → ℕ → ℕ
behind table zero b = cond (is_list table b) 3 0
behind table (suc k) b = k

-- a symbol and a number of children are kept, a length is not
abbrev pub is_kept : ℕ → Bool
is_kept k = eqb k 0 || eqb k 3

-- the old form, byte by byte of the stored one
unfoldable pub stripped : List ℕ → List ℕ → ℕ → List ℕ
stripped table [] k = []
stripped table (b ∷ s) k = cond (is_kept k) (b ∷ stripped table s (behind table k b)) (stripped table s (behind table k b))

-- so many trees of a record, with so much nesting left, where they stand so
unfoldable pub record_trees : Language → ℕ → Option ℕ → ℕ → List ℕ → Parsed Trees
record_trees l left stand count s = read_all (read_tree l true left stand) count s

-- the stored bytes of trees that were read
abbrev pub trees_of : Parsed Trees → Trees
trees_of (refused r) = empty
trees_of (read ts n) = ts

unfoldable pub stored_trees : List ℕ → Parsed Trees → List ℕ
stored_trees table a = stores table (trees_of a) []

-- a record that can be put: it is read, and the output has the room
pub record Putting (l : Language) (s : List ℕ) (room : ℕ) : Type 0 where
  pub trees : Trees
  pub bytes : ℕ
  pub are_read : record_trees l nesting None 1 s ≡ read trees bytes
  pub has_room : length (stores l.table trees []) ≤ room
  pub short : length (stores l.table trees []) ≤ longest_stored

-- the bytes of a node's own: its symbol and, for a list, its number of children
abbrev pub own_of : Bool → List ℕ → List ℕ
own_of list s = get_or s 0 0 ∷ cond list (get_or s 1 0 ∷ []) []

-- so many bytes, and with a list's length so many
abbrev pub own_size : Bool → ℕ
own_size list = cond list 2 1

abbrev pub stored_size : Bool → ℕ
stored_size list = cond list 4 1

-- children that start and end at these places, and before them a list's length
pub record Stands (list : Bool) (start end size : ℕ) : Type 0 where
  pub behind : length_bytes list ≤ start
  pub before : start ≤ end
  pub within : end ≤ size

-- whether that is their length; other nodes tell none
unfoldable pub agrees_at : List ℕ → Bool → ℕ → ℕ → Bool
agrees_at s list start end = agrees list (word_at s (start - word_bytes)) (end - start)

-- their length in its place; other nodes tell none
unfoldable pub with_told : Bool → List ℕ → ℕ → ℕ → List ℕ
with_told list out start end = cond list (sets out (start - word_bytes) (word (end - start))) out
