-- Reading a stored record: 6 over 8,192 bytes; at each node 2, 4, 5, 16, then 2 for the number of children, 2 for either byte of the length, the
-- children, 17; then 3, then 6 where the old form is over 4,096 bytes.
use Rattle.std.specs.Prelude.{ℕ, zero, suc, ◌+◌, List, [], Bool, true, false, cond, length, get_or, drop, leb, eqb, Option, None, Result, Ok, Err}
use Rattle.answers.specs.declared.Refusal.TheVariants.{Short, Deep, Long, Length}
use Rattle.term.specs.Code.{code_in}
use Rattle.term.specs.Language.{Language}
use Rattle.term.specs.Splicing.{in_list}
use Rattle.term.specs.Tree.{Tree, Trees, encode}
use Rattle.term.specs.Term.{Term, term_of}
use Rattle.term.specs.Limits.{longest_record, nesting}
use Rattle.reader.specs.Node.{node_at}
use Rattle.reader.specs.Reading.{Parsed, refused, read, read_all, enter, unless_spare, map_parsed}
use Rattle.sheet.specs.Word.{word_bytes, word_at}
use Rattle.stored.specs.Form.{longest_stored}
use Rattle.answers.specs.declared.Refusal.{Refusal}
use Rattle.reader.specs.Node.{opened}
use Rattle.reader.specs.declared.Open.{Open}

-- the bytes in which a list tells its length
abbrev pub length_bytes : Bool → ℕ
length_bytes list = cond list word_bytes 0

-- "missing length bytes are 2"
abbrev pub with_length : List ℕ → Result Open Refusal → Result Open Refusal
with_length s (Err r) = Err r
with_length s (Ok o) =
    cond (leb (o.size + length_bytes (in_list o.inside)) (length s)) (Ok (opened (o.size + length_bytes (in_list o.inside)) o.kids o.inside o.low)) (Err Short)

-- the checks of one node: those of a record's, where it stands so, and then of its length
unfoldable pub stored_node : Language → Option ℕ → ℕ → List ℕ → Result Open Refusal
stored_node l stand left s = with_length s (node_at l true stand left s)

-- the length that a list tells, behind its symbol and its number of children
abbrev pub told_length : List ℕ → ℕ
told_length s = word_at s 2

-- whether it is that of its children; other nodes tell none
abbrev pub agrees : Bool → ℕ → ℕ → Bool
agrees true told n = eqb told n
agrees false told n = true

-- "17 (length) where the stated length is wrong, at that node after its own children were read"
unfoldable pub agreed : Bool → ℕ → Parsed Trees → Parsed Trees
agreed list told (refused r) = refused r
agreed list told (read ts n) = cond (agrees list told n) (read ts n) (refused Length)

-- a node, and its children by a reader of one tree that stands so
unfoldable pub read_node : ((Option ℕ) → List ℕ → Parsed Tree) → Language → ℕ → Option ℕ → List ℕ → Parsed Tree
read_node child l left stand s =
    enter (code_in true (get_or s 0 0)) (stored_node l stand left s)
    (λ size k inside low. agreed (in_list inside) (told_length s) (read_all (child inside) k (drop size s)))

-- the tree at the start of s, with so much nesting left, where it stands so. A node with none left is refused, so none of its children is read
unfoldable pub read_stored_tree : Language → ℕ → Option ℕ → List ℕ → Parsed Tree
read_stored_tree l zero stand s = read_node (λ inside r. refused Deep) l zero stand s
read_stored_tree l (suc left) stand s = read_node (read_stored_tree l left) l (suc left) stand s

-- "A stored record whose old form is over 4,096 bytes is 6, after 3"
unfoldable pub unless_long : List ℕ → Parsed Tree → Parsed Tree
unless_long table (refused r) = refused r
unless_long table (read t n) = cond (leb (length (encode table t [])) longest_record) (read t n) (refused Long)

-- the whole of s as one tree, but for that check
unfoldable pub read_form : Language → List ℕ → Parsed Tree
read_form l s = cond (leb (length s) longest_stored) (unless_spare s (read_stored_tree l nesting None s)) (refused Long)

unfoldable pub read_stored : Language → List ℕ → Parsed Term
read_stored l s = map_parsed term_of (unless_long l.table (read_form l s))
