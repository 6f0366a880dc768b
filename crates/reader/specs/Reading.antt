-- Reading a record or a pattern: 6, then each node's checks, root first, left to right, 3 last.
use Rattle.std.specs.Prelude.{ℕ, zero, suc, ◌+◌, ◌≡◌, List, Bool, true, false, cond, length, get_or, drop, leb, ltb, eqb, Result, Ok, Err, Option, None}
use Rattle.answers.specs.declared.Refusal.{Refusal}
use Rattle.answers.specs.declared.Refusal.TheVariants.{Short, Spare, Long}
use Rattle.term.specs.Code.{code_in}
use Rattle.term.specs.Tree.{Tree, Trees, branch, empty, more}
use Rattle.term.specs.Term.{Term, term_of}
use Rattle.term.specs.Pattern.{Pattern, pattern_of}
use Rattle.term.specs.Language.{Language}
use Rattle.term.specs.Limits.{longest, nesting}
use Rattle.term.specs.declared.Code.{Code}
use Rattle.reader.specs.Node.{node_at}
use Rattle.reader.specs.declared.Open.{Open}

-- a refusal, or what was read and its number of bytes
pub data Parsed (A : Type 0) : Type 0 where
  refused : Refusal → Parsed A
  read : A → ℕ → Parsed A

-- what the code answers: the number of bytes alone
unfoldable pub shown : {A : Type 0} → Parsed A → Result ℕ Refusal
shown (refused r) = Err r
shown (read a n) = Ok n

unfoldable pub join : Tree → ℕ → Parsed Trees → Parsed Trees
join t n (refused r) = refused r
join t n (read ts m) = read (more t ts) (n + m)

-- a tree, and then the rest, which starts past its bytes
unfoldable pub chain : Parsed Tree → (ℕ → Parsed Trees) → Parsed Trees
chain (refused r) g = refused r
chain (read t n) g = join t n (g n)

-- so many trees, one after the other, by a reader of one
unfoldable pub read_all : (List ℕ → Parsed Tree) → ℕ → List ℕ → Parsed Trees
read_all f zero s = read empty 0
read_all f (suc k) s = chain (f s) (λ n. read_all f k (drop n s))

unfoldable pub grow : Code → ℕ → Parsed Trees → Parsed Tree
grow c size (refused r) = refused r
grow c size (read ts n) = read (branch c ts) (size + n)

-- a node that is open goes on with its children
unfoldable pub enter : Code → Result Open Refusal → (ℕ → ℕ → Option ℕ → ℕ → Parsed Trees) → Parsed Tree
enter c (Err r) g = refused r
enter c (Ok o) g = grow c o.size (g o.size o.kids o.inside o.low)

-- the tree at the start of s. The first number bounds the nodes: as many as s has bytes are enough, and with none left s is short
unfoldable pub read_by : Language → Bool → ℕ → ℕ → Option ℕ → List ℕ → Parsed Tree
read_by l records zero left stand s = refused Short
read_by l records (suc n) left stand s =
    enter (code_in records (get_or s 0 0)) (node_at l records stand left s)
    (λ size k children low. read_all (read_by l records n low children) k (drop size s))

unfoldable pub read_tree : Language → Bool → ℕ → Option ℕ → List ℕ → Parsed Tree
read_tree l records left stand s = read_by l records (length s) left stand s

-- 3 where bytes are left after the tree
unfoldable pub unless_spare : List ℕ → Parsed Tree → Parsed Tree
unless_spare s (refused r) = refused r
unless_spare s (read t n) = cond (eqb n (length s)) (read t n) (refused Spare)

-- the whole of s as one tree
unfoldable pub read_whole : Bool → Language → List ℕ → Parsed Tree
read_whole records l s =
    cond (leb (length s) (longest records)) (unless_spare s (read_tree l records nesting None s)) (refused Long)

-- a symbol of the table that has no children
abbrev pub childless : List ℕ → ℕ → Bool
childless table b = cond (ltb b (length table)) (eqb (get_or table b 0) 0) false

-- true where s is known to be one tree; false says nothing
abbrev pub SurelyRead : Bool → Language → List ℕ → Bool → Type 0
SurelyRead records l s true = shown (read_whole records l s) ≡ Ok (length s)
SurelyRead records l s false = Unit {0}

unfoldable pub map_parsed : {A B : Type 0} → (A → B) → Parsed A → Parsed B
map_parsed f (refused r) = refused r
map_parsed f (read a n) = read (f a) n

unfoldable pub read_record : Language → List ℕ → Parsed Term
read_record l s = map_parsed term_of (read_whole true l s)

unfoldable pub read_pattern : Language → List ℕ → Parsed Pattern
read_pattern l s = map_parsed pattern_of (read_whole false l s)
