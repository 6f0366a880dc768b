-- Classes of symbols, document 02's L1: "a class list as long as the table, whose entry is the lowest symbol of the same meaning".
use Rattle.std.specs.Prelude.{ℕ, zero, suc, ◌<◌, ◌≤◌, ◌≡◌, List, Bool, true, ◌&&◌, length, get_or, leb, eqb}

-- the class of a symbol: its entry. A symbol that has none is its own class, so an empty list stands for a call that brings no class list
abbrev pub class_of : List ℕ → ℕ → ℕ
class_of classes s = get_or classes s s

-- Turned away with 14: "a list of the wrong length, an entry above its own index, an entry that is not its own class, or unlike table bytes
-- within a class"
pub record ClassList (table classes : List ℕ) : Type 0 where
  pub as_long : length classes ≡ length table
  pub lowest : (s : ℕ) → s < length table → class_of classes s ≤ s
  pub own_class : (s : ℕ) → s < length table → class_of classes (class_of classes s) ≡ class_of classes s
  pub table_alike : (s : ℕ) → s < length table → get_or table (class_of classes s) 0 ≡ get_or table s 0

-- the check of one entry, of the first n entries, and of the list
abbrev pub entry_classed : List ℕ → List ℕ → ℕ → Bool
entry_classed table classes s =
    leb (class_of classes s) s && eqb (class_of classes (class_of classes s)) (class_of classes s)
    && eqb (get_or table (class_of classes s) 0) (get_or table s 0)

unfoldable pub entries_classed : List ℕ → List ℕ → ℕ → Bool
entries_classed table classes zero = true
entries_classed table classes (suc n) = entry_classed table classes n && entries_classed table classes n

unfoldable pub classes_accepted : List ℕ → List ℕ → Bool
classes_accepted table classes = eqb (length classes) (length table) && entries_classed table classes (length table)

-- what the search needs of a class list, and what the empty one has too: the table bytes within a class are alike
pub record Alike (table classes : List ℕ) : Type 0 where
  pub alike : (s : ℕ) → get_or table (class_of classes s) 0 ≡ get_or table s 0
