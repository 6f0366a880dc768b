-- Symbol tables. Byte i gives symbol i: 0 to 8 is a fixed number of children, 255 is a list symbol.
use Rattle.std.specs.Prelude.{ℕ, List, [], ◌∷◌, Bool, true, false, cond, length, get_or, leb, eqb}

-- a list symbol's byte, and the most children of any other symbol
abbrev pub list : ℕ
list = 255

abbrev pub most_children : ℕ
most_children = 8

abbrev pub entry_accepted : ℕ → Bool
entry_accepted b = cond (leb b most_children) true (eqb b list)

unfoldable pub entries_accepted : List ℕ → Bool
entries_accepted [] = true
entries_accepted (b ∷ bs) = cond (entry_accepted b) (entries_accepted bs) false

-- the most symbols
abbrev pub largest_table : ℕ
largest_table = 200

unfoldable pub table_accepted : List ℕ → Bool
table_accepted table = cond (leb (length table) largest_table) (entries_accepted table) false

abbrev pub is_list : List ℕ → ℕ → Bool
is_list table s = eqb (get_or table s 0) list

-- the bytes of a node's own: its symbol's and, for a list, its number of children
abbrev pub width : List ℕ → ℕ → ℕ
width table s = cond (is_list table s) 2 1
