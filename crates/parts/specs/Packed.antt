-- Variables: whether one is assigned is a bit of one number, its part is a number.
use Rattle.std.specs.Prelude.{ℕ, zero, suc, ◌+◌, ◌*◌, ◌/◌, ◌%◌, ◌^◌, List, [], ◌∷◌, Bool, cond, get_or, eqb, ltb}
use Rattle.answers.specs.Part.{part, absent}
use Rattle.answers.specs.declared.Part.{Part}
use Rattle.term.specs.Code.{variables}

abbrev pub bit : ℕ → ℕ → Bool
bit assigned v = eqb (assigned / 2 ^ v % 2) 1

abbrev pub packed : Part → ℕ
packed p = p.offset + 65536 * p.length + 4294967296 * p.elements

abbrev pub unpacked : ℕ → Part
unpacked x = part (x % 65536) (x / 65536 % 65536) (x / 4294967296 % 256)

abbrev pub part_in : ℕ → List ℕ → ℕ → Part
part_in assigned parts v = cond (bit assigned v) (unpacked (get_or parts v 0)) absent

-- what is no variable has no part
unfoldable pub part_of : ℕ → List ℕ → ℕ → Part
part_of assigned parts v = cond (ltb v variables) (part_in assigned parts v) absent

-- the parts of k variables from v on
unfoldable pub parts_in : ℕ → List ℕ → ℕ → ℕ → List Part
parts_in assigned parts v zero = []
parts_in assigned parts v (suc k) = part_in assigned parts v ∷ parts_in assigned parts (v + 1) k

-- a number for each variable, and three that a search may use
abbrev pub part_places : ℕ
part_places = variables + 3
