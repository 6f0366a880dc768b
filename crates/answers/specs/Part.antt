-- A part of a record: offset and length in bytes, and the number of its elements. A name's part has one.
use Rattle.std.specs.Prelude.{ℕ, ◌%◌, Bool, eqb}
use Rattle.answers.specs.declared.Part.{Part}

abbrev pub part : ℕ → ℕ → ℕ → Part
part offset length elements = record { offset = offset; length = length; elements = elements }

-- document 01's absent mark: no part within the longest record has its offset
abbrev pub nowhere : ℕ
nowhere = 65535

abbrev pub absent : Part
absent = part nowhere 0 0

abbrev pub is_absent : Part → Bool
is_absent p = eqb p.offset nowhere

-- a part within the longest record; offset and length are 16-bit numbers
abbrev pub bound_part : ℕ → ℕ → ℕ → Part
bound_part offset length elements = part (offset % 65536) (length % 65536) elements
