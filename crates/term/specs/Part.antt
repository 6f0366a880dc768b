-- The bytes of a part of a record.
use Rattle.std.specs.Prelude.{ℕ, ◌+◌, List, cond, length, take, drop, leb}
use Rattle.answers.specs.declared.Part.{Part}

-- none where it does not lie within the record
unfoldable pub part_bytes : List ℕ → Part → List ℕ
part_bytes bs p = cond (leb (p.offset + p.length) (length bs)) (take p.length (drop p.offset bs)) (take 0 bs)
