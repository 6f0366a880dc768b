-- Bytes put into a buffer from a place on.
use Rattle.std.specs.Prelude.{ℕ, ◌+◌, cond, List, leb, length}
use Rattle.std.proofs.lemmas.List.Edits.{sets}

-- the buffer with them, where it has room for all of them; else it stays as it is
unfoldable pub puts : List ℕ → ℕ → List ℕ → List ℕ
puts out at bytes = cond (leb (at + length bytes) (length out)) (sets out at bytes) out

-- where they end; the place itself where they have no room
unfoldable pub past : List ℕ → ℕ → List ℕ → ℕ
past out at bytes = cond (leb (at + length bytes) (length out)) (at + length bytes) at
