-- What is shown of an entry's place and of what was written.
use Rattle.std.specs.Prelude.{ℕ, ◌≡◌, List, ◌++◌, length, drop, Result, Ok, Err}
use Rattle.byte_answers.specs.declared.Place.{Place}
use Rattle.answers.specs.declared.Refusal.{Refusal}

abbrev pub place_at : ℕ → ℕ → Place
place_at offset length = record { offset = offset; length = length }

-- an entry that is refused has offset and length 0
abbrev pub place_offset : Result Place Refusal → ℕ
place_offset (Ok p) = p.offset
place_offset (Err r) = 0

abbrev pub place_length : Result Place Refusal → ℕ
place_length (Ok p) = p.length
place_length (Err r) = 0

-- a writing or a move shows that s was written: number 0 and the length of s; s is at the front of the output, and past it stays what was there
pub record Writes (before : List ℕ) (number size : ℕ) (after s : List ℕ) : Type 0 where
  pub written : number ≡ 0
  pub whole : size ≡ length s
  pub output : after ≡ s ++ drop size before
