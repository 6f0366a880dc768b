-- A 16-bit number: two bytes, low byte first.
use Rattle.std.specs.Prelude.{ℕ, ◌+◌, ◌*◌, ◌/◌, ◌%◌, List, [], ◌∷◌, get_or}

-- how many bytes it has
abbrev pub word_bytes : ℕ
word_bytes = 2

-- the bytes of a number below 65,536
unfoldable pub word : ℕ → List ℕ
word n = (n % 256) ∷ (n / 256) ∷ []

-- the number at a place
unfoldable pub word_at : List ℕ → ℕ → ℕ
word_at s at = get_or s at 0 + 256 * get_or s (at + 1) 0
