-- Fields of a line.
use Rattle.std.specs.Prelude.{ℕ, List, [], ◌∷◌, ◌++◌}

-- a field and the byte after it
abbrev pub field : List ℕ → ℕ → List ℕ
field text end = text ++ (end ∷ [])

-- `refused`, of a file in the report and of a code in the list of the codes
abbrev pub refused_word : List ℕ
refused_word = 114 ∷ 101 ∷ 102 ∷ 117 ∷ 115 ∷ 101 ∷ 100 ∷ []
