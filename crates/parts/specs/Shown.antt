-- What is shown in an answer buffer, which held `before`.
use Rattle.std.specs.Prelude.{ℕ, ◌+◌, ◌*◌, List, [], ◌∷◌, ◌++◌, cond, length, drop, set, ltb}
use Rattle.answers.specs.declared.Part.{Part}
use Rattle.term.specs.Code.{variables}

-- "Each of the 48 entries becomes offset, length and number of terms"
abbrev pub entry : Part → List ℕ
entry p = p.offset ∷ p.length ∷ p.elements ∷ []

-- those "of ?0 to ?31, then of @0 to @15"
abbrev pub numbers : List Part → List ℕ
numbers [] = []
numbers (p ∷ ps) = entry p ++ numbers ps

-- how many numbers an entry has, and an answer: "144 numbers in all"
abbrev pub entry_width : ℕ
entry_width = 3

abbrev pub answer_width : ℕ
answer_width = entry_width * variables

-- an entry written over the one of a variable
abbrev pub set_entry : List ℕ → ℕ → Part → List ℕ
set_entry l v p = set (set (set l (entry_width * v) p.offset) (entry_width * v + 1) p.length) (entry_width * v + 2) p.elements

-- in a buffer that is wide enough; what lies past the answer stays
unfoldable pub shown_parts : List Part → List ℕ → List ℕ
shown_parts parts before = cond (ltb (length before) answer_width) before (numbers parts ++ drop answer_width before)
