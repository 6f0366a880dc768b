-- The nodes of a pattern counted byte by byte, which only the contracts of private functions cite. Of an accepted pattern's bytes they are its own
-- (proofs/Tally).
use Rattle.std.specs.Prelude.{ℕ, ◌+◌, List, [], ◌∷◌, Bool, true, false, cond, eqb, Result, Ok, Option, Some, None}
use Rattle.term.specs.Code.{decode_of}
use Rattle.term.specs.Extent.{entry_of}
use Rattle.term.specs.Table.{list}
use Rattle.term.specs.declared.Code.{Code}
use Rattle.term.specs.declared.Code.TheVariants.{Symbol, Name, Run, Complement}
use Rattle.answers.specs.declared.Refusal.{Refusal}

abbrev pub is_run : Code → Bool
is_run (Symbol s) = false
is_run (Name v) = false
is_run (Run v) = true
is_run Complement = false
is_run Code.Refused = false

-- the bytes of a node's own
abbrev pub own_bytes : List ℕ → ℕ → ℕ
own_bytes table b = cond (eqb (entry_of table b) list) 2 1

-- the nodes from here on, after so many; `counting` where the next byte is a list's number of children
unfoldable pub tally : List ℕ → List ℕ → Bool → ℕ → Result (Option ℕ) Refusal
tally table [] counting n = Ok (Some n)
tally table (b ∷ s) true n = tally table s false n
tally table (b ∷ s) false n = cond (is_run (decode_of b)) (Ok None) (tally table s (eqb (entry_of table b) list) (n + 1))
