-- The given lengths by run name: of an accepted pattern's bytes, the free run names in order of their first place outside complements.
use Rattle.std.specs.Prelude.{ℕ, zero, suc, ◌-◌, ◌^◌, List, [], ◌∷◌, cond, get_or, set, eqb}
use Rattle.std.specs.Int.Bits.{bit_or}
use Rattle.term.specs.Code.{decode_of}
use Rattle.term.specs.Extent.{entry_of, extent_of}
use Rattle.term.specs.Table.{list}
use Rattle.term.specs.declared.Code.{Code}
use Rattle.term.specs.declared.Code.TheVariants.{Symbol, Name, Run, Complement}
use Rattle.parts.specs.Packed.{bit}

-- the bytes of a node itself, and of a complement those of its inside too
abbrev pub past_by : Code → List ℕ → List ℕ → ℕ
past_by (Symbol b) table s = cond (eqb (entry_of table b) list) 2 1
past_by (Name v) table s = 1
past_by (Run v) table s = 1
past_by Complement table s = extent_of table s
past_by Code.Refused table s = 1

unfoldable pub past_of : List ℕ → List ℕ → ℕ
past_of table s = past_by (decode_of (get_or s 0 0)) table s

abbrev pub run_here : Code → List ℕ → List ℕ
run_here (Symbol b) vs = vs
run_here (Name v) vs = vs
run_here (Run v) vs = v ∷ vs
run_here Complement vs = vs
run_here Code.Refused vs = vs

-- the run names outside complements, past so many bytes
unfoldable pub runs_from : List ℕ → List ℕ → ℕ → List ℕ
runs_from table [] skip = []
runs_from table (b ∷ s) (suc skip) = runs_from table s skip
runs_from table (b ∷ s) zero = run_here (decode_of b) (runs_from table s (past_of table (b ∷ s) - 1))

-- each once, but for those seen before
unfoldable pub unseen : ℕ → List ℕ → List ℕ
unseen seen [] = []
unseen seen (v ∷ vs) = cond (bit seen v) (unseen seen vs) (v ∷ unseen (bit_or seen (2 ^ v)) vs)

abbrev pub free_in : List ℕ → List ℕ → List ℕ
free_in table pattern = unseen 0 (runs_from table pattern 0)

-- the first length is the first run name's, and so on
unfoldable pub spread_to : List ℕ → List ℕ → List ℕ → List ℕ
spread_to [] ns out = out
spread_to (v ∷ vs) [] out = out
spread_to (v ∷ vs) (n ∷ ns) out = spread_to vs ns (set out v n)
