-- The kinds of codes: by the ranges, and by what reading a pattern finds.
use Rattle.std.specs.Prelude.{ℕ, cond, leb}
use Rattle.term.specs.declared.Code.{Code}
use Rattle.term.specs.declared.Code.TheVariants.{Symbol, Name, Run, Complement}

abbrev pub symbol : ℕ
symbol = 0

abbrev pub name : ℕ
name = 1

abbrev pub run : ℕ
run = 2

abbrev pub complement : ℕ
complement = 3

abbrev pub refused : ℕ
refused = 4

-- 0 to 199 a symbol, 200 to 231 a name, 232 to 247 a run name, 248 the complement; 249 to 255 are refused
unfoldable pub range_kind : ℕ → ℕ
range_kind code =
    cond (leb code 199) symbol (cond (leb code 231) name (cond (leb code 247) run (cond (leb code 248) complement refused)))

-- the kind of a code that was read
unfoldable pub kind_of : Code → ℕ
kind_of (Symbol b) = symbol
kind_of (Name v) = name
kind_of (Run v) = run
kind_of Complement = complement
kind_of Code.Refused = refused
