-- The codes: what a byte stands for. Names and run names are variables, numbered as in the answer buffer: the name ?i is variable i,
-- the run name @j is variable 32 + j.
use Rattle.std.specs.Prelude.{ℕ, ◌+◌, ◌-◌, ◌<◌, Bool, true, false, cond, ltb, eqb}
use Rattle.term.specs.declared.Code.{Code}
use Rattle.term.specs.declared.Code.TheVariants.{Symbol, Name, Run, Complement}

-- the names and the variables in all, as many as the answer buffer has places for
abbrev pub names : ℕ
names = 32

abbrev pub variables : ℕ
variables = 48

-- in a pattern: 0 to 199 a symbol, 200 to 231 the names, 232 to 247 the run names, 248 the complement; 249 to 255 are refused
unfoldable pub decode_of : ℕ → Code
decode_of b =
    cond (ltb b 200) (Symbol b)
    (cond (ltb b 232) (Name (b - 200))
    (cond (ltb b 248) (Run (b - 200))
    (cond (eqb b 248) Complement Code.Refused)))

-- in a record every byte is a symbol
abbrev pub code_in : Bool → ℕ → Code
code_in true b = Symbol b
code_in false b = decode_of b

-- the byte of a code; that of a refused one is never asked for
unfoldable pub byte_of : Code → ℕ
byte_of (Symbol b) = b
byte_of (Name v) = 200 + v
byte_of (Run v) = 200 + v
byte_of Complement = 248
byte_of Code.Refused = 249

-- a variable's number, where a code has one, is one of those of the answer buffer
unfoldable pub VariableBelow : Code → Type 0
VariableBelow (Symbol b) = Unit {0}
VariableBelow (Name v) = v < variables
VariableBelow (Run v) = v < variables
VariableBelow Complement = Unit {0}
VariableBelow Code.Refused = Unit {0}
