-- Codes and their bytes: a code that can be written is read back from its byte, so no two have the same byte; variables are below 48.
use Prim.Native.Nat.{ℕ, ◌+◌, ◌-◌, ◌<◌}
use native.Mathlib.Omega.{arith}
use native.Mathlib.Nat.{add-sub_cancel_left}
use mathlib.Core.Path.{◌≡◌, refl, sym, ap, ◌∙◌}
use mathlib.Core.Bool.{Bool, true, false, cond}
use lib.Dec.{ltb, eqb}
use borrow.Author.Tests.{ltb-true, lt-ltb, le-ltb}
use Rattle.term.specs.Code.{code_in, decode_of, byte_of, VariableBelow}
use Rattle.term.specs.Limits.{Written}
use Rattle.term.specs.declared.Code.{Code}
use Rattle.term.specs.declared.Code.TheVariants.{Symbol, Name, Run, Complement}

pub code_back : (records : Bool) (c : Code) → Written records c → code_in records (byte_of c) ≡ c
unfolding Written decode_of byte_of
code_back true (Symbol b) h = refl
code_back true (Name v) h = absurd h
code_back true (Run v) h = absurd h
code_back true Complement h = absurd h
code_back true Code.Refused h = absurd h
code_back false (Symbol b) h = simp (lt-ltb b 200 h)
code_back false (Name v) h =
    simp (le-ltb (200 + v) 200 (omega arith), lt-ltb (200 + v) 232 (omega arith)) (ap Name (add-sub_cancel_left 200 v))
code_back false (Run v) h =
    simp (le-ltb (200 + v) 200 (omega arith), le-ltb (200 + v) 232 (omega arith), lt-ltb (200 + v) 248 (omega arith))
    (ap Run (add-sub_cancel_left 200 v))
code_back false Complement h = refl
code_back false Code.Refused h = absurd h

pub byte_injective : (records : Bool) (c d : Code) → Written records c → Written records d → byte_of c ≡ byte_of d → c ≡ d
byte_injective records c d h k e = sym (code_back records c h) ∙ ap (code_in records) e ∙ code_back records d k

-- by the outcome of each test of `decode_of`
below_by : (b : ℕ) (k l m n : Bool) → (l ≡ true → b < 232) → (m ≡ true → b < 248)
    → VariableBelow (cond k (Symbol b) (cond l (Name (b - 200)) (cond m (Run (b - 200)) (cond n Complement Code.Refused))))
unfolding VariableBelow
below_by b true l m n g h = tt
below_by b false true m n g h = let z = g refl in omega arith
below_by b false false true n g h = let z = h refl in omega arith
below_by b false false false true g h = tt
below_by b false false false false g h = tt

pub decode_below : (b : ℕ) → VariableBelow (decode_of b)
unfolding decode_of
decode_below b = below_by b (ltb b 200) (ltb b 232) (ltb b 248) (eqb b 248) (ltb-true b 232) (ltb-true b 248)
