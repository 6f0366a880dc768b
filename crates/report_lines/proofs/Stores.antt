-- Fields put one after the other.
use Prim.Native.Nat.{ℕ, ◌+◌, ◌≤◌}
use native.Mathlib.Omega.{arith}
use mathlib.Core.Path.{◌≡◌}
use mathlib.Core.List.{List, ◌++◌}
use lib.ListN.{length, length-append}
use lib.Seq.{sets}
use Rattle.output.specs.Field.{field}
use Rattle.output.proofs.Puts.{Put, Stored, put_stored, both_put}
use Rattle.report_lines.specs.Line.{line}

pub line_length : (a b c d : List ℕ) → length (line a b c d) ≡ length a + length b + length c + length d + 4
unfolding line
line_length a b c d = simp length-append (omega arith)

-- four fields are a line
pub line_put : (l o p q r : List ℕ) (at second third fourth end : ℕ) (a b c d : List ℕ) → at + length (line a b c d) ≤ length l
    → Put l at (field a 32) o second → Put o second (field b 32) p third → Put p third (field c 32) q fourth → Put q fourth (field d 10) r end
    → Stored l at (line a b c d) r end
unfolding line
line_put l o p q r at second third fourth end a b c d room first_put second_put third_put fourth_put =
    let whole = line_length a b c d in
    let two : at + length (field a 32 ++ field b 32) ≤ length l = simp length-append (omega arith) in
    let three : at + length (field a 32 ++ field b 32 ++ field c 32) ≤ length l = simp length-append (omega arith) in
    put_stored l at (line a b c d) r end room
    (both_put l q r at fourth end (field a 32 ++ field b 32 ++ field c 32) (field d 10) room
    (both_put l p q at third fourth (field a 32 ++ field b 32) (field c 32) three
    (both_put l o p at second third (field a 32) (field b 32) two first_put second_put) third_put) fourth_put)

-- what is put under one name is put under another
pub put_as : (l o : List ℕ) (at end : ℕ) (x y : List ℕ) → x ≡ y → Stored l at x o end → Stored l at y o end
put_as l o at end x y e p = rw (← e) p

pub front_as : (l o : List ℕ) (end : ℕ) (x y : List ℕ) → x ≡ y → (o ≡ sets l 0 x) × (end ≡ length x) → (o ≡ sets l 0 y) × (end ≡ length y)
front_as l o end x y e p = rw (← e) p
