-- `stored::put_length` meets its contract.
use native.Mathlib.Omega.{arith}
use Prim.Native.Nat.{suc, ◌-◌, ◌/◌, ◌%◌}
use mathlib.Core.Path.{◌≡◌, refl}
use Rattle.sheet.specs.Word.{word}
use Rattle.stored.specs.Passes.{with_told}
use Rattle.stored.proofs.put_length.Goals as goal

pub returns-then-list : goal.returns-then-list
unfolding with_told word
returns-then-list c = let h = rw c.if-list.true at c.requires.0.behind in
    let e : suc (c.args.start - 2) ≡ c.args.start - 1 = omega (arith, h) in
    let high : (c.args.end - c.args.start) / 256 % 256 ≡ (c.args.end - c.args.start) / 256 = omega (arith, c.requires.1) in
    rw (c.if-list.true, e, c.to_le_bytes-told.ensures, high) refl

pub returns-else-list : goal.returns-else-list
unfolding with_told
returns-else-list c = rw c.if-list.false refl
