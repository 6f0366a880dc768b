-- `stored::agrees` meets its contract.
use native.Mathlib.Omega.{arith}
use Prim.Native.Nat.{ℕ, ◌+◌, ◌-◌, ◌*◌}
use mathlib.Core.Path.{◌≡◌, refl, ap}
use lib.Dec.{eqb}
use lib.ListN.{get_or}
use Rattle.sheet.specs.Word.{word_at}
use Rattle.stored.specs.Passes.{agrees_at}
use Rattle.stored.proofs.agrees.Goals as goal

pub returns-then-list : goal.returns-then-list
unfolding agrees_at word_at
returns-then-list c = let h = rw c.if-list.true at c.requires.behind in
    let e : c.args.start - 2 + 1 ≡ c.args.start - 1 = omega (arith, h) in
    let low = get_or c.args.s.now (c.args.start - 2) 0 in
    let high = get_or c.args.s.now (c.args.start - 1) 0 in
    let z : low + high * 256 ≡ low + 256 * high = omega arith in
    rw (c.if-list.true, e, c.from.ensures, c.from_le_bytes-told.ensures) (ap (λ (k : ℕ). eqb k (c.args.end - c.args.start)) z)

pub returns : goal.returns
unfolding agrees_at
returns c = rw c.if-list.false refl
