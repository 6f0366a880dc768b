-- `example::advance` meets its contract.
use Rattle.example.specs.Odometer.{Advances}
use lib.ListN.{get_or}
use Prim.Native.Nat.{◌-◌, ◌<◌, ◌≤◌}
use native.Mathlib.Omega.{arith}
use Rattle.example.proofs.Stepping.{turned_steps, turned_again, turned_end}
use Rattle.example.proofs.advance.Goals as goal
use Rattle.example.proofs.advance.Goals.{else-i-k-via-then-i-k+else-b-lt-LAST_BYTE, else-i-k-via-else-i-k}

pub returns-then-b-lt-LAST_BYTE : goal.returns-then-b-lt-LAST_BYTE
unfolding Advances
returns-then-b-lt-LAST_BYTE c = let n = c.loop-i in turned_steps _ _ _ _ n.invariant (omega arith) (omega arith) (omega arith)

pub loop-i-preserved : goal.loop-i-preserved
loop-i-preserved c = let n = c.loop-i in
    let full : n.i - 1 < c.args.k → 255 ≤ get_or n.s (n.i - 1) 0 = elim c.else-i-k.branch [
      | else-i-k-via-then-i-k+else-b-lt-LAST_BYTE w ↦ λ h. omega arith
      | else-i-k-via-else-i-k w ↦ λ h. absurd (omega arith)
    ] in
    turned_again c.args.s.now c.args.k n.s n.i n.invariant (omega arith) full (omega arith)

pub returns : goal.returns
unfolding Advances
returns c = turned_end _ _ _ _ c.loop-i.invariant (omega arith)
