-- `reports::compare_all` is safe and ends: each turn takes four arguments.
use Prim.Native.Nat.{◌≤◌, ◌-◌}
use Rattle.reports.proofs.compare_all.Given as goal

abbrev pub invariant-loop-at : goal.invariant-loop-at
invariant-loop-at g l = l.agreed ≤ l.at

abbrev pub decreases-loop-at : goal.decreases-loop-at
decreases-loop-at g l = l.n - l.at
