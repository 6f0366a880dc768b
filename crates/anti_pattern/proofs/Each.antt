-- The parts of all variables, one by one.
use Prim.Native.Nat.{ℕ, zero, suc, ◌+◌, ◌<◌}
use native.Mathlib.Omega.{arith}
use mathlib.Core.Path.{◌≡◌, ap, ◌∙◌}
use lib.ListN.{get_or}
use Rattle.answers.specs.Part.{part}
use Rattle.answers.specs.declared.Part.{Part}
use Rattle.anti_pattern.specs.Place.{each_from}

pub each_at : (f : ℕ → Part) (v n i : ℕ) → i < n → get_or (each_from f v n) i (part 0 0 0) ≡ f (v + i)
each_at f v zero i h = absurd (omega arith)
each_at f v (suc n) zero h = ap f (omega arith)
each_at f v (suc n) (suc i) h = each_at f (suc v) n i (omega arith) ∙ ap f (omega arith)
