-- The laws of what the stack keeps as a number: an open node, a complement put by.
-- Assumes nothing.
use Prim.Native.Nat.{ℕ, ◌+◌, ◌*◌, ◌/◌, ◌%◌, ◌<◌}
use native.Mathlib.Omega.{arith}
use mathlib.Core.Path.{◌≡◌}
use Rattle.search.specs.Inner.Memory.{frame_in, outer, put_by_in}
use Rattle.search.specs.State.{remaining, put_by}

module _ (a b c : ℕ) (h : a < 256) (i : b < 256) where
  low : (a + 256 * b + 65536 * c) % 256 ≡ a
  low = omega arith

  middle : (a + 256 * b + 65536 * c) / 256 % 256 ≡ b
  middle = omega arith

  pub outer_back : outer (a + 256 * b + 65536 * c) ≡ c
  outer_back = omega arith

  pub frame_back : frame_in (a + 256 * b + 65536 * c) ≡ remaining a b
  frame_back = rw (low, middle)

  pub put_by_back : put_by_in (a + 256 * b + 65536 * c) ≡ put_by a b c
  put_by_back = rw (low, middle, outer_back)
