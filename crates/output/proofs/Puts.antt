-- Bytes put into a buffer: where they have room, where not, and one after the other.
use Prim.Native.Nat.{ℕ, ◌+◌, ◌-◌, ◌≤◌, ◌<◌}
use native.Mathlib.Omega.{arith}
use mathlib.Core.Path.{◌≡◌, refl, sym, ap, ◌∙◌}
use mathlib.Core.List.{List, ◌++◌}
use mathlib.Core.Bool.{Bool, true, false}
use lib.Dec.{leb}
use lib.ListN.{length, length-append}
use lib.Seq.{sets, length-sets}
use borrow.Author.Tests.{leb-true, leb-false, le-leb, lt-leb}
use Rattle.term.proofs.Stores.{sets_append}
use Rattle.output.specs.Puts.{puts, past}

-- what the test for room says

pub room_left : (size at n : ℕ) → n ≤ size → leb at (size - n) ≡ leb (at + n) size
room_left size at n h = go (leb at (size - n)) refl
  where
    go : (b : Bool) → leb at (size - n) ≡ b → b ≡ leb (at + n) size
    go true e = let l = leb-true at (size - n) e in sym (le-leb (at + n) size (omega arith))
    go false e = let l = leb-false at (size - n) e in sym (lt-leb (at + n) size (omega arith))

module _ (at n size : ℕ) (r : Bool) (told : r ≡ leb (at + n) size) where
  pub some_room : r ≡ true → at + n ≤ size
  some_room h = leb-true (at + n) size (sym told ∙ h)

  pub no_room : r ≡ false → size < at + n
  no_room h = leb-false (at + n) size (sym told ∙ h)

-- the buffer and the place after these bytes were put
abbrev pub Put : List ℕ → ℕ → List ℕ → List ℕ → ℕ → Type 0
Put out at bytes after end = (after ≡ puts out at bytes) × (end ≡ past out at bytes)

-- the same where they have room
abbrev pub Stored : List ℕ → ℕ → List ℕ → List ℕ → ℕ → Type 0
Stored out at bytes after end = (after ≡ sets out at bytes) × (end ≡ at + length bytes)

module _ (out : List ℕ) (at : ℕ) (bytes : List ℕ) where
  pub puts_room : at + length bytes ≤ length out → puts out at bytes ≡ sets out at bytes
  unfolding puts
  puts_room h = rw (le-leb (at + length bytes) (length out) h) refl

  pub past_room : at + length bytes ≤ length out → past out at bytes ≡ at + length bytes
  unfolding past
  past_room h = rw (le-leb (at + length bytes) (length out) h) refl

  -- where they have no room
  pub none_put : length out < at + length bytes → Put out at bytes out at
  unfolding puts past
  none_put h = rw (lt-leb (at + length bytes) (length out) h) (refl, refl)

  module _ (after : List ℕ) (end : ℕ) (room : at + length bytes ≤ length out) where
    pub put_stored : Put out at bytes after end → Stored out at bytes after end
    put_stored p = (p.0 ∙ puts_room room, p.1 ∙ past_room room)

    pub stored_put : Stored out at bytes after end → Put out at bytes after end
    stored_put s = (s.0 ∙ sym (puts_room room), s.1 ∙ sym (past_room room))

-- one after the other, where there is room for both
pub both_put : (out after last : List ℕ) (at middle end : ℕ) (xs ys : List ℕ) → at + length (xs ++ ys) ≤ length out
    → Put out at xs after middle → Put after middle ys last end → Put out at (xs ++ ys) last end
both_put out after last at middle end xs ys room first second =
    let long = length-append xs ys in
    let a = put_stored out at xs after middle (omega arith) first in
    let same : length after ≡ length out = ap length a.0 ∙ length-sets out at xs in
    let b = put_stored after middle ys last end (omega (arith, a.1)) second in
    stored_put out at (xs ++ ys) last end room
    (b.0 ∙ rw (a.0, a.1) (sym (sets_append out at xs ys)), omega (arith, a.1, b.1))
