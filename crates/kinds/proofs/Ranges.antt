-- The rule of the ranges over the whole list, and what reading finds.
use Prim.Native.Nat.{ℕ, zero, suc, ◌<◌}
use native.Mathlib.Omega.{arith}
use mathlib.Core.Path.{◌≡◌, refl, sym, ◌∙◌}
use mathlib.Core.Bool.{Bool, true, false}
use mathlib.Core.List.{List, [], ◌∷◌}
use lib.Dec.{T, eqb, eqb→eq, leb}
use lib.ListN.{length, get_or}
use borrow.Author.Tests.{leb-true, leb-false, lt-ltb, le-ltb, ne_eqb}
use Rattle.term.specs.Code.{decode_of}
use Rattle.kinds.specs.Kind.{symbol, name, run, complement, refused, range_kind, kind_of}
use Rattle.kinds.proofs.Table.{every, at_each}

-- an entry that is the kind of its place's range
abbrev pub ranged : ℕ → ℕ → Bool
ranged k x = eqb x (range_kind k)

-- a list that passes the test has the kind of its range at each entry
range_at : (xs : List ℕ) → T (every ranged 0 xs) → (k : ℕ) → k < length xs → get_or xs k 0 ≡ range_kind k
range_at xs t k h = eqb→eq (get_or xs k 0) (range_kind k) (at_each ranged xs t k h)

-- reading a pattern finds the kind of the range, since it goes by the same ranges
read_range : (b : ℕ) → kind_of (decode_of b) ≡ range_kind b
unfolding decode_of range_kind kind_of
read_range b = go (leb b 199) refl (leb b 231) refl (leb b 247) refl (leb b 248) refl
  where
    go : (k : Bool) → leb b 199 ≡ k → (l : Bool) → leb b 231 ≡ l → (m : Bool) → leb b 247 ≡ m → (n : Bool) → leb b 248 ≡ n
        → kind_of (decode_of b) ≡ range_kind b
    go true e l f m g n h = simp (e, lt-ltb b 200 (omega (arith, leb-true b 199 e)))
    go false e true f m g n h =
        simp (e, f, le-ltb b 200 (omega (arith, leb-false b 199 e)), lt-ltb b 232 (omega (arith, leb-true b 231 f)))
    go false e false f true g n h =
        let low = leb-false b 231 f in
        simp (e, f, g, le-ltb b 200 (omega arith), le-ltb b 232 (omega arith), lt-ltb b 248 (omega (arith, leb-true b 247 g)))
    go false e false f false g true h =
        let only : b ≡ 248 = omega (arith, leb-false b 247 g, leb-true b 248 h) in rw only refl
    go false e false f false g false h =
        let low = leb-false b 248 h in
        let other : b ≡ 248 → ⊥ = λ z. omega (arith, low, z) in
        simp (e, f, g, h, le-ltb b 200 (omega arith), le-ltb b 232 (omega arith), le-ltb b 248 (omega arith), ne_eqb b 248 other)

-- n times the same entry, before others
unfoldable pub times : ℕ → ℕ → List ℕ → List ℕ
times zero x xs = xs
times (suc n) x xs = x ∷ times n x xs

-- the constant's entries
unfoldable pub kinds : List ℕ
kinds = times 200 symbol (times 32 name (times 16 run (times 1 complement (times 7 refused []))))

-- the kind at each entry, by one test over them all
pub kind_at : (k : ℕ) → k < 256 → (get_or kinds k 0 ≡ range_kind k) × (get_or kinds k 0 ≡ kind_of (decode_of k))
unfolding range_kind kinds times
kind_at k h = let r = range_at kinds tt k h in (r, r ∙ sym (read_range k))
