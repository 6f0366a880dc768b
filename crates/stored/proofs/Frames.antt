-- The levels of both loops: the reader's frames, each with the place where its first tree starts.
use Prim.Native.Nat.{ℕ, ◌+◌, ◌-◌, ◌≤◌, ◌<◌}
use native.Mathlib.Omega.{arith}
use mathlib.Core.Path.{◌≡◌, refl, ap, ◌∙◌}
use mathlib.Core.List.{List, [], ◌∷◌, ◌++◌, reverse, reverse-append}
use mathlib.Core.Bool.{Bool, true, false, ◌||◌, true≢false}
use lib.ListN.{length, length-reverse, get_or, set}
use lib.Dec.{ltb}
use borrow.Author.Tests.{ltb-false}
use Rattle.term.specs.Limits.{nesting}
use Rattle.term.specs.Splicing.{in_list}
use Rattle.reader.specs.Frame.{frame}
use Rattle.reader.specs.declared.Frame.{Frame}
use Rattle.reader.proofs.Frames.{rest_of, none, stack, stack_length, stack_pushed, stack_popped}
use Rattle.stored.specs.Reading.{length_bytes}
use Rattle.stored.specs.Passes.{Stands}
use Rattle.stored.specs.declared.Level.{Level}
use Rattle.std.specs.Prelude.{Option, None}

abbrev pub level : Frame → ℕ → Level
level f start = record { frame = f; start = start }

-- the whole, and what is left of a level after its first tree
abbrev pub root : Level
root = level (frame 1 nesting None) 0

abbrev pub rest_at : Level → Level
rest_at l = level (rest_of l.frame) l.start

-- each has a nesting of its own, and starts behind a list's length and after the one around it
abbrev pub Nested : List Level → ℕ → Type 0
Nested [] at = Unit {0}
Nested (l ∷ ls) at = (length ls + l.frame.left ≤ nesting) × (length_bytes (in_list l.frame.stand) ≤ l.start) × (l.start ≤ at) × Nested ls l.start

-- up to `at`, with these levels to go, of which P holds: the innermost first
pub record Standing (P : List Level → Type 0) (around : List Level) (top : Level) (at : ℕ) : Type 0 where
  pub nested : Nested (top ∷ reverse around) at
  pub to_go : P (top ∷ reverse around)

pub standing_starts : {P : List Level → Type 0} {around : List Level} → around ≡ [] → P (root ∷ []) → Standing P around root 0
standing_starts e p = rw e (record { nested = (omega arith, omega arith, omega arith, tt); to_go = p })

module _ {P : List Level → Type 0} {around : List Level} {top : Level} {at : ℕ} (i : Standing P around top at) where
  pub depth_within : length around + top.frame.left ≤ nesting
  depth_within = omega (arith, i.nested.0, length-reverse around)

  pub stands : {size : ℕ} → at ≤ size → Stands (in_list top.frame.stand) top.start at size
  stands h = record { behind = i.nested.1; before = i.nested.2; within = h }

  module _ {Q : List Level → Type 0} where
    -- a node without children that is no list
    pub next_leaf : (to : ℕ) → at ≤ to → Q (rest_at top ∷ reverse around) → Standing Q around (rest_at top) to
    next_leaf to h q = record { nested = (i.nested.0, i.nested.1, omega (arith, i.nested.2), i.nested.3); to_go = q }

    -- any other: its children come next
    pub next_level : {k low : ℕ} {inside : (Option ℕ)} (to : ℕ) (g : Frame) → g ≡ frame k low inside → low < top.frame.left → at ≤ to → length_bytes (in_list inside) ≤ to
        → Q (level (frame k low inside) to ∷ rest_at top ∷ reverse around)
        → {pushed : List Level} → pushed ≡ around ++ rest_at top ∷ [] → Standing Q pushed (level g to) to
    next_level to g e l h b q {pushed} p =
        let a : reverse pushed ≡ rest_at top ∷ reverse around = ap reverse p ∙ reverse-append around (rest_at top ∷ []) in
        record {
          nested = rw (e, a) (omega (arith, depth_within, length-reverse around), b, omega arith, (i.nested.0, i.nested.1, omega (arith, i.nested.2), i.nested.3));
          to_go = rw (e, a) q;
        }

    -- after the last tree, the level around
    pub next_around : {l : Level} {left : List Level} → around ≡ left ++ l ∷ [] → Q (reverse around) → Standing Q left l at
    next_around {l} {left} e q =
        let a : reverse around ≡ l ∷ reverse left = ap reverse e ∙ reverse-append left (l ∷ []) in
        let n : Nested (l ∷ reverse left) top.start = rw a at i.nested.3 in
        record { nested = (n.0, n.1, omega (arith, n.2, i.nested.2), n.3); to_go = rw a at q }

-- a node that is no list and has no children
pub leaf_known : (list : Bool) (k : ℕ) → list || ltb 0 k ≡ false → (list ≡ false) × (k ≡ 0)
leaf_known true k e = absurd (true≢false e)
leaf_known false k e = (refl, omega (arith, ltb-false 0 k e))

-- the first so many levels of an array, the innermost last

abbrev pub none_at : Level
none_at = level none 0

abbrev pub levels_in : ℕ → List Level → List Level
levels_in d ls = reverse (stack none_at d ls)

pub levels_pushed : (d : ℕ) (ls : List Level) (l : Level) → d < length ls → levels_in (d + 1) (set ls d l) ≡ levels_in d ls ++ l ∷ []
levels_pushed d ls l h = ap reverse (stack_pushed none_at d ls l h) ∙ reverse-append (l ∷ []) (stack none_at d ls)

pub levels_popped : (d : ℕ) (ls : List Level) → (d ≡ 0 → ⊥) → levels_in d ls ≡ levels_in (d - 1) ls ++ get_or ls (d - 1) none_at ∷ []
levels_popped d ls h =
    ap reverse (stack_popped none_at d ls (omega (arith, h))) ∙ reverse-append (get_or ls (d - 1) none_at ∷ []) (stack none_at (d - 1) ls)

pub levels_length : (d : ℕ) (ls : List Level) → length (levels_in d ls) ≡ d
levels_length d ls = length-reverse (stack none_at d ls) ∙ stack_length none_at d ls
