-- The laws of the lengths of a run name: what each comes to, and what a level that stops comes to.
-- Assumes nothing.
use Prim.Native.Nat.{ℕ, zero, suc, ◌+◌, ◌-◌, ◌<◌}
use native.Mathlib.Omega.{arith}
use mathlib.Core.Path.{◌≡◌, refl, ap, ◌∙◌}
use mathlib.Core.List.{List}
use mathlib.Core.Bool.{true, false, cond}
use lib.ListN.{drop}
use lib.Dec.{eqb}
use borrow.Author.Tests.{eq-eqb, ne_eqb}
use Rattle.term.specs.Extent.{extent_of}
use Rattle.search.specs.State.{turns, State, walked, walk_of}
use Rattle.search.specs.Level.{Reply, spent_at, failed, tried, lengths_of, stop_by, after_walk, level_of}
use Rattle.search.specs.Inner.Replies.{given, tries_of}
use Rattle.steps.specs.declared.Stop.{Stop}
use Rattle.search.proofs.Kept.{past}

-- Lengths

module _ (lv : State → ℕ → Reply) (table bytes : List ℕ) (v : ℕ) (s : State) where
  pub tries_last : (k n size left : ℕ) → k ≡ 0 → lv (given s v n size) left ≡ tries_of lv table bytes v s k n size left
  unfolding tries_of
  tries_last zero n size left e = refl
  tries_last (suc k) n size left e = absurd (omega arith)

  pub tries_hit : (k n size left : ℕ) (r : Reply) → r ≡ lv (given s v n size) left → failed r.outcome ≡ false → r ≡ tries_of lv table bytes v s k n size left
  unfolding tries_of
  tries_hit zero n size left r e f = e
  tries_hit (suc k) n size left r e f = rw (← e, f)

  pub tries_spent : (k n size left : ℕ) (r : Reply) → 0 < k → r ≡ lv (given s v n size) left → failed r.outcome ≡ true → r.left ≡ 0
      → spent_at r.left ≡ tries_of lv table bytes v s k n size left
  unfolding tries_of
  tries_spent zero n size left r z e f h = absurd (omega arith)
  tries_spent (suc k) n size left r z e f h = rw (← e, f, eq-eqb r.left 0 h)

  pub tries_more : (k n size left : ℕ) (r : Reply) → 0 < k → r ≡ lv (given s v n size) left → failed r.outcome ≡ true → (r.left ≡ 0 → ⊥)
      → tries_of lv table bytes v s k n size left
      ≡ tries_of lv table bytes v s (k - 1) (n + 1) (size + extent_of table (drop (s.place.node + size) bytes)) (r.left - 1)
  unfolding tries_of
  tries_more zero n size left r z e f h = absurd (omega arith)
  tries_more (suc k) n size left r z e f h = let i : suc k - 1 ≡ k = omega arith in rw (← e, f, ne_eqb r.left 0 h, i)

  -- the same numbers
  pub tries_at : {a a' b b' c c' d d' : ℕ} → a ≡ a' → b ≡ b' → c ≡ c' → d ≡ d'
      → tries_of lv table bytes v s a b c d ≡ tries_of lv table bytes v s a' b' c' d'
  tries_at {a} {a'} {b} {b'} {c} {c'} {d} {d'} e f g h =
      ap (λ (x : ℕ). tries_of lv table bytes v s x b c d) e ∙ ap (λ (x : ℕ). tries_of lv table bytes v s a' x c d) f
      ∙ ap (λ (x : ℕ). tries_of lv table bytes v s a' b' x d) g ∙ ap (tries_of lv table bytes v s a' b' c') h

  pub given_past : (n size : ℕ) → given (past s) v n size ≡ tried s v n size
  given_past n size =
      let a : s.place.elements - 0 ≡ s.place.elements = omega arith in
      let b : s.place.node + 0 ≡ s.place.node = omega arith in
      rw (a, b)

  -- an unassigned run name counts its first length, and then tries
  pub lengths_tries : (k n size left : ℕ)
      → lengths_of lv table bytes v s k n size left ≡ cond (eqb left 0) (spent_at left) (tries_of lv table bytes v (past s) k n size (left - 1))
  unfolding lengths_of tries_of
  lengths_tries zero n size left = rw (given_past n size)
  lengths_tries (suc k) n size left =
      let b : s.place.node + 0 + size ≡ s.place.node + size = omega arith in
      rw (
        given_past n size,
        b,
        lengths_tries k (n + 1) (size + extent_of table (drop (s.place.node + size) bytes)) (lv (tried s v n size) (left - 1)).left,
      )

-- A level, by the stop of its walk

pub level_stops : (n : ℕ) (table classes pattern bytes : List ℕ) (s : State) (left : ℕ) (stop : Stop) (l : ℕ) (end : State) (r : Reply)
    → 0 < n → walk_of turns table classes pattern bytes s left ≡ walked stop l end
    → r ≡ stop_by stop (level_of (n - 1) table classes bytes) table pattern bytes end l
    → r ≡ level_of n table classes bytes pattern s left
unfolding level_of after_walk
level_stops zero table classes pattern bytes s left stop l end r h e g = absurd (omega arith)
level_stops (suc n) table classes pattern bytes s left stop l end r h e g = let z : suc n - 1 ≡ n = omega arith in rw e (g ∙ rw z)
