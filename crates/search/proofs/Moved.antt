-- Further on in a level, and further on from there.
-- Assumes nothing.
use Prim.Native.Nat.{ℕ, ◌≤◌}
use native.Mathlib.Omega.{arith}
use native.Mathlib.Nat.{le_refl}
use mathlib.Core.Path.{◌≡◌, refl, ◌∙◌}
use mathlib.Core.List.{List}
use mathlib.Core.Bool.{true}
use lib.ListN.{length}
use Rattle.search.specs.State.{State}
use Rattle.parts.specs.Packed.{bit}
use Rattle.search.specs.Inner.Memory.{Holding, Kept}
use Rattle.search.specs.Inner.Lent.{Handed, Lent, lent_of, Held}
use Rattle.search.specs.Inner.Bounds.{Moved}
use Rattle.search.specs.declared.place.Place.{Place}
use Rattle.search.specs.declared.marks.Marks.{Marks}
use Rattle.search.proofs.Kept.{kept_all, kept_then}

-- some state is held
abbrev pub HeldAt : Handed → Lent → Marks → Place → Type 0
HeldAt i e m p = Holding (length i.pattern) (length i.bytes) e.assigned e.parts e.stack m p

-- nowhere
pub moved_none : {i : Handed} {e : Lent} {m : Marks} {p : Place} {s : State} → Held i e m p s → Moved i e m p e m p s
moved_none {m = m} {p = p} h = record {
  holds = h;
  kept = kept_all;
  still = λ v b. b;
  more_frames = le_refl m.frames;
  more_waiting = le_refl m.waiting;
  same_first = refl;
  further = le_refl p.at;
}

-- the marks are no lower
abbrev pub Grown : Marks → Marks → Type 0
Grown m k = (m.frames ≤ k.frames) × (m.waiting ≤ k.waiting) × (k.first ≡ m.first)

-- one call after another with the same marks
pub kept_again : {assigned assigned₁ : ℕ} {m : Marks} {parts stack parts₁ stack₁ parts₂ stack₂ : List ℕ}
    → ((v : ℕ) → bit assigned v ≡ true → bit assigned₁ v ≡ true)
    → Kept assigned m parts stack parts₁ stack₁ → Kept assigned₁ m parts₁ stack₁ parts₂ stack₂ → Kept assigned m parts stack parts₂ stack₂
kept_again {m = m} still k l = kept_then {m₁ = m} still (le_refl m.frames) (le_refl m.waiting) k l

module _ {i : Handed} {e x : Lent} {m k : Marks} {p q : Place} {s : State} (a : Moved i e m p x k q s) where
  pub moved_keeps : {parts stack : List ℕ} → Kept x.assigned k x.parts x.stack parts stack → Kept e.assigned m e.parts e.stack parts stack
  moved_keeps l = kept_then a.still a.more_frames a.more_waiting a.kept l

  -- whatever is left of the allowance
  pub moved_to : {assigned left : ℕ} {parts stack : List ℕ} {l : Marks} {r : Place} {t : State}
      → ((v : ℕ) → bit x.assigned v ≡ true → bit assigned v ≡ true) → Kept x.assigned k x.parts x.stack parts stack → Grown k l → q.at ≤ r.at
      → Held i (lent_of assigned left parts stack) l r t → Moved i e m p (lent_of assigned left parts stack) l r t
  moved_to still kept grown further holds = record {
    holds = holds;
    kept = moved_keeps kept;
    still = λ v h. still v (a.still v h);
    more_frames = omega (arith, a.more_frames, grown.0);
    more_waiting = omega (arith, a.more_waiting, grown.1);
    same_first = grown.2 ∙ a.same_first;
    further = omega (arith, a.further, further);
  }

  pub moved_then : {y : Lent} {l : Marks} {r : Place} {t : State} → Moved i x k q y l r t → Moved i e m p y l r t
  moved_then b = moved_to b.still b.kept (b.more_frames, b.more_waiting, b.same_first) b.further b.holds
