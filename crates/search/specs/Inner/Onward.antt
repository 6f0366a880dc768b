-- The pairs of a level up to a run name that leaves a choice: one that is the last child pattern of its node leaves none.
use Rattle.std.specs.Prelude.{ℕ, ◌-◌, ◌≤◌, ◌≡◌, List, Bool, true}
use Rattle.search.specs.State.{State}
use Rattle.search.specs.Level.{levels}
use Rattle.search.specs.Inner.Lent.{Handed, Lent, Held, level_in}
use Rattle.search.specs.Inner.Bounds.{Reaches, Walks}
use Rattle.search.specs.Inner.Replies.{follow_in}
use Rattle.search.specs.declared.place.Place.{Place}
use Rattle.search.specs.declared.marks.Marks.{Marks}
use Rattle.search.specs.declared.walk.Stopped.{Stopped}

-- the level with n others within it comes to what follows the stop, with fewer
pub record Comes (i : Handed) (left : ℕ) (s : State) (n : ℕ) (r : Stopped) (end : State) : Type 0 where
  pub within : ℕ
  pub enough : levels i.pattern r.place.at - 1 ≤ within
  pub same : level_in i n s left ≡ follow_in i r.stop within end r.left

-- the level from the state s comes to another; one that halts stops where its walk does
pub record Onward (halts : Bool) (i : Handed) (e : Lent) (m : Marks) (p : Place) (parts stack : List ℕ) (r : Stopped) : Type 0 where
  pub going : (s : State) → Held i e m p s
      → Reaches i e m p parts stack r (λ end. (n : ℕ) → levels i.pattern p.at ≤ n → Comes i e.left s n r end)
  pub halted : halts ≡ true → Walks i e m p parts stack r
