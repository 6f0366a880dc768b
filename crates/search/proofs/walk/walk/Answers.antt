-- `search::walk::walk` meets its contract. The invariant: whatever state the buffers hold at the start, the walk from it is the walk from the one that they
-- hold here. The measure: each turn takes a byte of the pattern, or closes a node for one further out. Assumes nothing.
use Prim.Native.Nat.{ℕ, ◌-◌, ◌<◌}
use native.Mathlib.Omega.{arith}
use mathlib.Core.Path.{◌≡◌}
use mathlib.Core.List.{List}
use lib.Dec.{eqb}
use lib.ListN.{length, drop, get_or}
use Rattle.parts.specs.Packed.{part_in}
use Rattle.search.specs.Inner.Memory.{outer, LiesIn, Holding}
use Rattle.search.specs.State.{State, variable_at}
use Rattle.steps.specs.declared.Step.TheVariants.{Closes}
use Rattle.steps.specs.declared.Step.{Step}
use Rattle.search.proofs.Asks.{Asks}
use Rattle.search.proofs.Steps.{step_here_holds}
use Rattle.search.proofs.Walks.{Walking, Turn, asked, closes_inside, walk_starts, walk_stops, walk_fails, walk_closes, walk_opens, walk_passes, walk_binds, walk_puts}
use Rattle.search.specs.declared.marks.Marks.{Marks}
use Rattle.search.specs.declared.place.Place.{Place}
use Rattle.steps.specs.Turn.{step_of, variable_in}
use Rattle.parts.specs.Packed.{part_of}
use Rattle.search.proofs.walk.walk.Goals as goal

-- what is known at a turn of the loop, once its step is
module _ {table classes pattern bytes : List ℕ} {assigned₀ left₀ : ℕ} {parts₀ stack₀ : List ℕ} {m₀ : Marks} {p₀ : Place}
    {parts stack : List ℕ} {p : Place} {m : Marks} {assigned left : ℕ} {x : Step}
    (inv : (s₀ : State) → LiesIn (length pattern) (length bytes) assigned₀ parts₀ stack₀ m₀ p₀ s₀
    → Walking table classes pattern bytes assigned₀ left₀ parts₀ stack₀ m₀ p₀ s₀ parts stack p m assigned left)
    (known : x ≡ step_of (eqb m.inner 0) table classes bytes (drop p.at pattern) (drop p.node bytes) (part_of assigned parts (variable_in (drop p.at pattern)))
    p.children p.elements left)
  where
    turn : (s₀ : State) → LiesIn (length pattern) (length bytes) assigned₀ parts₀ stack₀ m₀ p₀ s₀
        → Turn table classes pattern bytes assigned₀ left₀ parts₀ stack₀ m₀ p₀ s₀ parts stack p m assigned left x
    turn s₀ h = record { walking = inv s₀ h; is_step = step_here_holds _ _ _ _ _ _ _ p _ _ known }

    module _ (pre : Holding (length pattern) (length bytes) assigned₀ parts₀ stack₀ m₀ p₀) where
      asks : (y : Step) → x ≡ y
          → Asks (eqb m.inner 0) pattern bytes (part_in assigned parts (variable_at pattern p.at)) p left y
      asks = asked _ _ _ _ _ _ _ _ _ _ _ (turn pre.state pre.holds)

      inside : x ≡ Closes → (0 < m.inner) × (outer (get_or stack (m.inner - 1) 0) < m.inner)
      inside = closes_inside _ _ _ _ _ _ _ _ _ _ _ (turn pre.state pre.holds)

      held : Holding (length pattern) (length bytes) assigned parts stack m p
      held = record { state = _; holds = (inv pre.state pre.holds).moved.holds }

pub loop-stop-init : goal.loop-stop-init
loop-stop-init c = λ s₀ h. walk_starts _ _ _ _ _ _ _ _ _ _ _ c.requires.short h

pub overflow_sub-left : goal.overflow_sub-left
overflow_sub-left c = let k = asks c.loop-stop.invariant c.step_of-step.ensures c.requires.holding _ c.in-Fails.is in
    omega arith

pub overflow_sub-f : goal.overflow_sub-f
overflow_sub-f c = let k = inside c.loop-stop.invariant c.step_of-step.ensures c.requires.holding c.in-Closes.is in
    omega arith

pub offset_bounds-stack-marks : goal.offset_bounds-stack-marks
offset_bounds-stack-marks c = let k = inside c.loop-stop.invariant c.step_of-step.ensures c.requires.holding c.in-Closes.is in
    let h = held c.loop-stop.invariant c.step_of-step.ensures c.requires.holding in
    omega arith

pub bounds-stack-marks : goal.bounds-stack-marks
bounds-stack-marks c = let k = inside c.loop-stop.invariant c.step_of-step.ensures c.requires.holding c.in-Closes.is in
    let h = held c.loop-stop.invariant c.step_of-step.ensures c.requires.holding in
    omega arith

pub loop-stop-smaller-in-Closes : goal.loop-stop-smaller-in-Closes
loop-stop-smaller-in-Closes c = let k = inside c.loop-stop.invariant c.step_of-step.ensures c.requires.holding c.in-Closes.is in
    rw (c.closed-marks.ensures, c.reopened-place.ensures) (omega arith)

pub loop-stop-preserved-in-Closes : goal.loop-stop-preserved-in-Closes
loop-stop-preserved-in-Closes c = rw (c.closed-marks.ensures, c.reopened-place.ensures)
    (λ s₀ h. walk_closes _ _ _ _ _ _ _ _ _ _ _ (turn c.loop-stop.invariant c.step_of-step.ensures s₀ h)
    c.in-Closes.is)

pub overflow_sub-left-in-Opens : goal.overflow_sub-left-in-Opens
overflow_sub-left-in-Opens c = let k = (asks c.loop-stop.invariant c.step_of-step.ensures c.requires.holding _ c.in-Opens.is).allowed in
    omega arith

pub push_frame-marks-requires : goal.push_frame-marks-requires
push_frame-marks-requires c = let k = asks c.loop-stop.invariant c.step_of-step.ensures c.requires.holding _ c.in-Opens.is in
    let h = held c.loop-stop.invariant c.step_of-step.ensures c.requires.holding in
    (k.children, k.elements, omega arith, omega arith)

pub entered-place-requires : goal.entered-place-requires
entered-place-requires c = let k = asks c.loop-stop.invariant c.step_of-step.ensures c.requires.holding _ c.in-Opens.is in
    let l = c.requires.short in
    (omega arith, omega arith)

pub loop-stop-smaller-in-Opens : goal.loop-stop-smaller-in-Opens
loop-stop-smaller-in-Opens c = let k = asks c.loop-stop.invariant c.step_of-step.ensures c.requires.holding _ c.in-Opens.is in
    let h = held c.loop-stop.invariant c.step_of-step.ensures c.requires.holding in
    rw (c.push_frame-marks.ensures.marks, c.entered-place.ensures) (omega arith)

pub loop-stop-preserved-in-Opens : goal.loop-stop-preserved-in-Opens
loop-stop-preserved-in-Opens c = rw (c.push_frame-marks.ensures.marks, c.push_frame-marks.ensures.written, c.entered-place.ensures)
    (λ s₀ h. walk_opens _ _ _ _ _ _ _ _ _ _ _ (turn c.loop-stop.invariant c.step_of-step.ensures s₀ h) _ _ _ _ c.in-Opens.is (c.push_frame-marks.ensures.is, c.push_frame-marks.ensures.link))

pub overflow_sub-left-in-Passes : goal.overflow_sub-left-in-Passes
overflow_sub-left-in-Passes c = let k = (asks c.loop-stop.invariant c.step_of-step.ensures c.requires.holding _ c.in-Passes.is).allowed in
    omega arith

pub passed-place-requires : goal.passed-place-requires
passed-place-requires c = let k = asks c.loop-stop.invariant c.step_of-step.ensures c.requires.holding _ c.in-Passes.is in
    let l = c.requires.short in
    (k.children, k.elements, omega arith, omega arith)

pub loop-stop-smaller-in-Passes : goal.loop-stop-smaller-in-Passes
loop-stop-smaller-in-Passes c = let k = asks c.loop-stop.invariant c.step_of-step.ensures c.requires.holding _ c.in-Passes.is in
    rw c.passed-place.ensures (omega arith)

pub loop-stop-preserved-in-Passes : goal.loop-stop-preserved-in-Passes
loop-stop-preserved-in-Passes c = rw c.passed-place.ensures
    (λ s₀ h. walk_passes _ _ _ _ _ _ _ _ _ _ _ (turn c.loop-stop.invariant c.step_of-step.ensures s₀ h) _ _ c.in-Passes.is)

pub overflow_sub-left-in-Binds : goal.overflow_sub-left-in-Binds
overflow_sub-left-in-Binds c = let k = (asks c.loop-stop.invariant c.step_of-step.ensures c.requires.holding _ c.in-Binds.is).1.allowed in
    omega arith

pub bind-assigned-requires : goal.bind-assigned-requires
bind-assigned-requires c = let k = (asks c.loop-stop.invariant c.step_of-step.ensures c.requires.holding _ c.in-Binds.is).0.below in
    k

pub passed-place-requires-in-Binds : goal.passed-place-requires-in-Binds
passed-place-requires-in-Binds c = let k = (asks c.loop-stop.invariant c.step_of-step.ensures c.requires.holding _ c.in-Binds.is).1 in
    let l = c.requires.short in
    (k.children, k.elements, omega arith, omega arith)

pub loop-stop-smaller-in-Binds : goal.loop-stop-smaller-in-Binds
loop-stop-smaller-in-Binds c = let k = (asks c.loop-stop.invariant c.step_of-step.ensures c.requires.holding _ c.in-Binds.is).1 in
    rw c.passed-place-in-Binds.ensures (omega arith)

pub loop-stop-preserved-in-Binds : goal.loop-stop-preserved-in-Binds
loop-stop-preserved-in-Binds c = rw (c.passed-place-in-Binds.ensures, c.bind-assigned.ensures.0, c.bind-assigned.ensures.1)
    (λ s₀ h. walk_binds _ _ _ _ _ _ _ _ _ _ _ (turn c.loop-stop.invariant c.step_of-step.ensures s₀ h) _ _ c.in-Binds.is c.requires.short)

pub overflow_sub-left-in-PutsBy : goal.overflow_sub-left-in-PutsBy
overflow_sub-left-in-PutsBy c = let k = (asks c.loop-stop.invariant c.step_of-step.ensures c.requires.holding _ c.in-PutsBy.is).allowed in
    omega arith

pub push_complement-marks-requires : goal.push_complement-marks-requires
push_complement-marks-requires c = let k = asks c.loop-stop.invariant c.step_of-step.ensures c.requires.holding _ c.in-PutsBy.is in
    let h = held c.loop-stop.invariant c.step_of-step.ensures c.requires.holding in
    let l = c.requires.short in
    (k.some, omega arith, omega arith, omega arith)

pub passed-place-requires-in-PutsBy : goal.passed-place-requires-in-PutsBy
passed-place-requires-in-PutsBy c = let k = asks c.loop-stop.invariant c.step_of-step.ensures c.requires.holding _ c.in-PutsBy.is in
    let l = c.requires.short in
    (k.children, k.elements, omega arith, omega arith)

pub loop-stop-smaller : goal.loop-stop-smaller
loop-stop-smaller c = let k = asks c.loop-stop.invariant c.step_of-step.ensures c.requires.holding _ c.in-PutsBy.is in
    rw (c.push_complement-marks.ensures.marks, c.passed-place-in-PutsBy.ensures) (omega arith)

pub loop-stop-preserved : goal.loop-stop-preserved
loop-stop-preserved c = rw (c.push_complement-marks.ensures.marks, c.push_complement-marks.ensures.written, c.passed-place-in-PutsBy.ensures)
    (λ s₀ h. walk_puts _ _ _ _ _ _ _ _ _ _ _ (turn c.loop-stop.invariant c.step_of-step.ensures s₀ h) _ _ _ c.in-PutsBy.is c.push_complement-marks.ensures.is)

pub returns-in-Stops : goal.returns-in-Stops
returns-in-Stops c = λ s₀ h. walk_stops _ _ _ _ _ _ _ _ _ _ _ (turn c.loop-stop.invariant c.step_of-step.ensures s₀ h) _ c.in-Stops.is

pub returns-in-Fails : goal.returns-in-Fails
returns-in-Fails c = λ s₀ h. walk_fails _ _ _ _ _ _ _ _ _ _ _ (turn c.loop-stop.invariant c.step_of-step.ensures s₀ h) c.in-Fails.is
