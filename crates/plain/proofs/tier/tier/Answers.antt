-- `plain::tier::tier` meets its contract. The invariant: the tier is what the loop has so far and what is left of it.
use Prim.Native.Nat.{ℕ, ◌+◌, ◌-◌, ◌<◌, ◌≤◌}
use native.Mathlib.Omega.{arith}
use mathlib.Core.Path.{◌≡◌, refl, ap}
use mathlib.Core.List.{List}
use lib.ListN.{length, take, drop, get_or}
use Rattle.term.proofs.Lists.{rest_length}
use Rattle.plain.proofs.Turns.{Turning, turning_first, turning_end, turning_fails, enters_within, notes_within, name_within, run_within, turning_leaves, turning_enters, turning_notes, turning_name, turning_run}
use Rattle.term.proofs.Pairs.{together}
use Rattle.plain.specs.Bytes.{turn_of, TurnWithin, leaves_of}
use Rattle.plain.specs.declared.tier.Turn.{Turn}
use Rattle.plain.specs.declared.tier.Turn.TheVariants.{Enters}
use Rattle.plain.proofs.tier.tier.Goals as goal

module _ {table classes bytes pattern parts₀ lengths parts : List ℕ} {at node count assigned w : ℕ} {x : Turn}
    (t : Turning table classes bytes pattern parts₀ lengths at node count assigned parts) (more : at < length pattern)
    (is : x ≡ turn_of table classes (take (length pattern - at) (drop at pattern)) (take (length bytes - node) (drop node bytes)))
    (within : TurnWithin (take (length pattern - at) (drop at pattern)) (take (length bytes - node) (drop node bytes)) x)
    (enters : x ≡ Enters w)
  where
    -- a symbol is entered
    entered : Turning table classes bytes pattern parts₀ lengths (at + w) (node + w) (count + 1) assigned parts
    entered =
        let i = enters_within _ _ _ _ _ _ _ _ _ _ _ t more _ is within _ enters in
        turning_enters _ _ _ _ _ _ _ _ _ _ _ t more _ is _ enters i.0 i.1 i.2 i.3

    -- the symbols without children behind it are passed
    passed : {n : ℕ} → n ≡ leaves_of table classes (take (length pattern - (at + w)) (drop (at + w) pattern)) (take (length bytes - (node + w)) (drop (node + w) bytes))
        → (n ≤ length (take (length pattern - (at + w)) (drop (at + w) pattern))) × (n ≤ length (take (length bytes - (node + w)) (drop (node + w) bytes)))
        → Turning table classes bytes pattern parts₀ lengths (at + w + n) (node + w + n) (count + 1 + n) assigned parts
    passed e b = turning_leaves _ _ _ _ _ _ _ _ _ _ _ entered _ e b

pub loop-at-init : goal.loop-at-init
loop-at-init c = turning_first _ _ _ _ _ _ refl

pub returns-in-Fails : goal.returns-in-Fails
returns-in-Fails c = together (turning_fails _ _ _ _ _ _ _ _ _ _ _ c.loop-at.invariant c.loop-at-test.true _ c.step_at-turn.ensures.is c.in-Fails.is) (λ first rest. record { is = first; parts = rest })

pub loop-at-preserved-in-Enters : goal.loop-at-preserved-in-Enters
loop-at-preserved-in-Enters c = passed c.loop-at.invariant c.loop-at-test.true c.step_at-turn.ensures.is c.step_at-turn.ensures.within c.in-Enters.is c.leaves-n.ensures.is c.leaves-n.ensures.within

pub loop-at-preserved-in-Notes : goal.loop-at-preserved-in-Notes
loop-at-preserved-in-Notes c = let i = notes_within _ _ _ _ _ _ _ _ _ _ _ c.loop-at.invariant c.loop-at-test.true _ c.step_at-turn.ensures.is c.step_at-turn.ensures.within _ _ c.in-Notes.is in
    rw c.from-i.ensures
    (turning_notes _ _ _ _ _ _ _ _ _ _ _ c.loop-at.invariant c.loop-at-test.true _ c.step_at-turn.ensures.is _ _ c.in-Notes.is i.1 i.2)

pub take-assigned-requires : goal.take-assigned-requires
take-assigned-requires c = (name_within _ _ _ _ _ _ _ _ _ _ _ c.loop-at.invariant c.loop-at-test.true _ c.step_at-turn.ensures.is c.step_at-turn.ensures.within _ _ c.in-TakesNode.is).0

pub loop-at-preserved-in-TakesNode : goal.loop-at-preserved-in-TakesNode
loop-at-preserved-in-TakesNode c = let i = name_within _ _ _ _ _ _ _ _ _ _ _ c.loop-at.invariant c.loop-at-test.true _ c.step_at-turn.ensures.is c.step_at-turn.ensures.within _ _ c.in-TakesNode.is in
    turning_name _ _ _ _ _ _ _ _ _ _ _ c.loop-at.invariant c.loop-at-test.true _ c.step_at-turn.ensures.is _ _ _ _ _ c.take-assigned.ensures.0 c.take-assigned.ensures.1 i.1
    c.in-TakesNode.is refl

pub take-assigned-requires-in-TakesRun : goal.take-assigned-requires-in-TakesRun
take-assigned-requires-in-TakesRun c = run_within _ _ _ _ _ _ _ _ _ _ _ c.loop-at.invariant c.loop-at-test.true _ c.step_at-turn.ensures.is c.step_at-turn.ensures.within _ c.in-TakesRun.is

pub loop-at-preserved : goal.loop-at-preserved
loop-at-preserved c = turning_run _ _ _ _ _ _ _ _ _ _ _ c.loop-at.invariant c.loop-at-test.true _ c.step_at-turn.ensures.is _ _ _ _ _ c.take-assigned-in-TakesRun.ensures.0 c.take-assigned-in-TakesRun.ensures.1
    (omega (arith, c.loop-at.invariant.node_within, c.extents-size.ensures.within, rest_length c.loop-at.node c.args.«record».now)) c.in-TakesRun.is (ap (λ (i : ℕ). get_or c.loop-at.lengths i 0) c.from-i-in-TakesRun.ensures) c.extents-size.ensures.is

pub returns : goal.returns
returns c = together (turning_end _ _ _ _ _ _ _ _ _ _ _ c.loop-at.invariant c.loop-at-test.false) (λ first rest. record { is = first; parts = rest })
