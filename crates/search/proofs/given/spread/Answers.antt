-- `search::given::spread` meets its contract. Assumes nothing.
use Prim.Native.Nat.{ℕ, ◌<◌}
use native.Mathlib.Omega.{arith}
use mathlib.Core.List.{List, [], ◌∷◌}
use mathlib.Core.Path.{◌≡◌, refl, sym, subst, ◌∙◌}
use denote.Enum.Declared
use types.Run.{OneOf, miss}
use Rattle.term.specs.Code.{VariableBelow, variables, decode_of}
use Rattle.term.specs.declared.Code.{Code}
use Rattle.term.specs.declared.Code.TheVariants.{Symbol, Name, Run, Complement}
use Rattle.term.specs.contracts.Code as codes
use Rattle.term.proofs.Codes.{decode_below}
use Rattle.search.specs.Spread.{run_here}
use Rattle.search.proofs.Spreads.{spread_end, spread_falls, spread_past, spread_seen, spread_short, spread_new}
use borrow.Enum.Refused.{opened}
use Rattle.search.proofs.given.spread.Goals as goal

-- a run name is one of the 48
variable_low : (b : ℕ) {c : Code} {v : ℕ} → c ≡ decode_of b → c ≡ Run v → v < variables
unfolding VariableBelow
variable_low b e f = subst VariableBelow (sym e ∙ f) (decode_below b)

-- the codes that are no run name's
other_code : (c : Code) → OneOf (0 ∷ 1 ∷ 3 ∷ 4 ∷ []) (Declared.tag_of codes.the_type c) → (vs : List ℕ) → run_here c vs ≡ vs
other_code (Symbol b) k vs = refl
other_code (Name v) k vs = refl
other_code (Run v) k vs = absurd (miss (0 ∷ 1 ∷ 3 ∷ 4 ∷ []) 2 tt k)
other_code Complement k vs = refl
other_code Code.Refused k vs = refl

pub loop-at-smaller-in_default : goal.loop-at-smaller-in_default
loop-at-smaller-in_default c = spread_falls _ _ _ _ c.loop-at.invariant c.loop-at-test.true _ c.past-at.ensures.0

pub loop-at-preserved-in_default : goal.loop-at-preserved-in_default
loop-at-preserved-in_default c = spread_past _ _ _ _ c.loop-at.invariant c.loop-at-test.true _ c.past-at.ensures.0 _
    c.decode-code.ensures (other_code c.decode-code.result (opened c.in_default.in_default-own.keys2))

pub loop-at-smaller-then-is_assigned : goal.loop-at-smaller-then-is_assigned
loop-at-smaller-then-is_assigned c = spread_falls _ _ _ _ c.loop-at.invariant c.loop-at-test.true _ c.past-at.ensures.0

pub loop-at-preserved-then-is_assigned : goal.loop-at-preserved-then-is_assigned
loop-at-preserved-then-is_assigned c = spread_seen _ _ _ _ c.loop-at.invariant c.loop-at-test.true _ c.past-at.ensures.0 _ c.decode-code.ensures _ c.in-Run.is (sym c.is_assigned.ensures ∙ c.if-is_assigned.true)

pub returns-in_default-split_first : goal.returns-in_default-split_first
returns-in_default-split_first c = spread_short _ _ _ _ c.loop-at.invariant c.loop-at-test.true _ c.past-at.ensures.0 _ c.decode-code.ensures _ c.in-Run.is (sym c.is_assigned.ensures ∙ c.if-is_assigned.false) c.in_default-split_first.ensures.cases

pub also-seen-requires : goal.also-seen-requires
also-seen-requires c = omega (arith, c.from-i.ensures, variable_low _ c.decode-code.ensures c.in-Run.is)

pub bounds-lengths-i : goal.bounds-lengths-i
bounds-lengths-i c = omega (arith, c.from-i.ensures, variable_low _ c.decode-code.ensures c.in-Run.is)

pub loop-at-smaller : goal.loop-at-smaller
loop-at-smaller c = spread_falls _ _ _ _ c.loop-at.invariant c.loop-at-test.true _ c.past-at.ensures.0

pub loop-at-preserved : goal.loop-at-preserved
loop-at-preserved c = spread_new _ _ _ _ c.loop-at.invariant c.loop-at-test.true _ c.past-at.ensures.0 _ c.decode-code.ensures _ c.in-Run.is (sym c.is_assigned.ensures ∙ c.if-is_assigned.false) _ _ c.in-Some.ensures.cases.0 _ _ c.also-seen.ensures c.from-i.ensures

pub returns : goal.returns
returns c = spread_end _ _ _ _ c.loop-at.invariant (omega (arith, c.loop-at-test.false)) _ c.is_empty.ensures
