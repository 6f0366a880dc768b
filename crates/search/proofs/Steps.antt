-- The laws of one turn at a place of pattern and record.
-- Assumes nothing.
use Prim.Native.Nat.{ℕ, ◌-◌, ◌<◌}
use native.Mathlib.Omega.{arith}
use mathlib.Core.Bool.{Bool, ◌&&◌}
use mathlib.Core.List.{List}
use mathlib.Core.Path.{◌≡◌, sym, ap, subst, ◌∙◌}
use lib.Dec.{eqb}
use lib.ListN.{length, get_or, drop, take, length-drop}
use Rattle.answers.specs.declared.Part.{Part}
use Rattle.term.proofs.Lists.{rest_part, first_left}
use Rattle.term.proofs.Codes.{decode_below}
use Rattle.term.specs.Code.{decode_of, VariableBelow}
use Rattle.term.specs.declared.Code.{Code}
use Rattle.term.specs.declared.Code.TheVariants.{Name, Run}
use Rattle.parts.specs.Packed.{part_in, part_of}
use Rattle.parts.proofs.Shown.{part_below}
use Rattle.steps.specs.Turn.{variable_of, variable_in, pair_step, plain_step, code_step, step_of}
use Rattle.steps.specs.declared.Step.{Step}
use Rattle.steps.proofs.Turns as turns
use Rattle.search.specs.State.{variable_at, step_at}
use Rattle.search.specs.declared.place.Place.{Place}

-- the variable of a code has a part

pub name_part : (assigned : ℕ) (parts : List ℕ) {v : ℕ} (b : ℕ) → Name v ≡ decode_of b → part_of assigned parts v ≡ part_in assigned parts v
unfolding VariableBelow
name_part assigned parts b e = part_below assigned parts _ (subst VariableBelow (sym e) (decode_below b))

pub run_part : (assigned : ℕ) (parts : List ℕ) {v : ℕ} (b : ℕ) → Run v ≡ decode_of b → part_of assigned parts v ≡ part_in assigned parts v
unfolding VariableBelow
run_part assigned parts b e = part_below assigned parts _ (subst VariableBelow (sym e) (decode_below b))

-- a step at a place

pub plain_pair : (last : Bool) (c : Code) (table classes pattern bytes : List ℕ) (had : Part) (p : Place) (left : ℕ) (x : Step)
    → (p.elements ≡ 0 → ⊥) → p.node < length bytes → (left ≡ 0 → ⊥)
    → x ≡ pair_step last c table classes bytes (take (length pattern - p.at) (drop p.at pattern)) (take (length bytes - p.node) (drop p.node bytes))
    had p.elements
    → x ≡ plain_step last c table classes bytes (drop p.at pattern) (drop p.node bytes) had p.elements left
plain_pair last c table classes pattern bytes had p left x e n l h =
    turns.plain_pair last c table classes bytes (drop p.at pattern) (drop p.node bytes) had p.elements left x e
    (λ z. omega (arith, length-drop p.node bytes)) l (h ∙ rw (rest_part p.at pattern, rest_part p.node bytes))

pub step_at_holds : (outermost : Bool) (table classes pattern bytes : List ℕ) (part : ℕ → Part) (p : Place) (left : ℕ) (c : Code) (x : Step)
    → (p.children ≡ 0 → ⊥) → p.at < length pattern → c ≡ decode_of (get_or pattern p.at 0)
    → x ≡ code_step (outermost && eqb p.children 1) c table classes bytes (drop p.at pattern) (drop p.node bytes) (part (variable_of c))
    p.elements left
    → x ≡ step_at outermost table classes pattern bytes (part (variable_at pattern p.at)) p left
unfolding step_at variable_at
step_at_holds outermost table classes pattern bytes part p left c x n a e h =
    turns.step_at_holds outermost table classes bytes (drop p.at pattern) (drop p.node bytes) part p.children p.elements left c x n
    (λ z. omega (arith, length-drop p.at pattern)) (e ∙ ap decode_of (sym (first_left pattern p.at))) h

-- what the code's step is
pub step_here_holds : (outermost : Bool) (table classes pattern bytes : List ℕ) (assigned : ℕ) (parts : List ℕ) (p : Place) (left : ℕ) (x : Step)
    → x ≡ step_of outermost table classes bytes (drop p.at pattern) (drop p.node bytes) (part_of assigned parts (variable_in (drop p.at pattern)))
    p.children p.elements left
    → x ≡ step_at outermost table classes pattern bytes (part_in assigned parts (variable_at pattern p.at)) p left
unfolding step_at variable_at
step_here_holds outermost table classes pattern bytes assigned parts p left x h =
    h ∙ rw (part_below assigned parts (variable_in (drop p.at pattern)) (turns.variable_below (drop p.at pattern)))
