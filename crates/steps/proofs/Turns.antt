-- The cases of a step.
-- Assumes nothing.
use Prim.Native.Nat.{ℕ, ◌-◌, ◌<◌, ◌≤◌}
use native.Mathlib.Omega.{arith}
use mathlib.Core.Bool.{Bool, true, false, ◌&&◌}
use mathlib.Core.List.{List, [], ◌∷◌}
use mathlib.Core.Path.{◌≡◌, refl}
use lib.Dec.{leb, eqb}
use lib.ListN.{length, get_or, take, drop, length-drop}
use denote.Enum.Declared
use types.Run.{OneOf, miss}
use borrow.Author.Tests.{le-leb, eq-eqb, ne_eqb}
use Rattle.answers.specs.declared.Part.{Part}
use Rattle.term.proofs.Bools.{cond_all}
use Rattle.term.specs.contracts.Code as codes
use Rattle.term.proofs.Codes.{decode_below}
use Rattle.term.specs.Same.{same_byte}
use Rattle.term.specs.Code.{variables, decode_of, VariableBelow}
use Rattle.term.specs.Extent.{entry_of}
use Rattle.term.specs.declared.Code.{Code}
use Rattle.term.specs.declared.Code.TheVariants.{Symbol, Name, Run, Complement}
use Rattle.steps.specs.Turn.{symbol_step, pair_step, plain_step, code_step, step_of, variable_of, variable_in}
use Rattle.steps.specs.declared.Step.TheVariants.{Fails, Opens, Passes}
use Rattle.steps.specs.declared.Step.{Step}

module _ (table classes q r : List ℕ) (b : ℕ) (same : same_byte classes false b (get_or r 0 0) ≡ true) (e : ℕ) (entry : e ≡ entry_of table b) where
  pub symbol_leaf : e ≡ 0 → Passes 1 1 ≡ symbol_step table classes q r b
  unfolding symbol_step
  symbol_leaf z = rw (← entry, same, eq-eqb e 0 z)

  pub symbol_fixed : (e ≡ 0 → ⊥) → (e ≡ 255 → ⊥) → Opens e e 1 ≡ symbol_step table classes q r b
  unfolding symbol_step
  symbol_fixed z n = rw (← entry, same, ne_eqb e 0 z, ne_eqb e 255 n)

  pub symbol_list : (e ≡ 0 → ⊥) → e ≡ 255 → 2 ≤ length q → 2 ≤ length r → Opens (get_or q 1 0) (get_or r 1 0) 2 ≡ symbol_step table classes q r b
  unfolding symbol_step
  symbol_list z n i j =
      rw (← entry, same, ne_eqb e 0 z, eq-eqb e 255 n, le-leb 2 (length q) i, le-leb 2 (length r) j)

  pub symbol_short : (e ≡ 0 → ⊥) → e ≡ 255 → leb 2 (length q) && leb 2 (length r) ≡ false → Fails ≡ symbol_step table classes q r b
  unfolding symbol_step
  symbol_short z n i = rw (← entry, same, ne_eqb e 0 z, eq-eqb e 255 n, i)

pub past_end : (l : List ℕ) (a : ℕ) → length l < a → take 0 l ≡ drop a l
past_end l a h = by (drop a l) (length-drop a l)
  where
    by : (d : List ℕ) → length d ≡ length l - a → take 0 l ≡ d
    by [] e = refl
    by (x ∷ d) e = absurd (omega (arith, e))

-- the cases of a code

module _ (last : Bool) (c : Code) (table classes bytes q r : List ℕ) (had : Part) (elements left : ℕ) (x : Step) where
  pub plain_pair : (elements ≡ 0 → ⊥) → (length r ≡ 0 → ⊥) → (left ≡ 0 → ⊥) → x ≡ pair_step last c table classes bytes q r had elements
      → x ≡ plain_step last c table classes bytes q r had elements left
  unfolding plain_step
  plain_pair e n l h = rw (ne_eqb elements 0 e, ne_eqb (length r) 0 n, ne_eqb left 0 l) h

pub step_at_holds : (outermost : Bool) (table classes bytes q r : List ℕ) (part : ℕ → Part) (children elements left : ℕ) (c : Code) (x : Step)
    → (children ≡ 0 → ⊥) → (length q ≡ 0 → ⊥) → c ≡ decode_of (get_or q 0 0)
    → x ≡ code_step (outermost && eqb children 1) c table classes bytes q r (part (variable_of c)) elements left
    → x ≡ step_of outermost table classes bytes q r (part (variable_in q)) children elements left
unfolding step_of variable_in
step_at_holds outermost table classes bytes q r part children elements left c x n a e h = rw (ne_eqb children 0 n, ne_eqb (length q) 0 a, ← e) h

-- the codes of plain child patterns
pub plain_code : (last : Bool) (c : Code) (table classes bytes q r : List ℕ) (had : Part) (elements left : ℕ) (x : Step)
    → OneOf (0 ∷ 1 ∷ 3 ∷ []) (Declared.tag_of codes.the_type c) → x ≡ plain_step last c table classes bytes q r had elements left
    → x ≡ code_step last c table classes bytes q r had elements left
unfolding code_step
plain_code last (Symbol b) table classes bytes q r had elements left x k e = e
plain_code last (Name v) table classes bytes q r had elements left x k e = e
plain_code last (Run v) table classes bytes q r had elements left x k e = absurd (miss (0 ∷ 1 ∷ 3 ∷ []) 2 tt k)
plain_code last Complement table classes bytes q r had elements left x k e = e
plain_code last Code.Refused table classes bytes q r had elements left x k e = absurd (miss (0 ∷ 1 ∷ 3 ∷ []) 4 tt k)

pub variable_below : (q : List ℕ) → variable_in q < variables
unfolding variable_in VariableBelow
variable_below q =
    cond_all (λ (v : ℕ). v < variables) (eqb (length q) 0) (λ e. omega arith) (λ e. by (decode_of (get_or q 0 0)) (decode_below (get_or q 0 0)))
  where
    by : (c : Code) → VariableBelow c → variable_of c < variables
    by (Symbol b) h = omega arith
    by (Name v) h = h
    by (Run v) h = h
    by Complement h = omega arith
    by Code.Refused h = omega arith
