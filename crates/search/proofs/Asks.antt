-- What a step asks for: bytes of pattern and record, elements, allowance, and a variable that is not assigned.
-- Assumes nothing.
use Prim.Native.Nat.{ℕ, ◌+◌, ◌-◌, ◌<◌, ◌≤◌}
use native.Mathlib.Nat.{pos_of_ne-zero}
use native.Mathlib.Omega.{arith}
use mathlib.Core.Bool.{Bool, true, false, ◌&&◌, ◌||◌}
use mathlib.Core.List.{List}
use mathlib.Core.Path.{◌≡◌, refl}
use lib.Dec.{leb, eqb}
use lib.ListN.{length, get_or, drop, length-drop}
use borrow.Author.Tests.{leb-true, eqb-false}
use Rattle.answers.specs.Part.{is_absent}
use Rattle.answers.specs.declared.Part.{Part}
use Rattle.term.proofs.Bools.{cond_all}
use Rattle.term.proofs.Codes.{decode_below}
use Rattle.term.proofs.Spans.{extent_some, extent_within}
use Rattle.term.specs.Same.{same_byte}
use Rattle.term.specs.Code.{variables, decode_of, VariableBelow}
use Rattle.term.specs.Extent.{entry_of}
use Rattle.term.specs.declared.Code.TheVariants.{Symbol, Name, Run, Complement}
use Rattle.term.specs.declared.Code.{Code}
use Rattle.steps.specs.Turn.{step_of, variable_in, stands_of, over_step, symbol_step, assigned_step, name_step, run_step, complement_step, pair_step, plain_step, code_step, variable_of}
use Rattle.search.specs.Inner.Bounds.{Ready}
use Rattle.search.specs.State.{step_at, variable_at}
use Rattle.search.specs.declared.place.Place.{Place}
use Rattle.steps.specs.declared.Step.TheVariants.{Stops, Fails, Closes, Opens, Passes, Binds, PutsBy}
use Rattle.steps.specs.declared.Step.{Step}
use Rattle.steps.specs.declared.Stop.TheVariants.{Failure, NoAllowance, NoPair, RunName}
use Rattle.steps.proofs.Turns as turns

-- a pair: so many elements, and so many bytes of pattern and record
pub record Takes (codes bytes : ℕ) (p : Place) (left k n size : ℕ) : Type 0 where
  pub allowed : 0 < left
  pub children : 0 < p.children
  pub elements : k ≤ p.elements
  pub some : 0 < n
  pub at : p.at + n ≤ codes
  pub node : p.node + size ≤ bytes

-- the variable of this place, which is not assigned
pub record Vacant (pattern : List ℕ) (had : Part) (at v : ℕ) : Type 0 where
  pub below : v < variables
  pub here : v ≡ variable_at pattern at
  pub absent : is_absent had ≡ true

abbrev pub Asks : Bool → List ℕ → List ℕ → Part → Place → ℕ → Step → Type 0
Asks outermost pattern bytes had p left (Stops Failure) = Unit {0}
Asks outermost pattern bytes had p left (Stops NoAllowance) = Unit {0}
Asks outermost pattern bytes had p left (Stops NoPair) = Unit {0}
Asks outermost pattern bytes had p left (Stops (RunName v)) = Vacant pattern had p.at v × Ready (length pattern) v p
Asks outermost pattern bytes had p left Fails = 0 < left
Asks outermost pattern bytes had p left Closes = outermost ≡ false
Asks outermost pattern bytes had p left (Opens children elements width) = Takes (length pattern) (length bytes) p left 1 width width
Asks outermost pattern bytes had p left (Passes elements size) = Takes (length pattern) (length bytes) p left elements 1 size
Asks outermost pattern bytes had p left (Binds v size) = Vacant pattern had p.at v × Takes (length pattern) (length bytes) p left 1 1 size
Asks outermost pattern bytes had p left (PutsBy n size) = Takes (length pattern) (length bytes) p left 1 n size

both : (a b : Bool) → a && b ≡ true → (a ≡ true) × (b ≡ true)
both true b e = (refl, e)
both false true e = (e, refl)
both false false e = (e, e)

stands_length : (table classes bytes : List ℕ) (had : Part) (r : List ℕ) → stands_of table classes bytes had r ≡ true → had.length ≤ length r
unfolding stands_of
stands_length table classes bytes had r h = leb-true had.length (length r) (both _ _ h).0

some_bytes : (l : List ℕ) (at : ℕ) → (length (drop at l) ≡ 0 → ⊥) → at < length l
some_bytes l at h = pos (length (drop at l)) (length-drop at l) h
  where
    pos : (n : ℕ) → n ≡ length l - at → (n ≡ 0 → ⊥) → at < length l
    pos n e z = omega arith

neither : (a b : Bool) → a || b ≡ false → (a ≡ false) × (b ≡ false)
neither true true e = (e, e)
neither true false e = (e, refl)
neither false b e = (refl, e)

pub variable_below : (pattern : List ℕ) (at : ℕ) → variable_at pattern at < variables
unfolding variable_at
variable_below pattern at = turns.variable_below (drop at pattern)

module _ (outermost : Bool) (table classes pattern bytes : List ℕ) (had : Part) (p : Place) (left : ℕ) (node : p.node ≤ length bytes) where
  asks_over : Asks outermost pattern bytes had p left (over_step outermost p.elements)
  unfolding over_step
  asks_over =
      cond_all (Asks outermost pattern bytes had p left) (eqb p.elements 0)
      (λ e. cond_all (Asks outermost pattern bytes had p left) outermost (λ o. tt) (λ o. o)) (λ e. tt)

  module _ (children : 0 < p.children) (at : p.at < length pattern) where
    asks_assigned : 0 < left → Asks outermost pattern bytes had p left (assigned_step table classes bytes had (drop p.node bytes) p.elements)
    unfolding assigned_step
    asks_assigned l =
        cond_all (Asks outermost pattern bytes had p left) (leb had.elements p.elements && stands_of table classes bytes had (drop p.node bytes))
        (λ e. takes (both _ _ e)) (λ e. l)
      where
        takes : (leb had.elements p.elements ≡ true) × (stands_of table classes bytes had (drop p.node bytes) ≡ true)
            → Takes (length pattern) (length bytes) p left had.elements 1 had.length
        takes e = record {
          allowed = l;
          children = children;
          elements = leb-true had.elements p.elements e.0;
          some = omega arith;
          at = omega arith;
          node = omega (arith, stands_length table classes bytes had (drop p.node bytes) e.1, length-drop p.node bytes);
        }

    asks_run : (v : ℕ) → v < variables → v ≡ variable_at pattern p.at
        → Asks outermost pattern bytes had p left (run_step table classes bytes v had (drop p.node bytes) p.elements left)
    unfolding run_step
    asks_run v low here =
        cond_all (Asks outermost pattern bytes had p left) (is_absent had)
        (λ e. (record { below = low; here = here; absent = e }, record { variable = low; children = children; at = at }))
        (λ e. cond_all (Asks outermost pattern bytes had p left) (eqb left 0) (λ z. tt) (λ z. asks_assigned (pos_of_ne-zero (eqb-false left 0 z))))

    -- a plain child pattern against an element
    module _ (elements : 0 < p.elements) (inside : p.node < length bytes) (l : 0 < left) where
      asks_symbol : (b : ℕ) → Asks outermost pattern bytes had p left (symbol_step table classes (drop p.at pattern) (drop p.node bytes) b)
      unfolding symbol_step
      asks_symbol b =
          cond_all (Asks outermost pattern bytes had p left) (same_byte classes false b (get_or (drop p.node bytes) 0 0))
          (λ e. cond_all (Asks outermost pattern bytes had p left) (eqb (entry_of table b) 0) (λ z. one)
          (λ z. cond_all (Asks outermost pattern bytes had p left) (eqb (entry_of table b) 255)
          (λ y. cond_all (Asks outermost pattern bytes had p left) _ (λ f. two (both _ _ f)) (λ f. l)) (λ y. one)))
          (λ e. l)
        where
          one : Takes (length pattern) (length bytes) p left 1 1 1
          one = record { allowed = l; children = children; elements = elements; some = omega arith; at = omega arith; node = omega arith }

          two : (leb 2 (length (drop p.at pattern)) ≡ true) × (leb 2 (length (drop p.node bytes)) ≡ true)
              → Takes (length pattern) (length bytes) p left 1 2 2
          two f = record {
            allowed = l;
            children = children;
            elements = elements;
            some = omega arith;
            at = omega (arith, leb-true 2 (length (drop p.at pattern)) f.0, length-drop p.at pattern);
            node = omega (arith, leb-true 2 (length (drop p.node bytes)) f.1, length-drop p.node bytes);
          }

      asks_complement : (last : Bool)
          → Asks outermost pattern bytes had p left (complement_step last table (drop p.at pattern) (drop p.node bytes))
      unfolding complement_step
      asks_complement true = record {
        allowed = l;
        children = children;
        elements = elements;
        some = omega (arith, length-drop p.at pattern);
        at = omega (arith, length-drop p.at pattern);
        node = omega arith;
      }
      asks_complement false = record {
        allowed = l;
        children = children;
        elements = elements;
        some = extent_some table (drop p.at pattern) (omega (arith, length-drop p.at pattern));
        at = extent_within table pattern p.at (omega arith);
        node = extent_within table bytes p.node node;
      }

      asks_pair : (last : Bool) (c : Code) → VariableBelow c → variable_of c ≡ variable_at pattern p.at
          → Asks outermost pattern bytes had p left (pair_step last c table classes bytes (drop p.at pattern) (drop p.node bytes) had p.elements)
      unfolding pair_step name_step VariableBelow
      asks_pair last (Symbol b) low here = asks_symbol b
      asks_pair last (Name v) low here =
          cond_all (Asks outermost pattern bytes had p left) (is_absent had)
          (λ e. (
            record { below = low; here = here; absent = e },
            record {
              allowed = l;
              children = children;
              elements = elements;
              some = omega arith;
              at = omega arith;
              node = extent_within table bytes p.node node;
            },
          ))
          (λ e. asks_assigned l)
      asks_pair last (Run v) low here = l
      asks_pair last Complement low here = asks_complement last
      asks_pair last Code.Refused low here = l

    asks_plain : (last : Bool) (c : Code) → VariableBelow c → variable_of c ≡ variable_at pattern p.at
        → Asks outermost pattern bytes had p left (plain_step last c table classes bytes (drop p.at pattern) (drop p.node bytes) had p.elements left)
    unfolding plain_step
    asks_plain last c low here =
        cond_all (Asks outermost pattern bytes had p left) _ (λ e. tt)
        (λ e.
        let f = neither _ _ e in
        cond_all (Asks outermost pattern bytes had p left) (eqb left 0) (λ z. tt)
        (λ z. asks_pair (pos_of_ne-zero (eqb-false p.elements 0 f.0)) (some_bytes bytes p.node (eqb-false (length (drop p.node bytes)) 0 f.1))
        (pos_of_ne-zero (eqb-false left 0 z)) last c low here))

    asks_code : (last : Bool) (c : Code) → VariableBelow c → variable_of c ≡ variable_at pattern p.at
        → Asks outermost pattern bytes had p left (code_step last c table classes bytes (drop p.at pattern) (drop p.node bytes) had p.elements left)
    unfolding code_step VariableBelow
    asks_code last (Symbol b) low here = asks_plain last (Symbol b) low here
    asks_code last (Name v) low here = asks_plain last (Name v) low here
    asks_code last (Run v) low here = asks_run v low here
    asks_code last Complement low here = asks_plain last Complement low here
    asks_code last Code.Refused low here = tt

  pub step_asks : Asks outermost pattern bytes had p left (step_at outermost table classes pattern bytes had p left)
  unfolding step_at step_of variable_at variable_in
  step_asks =
      cond_all (Asks outermost pattern bytes had p left) (eqb p.children 0) (λ e. asks_over)
      (λ e. cond_all (Asks outermost pattern bytes had p left) (eqb (length (drop p.at pattern)) 0) (λ f. tt)
      (λ f. asks_code (pos_of_ne-zero (eqb-false p.children 0 e)) (some_bytes pattern p.at (eqb-false (length (drop p.at pattern)) 0 f))
      (outermost && eqb p.children 1) (decode_of (get_or (drop p.at pattern) 0 0)) (decode_below (get_or (drop p.at pattern) 0 0)) (rw f)))
