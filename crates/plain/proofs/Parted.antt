-- What the variables have, by mask and parts: a variable takes a part.
use Prim.Native.Nat.{ℕ, ◌+◌, ◌^◌, ◌<◌}
use native.Mathlib.Omega.{arith}
use mathlib.Core.Path.{◌≡◌, refl, sym, ◌∙◌, ap}
use mathlib.Core.List.{List}
use mathlib.Core.Bool.{Bool, true, false, cond}
use lib.Bits.{bit_or}
use lib.ListN.{length, get_or, set, replicate, length-set}
use lib.Seq.{get_or-set_same, get_or-set_other}
use lib.Dec.{eqb}
use borrow.Author.Tests.{eqb-true, eqb-false}
use Rattle.answers.specs.Part.{part, absent, bound_part}
use Rattle.term.specs.Code.{variables}
use Rattle.parts.specs.Packed.{bit, packed, unpacked, part_in, part_places, parts_in}
use Rattle.parts.proofs.Shown.{parts_shown, parts_length, parts_from}
use Rattle.parts.proofs.Masks.{bit_new, bit_other, part_back}
use Rattle.plain.specs.Bytes.{no_parts}

module _ (assigned : ℕ) (parts : List ℕ) where
  pub parts_take : length parts ≡ part_places → (v node size n : ℕ) → v < variables → n < 256
      → parts_in (bit_or assigned (2 ^ v)) (set parts v (packed (bound_part node size n))) 0 variables ≡ set (parts_in assigned parts 0 variables) v (bound_part node size n)
  parts_take long v node size n low few =
      sym (parts_shown (bit_or assigned (2 ^ v)) (set parts v (packed (bound_part node size n))) 0 variables (set (parts_in assigned parts 0 variables) v (bound_part node size n))
      (length-set (parts_in assigned parts 0 variables) v _ ∙ parts_length assigned parts 0 variables) (λ i l. at i l (eqb v i) refl))
    where
      at : (i : ℕ) → i < variables → (b : Bool) → eqb v i ≡ b
          → get_or (set (parts_in assigned parts 0 variables) v (bound_part node size n)) i (part 0 0 0)
          ≡ part_in (bit_or assigned (2 ^ v)) (set parts v (packed (bound_part node size n))) (0 + i)
      at i l true e =
          let z : i ≡ v = sym (eqb-true v i e) in
          let y : 0 + i ≡ v = omega arith in
          ap (λ (j : ℕ). get_or (set (parts_in assigned parts 0 variables) v (bound_part node size n)) j (part 0 0 0)) z
          ∙ get_or-set_same (parts_in assigned parts 0 variables) v _ (part 0 0 0) (omega (arith, parts_length assigned parts 0 variables))
          ∙ sym (ap (part_in (bit_or assigned (2 ^ v)) (set parts v (packed (bound_part node size n)))) y
          ∙ ap (λ (b : Bool). cond b (unpacked (get_or (set parts v (packed (bound_part node size n))) v 0)) absent) (bit_new assigned v)
          ∙ ap unpacked (get_or-set_same parts v (packed (bound_part node size n)) 0 (omega (arith, long))) ∙ part_back node size n few)
      at i l false e =
          let d : i ≡ v → ⊥ = λ x. eqb-false v i e (sym x) in
          let y : 0 + i ≡ i = omega arith in
          get_or-set_other (parts_in assigned parts 0 variables) v i _ (part 0 0 0) d
          ∙ parts_from assigned parts 0 variables i l
          ∙ ap (part_in assigned parts) y
          ∙ sym (ap (part_in (bit_or assigned (2 ^ v)) (set parts v (packed (bound_part node size n)))) y
          ∙ ap (λ (b : Bool). cond b (unpacked (get_or (set parts v (packed (bound_part node size n))) i 0)) absent) (bit_other assigned v i (λ x. d (sym x)))
          ∙ ap (λ (x : ℕ). cond (bit assigned i) (unpacked x) absent) (get_or-set_other parts v i _ 0 d))

pub parts_none : parts_in 0 no_parts 0 variables ≡ replicate variables absent
unfolding parts_in
parts_none = refl
