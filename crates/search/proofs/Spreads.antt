-- The laws of the lengths given by run name.
-- Assumes nothing.
use Prim.Native.Nat.{ℕ, zero, suc, ◌+◌, ◌-◌, ◌^◌, ◌<◌, ◌≤◌}
use native.Mathlib.Omega.{arith}
use mathlib.Core.Path.{◌≡◌, refl, sym, ap, subst, ◌∙◌, ap₂}
use mathlib.Core.List.{List, [], ◌∷◌}
use mathlib.Core.Bool.{Bool, true, false, cond, true≢false}
use lib.Bits.{bit_or}
use lib.ListN.{length, get_or, take, drop, set, drop_of_length-le}
use lib.Seq.{drop-drop}
use lib.Dec.{eqb}
use borrow.Author.Tests.{eqb-true, eqb-false, eq-eqb, ne_eqb}
use Rattle.term.proofs.Lists.{next_at, rest_part}
use Rattle.term.specs.Code.{decode_of}
use Rattle.term.specs.Extent.{entry_of, span_of, extent_of}
use Rattle.term.specs.declared.Code.{Code}
use Rattle.term.specs.declared.Code.TheVariants.{Symbol, Name, Run, Complement}
use Rattle.parts.specs.Packed.{bit}
use Rattle.search.specs.Spread.{past_by, past_of, run_here, runs_from, unseen, free_in, spread_to}
use Rattle.search.specs.Inner.GivenReplies.{SpreadIs}

pub runs_past : (table s : List ℕ) (n : ℕ) → runs_from table s n ≡ runs_from table (drop n s) 0
unfolding runs_from
runs_past table [] zero = refl
runs_past table [] (suc n) = refl
runs_past table (b ∷ s) zero = refl
runs_past table (b ∷ s) (suc n) = runs_past table s n

some_extent : (table : List ℕ) (b : ℕ) (s : List ℕ) → 0 < extent_of table (b ∷ s)
unfolding extent_of span_of
some_extent table b s = omega arith

past_some : (table : List ℕ) (b : ℕ) (s : List ℕ) (c : Code) → 0 < past_by c table (b ∷ s)
past_some table b s (Symbol a) = go (eqb (entry_of table a) 255)
  where
    go : (m : Bool) → 0 < cond m 2 1
    go true = omega arith
    go false = omega arith
past_some table b s (Name v) = omega arith
past_some table b s (Run v) = omega arith
past_some table b s Complement = some_extent table b s
past_some table b s Code.Refused = omega arith

-- what stands at a place, and what is left past it
runs_at : (table pattern : List ℕ) (at : ℕ) → at < length pattern
    → runs_from table (drop at pattern) 0 ≡ run_here (decode_of (get_or pattern at 0)) (runs_from table (drop (at + past_of table (drop at pattern)) pattern) 0)
unfolding runs_from past_of
runs_at table pattern at h =
    let e = next_at pattern at h in
    let b = get_or pattern at 0 in
    let s = drop (at + 1) pattern in
    let n : 0 < past_by (decode_of b) table (b ∷ s) = past_some table b s (decode_of b) in
    let z : at + 1 + (past_by (decode_of b) table (b ∷ s) - 1) ≡ at + past_by (decode_of b) table (b ∷ s) = omega (arith, n) in
    ap (λ (l : List ℕ). runs_from table l 0) e
    ∙ ap (run_here (decode_of b)) (runs_past table s (past_by (decode_of b) table (b ∷ s) - 1)
    ∙ ap (λ (l : List ℕ). runs_from table l 0) (drop-drop (past_by (decode_of b) table (b ∷ s) - 1) (at + 1) pattern ∙ ap (λ (k : ℕ). drop k pattern) z))
    ∙ ap (λ (l : List ℕ). run_here (decode_of b) (runs_from table (drop (at + past_by (decode_of (get_or l 0 0)) table l) pattern) 0)) (sym e)

past_more : (table pattern : List ℕ) (at : ℕ) → at < length pattern → 0 < past_of table (drop at pattern)
unfolding past_of
past_more table pattern at h =
    subst (λ (l : List ℕ). 0 < past_by (decode_of (get_or l 0 0)) table l) (sym (next_at pattern at h))
    (past_some table (get_or pattern at 0) (drop (at + 1) pattern) (decode_of (get_or pattern at 0)))

-- the bytes of what stands first
module _ (table s : List ℕ) (c : Code) (is_code : c ≡ decode_of (get_or s 0 0)) where
  past_is : past_of table s ≡ past_by c table s
  unfolding past_of
  past_is = ap (λ (x : Code). past_by x table s) (sym is_code)

  pub past_list : (b x : ℕ) → c ≡ Symbol b → x ≡ entry_of table b → x ≡ 255 → 0 < length s → (2 ≡ past_of table s) × (2 ≤ length s + 1)
  past_list b x e f z l =
      (sym (past_is ∙ ap (λ (y : Code). past_by y table s) e ∙ ap (λ (y : ℕ). cond (eqb y 255) 2 1) (sym f) ∙ ap (λ (m : Bool). cond m 2 1) (eq-eqb x 255 z)), omega arith)

  pub past_symbol : (b x : ℕ) → c ≡ Symbol b → x ≡ entry_of table b → (x ≡ 255 → ⊥) → (1 ≡ past_of table s) × (1 ≤ length s + 1)
  past_symbol b x e f z =
      (sym (past_is ∙ ap (λ (y : Code). past_by y table s) e ∙ ap (λ (y : ℕ). cond (eqb y 255) 2 1) (sym f) ∙ ap (λ (m : Bool). cond m 2 1) (ne_eqb x 255 z)), omega arith)

  pub past_one : (d : Code) → c ≡ d → past_by d table s ≡ 1 → (1 ≡ past_of table s) × (1 ≤ length s + 1)
  past_one d e f = (sym (past_is ∙ ap (λ (y : Code). past_by y table s) e ∙ f), omega arith)

  pub past_complement : c ≡ Complement → (x : ℕ) → x ≡ extent_of table s → x ≤ length s → (x ≡ past_of table s) × (x ≤ length s + 1)
  past_complement e x f w = (f ∙ sym (past_is ∙ ap (λ (y : Code). past_by y table s) e), omega arith)

module _ (table pattern given out₀ : List ℕ) where
  -- the run names that are left, and the lengths for them
  pub record Spreading (at seen : ℕ) (rest out : List ℕ) : Type 0 where
    pub many : length given + length (unseen seen (runs_from table (drop at pattern) 0)) ≡ length (free_in table pattern) + length rest
    pub same : spread_to (free_in table pattern) given out₀ ≡ spread_to (unseen seen (runs_from table (drop at pattern) 0)) rest out

  pub spread_first : Spreading 0 0 given out₀
  spread_first = record { many = omega arith; same = refl }

  module _ {at seen : ℕ} {rest out : List ℕ} (s : Spreading at seen rest out) where
    pub spread_end : length pattern ≤ at → (r : Bool) → r ≡ eqb (length rest) 0 → SpreadIs table pattern given out₀ out r
    unfolding runs_from unseen spread_to
    spread_end h r e =
        let z = drop_of_length-le pattern h in
        let x : unseen seen (runs_from table (drop at pattern) 0) ≡ [] = ap (λ (l : List ℕ). unseen seen (runs_from table l 0)) z in
        let m : length given ≡ length (free_in table pattern) + length rest = omega (arith, s.many, ap length x) in record {
          even = e ∙ none (eqb (length rest) 0) refl m;
          put = λ t. sym (s.same ∙ ap (λ (vs : List ℕ). spread_to vs rest out) x);
        }
      where
        none : (b : Bool) → eqb (length rest) 0 ≡ b → length given ≡ length (free_in table pattern) + length rest
            → eqb (length rest) 0 ≡ eqb (length given) (length (free_in table pattern))
        none true f m = f ∙ sym (eq-eqb (length given) (length (free_in table pattern)) (omega (arith, m, eqb-true (length rest) 0 f)))
        none false f m =
            f ∙ sym (ne_eqb (length given) (length (free_in table pattern)) (λ y. eqb-false (length rest) 0 f (omega (arith, m, y))))

    module _ (l : at < length pattern) (r : ℕ) (is_r : r ≡ past_of table (take (length pattern - at) (drop at pattern))) where
      abbrev next : ℕ
      next = at + r

      is_next : next ≡ at + past_of table (drop at pattern)
      is_next = ap (at +◌) (is_r ∙ ap (past_of table) (rest_part at pattern))

      pub spread_falls : length pattern - (at + r) < length pattern - at
      spread_falls = omega (arith, past_more table pattern at l, is_next)

      left_is : (c : Code) → c ≡ decode_of (get_or pattern at 0) → runs_from table (drop at pattern) 0 ≡ run_here c (runs_from table (drop next pattern) 0)
      left_is c e =
          runs_at table pattern at l
          ∙ ap₂ (λ (x : Code) (k : ℕ). run_here x (runs_from table (drop k pattern) 0)) (sym e) (sym is_next)

      goes_on : unseen seen (runs_from table (drop at pattern) 0) ≡ unseen seen (runs_from table (drop next pattern) 0) → Spreading (at + r) seen rest out
      goes_on x = record {
        many = omega (arith, s.many, ap length x);
        same = s.same ∙ ap (λ (vs : List ℕ). spread_to vs rest out) x;
      }

      -- nothing to put here
      pub spread_past : (c : Code) → c ≡ decode_of (get_or pattern at 0) → ((vs : List ℕ) → run_here c vs ≡ vs) → Spreading (at + r) seen rest out
      spread_past c e f = goes_on (ap (unseen seen) (left_is c e ∙ f (runs_from table (drop next pattern) 0)))

      module _ (c : Code) (is_code : c ≡ decode_of (get_or pattern at 0)) (v : ℕ) (is_run : c ≡ Run v) where
        run_left : runs_from table (drop at pattern) 0 ≡ v ∷ runs_from table (drop next pattern) 0
        run_left = left_is c is_code ∙ ap (λ (x : Code). run_here x (runs_from table (drop next pattern) 0)) is_run

        pub spread_seen : bit seen v ≡ true → Spreading (at + r) seen rest out
        unfolding unseen
        spread_seen b = goes_on (ap (unseen seen) run_left ∙ rw b)

        new_left : bit seen v ≡ false
            → unseen seen (runs_from table (drop at pattern) 0) ≡ v ∷ unseen (bit_or seen (2 ^ v)) (runs_from table (drop next pattern) 0)
        unfolding unseen
        new_left b = ap (unseen seen) run_left ∙ rw b

        pub spread_short : bit seen v ≡ false → length rest ≡ 0 → SpreadIs table pattern given out₀ out false
        spread_short b h =
            let x = ap length (new_left b) in record {
              even = sym (ne_eqb (length given) (length (free_in table pattern)) (λ z. omega (arith, z, s.many, h, x)));
              put = λ t. absurd (true≢false (sym t));
            }

        pub spread_new : bit seen v ≡ false → (first : ℕ) (others : List ℕ) → rest ≡ first ∷ others → (seen' i : ℕ) → seen' ≡ bit_or seen (2 ^ i) → i ≡ v
            → Spreading (at + r) seen' others (set out i first)
        unfolding spread_to
        spread_new b first others y seen' i g f =
            let e : seen' ≡ bit_or seen (2 ^ v) = g ∙ ap (λ (k : ℕ). bit_or seen (2 ^ k)) f in
            let x : unseen seen (runs_from table (drop at pattern) 0) ≡ v ∷ unseen seen' (runs_from table (drop next pattern) 0) =
            new_left b ∙ ap (λ (k : ℕ). v ∷ unseen k (runs_from table (drop next pattern) 0)) (sym e) in record {
              many = omega (arith, s.many, ap length x, ap length y);
              same = s.same
                  ∙ ap₂ (λ (vs ns : List ℕ). spread_to vs ns out) x y
                  ∙ ap (λ (j : ℕ). spread_to (unseen seen' (runs_from table (drop next pattern) 0)) others (set out j first)) (sym f);
            }
