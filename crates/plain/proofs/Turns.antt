-- The loops: a turn takes the bytes of one node's own.
use Prim.Native.Nat.{ℕ, zero, suc, ◌+◌, ◌-◌, ◌^◌, ◌<◌, ◌≤◌}
use native.Mathlib.Omega.{arith}
use mathlib.Core.Path.{◌≡◌, refl, sym, ◌∙◌, ap, ap₂, subst}
use mathlib.Core.Logic.{◌⊎◌, inl, inr}
use mathlib.Core.List.{List, [], ◌∷◌}
use mathlib.Core.Bool.{Bool, true, false, cond, true≢false}
use lib.Bits.{bit_or}
use lib.ListN.{length, get_or, take, drop, set, drop_of_length-le}
use lib.Seq.{drop-cons, drop-drop}
use lib.Dec.{eqb}
use Rattle.answers.specs.Part.{bound_part}
use Rattle.term.proofs.Lists.{rest_part, rest_length}
use Rattle.term.specs.Code.{variables, decode_of}
use Rattle.term.specs.Extent.{span_of}
use Rattle.term.specs.Same.{same_byte}
use Rattle.term.specs.declared.Code.{Code}
use Rattle.parts.specs.Packed.{packed}
use Rattle.plain.specs.Bytes.{look_of, on_pass, plain_from, is_leaf, leaves_of, turn_by, turn_of, TurnWithin, Ending, ending, tiering_of, Standing, standing, takes, stepped, tier_from, standing_start, tier_on, root_may_hold}
use Rattle.plain.proofs.Nodes.{symbol_other, root_no_pattern, root_step}
use Rattle.plain.proofs.Holding.{leaf_is}
use Rattle.plain.specs.declared.check.Look.{Look}
use Rattle.plain.specs.declared.tier.Turn.{Turn}
use Rattle.plain.specs.declared.tier.Turn.TheVariants.{Fails, Enters, Notes, TakesNode, TakesRun}
use Rattle.plain.specs.declared.tier.Tiering.{Tiering}
use Rattle.std.specs.Prelude.{Option, Some, None}

one_or_two : (w : ℕ) → 1 ≤ w → w ≤ 2 → (w ≡ 1) ⊎ (w ≡ 2)
one_or_two zero h k = absurd (omega arith)
one_or_two (suc zero) h k = inl refl
one_or_two (suc (suc zero)) h k = inr refl
one_or_two (suc (suc (suc w))) h k = absurd (omega arith)

-- past a node's own bytes, whatever is done with the rest of the list
past_own : {A : Type 0} (f : List ℕ → Bool → A) → ((l : List ℕ) → f l true ≡ f (drop 1 l) false) → (s : List ℕ) (at w : ℕ) → 1 ≤ w → w ≤ 2
    → f (drop (suc at) s) (eqb w 2) ≡ f (drop (at + w) s) false
past_own f skip s at w h k = go (one_or_two w h k)
  where
    go : (w ≡ 1) ⊎ (w ≡ 2) → f (drop (suc at) s) (eqb w 2) ≡ f (drop (at + w) s) false
    go (inl e) =
        let z : suc at ≡ at + w = omega arith in
        ap (λ (x : ℕ). f (drop (suc at) s) (eqb x 2)) e ∙ ap (λ (x : ℕ). f (drop x s) false) z
    go (inr e) =
        let z : suc at + 1 ≡ at + w = omega arith in
        ap (λ (x : ℕ). f (drop (suc at) s) (eqb x 2)) e ∙ skip (drop (suc at) s) ∙ ap (λ (l : List ℕ). f l false) (drop-drop 1 (suc at) s)
        ∙ ap (λ (x : ℕ). f (drop x s) false) z

-- The check

module _ (table : List ℕ) where
  skip_plain : (seen : ℕ) (l : List ℕ) → plain_from table l true seen ≡ plain_from table (drop 1 l) false seen
  unfolding plain_from
  skip_plain seen [] = refl
  skip_plain seen (b ∷ l) = refl

  module _ (s : List ℕ) (at seen : ℕ) where
    pub plain_end : length s ≤ at → plain_from table (drop at s) false seen ≡ true
    unfolding plain_from
    plain_end h = rw (drop_of_length-le s h)

    module _ (within : at < length s) (x : Option Look) (e : x ≡ look_of table (take (length s - at) (drop at s)) seen) where
      by_look : plain_from table (drop at s) false seen ≡ on_pass x (λ n w. plain_from table (drop (suc at) s) (eqb w 2) n)
      unfolding plain_from
      by_look =
          ap (λ (l : List ℕ). plain_from table l false seen) (drop-cons s at 0 within)
          ∙ ap (λ (y : Option Look). on_pass y (λ n w. plain_from table (drop (suc at) s) (eqb w 2) n))
          (sym (e ∙ ap (λ (l : List ℕ). look_of table l seen) (rest_part at s ∙ drop-cons s at 0 within)))

      pub plain_stops : x ≡ None → plain_from table (drop at s) false seen ≡ false
      plain_stops h = by_look ∙ ap (λ (y : Option Look). on_pass y (λ n w. plain_from table (drop (suc at) s) (eqb w 2) n)) h

      pub plain_passes : (look : Look) → x ≡ Some look → 1 ≤ look.width → look.width ≤ 2
          → plain_from table (drop at s) false seen ≡ plain_from table (drop (at + look.width) s) false look.seen
      plain_passes look h i j =
          by_look ∙ ap (λ (y : Option Look). on_pass y (λ n w. plain_from table (drop (suc at) s) (eqb w 2) n)) h
          ∙ past_own (λ l b. plain_from table l b look.seen) (skip_plain look.seen) s at look.width i j

-- The tier

module _ (table classes bytes : List ℕ) where
  skip_tier : (s : Standing) (n : ℕ) (l : List ℕ) → tier_from table classes bytes l true s n ≡ tier_from table classes bytes (drop 1 l) false s n
  unfolding tier_from
  skip_tier s n [] = refl
  skip_tier s n (b ∷ l) = refl

  leaf_turn : (b x : ℕ) (q r : List ℕ) (s : Standing) (n : ℕ) → drop s.node bytes ≡ x ∷ r → is_leaf table (decode_of b) ≡ true → same_byte classes false b x ≡ true
      → tier_from table classes bytes (b ∷ q) false s n ≡ tier_from table classes bytes q false (standing (s.node + 1) s.lengths s.assigned s.parts) (n + 1)
  unfolding tier_from turn_of
  leaf_turn b x q r s n e leaf same =
      let i = leaf_is table b leaf in
      let step : turn_of table classes (b ∷ q) (drop s.node bytes) ≡ Enters 1 =
      ap₂ (λ (c : Code) (l : List ℕ). turn_by c table classes (b ∷ q) l) i.0 e
      ∙ sym (symbol_other table classes (b ∷ q) (x ∷ r) b (λ z. omega arith) same 0 (sym i.1) (λ z. omega arith) (omega arith)).0 in
      ap (λ (y : Turn). stepped table bytes y s (n + 1) (λ c z. tier_from table classes bytes q c z (n + 1))) step

  -- symbols without children that hold are passed at once, each counted
  module _ (lengths : List ℕ) (assigned : ℕ) (parts : List ℕ) where
    abbrev From : List ℕ → ℕ → ℕ → Ending
    From q node count = tier_from table classes bytes q false (standing node lengths assigned parts) count

    abbrev Passed : List ℕ → ℕ → ℕ → ℕ → Type 0
    Passed q node count k = From q node count ≡ From (drop k q) (node + k) (count + k)

    passed_none : (q : List ℕ) (node count : ℕ) → Passed q node count 0
    passed_none q node count =
        let i : node ≡ node + 0 = omega arith in
        let j : count ≡ count + 0 = omega arith in
        ap₂ (From q) i j

    leaves_passed : (q r : List ℕ) (node count : ℕ) → drop node bytes ≡ r → Passed q node count (leaves_of table classes q r)
    unfolding leaves_of
    leaves_passed [] r node count e = passed_none [] node count
    leaves_passed (b ∷ q) [] node count e = passed_none (b ∷ q) node count
    leaves_passed (b ∷ q) (x ∷ r) node count e =
        go (is_leaf table (decode_of b)) refl (same_byte classes false b x) refl
        (leaves_passed q r (node + 1) (count + 1) (sym (drop-drop 1 node bytes) ∙ ap (drop 1) e))
      where
        go : (l : Bool) → is_leaf table (decode_of b) ≡ l → (m : Bool) → same_byte classes false b x ≡ m
            → Passed q (node + 1) (count + 1) (leaves_of table classes q r) → Passed (b ∷ q) node count (cond l (cond m (suc (leaves_of table classes q r)) 0) 0)
        go false h m i p = passed_none (b ∷ q) node count
        go true h false i p = passed_none (b ∷ q) node count
        go true h true i p =
            let k = leaves_of table classes q r in
            let y : node + 1 + k ≡ node + suc k = omega arith in
            let z : count + 1 + k ≡ count + suc k = omega arith in
            leaf_turn b x q r (standing node lengths assigned parts) count e h i ∙ p ∙ ap₂ (From (drop k q)) y z

  -- a first node that can't hold is the end
  pub root_fails : (pattern parts : List ℕ) → root_may_hold classes pattern bytes ≡ false → tier_on table classes pattern bytes parts ≡ ending false 1 0 parts
  unfolding tier_on tier_from
  root_fails [] parts h = absurd (true≢false (root_no_pattern classes [] bytes refl ∙ h))
  root_fails (b ∷ q) parts h =
      ap (λ (x : Turn). stepped table bytes x (standing_start parts) 1 (λ c s. tier_from table classes bytes q c s 1)) (root_step table classes (b ∷ q) bytes h)

  module _ (pattern parts₀ : List ℕ) where
    -- what is left of the loop from here on
    pub record Turning (lengths : List ℕ) (at node count assigned : ℕ) (parts : List ℕ) : Type 0 where
      pub few : count ≤ at
      pub at_within : at ≤ length pattern
      pub node_within : node ≤ length bytes
      pub same : tier_on table classes pattern bytes parts₀ ≡ tier_from table classes bytes (drop at pattern) false (standing node lengths assigned parts) count

    pub turning_first : (lengths : List ℕ) → lengths ≡ (standing_start parts₀).lengths → Turning lengths 0 0 0 0 parts₀
    unfolding tier_on
    turning_first lengths h = record {
      few = omega arith;
      at_within = omega arith;
      node_within = omega arith;
      same = ap (λ (l : List ℕ). tier_from table classes bytes pattern false (standing 0 l 0 parts₀) 0) (sym h);
    }

    abbrev Ends : Tiering → List ℕ → Type 0
    Ends t parts = (t ≡ tiering_of (tier_on table classes pattern bytes parts₀)) × (parts ≡ (tier_on table classes pattern bytes parts₀).parts)

    ends : (e : Ending) → tier_on table classes pattern bytes parts₀ ≡ e → Ends (tiering_of e) e.parts
    ends e h = (ap tiering_of (sym h), ap (λ (x : Ending). x.parts) (sym h))

    module _ (lengths : List ℕ) (at node count assigned : ℕ) (parts : List ℕ) (t : Turning lengths at node count assigned parts) where
      abbrev here : Standing
      here = standing node lengths assigned parts

      pub turning_end : length pattern ≤ at → Ends (record { count = count; assigned = Some assigned }) parts
      unfolding tier_from
      turning_end h =
          ends (ending true count assigned parts) (t.same ∙ ap (λ (l : List ℕ). tier_from table classes bytes l false here count) (drop_of_length-le pattern h))

      pub turning_leaves : (n : ℕ) → n ≡ leaves_of table classes (take (length pattern - at) (drop at pattern)) (take (length bytes - node) (drop node bytes))
          → (n ≤ length (take (length pattern - at) (drop at pattern))) × (n ≤ length (take (length bytes - node) (drop node bytes)))
          → Turning lengths (at + n) (node + n) (count + n) assigned parts
      turning_leaves n e w =
          let z : leaves_of table classes (drop at pattern) (drop node bytes) ≡ n =
          sym (e ∙ ap₂ (leaves_of table classes) (rest_part at pattern) (rest_part node bytes)) in record {
            few = omega (arith, t.few);
            at_within = omega (arith, w.0, rest_length at pattern, t.at_within);
            node_within = omega (arith, w.1, rest_length node bytes, t.node_within);
            same = t.same ∙ leaves_passed lengths assigned parts (drop at pattern) (drop node bytes) node count refl
                ∙ ap (λ (m : ℕ). From lengths assigned parts (drop m (drop at pattern)) (node + m) (count + m)) z
                ∙ ap (λ (q : List ℕ). From lengths assigned parts q (node + n) (count + n)) (drop-drop n at pattern);
          }

      module _ (within : at < length pattern) (x : Turn)
          (e : x ≡ turn_of table classes (take (length pattern - at) (drop at pattern)) (take (length bytes - node) (drop node bytes))) where
        abbrev on : Turn → Ending
        on y = stepped table bytes y here (count + 1) (λ c z. tier_from table classes bytes (drop (suc at) pattern) c z (count + 1))

        by_step : tier_on table classes pattern bytes parts₀ ≡ on x
        unfolding tier_from
        by_step =
            t.same ∙ ap (λ (l : List ℕ). tier_from table classes bytes l false here count) (drop-cons pattern at 0 within)
            ∙ ap on (sym (e ∙ ap₂ (turn_of table classes) (rest_part at pattern ∙ drop-cons pattern at 0 within) (rest_part node bytes)))

        pub turning_fails : x ≡ Fails → Ends (record { count = count + 1; assigned = None }) parts
        turning_fails h = ends (ending false (count + 1) assigned parts) (by_step ∙ ap on h)

        past : (w : ℕ) (s : Standing) → 1 ≤ w → w ≤ 2 → tier_from table classes bytes (drop (suc at) pattern) (eqb w 2) s (count + 1)
            ≡ tier_from table classes bytes (drop (at + w) pattern) false s (count + 1)
        past w s h k = past_own (λ l b. tier_from table classes bytes l b s (count + 1)) (skip_tier s (count + 1)) pattern at w h k

        module _ (stays : TurnWithin (take (length pattern - at) (drop at pattern)) (take (length bytes - node) (drop node bytes)) x) where
          stayed : {y : Turn} → x ≡ y → TurnWithin (take (length pattern - at) (drop at pattern)) (take (length bytes - node) (drop node bytes)) y
          stayed h = subst (TurnWithin (take (length pattern - at) (drop at pattern)) (take (length bytes - node) (drop node bytes))) h stays

          pub enters_within : (w : ℕ) → x ≡ Enters w → (1 ≤ w) × (w ≤ 2) × (at + w ≤ length pattern) × (node + w ≤ length bytes)
          enters_within w h =
              let i = stayed h in (
                i.0,
                i.1,
                omega (arith, i.2, rest_length at pattern),
                omega (arith, i.3, rest_length node bytes, t.node_within),
              )

          pub notes_within : (v n : ℕ) → x ≡ Notes v n → (v < variables) × (at + 2 ≤ length pattern) × (node + 2 ≤ length bytes)
          notes_within v n h =
              let i = stayed h in (i.0, omega (arith, i.1, rest_length at pattern), omega (arith, i.2, rest_length node bytes, t.node_within))

          pub name_within : (v size : ℕ) → x ≡ TakesNode v size → (v < variables) × (node + size ≤ length bytes)
          name_within v size h = let i = stayed h in (i.0, omega (arith, i.1, rest_length node bytes, t.node_within))

          pub run_within : (v : ℕ) → x ≡ TakesRun v → v < variables
          run_within v h = stayed h

        pub turning_enters : (w : ℕ) → x ≡ Enters w → 1 ≤ w → w ≤ 2 → at + w ≤ length pattern → node + w ≤ length bytes
            → Turning lengths (at + w) (node + w) (count + 1) assigned parts
        turning_enters w h i j k l = record {
          few = omega (arith, t.few);
          at_within = k;
          node_within = l;
          same = by_step ∙ ap on h ∙ past w (standing (node + w) lengths assigned parts) i j;
        }

        pub turning_notes : (v n : ℕ) → x ≡ Notes v n → at + 2 ≤ length pattern → node + 2 ≤ length bytes
            → Turning (set lengths v n) (at + 2) (node + 2) (count + 1) assigned parts
        turning_notes v n h k l = record {
          few = omega (arith, t.few);
          at_within = k;
          node_within = l;
          same = by_step ∙ ap on h ∙ past 2 (standing (node + 2) (set lengths v n) assigned parts) (omega arith) (omega arith);
        }

        module _ (a : ℕ) (ps : List ℕ) (v size n : ℕ) (mask : a ≡ bit_or assigned (2 ^ v)) (put : ps ≡ set parts v (packed (bound_part node size n)))
            (inside : node + size ≤ length bytes) where
          taken : tier_on table classes pattern bytes parts₀ ≡ tier_from table classes bytes (drop (suc at) pattern) false (takes here v size n) (count + 1)
              → Turning lengths (at + 1) (node + size) (count + 1) a ps
          taken h = record {
            few = omega (arith, t.few);
            at_within = omega arith;
            node_within = inside;
            same = h ∙ past 1 (takes here v size n) (omega arith) (omega arith)
                ∙ ap₂ (λ (m : ℕ) (l : List ℕ). tier_from table classes bytes (drop (at + 1) pattern) false (standing (node + size) lengths m l) (count + 1))
                (sym mask) (sym put);
          }

          pub turning_name : x ≡ TakesNode v size → n ≡ 1 → Turning lengths (at + 1) (node + size) (count + 1) a ps
          turning_name h k =
              taken (by_step ∙ ap on h ∙ ap (λ (m : ℕ). tier_from table classes bytes (drop (suc at) pattern) false (takes here v size m) (count + 1)) (sym k))

          pub turning_run : x ≡ TakesRun v → n ≡ get_or lengths v 0 → size ≡ span_of table (take (length bytes - node) (drop node bytes)) false n
              → Turning lengths (at + 1) (node + size) (count + 1) a ps
          turning_run h k l =
              let z : span_of table (drop node bytes) false (get_or lengths v 0) ≡ size =
              ap₂ (λ (s : List ℕ). span_of table s false) (sym (rest_part node bytes)) (sym k) ∙ sym l in
              taken (by_step ∙ ap on h
              ∙ ap₂ (λ (y m : ℕ). tier_from table classes bytes (drop (suc at) pattern) false (takes here v y m) (count + 1)) z (sym k))
