-- Patterns that are plain by their bytes alone, whatever bytes are numbers of children: no complement, one run name at most, no variable twice.
use Prim.Native.Nat.{ℕ, suc, ◌+◌, ◌-◌, ◌^◌, ◌<◌, ◌≤◌}
use native.Mathlib.Omega.{arith}
use mathlib.Core.Path.{◌≡◌, refl, sym, ◌∙◌, ap, subst}
use mathlib.Core.Logic.{◌⊎◌, inl, inr}
use mathlib.Core.List.{List, [], ◌∷◌}
use mathlib.Core.Bool.{Bool, true, false, cond, false≢true}
use lib.Bits.{bit_or}
use lib.ListN.{length, get_or, take, drop, drop_of_length-le}
use lib.Seq.{drop-cons}
use lib.Dec.{eqb, ltb}
use borrow.Author.Tests.{eqb-true, eqb-false, ne_eqb, ltb-true}
use Rattle.term.proofs.Lists.{rest_part}
use Rattle.term.specs.Code.{decode_of}
use Rattle.term.specs.Extent.{entry_of}
use Rattle.term.specs.Table.{list}
use Rattle.term.specs.declared.Code.{Code}
use Rattle.term.specs.declared.Code.TheVariants.{Symbol, Name, Run, Complement}
use Rattle.parts.specs.Packed.{bit}
use Rattle.parts.proofs.Masks.{bit_new, bit_other, bit_still}
use Rattle.plain.specs.Bytes.{sum_of, runs_among, no_runs, run_code, weight_of, weights_of, root_bytes, look_list, look_symbol, look_variable, look_byte, look_by, look_of, passing, on_pass, plain_from, SurelyPlain}
use Rattle.plain.specs.declared.check.Look.{Look}
use Rattle.plain.proofs.Among.{run_bytes, among_bytes, here_once}
use Rattle.plain.proofs.Holding.{SymbolIs, symbol_is}
use Rattle.plain.proofs.Nodes.{none_seen, look_seldom, look_few}
use Rattle.std.specs.Prelude.{Option, Some, None}

-- whether no variable comes twice and there is no complement, with every byte taken for a code
unfoldable pub distinct_from : List ℕ → ℕ → Bool
distinct_from [] seen = true
distinct_from (b ∷ s) seen = on_pass (look_byte (decode_of b) seen) (λ x w. distinct_from s x)

-- Masks: the variables of one are variables of the other

abbrev Below : ℕ → ℕ → Type 0
Below m n = (v : ℕ) → bit n v ≡ false → bit m v ≡ false

below_more : (m n i : ℕ) → Below m n → Below m (bit_or n (2 ^ i))
below_more m n i h v e = h v (by (bit n v) refl)
  where
    by : (b : Bool) → bit n v ≡ b → bit n v ≡ false
    by true k = absurd (false≢true (sym e ∙ bit_still n i v k))
    by false k = k

below_both : (m n i : ℕ) → Below m n → Below (bit_or m (2 ^ i)) (bit_or n (2 ^ i))
below_both m n i h v e = by (eqb i v) refl
  where
    by : (b : Bool) → eqb i v ≡ b → bit (bit_or m (2 ^ i)) v ≡ false
    by true k = absurd (false≢true (sym e ∙ ap (λ (j : ℕ). bit (bit_or n (2 ^ j)) v) (eqb-true i v k) ∙ bit_new n v))
    by false k = let d = eqb-false i v k in bit_other m i v d ∙ h v (sym (bit_other n i v d) ∙ e)

-- One byte

variable_passes : (seen v : ℕ) (f : ℕ → ℕ → Bool) → on_pass (look_variable seen v) f ≡ true → (bit seen v ≡ false) × (f (bit_or seen (2 ^ v)) 1 ≡ true)
variable_passes seen v f h = by (bit seen v) h
  where
    by : (x : Bool) → on_pass (cond x None (passing (bit_or seen (2 ^ v)) 1)) f ≡ true → (x ≡ false) × (f (bit_or seen (2 ^ v)) 1 ≡ true)
    by true k = absurd (false≢true k)
    by false k = (refl, k)

-- a byte that is passed over as a number of children
passed_over : (c : Code) (s : List ℕ) (seen : ℕ) → on_pass (look_byte c seen) (λ x w. distinct_from s x) ≡ true → (n : ℕ) × (Below seen n × (distinct_from s n ≡ true))
passed_over (Symbol b) s seen h = (seen, (λ v e. e, h))
passed_over (Name v) s seen h = (bit_or seen (2 ^ v), (below_more seen seen v (λ u e. e), (variable_passes seen v (λ x w. distinct_from s x) h).1))
passed_over (Run v) s seen h = (bit_or seen (2 ^ v), (below_more seen seen v (λ u e. e), (variable_passes seen v (λ x w. distinct_from s x) h).1))
passed_over Complement s seen h = absurd (false≢true h)
passed_over Code.Refused s seen h = absurd (false≢true h)

-- The root

module _ (table : List ℕ) (b e : ℕ) (entry : e ≡ entry_of table b) where
  pub other_root : (e ≡ list → ⊥) → 0 ≡ root_bytes table (Symbol b)
  other_root h = rw (ne_eqb (entry_of table b) list (λ z. h (entry ∙ z)))

symbol_own : (b d : ℕ) → decode_of b ≡ Symbol d → d ≡ b
symbol_own b d e = subst (SymbolIs b) e (symbol_is b)

module _ (table : List ℕ) where
  -- the last byte is no list's symbol
  abbrev Ends : List ℕ → Type 0
  Ends [] = Unit {0}
  Ends (b ∷ []) = entry_of table b ≡ list → ⊥
  Ends (b ∷ c ∷ s) = Ends (c ∷ s)

  ends_tail : (b : ℕ) (s : List ℕ) → Ends (b ∷ s) → Ends s
  ends_tail b [] h = tt
  ends_tail b (c ∷ s) h = h

  ends_wide : (b : ℕ) (s : List ℕ) → Ends (b ∷ s) → entry_of table b ≡ list → 2 ≤ length (b ∷ s)
  ends_wide b [] h e = absurd (h e)
  ends_wide b (c ∷ s) h e = omega arith

  ends_last : (s : List ℕ) → (entry_of table (get_or s (length s - 1) 0) ≡ list → ⊥) → Ends s
  ends_last [] h = tt
  ends_last (b ∷ []) h = h
  ends_last (b ∷ c ∷ s) h =
      let z : length (b ∷ c ∷ s) - 1 ≡ suc (length (c ∷ s) - 1) = omega arith in
      ends_last (c ∷ s) (λ e. h (ap (λ (n : ℕ). entry_of table (get_or (b ∷ c ∷ s) n 0)) z ∙ e))

  -- a node, by the nodes behind it
  module _ (b : ℕ) (s : List ℕ) (mask seen : ℕ) (ends : Ends (b ∷ s)) (below : Below mask seen) (few : run_bytes (b ∷ s) < 2)
      (next : (counting : Bool) (m n : ℕ) → Below m n → distinct_from s n ≡ true → plain_from table s counting m ≡ true) where
    abbrev Goes : Option Look → Type 0
    Goes x = on_pass x (λ m w. plain_from table s (eqb w 2) m) ≡ true

    distinct_symbol : distinct_from s seen ≡ true → (x : Bool) → eqb (entry_of table b) list ≡ x → Goes (cond x (look_list table (b ∷ s) mask) (passing mask 1))
    distinct_symbol h true e =
        ap (λ (y : Option Look). on_pass y (λ m w. plain_from table s (eqb w 2) m))
        (sym (look_seldom table (b ∷ s) mask (ends_wide b s ends (eqb-true (entry_of table b) list e)) few)) ∙ next true mask seen below h
    distinct_symbol h false e = next false mask seen below h

    distinct_variable : (v : ℕ) → on_pass (look_variable seen v) (λ x w. distinct_from s x) ≡ true → Goes (look_variable mask v)
    distinct_variable v h =
        let k = variable_passes seen v (λ x w. distinct_from s x) h in
        rw (below v k.0) (next false (bit_or mask (2 ^ v)) (bit_or seen (2 ^ v)) (below_both mask seen v below) k.1)

    distinct_node : (c : Code) → decode_of b ≡ c → on_pass (look_byte c seen) (λ x w. distinct_from s x) ≡ true → Goes (look_by c table (b ∷ s) mask)
    unfolding look_symbol
    distinct_node (Symbol d) e h = rw (symbol_own b d e) (distinct_symbol h (eqb (entry_of table b) list) refl)
    distinct_node (Name v) e h = distinct_variable v h
    distinct_node (Run v) e h = distinct_variable v h
    distinct_node Complement e h = absurd (false≢true h)
    distinct_node Code.Refused e h = absurd (false≢true h)

  distinct_plain : (s : List ℕ) (counting : Bool) (mask seen : ℕ) → Ends s → Below mask seen → run_bytes s < 2 → distinct_from s seen ≡ true → plain_from table s counting mask ≡ true
  unfolding plain_from sum_of look_of distinct_from
  distinct_plain [] counting mask seen ends below few h = refl
  distinct_plain (b ∷ s) true mask seen ends below few h =
      let k = passed_over (decode_of b) s seen h in
      distinct_plain s false mask k.0 (ends_tail b s ends) (λ v e. below v (k.1.0 v e)) (omega arith) k.1.1
  distinct_plain (b ∷ s) false mask seen ends below few h =
      distinct_node b s mask seen ends below few (λ counting m n k i. distinct_plain s counting m n (ends_tail b s ends) k (omega arith) i) (decode_of b) refl h

  root_none : (b : ℕ) → (entry_of table b ≡ list → ⊥) → (c : Code) → decode_of b ≡ c → root_bytes table c ≡ 0
  root_none b h (Symbol d) e = sym (other_root table d (entry_of table d) refl (λ i. h (ap (entry_of table) (sym (symbol_own b d e)) ∙ i)))
  root_none b h (Name v) e = refl
  root_none b h (Run v) e = refl
  root_none b h Complement e = refl
  root_none b h Code.Refused e = refl

  root_most : (c : Code) → root_bytes table c ≤ 2
  root_most (Symbol b) = go (eqb (entry_of table b) list)
    where
      go : (x : Bool) → cond x 2 0 ≤ 2
      go true = omega arith
      go false = omega arith
  root_most (Name v) = omega arith
  root_most (Run v) = omega arith
  root_most Complement = omega arith
  root_most Code.Refused = omega arith

  pub root_within : (s : List ℕ) → (entry_of table (get_or s (length s - 1) 0) ≡ list → ⊥) → 0 < length s → (own : ℕ) → own ≡ root_bytes table (decode_of (get_or s 0 0)) → own ≤ length s
  root_within [] h i own e = absurd (omega arith)
  root_within (b ∷ []) h i own e = omega (arith, root_none b h (decode_of b) refl)
  root_within (b ∷ c ∷ s) h i own e = omega (arith, root_most (decode_of b))

  -- a list at the root, by what is behind its number
  distinct_list : (b c : ℕ) (s : List ℕ) → Ends s → run_bytes s < 2 → distinct_from s 0 ≡ true → on_pass (look_list table (b ∷ c ∷ s) 0) (λ m w. plain_from table (c ∷ s) (eqb w 2) m) ≡ true
  unfolding plain_from
  distinct_list b c s ends few h =
      let part = take (length (b ∷ c ∷ s) - 2) (drop 2 (b ∷ c ∷ s)) in
      let i : run_bytes part ≡ run_bytes s = ap run_bytes (rest_part 2 (b ∷ c ∷ s)) in
      ap (λ (y : Option Look). on_pass y (λ m w. plain_from table (c ∷ s) (eqb w 2) m))
      (sym (look_few table (b ∷ c ∷ s) 0 (omega arith) (runs_among table part c no_runs) refl (omega (arith, among_bytes table part c no_runs))))
      ∙ distinct_plain s false 0 0 ends (λ v e. e) few h

  module _ (s : List ℕ) (ends : Ends s) (own : ℕ) (few : run_bytes (drop own s) < 2) (distinct : distinct_from (drop own s) 0 ≡ true) where
    by_none : own ≡ 0 → plain_from table s false 0 ≡ true
    by_none z =
        let k : run_bytes (drop own s) ≡ run_bytes s = ap (λ (n : ℕ). run_bytes (drop n s)) z in
        distinct_plain s false 0 0 ends (λ v e. e) (omega (arith, few)) (sym (ap (λ (n : ℕ). distinct_from (drop n s) 0) z) ∙ distinct)

  module _ (b c : ℕ) (s : List ℕ) (ends : Ends (b ∷ c ∷ s)) (own : ℕ) (few : run_bytes (drop own (b ∷ c ∷ s)) < 2)
      (distinct : distinct_from (drop own (b ∷ c ∷ s)) 0 ≡ true) where
    abbrev none : own ≡ 0 → plain_from table (b ∷ c ∷ s) false 0 ≡ true
    none = by_none (b ∷ c ∷ s) ends own few distinct

    by_symbol : decode_of b ≡ Symbol b → (x : Bool) → eqb (entry_of table b) list ≡ x → own ≡ cond x 2 0 → plain_from table (b ∷ c ∷ s) false 0 ≡ true
    unfolding plain_from look_of look_symbol
    by_symbol e true i z =
        let k : run_bytes (drop own (b ∷ c ∷ s)) ≡ run_bytes s = ap (λ (n : ℕ). run_bytes (drop n (b ∷ c ∷ s))) z in
        rw (e, i) (distinct_list b c s (ends_tail c s ends) (omega (arith, few)) (sym (ap (λ (n : ℕ). distinct_from (drop n (b ∷ c ∷ s)) 0) z) ∙ distinct))
    by_symbol e false i z = none z

    by_root : (d : Code) → decode_of b ≡ d → own ≡ root_bytes table d → plain_from table (b ∷ c ∷ s) false 0 ≡ true
    by_root (Symbol d) e z =
        let i = symbol_own b d e in
        by_symbol (e ∙ ap Symbol i) (eqb (entry_of table b) list) refl (z ∙ ap (λ (n : ℕ). cond (eqb (entry_of table n) list) 2 0) i)
    by_root (Name v) e z = none z
    by_root (Run v) e z = none z
    by_root Complement e z = none z
    by_root Code.Refused e z = none z

  -- where the own bytes of a list at the root are passed over
  distinct_pattern : (s : List ℕ) → (entry_of table (get_or s (length s - 1) 0) ≡ list → ⊥) → (own : ℕ) → own ≡ root_bytes table (decode_of (get_or s 0 0))
      → run_bytes (drop own s) < 2 → distinct_from (drop own s) 0 ≡ true → plain_from table s false 0 ≡ true
  unfolding plain_from
  distinct_pattern [] ends own e few h = refl
  distinct_pattern (b ∷ []) ends own e few h = by_none (b ∷ []) ends own few h (e ∙ root_none b ends (decode_of b) refl)
  distinct_pattern (b ∷ c ∷ s) ends own e few h = by_root b c s (ends_last (b ∷ c ∷ s) ends) own few h (decode_of b) refl e

-- The pass over the bytes, from where the own bytes of a list at the root end

module _ (s : List ℕ) where
  pub record Sighted (at seen found : ℕ) : Type 0 where
    pub few : found ≤ at
    pub bytes : run_bytes s ≡ found + run_bytes (drop at s)
    pub same : distinct_from s 0 ≡ distinct_from (drop at s) seen

  pub sighted_first : Sighted 0 0 0
  sighted_first = record { few = omega arith; bytes = omega arith; same = refl }

  module _ {at seen found : ℕ} (t : Sighted at seen found) where
    pub sighted_next : at < length s → (c : Code) → c ≡ decode_of (get_or s at 0) → (x : Look) → Some x ≡ look_byte c seen → (k : ℕ) → k ≡ run_code c
        → Sighted (at + 1) x.seen (found + k)
    unfolding sum_of distinct_from
    sighted_next inside c is x e k run =
        let z : suc at ≡ at + 1 = omega arith in
        let d : drop at s ≡ get_or s at 0 ∷ drop (at + 1) s = drop-cons s at 0 inside ∙ ap (λ (n : ℕ). get_or s at 0 ∷ drop n s) z in
        let r : run_bytes (drop at s) ≡ run_code (decode_of (get_or s at 0)) + run_bytes (drop (at + 1) s) = ap run_bytes d in
        let i : k ≡ run_code (decode_of (get_or s at 0)) = run ∙ ap run_code is in record {
          few = omega (arith, t.few, here_once (decode_of (get_or s at 0)));
          bytes = omega (arith, t.bytes);
          same = t.same ∙ ap (λ (l : List ℕ). distinct_from l seen) d
              ∙ ap (λ (y : Option Look). on_pass y (λ m n. distinct_from (drop (at + 1) s) m)) (sym (ap (λ (y : Code). look_byte y seen) is) ∙ sym e);
        }

    sighted_all : length s ≤ at → (found < 2 → run_bytes s < 2) × (distinct_from s 0 ≡ true)
    unfolding sum_of distinct_from
    sighted_all h =
        let l = drop_of_length-le s h in
        let z : run_bytes (drop at s) ≡ 0 = ap run_bytes l in
        (λ k. omega (arith, t.bytes), t.same ∙ ap (λ (y : List ℕ). distinct_from y seen) l)

pub sighted_end : (table s : List ℕ) → (entry_of table (get_or s (length s - 1) 0) ≡ list → ⊥) → (own : ℕ) → own ≡ root_bytes table (decode_of (get_or s 0 0))
    → {at seen found : ℕ} → Sighted (take (length s - own) (drop own s)) at seen found → length (take (length s - own) (drop own s)) ≤ at → SurelyPlain table s (ltb found 2)
sighted_end table s ends own e {found = found} t h told =
    let a = sighted_all (take (length s - own) (drop own s)) t h in
    let r = rest_part own s in
    distinct_pattern table s ends own e (subst (λ (l : List ℕ). run_bytes l < 2) r (a.0 (ltb-true found 2 told))) (ap (λ (l : List ℕ). distinct_from l 0) (sym r) ∙ a.1)

-- Light bytes: one variable at most

pub weight_most : (c : Code) → weight_of c ≤ 2
weight_most (Symbol b) = omega arith
weight_most (Name v) = omega arith
weight_most (Run v) = omega arith
weight_most Complement = omega arith
weight_most Code.Refused = omega arith

weight_run : (c : Code) → run_code c ≤ weight_of c
weight_run (Symbol b) = omega arith
weight_run (Name v) = omega arith
weight_run (Run v) = omega arith
weight_run Complement = omega arith
weight_run Code.Refused = omega arith

weights_runs : (s : List ℕ) → run_bytes s ≤ weights_of s
unfolding sum_of
weights_runs [] = omega arith
weights_runs (b ∷ s) = omega (arith, weight_run (decode_of b), weights_runs s)

lighter : (w k seen : ℕ) → (w + k ≡ 0) ⊎ (seen ≡ 0) → (k ≡ 0) ⊎ (seen ≡ 0)
lighter w k seen (inl e) = inl (omega arith)
lighter w k seen (inr e) = inr e

module _ (s : List ℕ) (seen : ℕ) (next : (n : ℕ) → weights_of s < 2 → (weights_of s ≡ 0) ⊎ (n ≡ 0) → distinct_from s n ≡ true) where
  light_variable : (v : ℕ) → 1 + weights_of s < 2 → (1 + weights_of s ≡ 0) ⊎ (seen ≡ 0) → on_pass (look_variable seen v) (λ x w. distinct_from s x) ≡ true
  light_variable v h (inl z) = absurd (omega arith)
  light_variable v h (inr z) = rw (z, none_seen v) (next (bit_or 0 (2 ^ v)) (omega arith) (inl (omega arith)))

  light_byte : (c : Code) → weight_of c + weights_of s < 2 → (weight_of c + weights_of s ≡ 0) ⊎ (seen ≡ 0) → on_pass (look_byte c seen) (λ x w. distinct_from s x) ≡ true
  light_byte (Symbol b) h z = next seen (omega arith) (lighter 0 (weights_of s) seen z)
  light_byte (Name v) h z = light_variable v h z
  light_byte (Run v) h z = light_variable v h z
  light_byte Complement h z = absurd (omega arith)
  light_byte Code.Refused h z = absurd (omega arith)

light_distinct : (s : List ℕ) (seen : ℕ) → weights_of s < 2 → (weights_of s ≡ 0) ⊎ (seen ≡ 0) → distinct_from s seen ≡ true
unfolding sum_of distinct_from
light_distinct [] seen h z = refl
light_distinct (b ∷ s) seen h z = light_byte s seen (light_distinct s) (decode_of b) h z

pub light_pattern : (table s : List ℕ) → (entry_of table (get_or s (length s - 1) 0) ≡ list → ⊥) → (own : ℕ) → own ≡ root_bytes table (decode_of (get_or s 0 0))
    → (w : ℕ) → w ≡ weights_of (take (length s - own) (drop own s)) → SurelyPlain table s (ltb w 2)
light_pattern table s ends own e w f told =
    let k : weights_of (take (length s - own) (drop own s)) ≡ weights_of (drop own s) = ap weights_of (rest_part own s) in
    let l : weights_of (drop own s) < 2 = omega (arith, ltb-true w 2 told) in
    distinct_pattern table s ends own e (omega (arith, weights_runs (drop own s))) (light_distinct (drop own s) 0 l (inr refl))
