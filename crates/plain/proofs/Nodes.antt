-- One node of the check and of the tier, by what is told of its bytes.
use Prim.Native.Nat.{ℕ, ◌-◌, ◌%◌, ◌^◌, ◌<◌, ◌≤◌}
use native.Mathlib.Nat.{zero-div}
use native.Mathlib.Omega.{arith}
use mathlib.Core.Path.{◌≡◌, refl, sym, ◌∙◌, ap, subst}
use mathlib.Core.List.{List, [], ◌∷◌}
use mathlib.Core.Logic.{◌⊎◌, inl, inr}
use mathlib.Core.Bool.{Bool, true, false, true≢false}
use lib.ListN.{length, get_or, take, drop}
use lib.Dec.{eqb}
use borrow.Author.Tests.{eq-eqb, ne_eqb, lt-ltb, le-ltb}
use Rattle.term.proofs.Lists.{rest_part}
use Rattle.term.specs.Code.{variables, decode_of, VariableBelow}
use Rattle.term.specs.Extent.{entry_of}
use Rattle.term.specs.Same.{same_byte}
use Rattle.term.specs.Table.{list}
use Rattle.term.specs.declared.Code.{Code}
use Rattle.term.specs.declared.Code.TheVariants.{Symbol, Name, Run, Complement}
use Rattle.term.proofs.Codes.{decode_below}
use Rattle.parts.specs.Packed.{bit}
use Rattle.plain.specs.Bytes.{runs_among, no_runs, may_hold, root_may_hold, look_list, look_symbol, look_variable, look_by, look_of, passing, list_step, list_of, symbol_of, turn_by, turn_of, TurnWithin}
use Rattle.plain.specs.declared.runs.Runs.{Runs}
use Rattle.plain.specs.declared.check.Look.{Look}
use Rattle.plain.specs.declared.tier.Turn.{Turn}
use Rattle.plain.specs.declared.tier.Turn.TheVariants.{Fails, Enters, Notes}
use Rattle.plain.proofs.Among.{run_bytes, bytes_behind, among_bytes}
use Rattle.std.specs.Prelude.{Option, None}

-- a variable's number is one of those of the answer buffer
pub name_below : (b : ℕ) (c : Code) (v : ℕ) → c ≡ decode_of b → c ≡ Name v → v < variables
unfolding VariableBelow
name_below b c v e f = subst VariableBelow (sym e ∙ f) (decode_below b)

pub run_below : (b : ℕ) (c : Code) (v : ℕ) → c ≡ decode_of b → c ≡ Run v → v < variables
unfolding VariableBelow
run_below b c v e f = subst VariableBelow (sym e ∙ f) (decode_below b)

pub variable_below : {c : Code} {v : ℕ} → (c ≡ Name v) ⊎ (c ≡ Run v) → VariableBelow c → v < variables
unfolding VariableBelow
variable_below (inl e) h = subst VariableBelow e h
variable_below (inr e) h = subst VariableBelow e h

-- The check

-- no variable is in the mask 0
pub none_seen : (v : ℕ) → bit 0 v ≡ false
none_seen v = ap (λ (x : ℕ). eqb (x % 2) 1) (zero-div (2 ^ v))

module _ (table q : List ℕ) (seen : ℕ) where
  pub look_short : length q < 2 → None ≡ look_list table q seen
  unfolding look_list
  look_short h = rw (lt-ltb (length q) 2 h)

  -- where the bytes have fewer than two codes of run names
  pub look_seldom : 2 ≤ length q → run_bytes q < 2 → passing seen 2 ≡ look_list table q seen
  unfolding look_list
  look_seldom wide h =
      let few : (runs_among table (drop 2 q) (get_or q 1 0) no_runs).number ≤ 1 =
      omega (arith, among_bytes table (drop 2 q) (get_or q 1 0) no_runs, bytes_behind 2 q) in
      rw (le-ltb (length q) 2 wide, le-ltb 1 (runs_among table (drop 2 q) (get_or q 1 0) no_runs).number few)

  module _ (wide : 2 ≤ length q) (found : Runs) (e : found ≡ runs_among table (take (length q - 2) (drop 2 q)) (get_or q 1 0) no_runs) where
    is_found : found ≡ runs_among table (drop 2 q) (get_or q 1 0) no_runs
    is_found = e ∙ ap (λ (l : List ℕ). runs_among table l (get_or q 1 0) no_runs) (rest_part 2 q)

    pub look_many : 1 < found.number → None ≡ look_list table q seen
    unfolding look_list
    look_many h = rw (le-ltb (length q) 2 wide, ← is_found, lt-ltb 1 found.number h)

    pub look_few : found.number ≤ 1 → passing seen 2 ≡ look_list table q seen
    unfolding look_list
    look_few h = rw (le-ltb (length q) 2 wide, ← is_found, le-ltb 1 found.number h)

  module _ (b e : ℕ) (entry : e ≡ entry_of table b) where
    pub look_list_holds : e ≡ list → (x : Option Look) → x ≡ look_list table q seen → x ≡ look_symbol table q seen b
    unfolding look_symbol
    look_list_holds h x i = rw (eq-eqb (entry_of table b) list (sym entry ∙ h)) i

    pub look_other : (e ≡ list → ⊥) → passing seen 1 ≡ look_symbol table q seen b
    unfolding look_symbol
    look_other h = rw (ne_eqb (entry_of table b) list (λ z. h (entry ∙ z)))

  -- by the code of the byte that stands there
  pub look_by_holds : (c d : Code) → c ≡ decode_of (get_or q 0 0) → c ≡ d → (x : Option Look) → x ≡ look_by d table q seen → x ≡ look_of table q seen
  unfolding look_of
  look_by_holds c d e f x h = h ∙ ap (λ (y : Code). look_by y table q seen) (sym f ∙ e)

  pub look_by_variable : (c : Code) (v : ℕ) → c ≡ decode_of (get_or q 0 0) → (c ≡ Name v) ⊎ (c ≡ Run v) → (x : Option Look) → x ≡ look_variable seen v → x ≡ look_of table q seen
  look_by_variable c v e (inl f) x h = look_by_holds c (Name v) e f x h
  look_by_variable c v e (inr f) x h = look_by_holds c (Run v) e f x h

  pub look_by_none : (c : Code) → c ≡ decode_of (get_or q 0 0) → (c ≡ Complement) ⊎ (c ≡ Code.Refused) → None ≡ look_of table q seen
  look_by_none c e (inl f) = look_by_holds c Complement e f None refl
  look_by_none c e (inr f) = look_by_holds c Code.Refused e f None refl

-- The tier

module _ (table q r : List ℕ) where
  abbrev Listed : Turn → Type 0
  Listed x = (x ≡ list_of table q r) × TurnWithin q r x

  pub list_short : length q < 2 → Listed Fails
  unfolding list_of
  list_short h = (rw (lt-ltb (length q) 2 h), tt)

  module _ (wide : 2 ≤ length q) where
    pub list_cut : length r < 2 → Listed Fails
    unfolding list_of
    list_cut h = (rw (le-ltb (length q) 2 wide, lt-ltb (length r) 2 h), tt)

    module _ (far : 2 ≤ length r) where
      by_list : (x : Turn) → x ≡ list_step (get_or q 1 0) (get_or r 1 0) (runs_among table (drop 2 q) (get_or q 1 0) no_runs) → x ≡ list_of table q r
      unfolding list_of
      by_list x h = rw (le-ltb (length q) 2 wide, le-ltb (length r) 2 far) h

      pub list_equal : get_or q 1 0 ≡ get_or r 1 0 → Listed (Enters 2)
      unfolding list_step
      list_equal h = (by_list (Enters 2) (rw (eq-eqb (get_or q 1 0) (get_or r 1 0) h)), (omega arith, omega arith, wide, far))

      module _ (differ : get_or q 1 0 ≡ get_or r 1 0 → ⊥) (found : Runs) (e : found ≡ runs_among table (take (length q - 2) (drop 2 q)) (get_or q 1 0) no_runs) where
        told : found ≡ runs_among table (drop 2 q) (get_or q 1 0) no_runs
        told = e ∙ ap (λ (l : List ℕ). runs_among table l (get_or q 1 0) no_runs) (rest_part 2 q)

        pub list_none : found.number ≡ 0 → Listed Fails
        unfolding list_step
        list_none h = (by_list Fails (rw (← told, ne_eqb (get_or q 1 0) (get_or r 1 0) differ, eq-eqb found.number 0 h)), tt)

        module _ (some : found.number ≡ 0 → ⊥) where
          pub list_few : get_or r 1 0 < get_or q 1 0 - 1 → Listed Fails
          unfolding list_step
          list_few h =
              (by_list Fails (rw (← told, ne_eqb (get_or q 1 0) (get_or r 1 0) differ, ne_eqb found.number 0 some, lt-ltb (get_or r 1 0) (get_or q 1 0 - 1) h)), tt)

          pub list_notes : get_or q 1 0 - 1 ≤ get_or r 1 0 → found.variable < variables → Listed (Notes found.variable (get_or r 1 0 - (get_or q 1 0 - 1)))
          unfolding list_step
          list_notes h low = (
            by_list (Notes found.variable (get_or r 1 0 - (get_or q 1 0 - 1)))
                (rw (← told, ne_eqb (get_or q 1 0) (get_or r 1 0) differ, ne_eqb found.number 0 some, le-ltb (get_or r 1 0) (get_or q 1 0 - 1) h)),
            (low, wide, far),
          )

module _ (table classes q r : List ℕ) (b : ℕ) where
  abbrev Matched : Turn → Type 0
  Matched x = (x ≡ symbol_of table classes q r b) × TurnWithin q r x

  pub symbol_none : length r ≡ 0 → Matched Fails
  unfolding symbol_of
  symbol_none h = (rw (eq-eqb (length r) 0 h), tt)

  module _ (some : length r ≡ 0 → ⊥) where
    pub symbol_differs : same_byte classes false b (get_or r 0 0) ≡ false → Matched Fails
    unfolding symbol_of
    symbol_differs h = (rw (ne_eqb (length r) 0 some, h), tt)

    module _ (same : same_byte classes false b (get_or r 0 0) ≡ true) (e : ℕ) (entry : e ≡ entry_of table b) where
      pub symbol_list : e ≡ list → (x : Turn) → (x ≡ list_of table q r) × TurnWithin q r x → Matched x
      unfolding symbol_of
      symbol_list h x i = (rw (ne_eqb (length r) 0 some, same, eq-eqb (entry_of table b) list (sym entry ∙ h)) i.0, i.1)

      pub symbol_other : (e ≡ list → ⊥) → 0 < length q → Matched (Enters 1)
      unfolding symbol_of
      symbol_other h l = (
        rw (ne_eqb (length r) 0 some, same, ne_eqb (entry_of table b) list (λ z. h (entry ∙ z))),
        (omega arith, omega arith, omega arith, omega (arith, some)),
      )

-- a node that can't hold, by its code alone
pub code_fails : (table classes q : List ℕ) (c : Code) (x : ℕ) (r : List ℕ) → may_hold classes c x ≡ false → turn_by c table classes q (x ∷ r) ≡ Fails
code_fails table classes q (Symbol b) x r h = sym (symbol_differs table classes q (x ∷ r) b (λ z. omega arith) h).0
code_fails table classes q (Name v) x r h = absurd (true≢false h)
code_fails table classes q (Run v) x r h = absurd (true≢false h)
code_fails table classes q Complement x r h = absurd (true≢false h)
code_fails table classes q Code.Refused x r h = absurd (true≢false h)

pub step_by : (table classes q r : List ℕ) (c d : Code) → c ≡ decode_of (get_or q 0 0) → c ≡ d → (x : Turn) → x ≡ turn_by d table classes q r → TurnWithin q r x
    → (x ≡ turn_of table classes q r) × TurnWithin q r x
unfolding turn_of
step_by table classes q r c d e f x h w = (h ∙ ap (λ (y : Code). turn_by y table classes q r) (sym f ∙ e), w)

pub step_by_none : (table classes q r : List ℕ) (c : Code) → c ≡ decode_of (get_or q 0 0) → (c ≡ Complement) ⊎ (c ≡ Code.Refused)
    → (Fails ≡ turn_of table classes q r) × TurnWithin q r Fails
step_by_none table classes q r c e (inl f) = step_by table classes q r c Complement e f Fails refl tt
step_by_none table classes q r c e (inr f) = step_by table classes q r c Code.Refused e f Fails refl tt

-- the first node, by what is told of its bytes

module _ (classes q r : List ℕ) where
  pub root_no_pattern : length q ≡ 0 → true ≡ root_may_hold classes q r
  unfolding root_may_hold
  root_no_pattern h = rw (eq-eqb (length q) 0 h)

  module _ (some : length q ≡ 0 → ⊥) where
    pub root_no_record : length r ≡ 0 → true ≡ root_may_hold classes q r
    unfolding root_may_hold
    root_no_record h = rw (ne_eqb (length q) 0 some, eq-eqb (length r) 0 h)

    pub root_by : (length r ≡ 0 → ⊥) → (c : Code) → c ≡ decode_of (get_or q 0 0) → (x : Bool) → x ≡ may_hold classes c (get_or r 0 0) → x ≡ root_may_hold classes q r
    unfolding root_may_hold
    root_by far c e x h =
        rw (ne_eqb (length q) 0 some, ne_eqb (length r) 0 far) (h ∙ ap (λ (y : Code). may_hold classes y (get_or r 0 0)) e)

root_code : (table classes q : List ℕ) (b : ℕ) (r : List ℕ) → root_may_hold classes (b ∷ q) r ≡ false → turn_of table classes (b ∷ q) r ≡ Fails
unfolding turn_of
root_code table classes q b [] h = absurd (true≢false (root_no_record classes (b ∷ q) [] (λ z. omega arith) refl ∙ h))
root_code table classes q b (x ∷ r) h =
    code_fails table classes (b ∷ q) (decode_of b) x r
    (root_by classes (b ∷ q) (x ∷ r) (λ z. omega arith) (λ z. omega arith) (decode_of b) refl (may_hold classes (decode_of b) x) refl ∙ h)

pub root_step : (table classes q r : List ℕ) → root_may_hold classes q r ≡ false → turn_of table classes q r ≡ Fails
root_step table classes [] r h = absurd (true≢false (root_no_pattern classes [] r refl ∙ h))
root_step table classes (b ∷ q) r h = root_code table classes q b r h
