-- The laws of lengths that are counted without being tried: those after which a chain of symbols or an assigned part fails, and those of a run name
-- that is the last child pattern of its node. Assumes nothing.
use Prim.Native.Nat.{ℕ, zero, suc, ◌+◌, ◌-◌, ◌*◌, ◌<◌, ◌≤◌}
use native.Mathlib.Omega.{arith}
use native.Mathlib.Nat.{le_trans, mul-le-mul_left}
use mathlib.Core.Path.{◌≡◌, refl, sym, ap, subst, ◌∙◌}
use mathlib.Core.List.{List, ◌∷◌}
use mathlib.Core.Bool.{Bool, true, false, cond, ◌&&◌, and-false, true≢false}
use lib.ListN.{length, get_or, take, drop, set, length-drop}
use lib.Seq.{drop-drop, drop-cons, get_or-set_other, length-take-le}
use lib.Dec.{leb, ltb, eqb}
use borrow.Author.Tests.{le-leb, leb-true, eq-eqb, ne_eqb, eqb-true}
use Rattle.answers.specs.Part.{part, absent, is_absent}
use Rattle.answers.specs.declared.Part.{Part}
use Rattle.term.proofs.Lists.{first_left, some_left, rest_part, rest_length}
use Rattle.term.proofs.Codes.{decode_below}
use Rattle.term.proofs.Spans.{span_none, span_next}
use Rattle.term.proofs.SameParts.{and_true}
use Rattle.term.specs.Code.{variables, decode_of, VariableBelow}
use Rattle.term.specs.Extent.{entry_of, span_of, extent_of}
use Rattle.term.specs.Part.{part_bytes}
use Rattle.term.specs.Same.{same_byte, same_part}
use Rattle.term.specs.declared.Code.{Code}
use Rattle.term.specs.declared.Code.TheVariants.{Symbol, Name, Run, Complement}
use Rattle.skips.specs.Passed.{starts_of, most_symbols, is_symbol, chain_of, differs_at, failing_of, Passes, dearest_of}
use Rattle.skips.proofs.Chains.{chain_some, chain_symbol, chain_further, chain_most, differs_lengths, differs_here, differs_later, differs_most}
use Rattle.skips.proofs.Passing.{starts_none, failing_apart, failing_chain, passes_within, passes_paid}
use Rattle.steps.specs.Turn.{step_of, variable_in, stands_of, over_step, symbol_step, assigned_step, name_step, run_step, pair_step, plain_step, code_step}
use Rattle.search.specs.State.{turns, State, place, remaining, state, place_past, entered, part_in_state, alone, variable_at, step_at, walked, walk_by, walk_of}
use Rattle.search.specs.Level.{Reply, failed_at, spent_at, tried, lengths_of, level_of}
use Rattle.parts.specs.Packed.{bit, unpacked, part_in, part_of}
use Rattle.search.specs.Inner.Replies.{given, tries_of}
use Rattle.search.specs.Inner.Skips.{behind_in, skipped, Wants, SkipsTo, Skips, Lengthens}
use Rattle.search.specs.declared.place.Place.{Place}
use Rattle.search.specs.declared.skip.Skipped.{Skipped}
use Rattle.steps.specs.declared.Step.{Step}
use Rattle.steps.specs.declared.Step.TheVariants.{Stops, Fails, Opens}
use Rattle.steps.specs.declared.Stop.TheVariants.{Failure}
use Rattle.steps.proofs.Turns.{symbol_fixed}
use Rattle.search.proofs.Steps.{name_part, run_part}
use Rattle.search.proofs.Walks.{walk_suc}
use Rattle.search.proofs.Tries.{tries_last, tries_more, tries_at, level_stops}

-- A level whose first turn fails

module _ (n : ℕ) (table classes pattern bytes : List ℕ) (s : State) (left : ℕ) (some : 0 < n) where
  -- with its first pair: one is counted
  pub level_fails : Fails ≡ step_at (alone s.frames) table classes pattern bytes (part_in_state s (variable_at pattern s.place.at)) s.place left
      → level_of n table classes bytes pattern s left ≡ failed_at (left - 1)
  unfolding walk_by
  level_fails e =
      sym (level_stops n table classes pattern bytes s left Failure (left - 1) s (failed_at (left - 1)) some
      (walk_suc table classes pattern bytes turns s left (omega arith) ∙ rw (← e)) refl)

  -- before it: nothing is counted
  pub level_stuck : Stops Failure ≡ step_at (alone s.frames) table classes pattern bytes (part_in_state s (variable_at pattern s.place.at)) s.place left
      → level_of n table classes bytes pattern s left ≡ failed_at left
  unfolding walk_by
  level_stuck e =
      sym (level_stops n table classes pattern bytes s left Failure left s (failed_at left) some
      (walk_suc table classes pattern bytes turns s left (omega arith) ∙ rw (← e)) refl)

-- A first pair: a symbol, or an assigned name or run name that does not stand there

module _ (outermost : Bool) (table classes pattern bytes : List ℕ) (had : Part) (p : Place) (left : ℕ) (children : p.children ≡ 0 → ⊥)
    (at : p.at < length pattern) where
  module _ (elements : p.elements ≡ 0 → ⊥) (node : p.node < length bytes) (some : left ≡ 0 → ⊥) where
    symbol_is : (b : ℕ) (x : Step) → Symbol b ≡ decode_of (get_or pattern p.at 0)
        → x ≡ symbol_step table classes (drop p.at pattern) (drop p.node bytes) b → x ≡ step_at outermost table classes pattern bytes had p left
    unfolding step_at step_of code_step plain_step pair_step
    symbol_is b x e h =
        rw (
          ne_eqb p.children 0 children,
          some_left pattern p.at at,
          first_left pattern p.at,
          ← e,
          ne_eqb p.elements 0 elements,
          some_left bytes p.node node,
          ne_eqb left 0 some,
        ) h

    module _ (assigned : is_absent had ≡ false) (differs : stands_of table classes bytes had (drop p.node bytes) ≡ false) where
      name_fails : (v : ℕ) → Name v ≡ decode_of (get_or pattern p.at 0) → Fails ≡ step_at outermost table classes pattern bytes had p left
      unfolding step_at step_of code_step plain_step pair_step name_step assigned_step
      name_fails v e =
          rw (
            ne_eqb p.children 0 children,
            some_left pattern p.at at,
            first_left pattern p.at,
            ← e,
            ne_eqb p.elements 0 elements,
            some_left bytes p.node node,
            ne_eqb left 0 some,
            assigned,
            differs,
            and-false (leb had.elements p.elements),
          )

      run_fails : (v : ℕ) → Run v ≡ decode_of (get_or pattern p.at 0) → Fails ≡ step_at outermost table classes pattern bytes had p left
      unfolding step_at step_of code_step run_step assigned_step
      run_fails v e =
          rw (
            ne_eqb p.children 0 children,
            some_left pattern p.at at,
            first_left pattern p.at,
            ← e,
            ne_eqb left 0 some,
            assigned,
            differs,
            and-false (leb had.elements p.elements),
          )

  -- a plain child pattern with no element left
  plain_none : {assigned symbols : ℕ} {parts x : List ℕ} {plain : Bool} → Wants table pattern bytes assigned parts p.at symbols x plain
      → plain ≡ true → p.elements ≡ 0
      → Stops Failure ≡ step_at outermost table classes pattern bytes had p left
  unfolding step_at step_of code_step plain_step
  plain_none (Wants.symbol e) f z =
      rw (ne_eqb p.children 0 children, some_left pattern p.at at, first_left pattern p.at, ← e, eq-eqb p.elements 0 z)
  plain_none (Wants.name e) f z =
      rw (ne_eqb p.children 0 children, some_left pattern p.at at, first_left pattern p.at, ← e, eq-eqb p.elements 0 z)
  plain_none (Wants.run e) f z = absurd (true≢false (sym f))

-- A chain of symbols

symbol_at : (y : ℕ) → is_symbol (decode_of y) ≡ true → Symbol y ≡ decode_of y
unfolding decode_of
symbol_at y = by (ltb y 200) (ltb y 232) (ltb y 248) (eqb y 248)
  where
    by : (k l m n : Bool)
        → is_symbol (cond k (Symbol y) (cond l (Name (y - 200)) (cond m (Run (y - 200)) (cond n Complement Code.Refused)))) ≡ true
        → Symbol y ≡ cond k (Symbol y) (cond l (Name (y - 200)) (cond m (Run (y - 200)) (cond n Complement Code.Refused)))
    by true l m n e = refl
    by false true m n e = absurd (true≢false (sym e))
    by false false true n e = absurd (true≢false (sym e))
    by false false false true e = absurd (true≢false (sym e))
    by false false false false e = absurd (true≢false (sym e))

module _ (table classes pattern bytes : List ℕ) where
  -- a walk fails, with so much of the allowance left
  record WalkFails (room : ℕ) (s : State) (left rest : ℕ) : Type 0 where
    pub end : State
    pub is : walk_of room table classes pattern bytes s left ≡ walked Failure rest end

  -- the pairs of the element at a place against so many symbols of the chain there
  abbrev pairs : ℕ → Place → ℕ
  pairs n p = differs_at classes n (drop p.at pattern) (drop p.node bytes)

  -- so many symbols of a chain within the turns that are left: where one differs, the walk fails and counts the pairs
  abbrev Claim : ℕ → ℕ → ℕ → State → ℕ → Type 0
  Claim n m room s left =
      n ≤ chain_of table m (drop s.place.at pattern) → 0 < pairs n s.place → pairs n s.place ≤ left → n ≤ room
      → (s.place.children ≡ 0 → ⊥) → (s.place.elements ≡ 0 → ⊥) → WalkFails room s left (left - pairs n s.place)

  -- the children of the symbol at a place are entered
  abbrev opened : State → State
  opened s =
      let e = entry_of table (get_or pattern s.place.at 0) in
      state s.parts (remaining (s.place.children - 1) (s.place.elements - 1) ∷ s.frames) s.waiting (entered s.place e e 1)

  -- the next symbol is compared
  module _ (n m room : ℕ) (s : State) (left : ℕ) (in_chain : n < chain_of table m (drop s.place.at pattern))
      (some : 0 < pairs (suc n) s.place) (paid : pairs (suc n) s.place ≤ left) (deep : n < room) (children : s.place.children ≡ 0 → ⊥)
      (elements : s.place.elements ≡ 0 → ⊥) where
    abbrev sought : ℕ
    sought = get_or pattern s.place.at 0

    at_in : s.place.at < length pattern
    at_in = omega (arith, (differs_lengths classes (suc n) _ _ some).0, length-drop s.place.at pattern)

    node_in : s.place.node < length bytes
    node_in = omega (arith, (differs_lengths classes (suc n) _ _ some).1, length-drop s.place.node bytes)

    turn : (x : Step) → x ≡ symbol_step table classes (drop s.place.at pattern) (drop s.place.node bytes) sought
        → walk_of room table classes pattern bytes s left ≡ walk_by x (walk_of (room - 1) table classes pattern bytes) s left
    turn x e =
        walk_suc table classes pattern bytes room s left (omega arith)
        ∙ ap (λ (y : Step). walk_by y (walk_of (room - 1) table classes pattern bytes) s left)
        (sym (symbol_is (alone s.frames) table classes pattern bytes (part_in_state s (variable_at pattern s.place.at)) s.place left children at_in
        elements node_in (λ z. omega (arith, z)) sought x
        (symbol_at sought (chain_symbol table pattern s.place.at at_in m n in_chain)) e))

    there : get_or (drop s.place.node bytes) 0 0 ≡ get_or bytes s.place.node 0
    there = ap (λ (l : List ℕ). get_or l 0 0) (drop-cons bytes s.place.node 0 node_in)

    chain_fails : same_byte classes false sought (get_or bytes s.place.node 0) ≡ false → WalkFails room s left (left - pairs (suc n) s.place)
    unfolding symbol_step walk_by
    chain_fails e =
        let one = differs_here classes n pattern bytes s.place.at s.place.node at_in node_in e in
        record { end = s; is = turn Fails (rw (there, e)) ∙ rw one }

    chain_enters : same_byte classes false sought (get_or bytes s.place.node 0) ≡ true → Claim n (m - 1) (room - 1) (opened s) (left - 1)
        → WalkFails room s left (left - pairs (suc n) s.place)
    unfolding walk_by
    chain_enters e next =
        let later = differs_later classes n pattern bytes s.place.at s.place.node at_in node_in e some in
        let more : 0 < n = omega (arith, later.0, differs_most classes n (drop (s.place.at + 1) pattern) (drop (s.place.node + 1) bytes)) in
        let further = chain_further table pattern s.place.at at_in m (n - 1) (omega (arith, in_chain, more)) in
        let w = next (omega (arith, further.rest, more)) later.0 (omega (arith, later.1, paid)) (omega arith) further.children
        further.children in
        let fixed = symbol_fixed table classes (drop s.place.at pattern) (drop s.place.node bytes) sought
        (ap (same_byte classes false sought) there ∙ e) (entry_of table sought) refl further.children further.fixed in
        let opens : walk_of room table classes pattern bytes s left ≡ walk_of (room - 1) table classes pattern bytes (opened s) (left - 1) =
        turn (Opens (entry_of table sought) (entry_of table sought) 1) fixed in
        let rest : left - 1 - pairs n (opened s).place ≡ left - pairs (suc n) s.place = omega (arith, later.1) in
        record { end = w.end; is = opens ∙ w.is ∙ ap (λ (l : ℕ). walked Failure l w.end) rest }

    chain_turn : (same : Bool) → same_byte classes false sought (get_or bytes s.place.node 0) ≡ same
        → Claim n (m - 1) (room - 1) (opened s) (left - 1) → WalkFails room s left (left - pairs (suc n) s.place)
    chain_turn true e next = chain_enters e next
    chain_turn false e next = chain_fails e

  chain_walk : (n m room : ℕ) (s : State) (left : ℕ) → Claim n m room s left
  unfolding differs_at
  chain_walk zero m room s left = λ in_chain some paid deep children elements. absurd (omega (arith, some))
  chain_walk (suc n) m room s left = λ in_chain some paid deep children elements.
      chain_turn n m room s left (omega (arith, in_chain)) some paid (omega (arith, deep)) children elements _ refl
      (chain_walk n (m - 1) (room - 1) (opened s) (left - 1))

-- An assigned part

module _ (table classes : List ℕ) where
  -- a part stands exactly where its bytes do
  stands_starts : (bytes : List ℕ) (had : Part) (r : List ℕ) → starts_of table classes (part_bytes bytes had) r ≡ false
      → stands_of table classes bytes had r ≡ false
  unfolding stands_of starts_of part_bytes same_part
  stands_starts bytes had r h = go (leb (had.offset + had.length) (length bytes)) refl h
    where
      go : (b : Bool) → leb (had.offset + had.length) (length bytes) ≡ b
          → leb (length (cond b (take had.length (drop had.offset bytes)) (take 0 bytes))) (length r)
          && same_part table classes false (cond b (take had.length (drop had.offset bytes)) (take 0 bytes))
          (take (length (cond b (take had.length (drop had.offset bytes)) (take 0 bytes))) r) ≡ false
          → leb had.length (length r)
          && same_part table classes false (cond b (take had.length (drop had.offset bytes)) (take 0 bytes)) (take had.length r) ≡ false
      go true e h =
          let w : had.length ≤ length (drop had.offset bytes) =
          omega (arith, leb-true (had.offset + had.length) (length bytes) e, length-drop had.offset bytes) in
          let l : length (take had.length (drop had.offset bytes)) ≡ had.length = length-take-le had.length (drop had.offset bytes) w in
          subst (λ (n : ℕ). leb n (length r) && same_part table classes false (take had.length (drop had.offset bytes)) (take n r) ≡ false) l h
      go false e h =
          let z : true ≡ false = subst (λ (x : Bool). x && true ≡ false) (le-leb 0 (length r) (omega arith)) h in absurd (true≢false z)

  -- only what is assigned does not stand somewhere
  starts_bit : (bytes : List ℕ) (assigned : ℕ) (parts : List ℕ) (v : ℕ) (r : List ℕ)
      → starts_of table classes (part_bytes bytes (part_in assigned parts v)) r ≡ false → bit assigned v ≡ true
  unfolding part_bytes
  starts_bit bytes assigned parts v r h = go (bit assigned v) refl h
    where
      go : (b : Bool) → bit assigned v ≡ b → starts_of table classes (part_bytes bytes (cond b (unpacked (get_or parts v 0)) absent)) r ≡ false
          → bit assigned v ≡ true
      go true e h = e
      go false e h = none (leb (65535 + 0) (length bytes)) h
        where
          none : (b : Bool) → starts_of table classes (cond b (take 0 (drop 65535 bytes)) (take 0 bytes)) r ≡ false → bit assigned v ≡ true
          none true i = absurd (true≢false (sym (starts_none table classes r) ∙ i))
          none false i = absurd (true≢false (sym (starts_none table classes r) ∙ i))

-- What the next child pattern wants: where the element fails against it, so does the level

module _ (k : ℕ) (table classes pattern bytes : List ℕ) (assigned : ℕ) (parts : List ℕ) (s : State) (left : ℕ) (deep : 0 < k)
    (shown : (w : ℕ) → w < variables → bit assigned w ≡ true → part_in_state s w ≡ part_in assigned parts w)
    (present : (w : ℕ) → w < variables → bit assigned w ≡ true → is_absent (part_in_state s w) ≡ false)
    (children : s.place.children ≡ 0 → ⊥) (at : s.place.at < length pattern) (elements : s.place.elements ≡ 0 → ⊥)
    (node : s.place.node < length bytes) where
  abbrev element : List ℕ
  element = drop s.place.node bytes

  -- a part is one pair
  part_fails : (v : ℕ) → variable_at pattern s.place.at ≡ v → v < variables
      → ((left ≡ 0 → ⊥) → is_absent (part_in_state s v) ≡ false → stands_of table classes bytes (part_in_state s v) element ≡ false
      → Fails ≡ step_at (alone s.frames) table classes pattern bytes (part_in_state s v) s.place left)
      → 0 < failing_of table classes 0 (part_bytes bytes (part_in assigned parts v)) element
      → failing_of table classes 0 (part_bytes bytes (part_in assigned parts v)) element ≤ left
      → level_of k table classes bytes pattern s left ≡ failed_at (left - failing_of table classes 0 (part_bytes bytes (part_in assigned parts v)) element)
  part_fails v is low step some paid =
      let apart = failing_apart table classes (part_bytes bytes (part_in assigned parts v)) element some in
      let a = starts_bit table classes bytes assigned parts v element apart.0 in
      level_fails k table classes pattern bytes s left deep
      (rw is (step (λ z. omega (arith, z, paid, apart.1)) (present v low a)
      (rw (shown v low a) (stands_starts table classes bytes (part_in assigned parts v) element apart.0))))
      ∙ ap (λ (n : ℕ). failed_at (left - n)) (sym apart.1)

  want_fails : {symbols : ℕ} {x : List ℕ} {plain : Bool} → Wants table pattern bytes assigned parts s.place.at symbols x plain
      → 0 < failing_of table classes symbols x element → failing_of table classes symbols x element ≤ left
      → level_of k table classes bytes pattern s left ≡ failed_at (left - failing_of table classes symbols x element)
  unfolding variable_at variable_in VariableBelow
  want_fails (Wants.symbol {b} e) some paid =
      let q = drop s.place.at pattern in
      let symbols = chain_of table most_symbols q in
      let is = failing_chain table classes q element symbols
      (chain_some table pattern s.place.at at most_symbols (omega arith) (ap is_symbol (sym e))) in
      let w = chain_walk table classes pattern bytes symbols most_symbols turns s left (omega arith) (omega (arith, is, some)) (omega (arith, is, paid))
      (omega (arith, chain_most table most_symbols q)) children elements in
      sym (level_stops k table classes pattern bytes s left Failure (left - differs_at classes symbols q element) w.end
      (failed_at (left - differs_at classes symbols q element)) deep w.is refl)
      ∙ ap (λ (n : ℕ). failed_at (left - n)) is
  want_fails (Wants.name {v} e) some paid =
      part_fails v (rw (some_left pattern s.place.at at, first_left pattern s.place.at, ← e) refl)
      (subst VariableBelow (sym e) (decode_below (get_or pattern s.place.at 0)))
      (λ z p a. name_fails (alone s.frames) table classes pattern bytes (part_in_state s v) s.place left children at elements node z p a v e) some paid
  want_fails (Wants.run {v} e) some paid =
      part_fails v (rw (some_left pattern s.place.at at, first_left pattern s.place.at, ← e) refl)
      (subst VariableBelow (sym e) (decode_below (get_or pattern s.place.at 0)))
      (λ z p a. run_fails (alone s.frames) table classes pattern bytes (part_in_state s v) s.place left children at elements node z p a v e) some paid

-- Lengths that are passed over

-- a length that fails with so many pairs, where another is left: it counts one more
tries_pass : (lv : State → ℕ → Reply) (table bytes : List ℕ) (v : ℕ) (s : State) (k n size left pairs : ℕ) → 0 < k → 1 + pairs ≤ left
    → lv (given s v n size) left ≡ failed_at (left - pairs)
    → tries_of lv table bytes v s k n size left
    ≡ tries_of lv table bytes v s (k - 1) (n + 1) (size + extent_of table (drop (s.place.node + size) bytes)) (left - (1 + pairs))
tries_pass lv table bytes v s k n size left pairs z h e =
    let a : left - pairs - 1 ≡ left - (1 + pairs) = omega arith in
    tries_more lv table bytes v s k n size left (failed_at (left - pairs)) z (sym e) refl (λ y. omega (arith, y)) ∙ rw a

module _ (lv : State → ℕ → Reply) (table classes bytes : List ℕ) (v : ℕ) (s : State) (symbols : ℕ) (x : List ℕ)
    (fails : (n size left : ℕ) → n < s.place.elements → 0 < length (drop (s.place.node + size) bytes)
    → 0 < failing_of table classes symbols x (drop (s.place.node + size) bytes)
    → failing_of table classes symbols x (drop (s.place.node + size) bytes) ≤ left
    → lv (given s v n size) left ≡ failed_at (left - failing_of table classes symbols x (drop (s.place.node + size) bytes))) where
  tries_skip : {r : List ℕ} {k sz count : ℕ} → Passes table classes symbols x r k sz count → (more n size left : ℕ)
      → r ≡ drop (s.place.node + size) bytes → k ≤ more → n + k ≤ s.place.elements → count ≤ left
      → tries_of lv table bytes v s more n size left ≡ tries_of lv table bytes v s (more - k) (n + k) (size + sz) (left - count)
  tries_skip Passes.none more n size left e a b c = tries_at lv table bytes v s (omega arith) (omega arith) (omega arith) (omega arith)
  tries_skip (Passes.more {r} {k} {size = sz} {count} low some p) more n size left e a b c =
      let there = drop (s.place.node + size) bytes in
      let one = extent_of table there in
      let pairs = failing_of table classes symbols x there in
      let is : failing_of table classes symbols x r ≡ pairs = ap (failing_of table classes symbols x) e in
      let i : s.place.node + size + one ≡ s.place.node + (size + one) = omega arith in
      tries_pass lv table bytes v s more n size left pairs (omega arith) (omega (arith, is, c))
      (fails n size left (omega arith) (subst (λ (l : List ℕ). 0 < length l) e low) (omega (arith, is, some)) (omega (arith, is, c)))
      ∙ tries_skip p (more - 1) (n + 1) (size + one) (left - (1 + pairs))
      (ap (λ (l : List ℕ). drop (extent_of table l) l) e ∙ drop-drop one (s.place.node + size) bytes ∙ ap (λ (m : ℕ). drop m bytes) i)
      (omega arith) (omega arith) (omega (arith, is, c))
      ∙ tries_at lv table bytes v s (omega arith) (omega arith) (omega (arith, ap (extent_of table) e)) (omega (arith, is))

-- what is assigned stays, since v is not
pub record Stays (assigned : ℕ) (parts : List ℕ) (v : ℕ) (s : State) : Type 0 where
  pub free : v < variables → bit assigned v ≡ false
  pub shown : (w : ℕ) → w < variables → bit assigned w ≡ true → part_in_state s w ≡ part_in assigned parts w
  pub present : (w : ℕ) → w < variables → bit assigned w ≡ true → is_absent (part_in_state s w) ≡ false

-- what is passed over lies within what is left
pub record Fair (p : Place) (left bytes : ℕ) (r : Skipped) : Type 0 where
  pub few : r.lengths ≤ p.elements
  pub paid : r.count ≤ left
  pub further : p.node ≤ r.node
  pub within : p.node ≤ bytes → r.node ≤ bytes

pub skips_fair : {table classes pattern bytes : List ℕ} {assigned : ℕ} {parts : List ℕ} {p : Place} {left : ℕ} {r : Skipped}
    → Skips table classes pattern bytes assigned parts p left r → Fair p left (length bytes) r
skips_fair (Skips.nothing e) =
    let lengths = ap (λ (x : Skipped). x.lengths) e in
    let node = ap (λ (x : Skipped). x.node) e in
    let count = ap (λ (x : Skipped). x.count) e in
    record { few = omega (arith, lengths); paid = omega (arith, count); further = omega (arith, node); within = λ h. omega (arith, h, node) }
skips_fair (Skips.some children at wants to) =
    record { few = to.few; paid = to.paid; further = omega (arith, to.ends); within = λ h. to.within }

module _ (table classes pattern bytes : List ℕ) (assigned : ℕ) (parts : List ℕ) (v : ℕ) (s : State) (k : ℕ) (deep : 0 < k)
    (stays : Stays assigned parts v s) where
  abbrev lv : State → ℕ → Reply
  lv = level_of k table classes bytes pattern

  same_part_holds : (n size w : ℕ) → w < variables → bit assigned w ≡ true → part_in_state (given s v n size) w ≡ part_in_state s w
  same_part_holds n size w low b = get_or-set_other s.parts v w _ (part 0 0 0) other
    where
      other : w ≡ v → ⊥
      other e = true≢false (sym b ∙ ap (bit assigned) e ∙ stays.free (subst (λ (i : ℕ). i < variables) e low))

  wanted_fails : {symbols : ℕ} {x : List ℕ} {plain : Bool} → Wants table pattern bytes assigned parts s.place.at symbols x plain
      → (s.place.children ≡ 0 → ⊥) → s.place.at < length pattern
      → (n size left : ℕ) → n < s.place.elements → 0 < length (drop (s.place.node + size) bytes)
      → 0 < failing_of table classes symbols x (drop (s.place.node + size) bytes)
      → failing_of table classes symbols x (drop (s.place.node + size) bytes) ≤ left
      → lv (given s v n size) left ≡ failed_at (left - failing_of table classes symbols x (drop (s.place.node + size) bytes))
  wanted_fails wants children at n size left few low some paid =
      want_fails k table classes pattern bytes assigned parts (given s v n size) left deep
      (λ w l b. same_part_holds n size w l b ∙ stays.shown w l b) (λ w l b. ap is_absent (same_part_holds n size w l b) ∙ stays.present w l b)
      children at (λ z. omega (arith, z)) (omega (arith, low, length-drop (s.place.node + size) bytes)) wants some paid

  module _ (n size left : ℕ) (many : n ≤ s.place.elements) where
    abbrev more : ℕ
    more = s.place.elements - n

    -- the lengths passed over are counted
    pub skip_tries : {r : Skipped} → Skips table classes pattern bytes assigned parts (given s v n size).place left r
        → tries_of lv table bytes v s more n size left
        ≡ tries_of lv table bytes v s (more - r.lengths) (n + r.lengths) (size + (r.node - (s.place.node + size))) (left - r.count)
    skip_tries {r} (Skips.nothing e) =
        let lengths = ap (λ (x : Skipped). x.lengths) e in
        let node = ap (λ (x : Skipped). x.node) e in
        let count = ap (λ (x : Skipped). x.count) e in
        tries_at lv table bytes v s (omega (arith, lengths)) (omega (arith, lengths)) (omega (arith, node)) (omega (arith, count))
    skip_tries {r} (Skips.some {symbols} {x} {plain} children at wants to) =
        tries_skip lv table classes bytes v s symbols x (wanted_fails wants (λ z. omega (arith, z, children)) at) to.passes more n size left refl to.few
        (omega (arith, to.few, many)) to.paid
        ∙ tries_at lv table bytes v s refl refl (omega (arith, to.ends)) refl

    -- and where none is left, a plain child pattern fails
    pub skip_over : {r : Skipped} → Skips table classes pattern bytes assigned parts (given s v n size).place left r → r.over ≡ true
        → tries_of lv table bytes v s more n size left ≡ failed_at (left - r.count)
    skip_over {r} (Skips.nothing e) o = absurd (true≢false (sym o ∙ ap (λ (x : Skipped). x.over) e))
    skip_over {r} (Skips.some children at wants to) o =
        let all = to.all o in
        let n' = n + r.lengths in
        let size' = size + (r.node - (s.place.node + size)) in
        skip_tries (Skips.some children at wants to)
        ∙ sym (tries_last lv table bytes v s (more - r.lengths) n' size' (left - r.count) (omega (arith, all.1)))
        ∙ level_stuck k table classes pattern bytes (given s v n' size') (left - r.count) deep
        (plain_none (alone s.frames) table classes pattern bytes _ (given s v n' size').place (left - r.count)
        (λ z. omega (arith, z, children)) at wants all.0 (omega (arith, all.1)))

-- What is passed over, as the code has it

pub skips_to : {table classes bytes x : List ℕ} {plain : Bool} {symbols elements node left k size count most : ℕ}
    → Passes table classes symbols x (take (length bytes - node) (drop node bytes)) k size count → k ≤ most
    → (most ≤ elements) × (dearest_of symbols * most ≤ left) → node ≤ length bytes
    → SkipsTo table classes bytes symbols x plain elements node left (skipped k (node + size) (plain && eqb k elements) count)
skips_to {table} {classes} {bytes} {x} {plain} {symbols} {elements} {node} {left} {k} {size} {count} p few h within = record {
  size = size;
  passes = subst (λ (l : List ℕ). Passes table classes symbols x l k size count) (rest_part node bytes) p;
  ends = refl;
  within = omega (arith, passes_within p, rest_length node bytes, within);
  few = omega (arith, few, h.0);
  paid = le_trans (passes_paid p) (le_trans (mul-le-mul_left (dearest_of symbols) few) h.1);
  all = λ e. let a = and_true plain (eqb k elements) e in (a.0, eqb-true k elements a.1);
}

own_part : {table classes bytes x : List ℕ} {plain : Bool} {elements node left : ℕ} {r : Skipped} {had had' : Part} → had ≡ had' → x ≡ part_bytes bytes had
    → SkipsTo table classes bytes 0 x plain elements node left r → SkipsTo table classes bytes 0 (part_bytes bytes had') plain elements node left r
own_part {table} {classes} {bytes} {x} {plain} {elements} {node} {left} {r} is_had is_x to =
    subst (λ (y : List ℕ). SkipsTo table classes bytes 0 y plain elements node left r) (is_x ∙ ap (part_bytes bytes) is_had) to

module _ {table classes pattern bytes : List ℕ} {assigned : ℕ} {parts : List ℕ} {p : Place} {left : ℕ} {r : Skipped} (children : 0 < p.children)
    (at : p.at < length pattern) (code : Code) (is_code : code ≡ decode_of (get_or pattern p.at 0)) where
  pub skips_symbol : {b symbols : ℕ} → code ≡ Symbol b → symbols ≡ chain_of table most_symbols (take (length pattern - p.at) (drop p.at pattern))
      → SkipsTo table classes bytes symbols (take (length pattern - p.at) (drop p.at pattern)) true p.elements p.node left r
      → Skips table classes pattern bytes assigned parts p left r
  skips_symbol {b} e is to =
      Skips.some children at (Wants.symbol {b = b} (sym e ∙ is_code))
      (subst (λ (q : List ℕ). SkipsTo table classes bytes (chain_of table most_symbols q) q true p.elements p.node left r)
      (rest_part p.at pattern)
      (subst (λ (n : ℕ). SkipsTo table classes bytes n (take (length pattern - p.at) (drop p.at pattern)) true p.elements p.node left r)
      is to))

  module _ {v : ℕ} {x : List ℕ} {had : Part} (is_had : had ≡ part_of assigned parts v) (is_x : x ≡ part_bytes bytes had) where
    pub skips_name : code ≡ Name v → SkipsTo table classes bytes 0 x true p.elements p.node left r
        → Skips table classes pattern bytes assigned parts p left r
    skips_name e to = Skips.some children at (Wants.name (sym e ∙ is_code)) (own_part (is_had ∙ name_part assigned parts _ (sym e ∙ is_code)) is_x to)

    pub skips_run : code ≡ Run v → SkipsTo table classes bytes 0 x false p.elements p.node left r
        → Skips table classes pattern bytes assigned parts p left r
    skips_run e to = Skips.some children at (Wants.run (sym e ∙ is_code)) (own_part (is_had ∙ run_part assigned parts _ (sym e ∙ is_code)) is_x to)

-- a part is lengthened by an element, and by those that are passed over behind it
pub lengthens : {table classes pattern bytes : List ℕ} {assigned : ℕ} {parts : List ℕ} {v : ℕ} {p : Place} {left e x : ℕ} {one last : Place} {k : Skipped}
    → e ≡ extent_of table (take (length bytes - p.node) (drop p.node bytes)) → one ≡ behind_in p 1 (p.node + e)
    → Skips table classes pattern bytes assigned parts one left k → last ≡ behind_in one k.lengths k.node
    → x ≡ get_or parts v 0 + 65536 * (k.node - p.node) + 4294967296 * (1 + k.lengths)
    → Lengthens table classes pattern bytes assigned parts v p left (set parts v x)
    (record { place = last; left = left - k.count; over = k.over })
lengthens {table} {classes} {pattern} {bytes} {assigned} {parts} {v} {p} {left} {k = k} is-e is_one skips is_last is_x = record {
  further = k;
  skips = subst (λ (y : Place). Skips table classes pattern bytes assigned parts y left k)
      (is_one ∙ ap (λ (i : ℕ). behind_in p 1 (p.node + i)) (is-e ∙ ap (extent_of table) (rest_part p.node bytes))) skips;
  place =
      let z : p.elements - 1 - k.lengths ≡ p.elements - (1 + k.lengths) = omega arith in
      is_last ∙ ap (λ (y : Place). behind_in y k.lengths k.node) is_one ∙ ap (λ (i : ℕ). place p.children i p.at k.node) z;
  paid = refl;
  over = refl;
  written = ap (set parts v) is_x;
}

-- from a run name's place on
pub behind_passed : (p q : Place) (n node : ℕ) → q ≡ place_past p 0 1 0 → p.node ≤ node → behind_in q n node ≡ place_past p n 1 (node - p.node)
behind_passed p q n node e h =
    let a : p.elements - 0 - n ≡ p.elements - n = omega arith in
    let b : node ≡ p.node + (node - p.node) = omega arith in
    ap (λ (y : Place). behind_in y n node) e ∙ ap (λ (i : ℕ). place (p.children - 1) i (p.at + 1) node) a
    ∙ ap (place (p.children - 1) (p.elements - n) (p.at + 1)) b

-- The last child pattern of a node

module _ (table classes pattern bytes : List ℕ) (v m : ℕ) (s : State) (some : 0 < m) (last : s.place.children ≡ 1) where
  abbrev level : State → ℕ → Reply
  level = level_of m table classes bytes pattern

  -- elements left over fail uncounted
  leaves_over : (n size left : ℕ) → n < s.place.elements → level (tried s v n size) left ≡ failed_at left
  unfolding step_at step_of over_step
  leaves_over n size left h =
      level_stuck m table classes pattern bytes (tried s v n size) left some
      (rw (eq-eqb (s.place.children - 1) 0 (omega arith), ne_eqb (s.place.elements - n) 0 (λ e. omega (arith, e))))

  -- one element and then k more, from so many bytes on
  elements_step : (node size k : ℕ)
      → size + span_of table (drop (node + size) bytes) false (suc k)
      ≡ size + extent_of table (drop (node + size) bytes)
      + span_of table (drop (node + (size + extent_of table (drop (node + size) bytes))) bytes) false k
  elements_step node size k =
      let e = extent_of table (drop (node + size) bytes) in
      let a : node + size + e ≡ node + (size + e) = omega arith in
      let c : span_of table (drop e (drop (node + size) bytes)) false k ≡ span_of table (drop (node + (size + e)) bytes) false k =
      ap (λ (l : List ℕ). span_of table l false k) (drop-drop e (node + size) bytes ∙ ap (λ (x : ℕ). drop x bytes) a) in
      omega (arith, span_next table (drop (node + size) bytes) k, c)

  -- a run name there takes all elements that are left, and counts every length
  pub lengths_last : (k n size left : ℕ) → n + k ≡ s.place.elements → k < left
      → lengths_of level table bytes v s k n size left
      ≡ level (tried s v s.place.elements (size + span_of table (drop (s.place.node + size) bytes) false k)) (left - (k + 1))
  unfolding lengths_of
  lengths_last zero n size left e h =
      let a : n ≡ s.place.elements = omega (arith, e) in
      let c : size + span_of table (drop (s.place.node + size) bytes) false 0 ≡ size = omega (arith, span_none table (drop (s.place.node + size) bytes)) in
      rw (ne_eqb left 0 (λ z. omega (arith, z)), c, a)
  lengths_last (suc k) n size left e h =
      let d : left - 1 - (k + 1) ≡ left - (suc k + 1) = omega arith in
      rw (ne_eqb left 0 (λ z. omega (arith, z)), leaves_over n size (left - 1) (omega (arith, e)))
      (lengths_last k (n + 1) (size + extent_of table (drop (s.place.node + size) bytes)) (left - 1) (omega (arith, e)) (omega arith)
      ∙ rw (d, elements_step s.place.node size k))

  pub lengths_last_spent : (k n size left : ℕ) → n + k ≡ s.place.elements → left ≤ k → lengths_of level table bytes v s k n size left ≡ spent_at 0
  unfolding lengths_of
  lengths_last_spent zero n size left e h = let a : left ≡ 0 = omega arith in rw a refl
  lengths_last_spent (suc k) n size zero e h = refl
  lengths_last_spent (suc k) n size (suc left) e h =
      rw (ne_eqb (suc left) 0 (λ z. omega (arith, z)), leaves_over n size (suc left - 1) (omega (arith, e)))
      (lengths_last_spent k (n + 1) (size + extent_of table (drop (s.place.node + size) bytes)) (suc left - 1) (omega (arith, e)) (omega arith))
