-- The laws of a level's first pair, where it decides the level.
use Prim.Native.Nat.{ℕ, ◌+◌, ◌-◌, ◌<◌, ◌≤◌}
use native.Mathlib.Omega.{arith}
use native.Mathlib.Nat.{pos_of_ne-zero}
use mathlib.Core.Path.{◌≡◌, refl, sym, ap, subst, ◌∙◌}
use mathlib.Core.Bool.{true, false, and-false}
use mathlib.Core.List.{List, [], ◌∷◌}
use lib.ListN.{length, get_or, take, drop, set}
use lib.Dec.{leb}
use borrow.Author.Tests.{le-leb}
use lib.Seq.{get_or-drop}
use Rattle.answers.specs.Part.{part, is_absent, bound_part}
use Rattle.answers.specs.declared.Part.{Part}
use Rattle.term.proofs.Lists.{rest_part}
use Rattle.term.specs.Same.{same_byte}
use Rattle.term.specs.Code.{variables, decode_of}
use Rattle.term.specs.Extent.{entry_of, extent_of}
use Rattle.term.specs.declared.Code.{Code}
use Rattle.term.specs.declared.Code.TheVariants.{Symbol, Name}
use Rattle.steps.specs.Turn.{step_of, stands_of, symbol_step, assigned_step, name_step, pair_step, code_step, over_step}
use Rattle.search.specs.State.{turns, PutBy, State, place, state, place_past, part_in_state, walked, step_at, variable_at, walk_by, walk_of}
use Rattle.search.specs.declared.place.Remaining.{Remaining}
use Rattle.search.specs.Level.{reply, failed_at, start_of, complements_of, level_of, end_of}
use Rattle.search.specs.Inner.Replies.{turned, reply_with, opposite_of, inside_in, EndsAtOnce, EndsInside, ComplementIs}
use Rattle.parts.specs.Packed.{part_in, part_of}
use Rattle.parts.proofs.Shown.{part_below}
use Rattle.search.specs.Inner.Memory.{Linked, Queued}
use Rattle.search.specs.Inner.Lent.{Handed, lent_of, ◌⇒◌, level_in}
use Rattle.search.specs.declared.marks.Marks.{Marks}
use Rattle.steps.specs.declared.Step.{Step}
use Rattle.steps.specs.declared.Step.TheVariants.{Fails, Passes, Binds}
use Rattle.steps.specs.declared.Stop.TheVariants.{Failure, NoPair}
use Rattle.search.specs.declared.Ended.{Ended}
use Rattle.search.specs.declared.Finding.{Finding}
use Rattle.search.specs.declared.Finding.TheVariants.{Found, Failed, Spent}
use Rattle.steps.proofs.Turns.{symbol_leaf}
use Rattle.search.proofs.Steps.{plain_pair, step_at_holds}
use Rattle.search.proofs.Walks.{walk_suc}
use Rattle.search.proofs.Kept.{kept_all}
use Rattle.search.proofs.Skips.{level_fails}
use Rattle.search.proofs.Tries.{level_stops}
use Rattle.search.proofs.Levels.{taken, inside_is}

module _ (table classes pattern bytes : List ℕ) (node left b : ℕ) (some : left ≡ 0 → ⊥) (codes : 0 < length pattern) (within : node < length bytes)
    (code : Code) (is_code : code ≡ decode_of (get_or pattern 0 0)) (is_symbol : code ≡ Symbol b) where
  -- pattern and record from the pair on, as the step takes them
  abbrev here : List ℕ
  here = take (length pattern - 0) (drop 0 pattern)

  abbrev there : List ℕ
  there = take (length bytes - node) (drop node bytes)

  there_first : get_or there 0 0 ≡ get_or bytes node 0
  there_first =
      let z : node + 0 ≡ node = omega arith in
      ap (λ (l : List ℕ). get_or l 0 0) (rest_part node bytes) ∙ get_or-drop node bytes 0 0 ∙ ap (λ (i : ℕ). get_or bytes i 0) z

  -- the first turn
  first_step : (shown : List Part) (x : Step) → x ≡ symbol_step table classes here there b
      → x ≡ step_at true table classes pattern bytes (part_in_state (start_of shown node) (variable_at pattern 0)) (place 1 1 0 node) left
  unfolding pair_step code_step
  first_step shown x e =
      step_at_holds true table classes pattern bytes (part_in_state (start_of shown node)) (place 1 1 0 node) left (Symbol b) x (λ z. omega arith) codes
      (sym is_symbol ∙ is_code)
      (plain_pair true (Symbol b) table classes pattern bytes _ (place 1 1 0 node) left x (λ z. omega arith) within some e)

  walk_differs : (shown : List Part) → Fails ≡ symbol_step table classes here there b
      → walk_of turns table classes pattern bytes (start_of shown node) left ≡ walked Failure (left - 1) (start_of shown node)
  unfolding walk_by
  walk_differs shown e =
      walk_suc table classes pattern bytes turns (start_of shown node) left (omega arith) ∙ rw (← first_step shown Fails e)

  walk_agrees : (shown : List Part) → Passes 1 1 ≡ symbol_step table classes here there b
      → walk_of turns table classes pattern bytes (start_of shown node) left
      ≡ walked NoPair (left - 1) (state shown [] [] (place_past (place 1 1 0 node) 1 1 1))
  unfolding walk_by step_at step_of over_step
  walk_agrees shown e =
      walk_suc table classes pattern bytes turns (start_of shown node) left (omega arith)
      ∙ rw (← first_step shown (Passes 1 1) e)
      (walk_suc table classes pattern bytes (turns - 1) (state shown [] [] (place_past (place 1 1 0 node) 1 1 1)) (left - 1) (omega arith))

  pub symbol_differs : same_byte classes false b (get_or bytes node 0) ≡ false → EndsAtOnce table classes pattern bytes node left Failed
  unfolding symbol_step
  symbol_differs n = record {
    some = pos_of_ne-zero some;
    ends = λ shown k h. sym (
        level_stops k table classes pattern bytes (start_of shown node) left Failure (left - 1) (start_of shown node) (failed_at (left - 1)) h
        (walk_differs shown (rw (there_first, n))) refl);
  }

  pub symbol_agrees : same_byte classes false b (get_or bytes node 0) ≡ true → (e : ℕ) → e ≡ entry_of table b → e ≡ 0 → EndsAtOnce table classes pattern bytes node left Found
  unfolding complements_of
  symbol_agrees s e entry z = record {
    some = pos_of_ne-zero some;
    ends = λ shown k h. sym (
        level_stops k table classes pattern bytes (start_of shown node) left NoPair (left - 1) (state shown [] [] (place_past (place 1 1 0 node) 1 1 1))
        (reply Found (left - 1) shown) h
        (walk_agrees shown (symbol_leaf table classes here there b (rw there_first s) e entry z)) refl);
  }

end_with : (o : Finding) (left : ℕ) (shown : List Part) → end_of (reply_with o left shown) ≡ record { outcome = o; left = left }
end_with Found left shown = refl
end_with Failed left shown = refl
end_with Spent left shown = refl

-- A name

module _ (table classes pattern bytes : List ℕ) (assigned : ℕ) (parts : List ℕ) (node left v : ℕ) (some : left ≡ 0 → ⊥) (codes : 0 < length pattern)
    (within : node < length bytes) (code : Code) (is_code : code ≡ decode_of (get_or pattern 0 0)) (is_name : code ≡ Name v) (low : v < variables)
    (had : Part) (is_had : had ≡ part_of assigned parts v) where
  abbrev from : List ℕ
  from = take (length bytes - node) (drop node bytes)

  abbrev Shows : List Part → Type 0
  Shows shown = (w : ℕ) → w < variables → get_or shown w (part 0 0 0) ≡ part_in assigned parts w

  name_step_holds : (shown : List Part) → Shows shown → (x : Step) → x ≡ name_step table classes bytes from v had 1
      → x ≡ step_at true table classes pattern bytes (part_in_state (start_of shown node) (variable_at pattern 0)) (place 1 1 0 node) left
  unfolding pair_step code_step
  name_step_holds shown all x e =
      step_at_holds true table classes pattern bytes (part_in_state (start_of shown node)) (place 1 1 0 node) left (Name v) x (λ z. omega arith) codes
      (sym is_name ∙ is_code)
      (plain_pair true (Name v) table classes pattern bytes _ (place 1 1 0 node) left x (λ z. omega arith) within some
      (e ∙ ap (λ (h : Part). name_step table classes bytes from v h 1) (is_had ∙ part_below assigned parts v low ∙ sym (all v low))))

  -- it takes the node, with these parts, and no pair is left
  taken_whole : (shown shown' : List Part) (size n : ℕ) → 0 < n
      → walk_of turns table classes pattern bytes (start_of shown node) left
      ≡ walk_of (turns - 1) table classes pattern bytes (state shown' [] [] (place_past (place 1 1 0 node) 1 1 size)) (left - 1)
      → end_of (level_of n table classes bytes pattern (start_of shown node) left) ≡ record { outcome = Found; left = left - 1 }
  unfolding walk_by step_at step_of over_step complements_of
  taken_whole shown shown' size n h e =
      sym (ap end_of (level_stops n table classes pattern bytes (start_of shown node) left NoPair (left - 1)
      (state shown' [] [] (place_past (place 1 1 0 node) 1 1 size)) (reply Found (left - 1) shown') h
      (e ∙ walk_suc table classes pattern bytes (turns - 1) (state shown' [] [] (place_past (place 1 1 0 node) 1 1 size)) (left - 1) (omega arith)) refl))

  pub name_free : is_absent had ≡ true → EndsInside table classes pattern bytes assigned parts node left Found
  unfolding name_step walk_by
  name_free a = record {
    some = pos_of_ne-zero some;
    ends = λ shown all n h.
        taken_whole shown (set shown v (bound_part node (extent_of table from) 1)) (extent_of table from) n h
        (walk_suc table classes pattern bytes turns (start_of shown node) left (omega arith)
        ∙ rw (← name_step_holds shown all (Binds v (extent_of table from)) (rw a)));
  }

  module _ (a : is_absent had ≡ false) where
    pub name_stands : had.elements ≡ 1 → stands_of table classes bytes had from ≡ true
        → EndsInside table classes pattern bytes assigned parts node left Found
    unfolding name_step assigned_step walk_by
    name_stands one b = record {
      some = pos_of_ne-zero some;
      ends = λ shown all n h.
          taken_whole shown shown had.length n h
          (walk_suc table classes pattern bytes turns (start_of shown node) left (omega arith)
          ∙ rw (← name_step_holds shown all (Passes 1 had.length) (subst (λ (k : ℕ). Passes k had.length ≡ name_step table classes bytes from v had 1) one
          (rw (a, b, le-leb had.elements 1 (omega (arith, one)))))));
    }

    pub name_differs : stands_of table classes bytes had from ≡ false → EndsInside table classes pattern bytes assigned parts node left Failed
    unfolding name_step assigned_step
    name_differs b = record {
      some = pos_of_ne-zero some;
      ends = λ shown all n h.
          ap end_of (level_fails n table classes pattern bytes (start_of shown node) left h
          (name_step_holds shown all Fails (rw (a, b, and-false (leb had.elements 1)))));
    }

-- where any parts are right, those that the buffers hold are
pub ends_inside : {table classes pattern bytes : List ℕ} {assigned : ℕ} {parts : List ℕ} {node left : ℕ} {o : Finding}
    → EndsAtOnce table classes pattern bytes node left o → EndsInside table classes pattern bytes assigned parts node left o
ends_inside {left = left} {o = o} d = record {
  some = d.some;
  ends = λ shown all n h. ap end_of (d.ends shown n h) ∙ end_with o (left - 1) shown;
}

-- a level that starts has no node open and nothing put by
starts : (stack : List ℕ) (end node : ℕ) (s : State) → Linked stack 0 s.frames → Queued stack end end s.waiting → s.place ≡ place 1 1 0 node
    → s ≡ start_of s.parts node
starts stack end node s l q e =
    ap (λ (fs : List Remaining). state s.parts fs s.waiting s.place) (none_open s.frames l)
    ∙ ap (λ (cs : List PutBy). state s.parts [] cs s.place) (none_put s.waiting q)
    ∙ ap (state s.parts [] []) e
  where
    none_open : (fs : List Remaining) → Linked stack 0 fs → fs ≡ []
    none_open [] h = refl
    none_open (f ∷ fs) h = absurd (omega (arith, h.0))

    none_put : (cs : List PutBy) → Queued stack end end cs → cs ≡ []
    none_put [] h = refl
    none_put (c ∷ cs) h = absurd (omega (arith, h.0))

-- a complement whose inside ends at its first pair
pub complement_ends : (inp : Handed) (d : PutBy) (within : d.at + 1 + d.size ≤ length inp.pattern) (assigned left : ℕ) (parts stack : List ℕ) (m : Marks)
    {o o' : Finding} → EndsInside inp.table inp.classes (taken inp.pattern d within) inp.bytes assigned parts d.node left o → o' ≡ turned o
    → ComplementIs inp (lent_of assigned left parts stack ⇒ lent_of assigned (left - 1) parts stack) d m o'
complement_ends inp d within assigned left parts stack m {o} {o'} ends e = record {
  replies = λ s h n l.
      rw e
      (ap (λ (y : Ended). ended (turned y.outcome) y.left) (sym (ends.ends s.parts h.shown n (omega (arith, l))))
      ∙ ap (λ (q : List ℕ). opposite_of (level_of n inp.table inp.classes inp.bytes q (start_of s.parts d.node) left)) (inside_is inp.pattern d within)
      ∙ ap (λ (y : State). opposite_of (level_in (inside_in inp d) n y left)) (sym (starts stack m.waiting d.node s h.linked h.queued h.place)));
  kept = kept_all;
}
  where
    ended : Finding → ℕ → Ended
    ended x l = record { outcome = x; left = l }
