-- What a call leaves alone, and what its caller then holds again: why nothing is undone.
-- Assumes nothing.
use Prim.Native.Nat.{ℕ, ◌+◌, ◌-◌, ◌%◌, ◌^◌, ◌<◌, ◌≤◌}
use native.Mathlib.Omega.{arith}
use native.Mathlib.Nat.{lt_of_lt_of_le, zero-div}
use mathlib.Core.Path.{◌≡◌, refl, sym, ap, subst, ◌∙◌}
use mathlib.Core.List.{List}
use mathlib.Core.Bool.{Bool, true, false, cond, true≢false}
use lib.Bits.{bit_or}
use lib.ListN.{length, get_or, set, replicate, length-set, length-replicate, get_or-replicate}
use lib.Seq.{get_or-set_same, get_or-set_other}
use lib.Dec.{eqb}
use borrow.Author.Tests.{eqb-true, eqb-false}
use Rattle.answers.specs.Part.{part, absent, bound_part}
use Rattle.term.specs.Limits.{longest_record, longest_pattern}
use Rattle.term.specs.Code.{variables}
use Rattle.search.specs.State.{PutBy, State, place, state, place_past}
use Rattle.search.specs.Level.{start_of}
use Rattle.parts.specs.Packed.{bit, packed, unpacked, part_in, parts_in}
use Rattle.search.specs.Inner.Memory.{marks, Inside, Sized, LiesIn, Kept}
use Rattle.search.specs.Inner.Replies.{given, inside, Assignable}
use Rattle.search.specs.declared.place.Place.{Place}
use Rattle.search.specs.declared.marks.Marks.{Marks}
use Rattle.parts.proofs.Shown.{parts_shown}
use Rattle.search.proofs.Buffers.{linked_kept, queued_kept}
use Rattle.search.proofs.Held.{holds_moved, holds_assigned}

-- nothing is changed
pub kept_all : {assigned : ℕ} {m : Marks} {parts stack : List ℕ} → Kept assigned m parts stack parts stack
kept_all = record { of_parts = λ v l b. refl; of_frames = λ i l. refl; of_waiting = λ i l. refl; sized = λ z. z }

-- a variable has the number already that is written as its part
pub kept_back : {assigned : ℕ} {m : Marks} {parts stack : List ℕ} (v x : ℕ) → v < length parts → (v < variables → get_or parts v 0 ≡ x)
    → Kept assigned m (set parts v x) stack parts stack
kept_back {parts = parts} {stack = stack} v x l h = record {
  of_parts = λ w low b. by w low (eqb v w) refl;
  of_frames = λ i l. refl;
  of_waiting = λ i l. refl;
  sized = λ z. record { of_parts = sym (length-set parts v x) ∙ z.of_parts; of_stack = z.of_stack };
}
  where
    by : (w : ℕ) → w < variables → (c : Bool) → eqb v w ≡ c → get_or parts w 0 ≡ get_or (set parts v x) w 0
    by w low true e =
        let i : v ≡ w = eqb-true v w e in
        rw (← i) (h (subst (λ (u : ℕ). u < variables) (sym i) low) ∙ sym (get_or-set_same parts v x 0 l))
    by w low false e = let d = eqb-false v w e in sym (get_or-set_other parts v w x 0 (λ i. d (sym i)))

-- one call after another, that has at least as much to keep
pub kept_then : {assigned assigned₁ : ℕ} {m m₁ : Marks} {parts stack parts₁ stack₁ parts₂ stack₂ : List ℕ}
    → ((v : ℕ) → bit assigned v ≡ true → bit assigned₁ v ≡ true) → m.frames ≤ m₁.frames → m.waiting ≤ m₁.waiting
    → Kept assigned m parts stack parts₁ stack₁ → Kept assigned₁ m₁ parts₁ stack₁ parts₂ stack₂
    → Kept assigned m parts stack parts₂ stack₂
kept_then still f w k l = record {
  of_parts = λ v h b. l.of_parts v h (still v b) ∙ k.of_parts v h b;
  of_frames = λ i h. l.of_frames i (lt_of_lt_of_le h f) ∙ k.of_frames i h;
  of_waiting = λ i h. l.of_waiting i (lt_of_lt_of_le h w) ∙ k.of_waiting i h;
  sized = λ z. l.sized (k.sized z);
}

module _ {assigned : ℕ} {m : Marks} {parts stack parts' stack' : List ℕ}
    (k : Kept assigned m parts stack parts' stack') where
  pub part_kept : (v : ℕ) → v < variables → part_in assigned parts' v ≡ part_in assigned parts v
  part_kept v h = by (bit assigned v) refl
    where
      by : (b : Bool) → bit assigned v ≡ b → cond b (unpacked (get_or parts' v 0)) absent ≡ cond b (unpacked (get_or parts v 0)) absent
      by true e = ap unpacked (k.of_parts v h e)
      by false e = refl

  -- THE INVARIANT HOLDS AGAIN after a call that leaves alone what it must
  pub restored : {codes bytes : ℕ} {p : Place} {s : State}
      → LiesIn codes bytes assigned parts stack m p s → LiesIn codes bytes assigned parts' stack' m p s
  restored {s = s} h = record {
    place = h.place;
    all_variables = h.all_variables;
    shown = λ v l. h.shown v l ∙ sym (part_kept v l);
    present = h.present;
    linked = linked_kept stack stack' m.frames k.of_frames m.inner s.frames h.innermost h.linked;
    innermost = h.innermost;
    queued = queued_kept stack stack' m.waiting k.of_waiting m.first s.waiting h.queued;
    insides = h.insides;
    at = h.at;
    node = h.node;
    room = h.room;
    sized = k.sized h.sized;
  }

-- past a run name
abbrev pub past : State → State
past s = state s.parts s.frames s.waiting (place_past s.place 0 1 0)

pub past_holds : {codes bytes assigned : ℕ} {parts stack : List ℕ} {m : Marks} {p : Place} {s : State} → p.at < codes
    → LiesIn codes bytes assigned parts stack m p s → LiesIn codes bytes assigned parts stack m (place_past p 0 1 0) (past s)
past_holds {p = p} l h = rw h.place (holds_moved h (place_past p 0 1 0) (omega arith) (omega arith) (omega (arith, h.node)))

-- One more variable is assigned

pub none_free : {assigned : ℕ} → Assignable assigned variables
none_free = record { below = omega arith; free = λ l. absurd (omega (arith, l)) }

-- v is given n elements of so many bytes
module _ (assigned v offset size n : ℕ) (offset_fits : offset ≤ longest_record) (v_fits : v ≤ variables) (n_fits : n < 256) where
  pub given_holds : {codes bytes : ℕ} {parts stack : List ℕ} {m : Marks} {s : State} → s.place.node ≡ offset → offset + size ≤ bytes
      → LiesIn codes bytes assigned parts stack m s.place s
      → LiesIn codes bytes (bit_or assigned (2 ^ v)) (set parts v (packed (bound_part offset size n))) stack m (given s v n size).place (given s v n size)
  given_holds {s = s} o w h =
      let moved = holds_moved h (place s.place.children (s.place.elements - n) s.place.at (offset + size)) (omega arith) h.at w in
      rw o (holds_assigned moved v offset size n v_fits offset_fits n_fits)

-- a level's start within another

pub start_holds : {codes bytes assigned : ℕ} {parts stack : List ℕ} {m : Marks} {p : Place} {s : State} (c : PutBy)
    → LiesIn codes bytes assigned parts stack m p s → Inside codes bytes p.at m c
    → LiesIn c.size bytes assigned parts stack (inside m) (place 1 1 0 c.node) (start_of s.parts c.node)
start_holds c h i = record {
  place = refl;
  all_variables = h.all_variables;
  shown = h.shown;
  present = h.present;
  linked = refl;
  innermost = omega arith;
  queued = refl;
  insides = tt;
  at = omega arith;
  node = i.node;
  room = omega (arith, i.room);
  sized = h.sized;
}

-- and the whole pattern's, with nothing assigned
pub first_holds : (codes bytes : ℕ) (parts stack : List ℕ) → codes ≤ longest_pattern → Sized parts stack
    → LiesIn codes bytes 0 parts stack (marks 0 0 0 0) (place 1 1 0 0) (start_of (replicate variables absent) 0)
first_holds codes bytes parts stack h z = record {
  place = refl;
  all_variables = length-replicate variables absent;
  shown = λ v l. get_or-replicate variables v absent (part 0 0 0) l ∙ rw (none v);
  present = λ v l b. absurd (true≢false (sym b ∙ none v));
  linked = refl;
  innermost = omega arith;
  queued = refl;
  insides = tt;
  at = omega arith;
  node = omega arith;
  room = omega arith;
  sized = z;
}
  where
    none : (v : ℕ) → bit 0 v ≡ false
    none v = ap (λ (x : ℕ). eqb (x % 2) 1) (zero-div (2 ^ v))

-- the parts shown are the state's

pub state_shown : {codes bytes assigned : ℕ} {parts stack : List ℕ} {m : Marks} {p : Place} {s : State}
    → LiesIn codes bytes assigned parts stack m p s → s.parts ≡ parts_in assigned parts 0 variables
state_shown {assigned = assigned} {parts = parts} {s = s} h =
    parts_shown assigned parts 0 variables s.parts h.all_variables (λ i l. let z : 0 + i ≡ i = omega arith in h.shown i l ∙ ap (part_in assigned parts) (sym z))
