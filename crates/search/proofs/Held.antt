-- The buffers hold the state after each step, and keep what they must keep.
-- Assumes nothing.
use Prim.Native.Nat.{ℕ, ◌+◌, ◌-◌, ◌%◌, ◌^◌, ◌<◌, ◌≤◌}
use native.Mathlib.Nat.{le_refl}
use native.Mathlib.Omega.{arith}
use mathlib.Core.Bool.{Bool, true, false, true≢false}
use mathlib.Core.List.{List, [], ◌∷◌, ◌++◌}
use mathlib.Core.Path.{◌≡◌, refl, sym, ap, subst, ◌∙◌}
use lib.Bits.{bit_or}
use lib.Dec.{eqb}
use lib.ListN.{length, get_or, set, length-set}
use lib.Seq.{get_or-set_same, get_or-set_other}
use borrow.Author.Tests.{eqb-true, eqb-false, ne_eqb}
use Rattle.answers.specs.Part.{nowhere, part, is_absent, bound_part}
use Rattle.answers.specs.declared.Part.{Part}
use Rattle.term.specs.Limits.{longest_record}
use Rattle.term.specs.Code.{variables}
use Rattle.parts.specs.Packed.{bit, packed, part_in}
use Rattle.search.specs.Inner.Memory.{frame_in, outer, opened_marks, closed_marks, Linked, put_by_in, put_by_marks, LiesIn, Kept}
use Rattle.search.specs.State.{PutBy, State, remaining, put_by, state, place_past, entered, reopened}
use Rattle.search.specs.declared.place.Remaining.{Remaining}
use Rattle.search.specs.declared.marks.Marks.{Marks}
use Rattle.search.specs.declared.place.Place.{Place}
use Rattle.search.proofs.Asks.{Takes}
use Rattle.search.proofs.Buffers.{below_set, back_set, frame_apart, complement_apart, sized_part, sized_stack, linked_kept, linked_push, queued_kept, queued_push, insides_on, insides_push}
use Rattle.parts.proofs.Masks.{bit_new, bit_other, part_back}

-- Variables: v is assigned n elements of so many bytes

module _ (assigned v node size n : ℕ) (parts : List ℕ) (vs : List Part) where
  shown_assigned : v < length parts → n < 256 → length vs ≡ variables
      → ((w : ℕ) → w < variables → get_or vs w (part 0 0 0) ≡ part_in assigned parts w) → (w : ℕ) → w < variables
      → get_or (set vs v (bound_part node size n)) w (part 0 0 0) ≡ part_in (bit_or assigned (2 ^ v)) (set parts v (packed (bound_part node size n))) w
  shown_assigned room small many h w low = by (eqb v w) refl
    where
      by : (b : Bool) → eqb v w ≡ b
          → get_or (set vs v (bound_part node size n)) w (part 0 0 0) ≡ part_in (bit_or assigned (2 ^ v)) (set parts v (packed (bound_part node size n))) w
      by true e =
          let i : v ≡ w = eqb-true v w e in
          rw (← i, bit_new assigned v, get_or-set_same parts v (packed (bound_part node size n)) 0 room, part_back node size n small)
          (get_or-set_same vs v (bound_part node size n) (part 0 0 0) (omega arith))
      by false e =
          let d = eqb-false v w e in
          rw (bit_other assigned v w d, get_or-set_other parts v w (packed (bound_part node size n)) 0 (λ i. d (sym i)))
          (get_or-set_other vs v w (bound_part node size n) (part 0 0 0) (λ i. d (sym i)) ∙ h w low)

  present_assigned : node ≤ longest_record → length vs ≡ variables
      → ((w : ℕ) → w < variables → bit assigned w ≡ true → is_absent (get_or vs w (part 0 0 0)) ≡ false) → (w : ℕ) → w < variables
      → bit (bit_or assigned (2 ^ v)) w ≡ true → is_absent (get_or (set vs v (bound_part node size n)) w (part 0 0 0)) ≡ false
  present_assigned low_node many h w low b = by (eqb v w) refl
    where
      by : (c : Bool) → eqb v w ≡ c → is_absent (get_or (set vs v (bound_part node size n)) w (part 0 0 0)) ≡ false
      by true e =
          let i : v ≡ w = eqb-true v w e in
          rw (← i, get_or-set_same vs v (bound_part node size n) (part 0 0 0) (omega arith)) (ne_eqb (node % 65536) nowhere (λ z. omega arith))
      by false e =
          let d = eqb-false v w e in
          rw (get_or-set_other vs v w (bound_part node size n) (part 0 0 0) (λ i. d (sym i))) (h w low (sym (bit_other assigned v w d) ∙ b))

-- Two laws for every step: the place moves on, and v is assigned n elements of so many bytes

module _ {codes bytes assigned : ℕ} {parts stack : List ℕ} {m : Marks} {p : Place} {s : State} (h : LiesIn codes bytes assigned parts stack m p s) where
  pub holds_moved : (q : Place) → p.at ≤ q.at → q.at ≤ codes → q.node ≤ bytes
      → LiesIn codes bytes assigned parts stack m q (state s.parts s.frames s.waiting q)
  holds_moved q further at node =
      let room = h.room in
      record {
        sized = h.sized;
        place = refl;
        all_variables = h.all_variables;
        shown = h.shown;
        present = h.present;
        linked = h.linked;
        innermost = h.innermost;
        queued = h.queued;
        insides = insides_on codes bytes p.at q.at m m (omega arith) s.waiting h.insides;
        at = at;
        node = node;
        room = omega arith;
      }

  pub holds_assigned : (v offset size n : ℕ) → v ≤ variables → offset ≤ longest_record → n < 256
      → LiesIn codes bytes (bit_or assigned (2 ^ v)) (set parts v (packed (bound_part offset size n))) stack m p
      (state (set s.parts v (bound_part offset size n)) s.frames s.waiting s.place)
  holds_assigned v offset size n low offset_fits n_fits =
      let z = h.sized.of_parts in
      record {
        sized = sized_part h.sized v (packed (bound_part offset size n));
        place = h.place;
        all_variables = length-set s.parts v (bound_part offset size n) ∙ h.all_variables;
        shown = shown_assigned assigned v offset size n parts s.parts (omega arith) n_fits h.all_variables h.shown;
        present = present_assigned assigned v offset size n parts s.parts offset_fits h.all_variables h.present;
        linked = h.linked;
        innermost = h.innermost;
        queued = h.queued;
        insides = h.insides;
        at = h.at;
        node = h.node;
        room = h.room;
      }

-- Steps

module _ (codes bytes assigned : ℕ) (parts stack : List ℕ) (m : Marks) (p : Place) (vs : List Part) (fs : List Remaining) (cs : List PutBy)
    (h : LiesIn codes bytes assigned parts stack m p (state vs fs cs p)) where
  -- a variable whose part is the absent mark is not assigned
  pub unassigned : (v : ℕ) → v < variables → is_absent (part_in assigned parts v) ≡ true → bit assigned v ≡ false
  unassigned v low e = by (bit assigned v) refl
    where
      by : (b : Bool) → bit assigned v ≡ b → b ≡ false
      by true i = sym e ∙ ap is_absent (sym (h.shown v low)) ∙ h.present v low i
      by false i = refl

  pub holds_closed : (gs : List Remaining) → Linked stack (outer (get_or stack (m.inner - 1) 0)) gs → outer (get_or stack (m.inner - 1) 0) < m.inner
      → LiesIn codes bytes assigned parts stack (closed_marks m (get_or stack (m.inner - 1) 0))
      (reopened p (frame_in (get_or stack (m.inner - 1) 0)))
      (state vs gs cs (reopened p (frame_in (get_or stack (m.inner - 1) 0))))
  holds_closed gs l less = record {
    sized = h.sized;
    place = refl;
    all_variables = h.all_variables;
    shown = h.shown;
    present = h.present;
    linked = l;
    innermost = let i = h.innermost in omega arith;
    queued = h.queued;
    insides = insides_on codes bytes p.at p.at m (closed_marks m (get_or stack (m.inner - 1) 0)) (le_refl _) cs h.insides;
    at = h.at;
    node = h.node;
    room = h.room;
  }

  pub holds_opened : (left children elements width x : ℕ) → Takes codes bytes p left 1 width width
      → (frame_in x ≡ remaining (p.children - 1) (p.elements - 1)) × (outer x ≡ m.inner)
      → LiesIn codes bytes assigned parts (set stack m.frames x) (opened_marks m) (entered p children elements width)
      (state vs (remaining (p.children - 1) (p.elements - 1) ∷ fs) cs (entered p children elements width))
  holds_opened left children elements width x t is =
      let z = h.sized.of_stack in
      let room = h.room in
      let some = t.some in
      let at = t.at in
      record {
        sized = sized_stack h.sized m.frames x;
        place = refl;
        all_variables = h.all_variables;
        shown = h.shown;
        present = h.present;
        linked = linked_push stack m.inner m.frames x (remaining (p.children - 1) (p.elements - 1)) fs h.innermost (omega arith) is.0
            is.1
            h.linked;
        innermost = le_refl (m.frames + 1);
        queued = queued_kept stack (set stack m.frames x) m.waiting (frame_apart stack m.frames m.waiting x (omega arith)) m.first cs
            h.queued;
        insides = insides_on codes bytes p.at (p.at + width) m (opened_marks m) (omega arith) cs h.insides;
        at = at;
        node = t.node;
        room = omega arith;
      }

  pub holds_put : (left n size x : ℕ) → Takes codes bytes p left 1 n size → put_by_in x ≡ put_by p.at (n - 1) p.node
      → LiesIn codes bytes assigned parts (set stack (255 - m.waiting) x) (put_by_marks m) (place_past p 1 n size)
      (state vs fs (cs ++ put_by p.at (n - 1) p.node ∷ []) (place_past p 1 n size))
  holds_put left n size x t is =
      let z = h.sized.of_stack in
      let room = h.room in
      let some = t.some in
      let at = t.at in
      record {
        sized = sized_stack h.sized (255 - m.waiting) x;
        place = refl;
        all_variables = h.all_variables;
        shown = h.shown;
        present = h.present;
        linked = linked_kept stack (set stack (255 - m.waiting) x) m.frames
            (complement_apart stack m.frames m.waiting x (omega arith)) m.inner fs h.innermost h.linked;
        innermost = h.innermost;
        queued = queued_push stack m.waiting x (put_by p.at (n - 1) p.node) z (omega arith) is m.first cs h.queued;
        insides = insides_push codes bytes (p.at + n) (put_by_marks m) (put_by p.at (n - 1) p.node)
            (record { within = omega arith; node = h.node; room = omega arith }) cs
            (insides_on codes bytes p.at (p.at + n) m (put_by_marks m) (omega arith) cs h.insides);
        at = at;
        node = t.node;
        room = omega arith;
      }

-- What is kept from the start of a call, under the mask and the marks there

pub kept_part : {assigned : ℕ} {m : Marks} {parts stack : List ℕ} (v x : ℕ) → (v < variables → bit assigned v ≡ false)
    → Kept assigned m parts stack (set parts v x) stack
kept_part {assigned} {parts = parts} v x free = record {
  of_parts = λ w low b. get_or-set_other parts v w x 0 (λ e. true≢false (sym b ∙ ap (bit assigned) e ∙ free (subst (λ (u : ℕ). u < variables) e low)));
  of_frames = λ i low. refl;
  of_waiting = λ i low. refl;
  sized = λ z. sized_part z v x;
}

module _ {assigned : ℕ} {m : Marks} {parts stack : List ℕ} (x : ℕ) (room : m.frames + m.waiting < 256) where
  pub kept_frame : Kept assigned m parts stack parts (set stack m.frames x)
  kept_frame = record {
    of_parts = λ w low b. refl;
    of_frames = λ i low. below_set stack m.frames x i (omega arith);
    of_waiting = λ i low. frame_apart stack m.frames m.waiting x room i (omega arith);
    sized = λ z. sized_stack z m.frames x;
  }

  pub kept_waiting : Kept assigned m parts stack parts (set stack (255 - m.waiting) x)
  kept_waiting = record {
    of_parts = λ w low b. refl;
    of_frames = λ i low. complement_apart stack m.frames m.waiting x room i (omega arith);
    of_waiting = λ i low. back_set stack m.waiting x (omega arith) i (omega arith);
    sized = λ z. sized_stack z (255 - m.waiting) x;
  }
