-- The laws of the walk: each turn goes on from a place further on, or to the node around, until it stops.
-- Assumes nothing.
use Prim.Native.Nat.{ℕ, zero, suc, ◌+◌, ◌-◌, ◌*◌, ◌^◌, ◌<◌}
use native.Mathlib.Nat.{pos_of_ne-zero}
use native.Mathlib.Omega.{arith}
use mathlib.Core.Bool.{true, false}
use mathlib.Core.List.{List, [], ◌∷◌, ◌++◌}
use mathlib.Core.Path.{◌≡◌, refl, sym, ap, subst, ◌∙◌}
use lib.Bits.{bit_or}
use lib.Dec.{eqb}
use lib.ListN.{length, get_or, set}
use borrow.Author.Tests.{eqb-false}
use Rattle.answers.specs.Part.{is_absent, bound_part}
use Rattle.answers.specs.declared.Part.{Part}
use Rattle.term.specs.Code.{variables}
use Rattle.search.specs.Inner.Bounds.{Short, StopsAt, Unassigned, stopped, Moved, WalkIs}
use Rattle.search.specs.Inner.Lent.{Handed, Lent, input_of, lent_of}
use Rattle.parts.specs.Packed.{bit, packed, part_in}
use Rattle.search.specs.Inner.Memory.{frame_in, outer, opened_marks, closed_marks, Linked, put_by_in, put_by_marks, LiesIn}
use Rattle.search.specs.State.{turns, PutBy, State, remaining, put_by, state, part_in_state, place_past, entered, reopened, alone, closed_by, variable_at, step_at, walked, walk_by, walk_of}
use Rattle.search.specs.declared.place.Remaining.{Remaining}
use Rattle.search.specs.declared.marks.Marks.{Marks}
use Rattle.search.specs.declared.place.Place.{Place}
use Rattle.search.specs.declared.walk.Stopped.{Stopped}
use Rattle.steps.specs.declared.Step.TheVariants.{Stops, Fails, Closes, Opens, Passes, Binds, PutsBy}
use Rattle.steps.specs.declared.Step.{Step}
use Rattle.steps.specs.declared.Stop.TheVariants.{Failure, NoAllowance, NoPair, RunName}
use Rattle.steps.specs.declared.Stop.{Stop}
use Rattle.search.proofs.Asks.{Asks, variable_below, step_asks}
use Rattle.search.proofs.Buffers.{linked_alone, linked_length}
use Rattle.search.proofs.Held.{unassigned, holds_closed, holds_opened, holds_moved, holds_assigned, holds_put, kept_part, kept_frame, kept_waiting}
use Rattle.search.proofs.Kept.{kept_all}
use Rattle.search.proofs.Moved.{moved_none, moved_to}
use Rattle.parts.proofs.Masks.{bit_still}

-- the innermost of some open nodes
record Popped (stack : List ℕ) (inner : ℕ) (fs : List Remaining) : Type 0 where
  pub rest : List Remaining
  pub is : fs ≡ frame_in (get_or stack (inner - 1) 0) ∷ rest
  pub less : outer (get_or stack (inner - 1) 0) < inner
  pub linked : Linked stack (outer (get_or stack (inner - 1) 0)) rest

popped : (stack : List ℕ) (inner : ℕ) (fs : List Remaining) → (inner ≡ 0 → ⊥) → Linked stack inner fs → Popped stack inner fs
popped stack inner [] n h = absurd (n h)
popped stack inner (f ∷ fs) n h = record { rest = fs; is = ap (λ (g : Remaining). g ∷ fs) (sym h.1); less = h.2; linked = h.3 }

module _ (table classes pattern bytes : List ℕ) where
  pub walk_suc : (n : ℕ) (s : State) (left : ℕ) → 0 < n
      → walk_of n table classes pattern bytes s left
      ≡ walk_by (step_at (alone s.frames) table classes pattern bytes (part_in_state s (variable_at pattern s.place.at)) s.place left)
      (walk_of (n - 1) table classes pattern bytes) s left
  unfolding walk_of
  walk_suc zero s left h = absurd (omega arith)
  walk_suc (suc n) s left h = let z : suc n - 1 ≡ n = omega arith in rw z

module _ (table classes pattern bytes : List ℕ) (assigned₀ left₀ : ℕ) (parts₀ stack₀ : List ℕ) (m₀ : Marks) (p₀ : Place) (s₀ : State) where
  abbrev inp : Handed
  inp = input_of table classes pattern bytes

  abbrev was : Lent
  was = lent_of assigned₀ left₀ parts₀ stack₀

  -- the walk from the state s₀ is the walk from the one that the buffers hold now
  pub record Walking (parts stack : List ℕ) (p : Place) (m : Marks) (assigned left : ℕ) : Type 0 where
    pub values : List Part
    pub nodes : List Remaining
    pub put_by_holds : List PutBy
    pub moved : Moved inp was m₀ p₀ (lent_of assigned left parts stack) m p (state values nodes put_by_holds p)
    pub room : ℕ
    pub enough : 2 * (length pattern - p.at) + length nodes < room
    pub same : walk_of turns table classes pattern bytes s₀ left₀ ≡ walk_of room table classes pattern bytes (state values nodes put_by_holds p) left

  pub walk_starts : Short pattern bytes
      → LiesIn (length pattern) (length bytes) assigned₀ parts₀ stack₀ m₀ p₀ s₀ → Walking parts₀ stack₀ p₀ m₀ assigned₀ left₀
  walk_starts short h = record {
    values = s₀.parts;
    nodes = s₀.frames;
    put_by_holds = s₀.waiting;
    moved = moved_none (subst (LiesIn (length pattern) (length bytes) assigned₀ parts₀ stack₀ m₀ p₀) is h);
    room = turns;
    enough = omega (arith, linked_length stack₀ m₀.inner s₀.frames h.linked, h.innermost, h.room, short.of_pattern);
    same = ap (λ (s : State). walk_of turns table classes pattern bytes s left₀) is;
  }
    where
      is : s₀ ≡ state s₀.parts s₀.frames s₀.waiting p₀
      is = ap (state s₀.parts s₀.frames s₀.waiting) h.place

  abbrev Ends : List ℕ → List ℕ → Stopped → Type 0
  Ends parts stack r = WalkIs inp was m₀ p₀ parts stack r s₀

  -- what is known once the next step is
  pub record Turn (parts stack : List ℕ) (p : Place) (m : Marks) (assigned left : ℕ) (x : Step) : Type 0 where
    pub walking : Walking parts stack p m assigned left
    pub is_step : x ≡ step_at (eqb m.inner 0) table classes pattern bytes (part_in assigned parts (variable_at pattern p.at)) p left

  module _ {parts stack : List ℕ} {p : Place} {m : Marks} {assigned left : ℕ} {x : Step}
      (t : Turn parts stack p m assigned left x) where
    pub asked : (y : Step) → x ≡ y → Asks (eqb m.inner 0) pattern bytes (part_in assigned parts (variable_at pattern p.at)) p left y
    asked y e =
        subst (Asks (eqb m.inner 0) pattern bytes (part_in assigned parts (variable_at pattern p.at)) p left) (sym t.is_step ∙ e)
        (step_asks (eqb m.inner 0) table classes pattern bytes (part_in assigned parts (variable_at pattern p.at)) p left t.walking.moved.holds.node)

    stepped : (y : Step) → x ≡ y
        → walk_of turns table classes pattern bytes s₀ left₀
        ≡ walk_by y (walk_of (t.walking.room - 1) table classes pattern bytes) (state t.walking.values t.walking.nodes t.walking.put_by_holds p) left
    stepped y e =
        let w = t.walking in
        let s = state w.values w.nodes w.put_by_holds p in
        w.same ∙ walk_suc table classes pattern bytes w.room s left (omega (arith, w.enough))
        ∙ rw (
          ← linked_alone stack m.inner w.nodes w.moved.holds.linked,
          w.moved.holds.shown (variable_at pattern p.at) (variable_below pattern p.at),
          ← t.is_step,
          e,
        )

    free : (v : ℕ) → v < variables → v ≡ variable_at pattern p.at → is_absent (part_in assigned parts (variable_at pattern p.at)) ≡ true
        → bit assigned v ≡ false
    free v low here e =
        let w = t.walking in
        unassigned (length pattern) (length bytes) assigned parts stack m p w.values w.nodes w.put_by_holds w.moved.holds v low (rw here e)

    -- Where it stops

    ended : (stop : Stop) (l : ℕ)
        → walk_of turns table classes pattern bytes s₀ left₀ ≡ walked stop l (state t.walking.values t.walking.nodes t.walking.put_by_holds p)
        → StopsAt (length pattern) p stop → Unassigned assigned stop
        → Ends parts stack (stopped stop l assigned m p)
    ended stop l is stops out =
        let w = t.walking in
        record {
          end = state w.values w.nodes w.put_by_holds p;
          so = is;
          moved = moved_to w.moved (λ v b. b) kept_all (omega arith, omega arith, refl) (omega arith) w.moved.holds;
          stops = stops;
          unassigned = out;
        }

    pub walk_stops : (stop : Stop) → x ≡ Stops stop
        → Ends parts stack (stopped stop left assigned m p)
    unfolding walk_by
    walk_stops Failure e = ended Failure left (stepped (Stops Failure) e) tt tt
    walk_stops NoAllowance e = ended NoAllowance left (stepped (Stops NoAllowance) e) tt tt
    walk_stops NoPair e = ended NoPair left (stepped (Stops NoPair) e) tt tt
    walk_stops (RunName v) e =
        let a = asked (Stops (RunName v)) e in
        ended (RunName v) left (stepped (Stops (RunName v)) e) a.1 (free v a.0.below a.0.here a.0.absent)

    pub walk_fails : x ≡ Fails
        → Ends parts stack (stopped Failure (left - 1) assigned m p)
    unfolding walk_by
    walk_fails e = ended Failure (left - 1) (stepped Fails e) tt tt

    -- Where it goes on

    pub closes_inside : x ≡ Closes → (0 < m.inner) × (outer (get_or stack (m.inner - 1) 0) < m.inner)
    closes_inside e =
        let n = eqb-false m.inner 0 (asked Closes e) in
        (pos_of_ne-zero n, (popped stack m.inner t.walking.nodes n t.walking.moved.holds.linked).less)

    pub walk_closes : x ≡ Closes
        → Walking parts stack (reopened p (frame_in (get_or stack (m.inner - 1) 0)))
        (closed_marks m (get_or stack (m.inner - 1) 0)) assigned left
    unfolding walk_by
    walk_closes e =
        let w = t.walking in
        let u = popped stack m.inner w.nodes (eqb-false m.inner 0 (asked Closes e)) w.moved.holds.linked in
        let shorter : length w.nodes ≡ suc (length u.rest) = ap length u.is in
        record {
          values = w.values;
          nodes = u.rest;
          put_by_holds = w.put_by_holds;
          moved = moved_to w.moved (λ v b. b) kept_all (omega arith, omega arith, refl) (omega arith)
              (holds_closed (length pattern) (length bytes) assigned parts stack m p w.values w.nodes w.put_by_holds w.moved.holds
              u.rest u.linked u.less);
          room = w.room - 1;
          enough = omega (arith, w.enough);
          same = stepped Closes e
              ∙ ap (λ (fs : List Remaining). walk_of (w.room - 1) table classes pattern bytes (closed_by fs (state w.values fs w.put_by_holds p)) left) u.is;
        }

    pub walk_opens : (children elements width y : ℕ) → x ≡ Opens children elements width
        → (frame_in y ≡ remaining (p.children - 1) (p.elements - 1)) × (outer y ≡ m.inner)
        → Walking parts (set stack m.frames y) (entered p children elements width) (opened_marks m) assigned (left - 1)
    unfolding walk_by
    walk_opens children elements width y e is =
        let w = t.walking in
        let a = asked (Opens children elements width) e in
        record {
          values = w.values;
          nodes = remaining (p.children - 1) (p.elements - 1) ∷ w.nodes;
          put_by_holds = w.put_by_holds;
          moved = moved_to w.moved (λ v b. b) (kept_frame y (omega (arith, w.moved.holds.room, a.some, a.at))) (omega arith, omega arith, refl)
              (omega arith)
              (holds_opened (length pattern) (length bytes) assigned parts stack m p w.values w.nodes w.put_by_holds w.moved.holds
              left children elements width y a is);
          room = w.room - 1;
          enough = omega (arith, w.enough, a.some, a.at);
          same = stepped (Opens children elements width) e;
        }

    pub walk_passes : (elements size : ℕ) → x ≡ Passes elements size → Walking parts stack (place_past p elements 1 size) m assigned (left - 1)
    unfolding walk_by
    walk_passes elements size e =
        let w = t.walking in
        let a = asked (Passes elements size) e in
        record {
          values = w.values;
          nodes = w.nodes;
          put_by_holds = w.put_by_holds;
          moved = moved_to w.moved (λ v b. b) kept_all (omega arith, omega arith, refl) (omega arith)
              (holds_moved w.moved.holds (place_past p elements 1 size) (omega arith) a.at a.node);
          room = w.room - 1;
          enough = omega (arith, w.enough, a.at);
          same = stepped (Passes elements size) e;
        }

    pub walk_binds : (v size : ℕ) → x ≡ Binds v size → Short pattern bytes
        → Walking (set parts v (packed (bound_part p.node size 1))) stack (place_past p 1 1 size) m (bit_or assigned (2 ^ v)) (left - 1)
    unfolding walk_by
    walk_binds v size e short =
        let w = t.walking in
        let a = asked (Binds v size) e in
        record {
          values = set w.values v (bound_part p.node size 1);
          nodes = w.nodes;
          put_by_holds = w.put_by_holds;
          moved = moved_to w.moved (λ i b. bit_still assigned v i b) (kept_part v _ (λ l. free v l a.0.here a.0.absent)) (omega arith, omega arith, refl) (omega arith)
              (holds_assigned (holds_moved w.moved.holds (place_past p 1 1 size) (omega arith) a.1.at a.1.node) v p.node size 1
              (omega (arith, a.0.below)) (omega (arith, w.moved.holds.node, short.of_record)) (omega arith));
          room = w.room - 1;
          enough = omega (arith, w.enough, a.1.at);
          same = stepped (Binds v size) e;
        }

    pub walk_puts : (n size y : ℕ) → x ≡ PutsBy n size → put_by_in y ≡ put_by p.at (n - 1) p.node
        → Walking parts (set stack (255 - m.waiting) y) (place_past p 1 n size) (put_by_marks m) assigned (left - 1)
    unfolding walk_by
    walk_puts n size y e is =
        let w = t.walking in
        let a = asked (PutsBy n size) e in
        record {
          values = w.values;
          nodes = w.nodes;
          put_by_holds = w.put_by_holds ++ put_by p.at (n - 1) p.node ∷ [];
          moved = moved_to w.moved (λ v b. b) (kept_waiting y (omega (arith, w.moved.holds.room, a.some, a.at))) (omega arith, omega arith, refl)
              (omega arith)
              (holds_put (length pattern) (length bytes) assigned parts stack m p w.values w.nodes w.put_by_holds w.moved.holds left n size y a is);
          room = w.room - 1;
          enough = omega (arith, w.enough, a.some, a.at);
          same = stepped (PutsBy n size) e;
        }
