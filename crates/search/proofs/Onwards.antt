-- The laws of the pairs of a level up to a run name that leaves a choice, one for each way that a turn goes.
-- Assumes nothing.
use Prim.Native.Nat.{ℕ, ◌+◌, ◌-◌, ◌^◌, ◌<◌, ◌≤◌}
use native.Mathlib.Omega.{arith}
use mathlib.Core.Path.{◌≡◌, refl, sym, ap, subst, ◌∙◌}
use mathlib.Core.List.{List}
use mathlib.Core.Bool.{Bool, true, false, true≢false}
use lib.Bits.{bit_or}
use lib.ListN.{length, take, drop, set}
use Rattle.answers.specs.Part.{bound_part}
use Rattle.term.proofs.Lists.{rest_part}
use Rattle.term.specs.Extent.{span_of}
use Rattle.term.specs.Limits.{longest_record}
use Rattle.search.specs.State.{State, state, place_past}
use Rattle.search.specs.Level.{tried, levels}
use Rattle.parts.specs.Packed.{bit, packed}
use Rattle.search.specs.Inner.Lent.{Handed, Lent, lent_of, Held, level_in}
use Rattle.search.specs.Inner.Bounds.{Ready, StopsAt, Unassigned, Moved, WalkIs, Walks, stopped}
use Rattle.search.specs.Inner.Replies.{follow_in}
use Rattle.search.specs.Inner.Onward.{Comes, Onward}
use Rattle.search.specs.declared.place.Place.{Place}
use Rattle.search.specs.declared.marks.Marks.{Marks}
use Rattle.search.specs.declared.walk.Stopped.{Stopped}
use Rattle.steps.specs.declared.Stop.{Stop}
use Rattle.steps.specs.declared.Stop.TheVariants.{NoAllowance, RunName}
use Rattle.search.proofs.Kept.{kept_all}
use Rattle.search.proofs.Moved.{HeldAt, moved_none, moved_then, moved_to}
use Rattle.search.proofs.Held.{holds_moved, holds_assigned, kept_part}
use Rattle.parts.proofs.Masks.{bit_still}
use Rattle.search.proofs.Skips.{lengths_last, lengths_last_spent}
use Rattle.search.proofs.Tries.{level_stops}

module _ (halts : Bool) (i : Handed) (e₀ : Lent) (m₀ : Marks) (p₀ : Place) where
  -- the level with n others within it is a level further on, with fewer
  pub record Within (left : ℕ) (p : Place) (s here : State) (n : ℕ) : Type 0 where
    pub within : ℕ
    pub enough : levels i.pattern p.at ≤ within
    pub same : level_in i n s e₀.left ≡ level_in i within here left

  -- the level from the state s is the one from the state that the buffers hold now
  pub record Going (e : Lent) (m : Marks) (p : Place) (s : State) : Type 0 where
    pub here : State
    pub comes : (n : ℕ) → levels i.pattern p₀.at ≤ n → Within e.left p s here n
    pub moved : Moved i e₀ m₀ p₀ e m p here

  abbrev Starting : State → Type 0
  Starting s = Held i e₀ m₀ p₀ s

  -- and where it halts, it is the walk's
  pub record Ongoing (e : Lent) (m : Marks) (p : Place) : Type 0 where
    pub going : (s : State) → Starting s → Going e m p s
    pub halted : halts ≡ true → {parts stack : List ℕ} {r : Stopped} → Walks i e m p parts stack r → Walks i e₀ m₀ p₀ parts stack r

  pub on_first : Ongoing e₀ m₀ p₀
  on_first = record {
    going = λ s h. record { here = s; comes = λ n l. record { within = n; enough = l; same = refl }; moved = moved_none h };
    halted = λ h w. w;
  }

  module _ {e : Lent} {m : Marks} {p : Place} (t : Ongoing e m p) where
    pub on_holding : HeldAt i e₀ m₀ p₀ → HeldAt i e m p
    on_holding h = let g = t.going h.state h.holds in record { state = g.here; holds = g.moved.holds }

    module _ {parts₁ stack₁ : List ℕ} {r : Stopped} (walks : Walks i e m p parts₁ stack₁ r) where
      abbrev walk : (s : State) (h : Starting s) → WalkIs i e m p parts₁ stack₁ r (t.going s h).here
      walk s h = walks (t.going s h).here (t.going s h).moved.holds

      module _ (h : HeldAt i e₀ m₀ p₀) where
        pub on_within : r.place.node ≤ length i.bytes
        on_within = (walk h.state h.holds).moved.holds.node

        pub on_further : p.at ≤ r.place.at
        on_further = (walk h.state h.holds).moved.further

      pub on_ready : (v : ℕ) → r.stop ≡ RunName v → HeldAt i e₀ m₀ p₀ → Ready (length i.pattern) v r.place
      on_ready v is_run h = subst (StopsAt (length i.pattern) r.place) is_run (walk h.state h.holds).stops

      -- what the level comes to
      walked_to : (s : State) (h : Starting s) (n : ℕ) → levels i.pattern p₀.at ≤ n → Comes i e₀.left s n r (walk s h).end
      walked_to s h n l =
          let g = (t.going s h).comes n l in
          let w = walk s h in
          record {
            within = g.within - 1;
            enough = omega (arith, g.enough, w.moved.further);
            same = g.same ∙ sym (level_stops g.within _ _ _ _ (t.going s h).here e.left r.stop r.left w.end _ (omega (arith, g.enough)) w.so refl);
          }

      -- it ends as another stop, of the same state
      ends : (stop : Stop) (l : ℕ) → StopsAt (length i.pattern) r.place stop → Unassigned r.assigned stop
          → ((s : State) (h : Starting s) (n : ℕ) → levels i.pattern p₀.at ≤ n
          → Comes i e₀.left s n (stopped stop l r.assigned r.marks r.place) (walk s h).end)
          → (halts ≡ true → Walks i e₀ m₀ p₀ parts₁ stack₁ (stopped stop l r.assigned r.marks r.place))
          → Onward halts i e₀ m₀ p₀ parts₁ stack₁ (stopped stop l r.assigned r.marks r.place)
      ends stop l at un comes halted = record {
        going = λ s h. record {
          end = (walk s h).end;
          so = comes s h;
          moved = moved_to (moved_then (t.going s h).moved (walk s h).moved) (λ v b. b) kept_all (omega arith, omega arith, refl) (omega arith) (walk s h).moved.holds;
          stops = at;
          unassigned = un;
        };
        halted = halted;
      }

      pub on_ends : HeldAt i e₀ m₀ p₀ → Onward halts i e₀ m₀ p₀ parts₁ stack₁ r
      on_ends h =
          let w = walk h.state h.holds in
          ends r.stop r.left w.stops w.unassigned walked_to (λ e. t.halted e walks)

      -- at a run name that is the last child pattern of its node
      module _ (going : halts ≡ false) (v : ℕ) (is_run : r.stop ≡ RunName v) (last : r.place.children ≡ 1) where
        module _ (s : State) (h : Starting s) (n : ℕ) (l : levels i.pattern p₀.at ≤ n) where
          abbrev deep : ℕ
          deep = (walked_to s h n l).within

          abbrev end : State
          end = (walk s h).end

          is_place : end.place ≡ r.place
          is_place = (walk s h).moved.holds.place

          run_at : r.place.at < length i.pattern
          run_at = (subst (StopsAt (length i.pattern) r.place) is_run (walk s h).stops).at

          deep_some : levels i.pattern (r.place.at + 1) ≤ deep
          deep_some = omega (arith, (walked_to s h n l).enough, run_at)

          tries_all : level_in i n s e₀.left ≡ follow_in i (RunName v) deep end r.left
          tries_all = (walked_to s h n l).same ∙ ap (λ (x : Stop). follow_in i x deep end r.left) is_run

          last_there : end.place.children ≡ 1
          last_there = ap (λ (x : Place). x.children) is_place ∙ last

        pub on_spent : HeldAt i e₀ m₀ p₀ → r.left ≤ r.place.elements
            → Onward halts i e₀ m₀ p₀ parts₁ stack₁ (stopped NoAllowance 0 r.assigned r.marks r.place)
        on_spent hold few =
            ends NoAllowance 0 tt tt
            (λ s h n l. record {
              within = deep s h n l;
              enough = (walked_to s h n l).enough;
              same =
                  tries_all s h n l
                  ∙ lengths_last_spent _ _ _ _ v (deep s h n l) (end s h n l) (omega (arith, deep_some s h n l)) (last_there s h n l)
                  (end s h n l).place.elements 0 0 r.left (omega arith) (omega (arith, few, ap (λ (x : Place). x.elements) (is_place s h n l)));
            })
            (λ e. absurd (true≢false (sym e ∙ going)))

        module _ (some : r.place.elements < r.left) (small : r.place.elements < 256) (short : length i.bytes ≤ longest_record)
            (size : ℕ) (is_size : size ≡ span_of i.table (take (length i.bytes - r.place.node) (drop r.place.node i.bytes)) false r.place.elements)
            (within : r.place.node + size ≤ length i.bytes) where
          abbrev next : Place
          next = place_past r.place r.place.elements 1 size

          abbrev taken : ℕ
          taken = packed (bound_part r.place.node size r.place.elements)

          span_is : (node : ℕ) → node ≡ r.place.node → 0 + span_of i.table (drop (node + 0) i.bytes) false r.place.elements ≡ size
          span_is node e =
              let z : node + 0 ≡ r.place.node = omega (arith, e) in
              omega (
                arith,
                is_size,
                ap (λ (l : List ℕ). span_of i.table l false r.place.elements) (rest_part r.place.node i.bytes),
                ap (λ (x : ℕ). span_of i.table (drop x i.bytes) false r.place.elements) z,
              )

          abbrev took : State → State
          took e = state (set e.parts v (bound_part r.place.node size r.place.elements)) e.frames e.waiting next

          took_is : (e : State) → e.place ≡ r.place
              → tried e v e.place.elements (0 + span_of i.table (drop (e.place.node + 0) i.bytes) false e.place.elements) ≡ took e
          took_is e is_there =
              ap (λ (x : Place). state (set e.parts v (bound_part x.node (0 + span_of i.table (drop (x.node + 0) i.bytes) false x.elements) x.elements))
              e.frames e.waiting (place_past x x.elements 1 (0 + span_of i.table (drop (x.node + 0) i.bytes) false x.elements))) is_there
              ∙ ap (λ (x : ℕ). state (set e.parts v (bound_part r.place.node x r.place.elements)) e.frames e.waiting
              (place_past r.place r.place.elements 1 x)) (span_is r.place.node refl)

          pub on_takes : HeldAt i e₀ m₀ p₀
              → Ongoing (lent_of (bit_or r.assigned (2 ^ v)) (r.left - 1 - r.place.elements) (set parts₁ v taken) stack₁) r.marks next
          on_takes hold = record {
            going = λ s h.
                let w = walk s h in
                let ready = subst (StopsAt (length i.pattern) r.place) is_run w.stops in
                let free : bit r.assigned v ≡ false = subst (Unassigned r.assigned) is_run w.unassigned in
                record {
                  here = took w.end;
                  comes = λ n l. record {
                    within = deep s h n l;
                    enough = deep_some s h n l;
                    same =
                        let elements = ap (λ (x : Place). x.elements) (is_place s h n l) in
                        let left_is : r.left - ((end s h n l).place.elements + 1) ≡ r.left - 1 - r.place.elements = omega (arith, elements) in
                        tries_all s h n l
                        ∙ lengths_last _ _ _ _ v (deep s h n l) (end s h n l) (omega (arith, deep_some s h n l)) (last_there s h n l)
                        (end s h n l).place.elements 0 0 r.left (omega arith) (omega (arith, some, elements))
                        ∙ ap (λ (x : State). level_in i (deep s h n l) x (r.left - ((end s h n l).place.elements + 1)))
                        (took_is (end s h n l) (is_place s h n l))
                        ∙ ap (level_in i (deep s h n l) (took (end s h n l))) left_is;
                  };
                  moved =
                      moved_to (moved_then (t.going s h).moved w.moved) (λ j b. bit_still r.assigned v j b) (kept_part v taken (λ j. free)) (omega arith, omega arith, refl) (omega arith)
                      (holds_assigned (holds_moved w.moved.holds next (omega arith) (omega (arith, ready.at)) within) v r.place.node size
                      r.place.elements (omega (arith, ready.variable)) (omega (arith, w.moved.holds.node, short)) small);
                };
            halted = λ e. absurd (true≢false (sym e ∙ going));
          }
