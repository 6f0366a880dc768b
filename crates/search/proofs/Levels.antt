-- The laws of the search of levels, one for each way that a turn of its loops goes.
-- Assumes nothing.
use Prim.Native.Nat.{ℕ, suc, ◌+◌, ◌-◌, ◌*◌, ◌^◌, ◌<◌, ◌≤◌}
use native.Mathlib.Omega.{arith}
use native.Mathlib.Nat.{sub-zero, le_refl}
use mathlib.Core.Path.{◌≡◌, refl, sym, ap, subst, ◌∙◌, ap₂}
use mathlib.Core.List.{List, [], ◌∷◌}
use mathlib.Core.Bool.{Bool, true, false, ◌&&◌, true≢false}
use lib.Bits.{bit_or}
use lib.ListN.{length, get_or, take, drop, set, replicate, length-drop}
use lib.Seq.{length-take-le, set_out, get_or-set_same}
use lib.Dec.{leb}
use borrow.Author.Tests.{le-leb, eq-eqb, ne_eqb}
use Rattle.answers.specs.Part.{absent, bound_part}
use Rattle.answers.specs.declared.Part.{Part}
use Rattle.term.specs.Limits.{longest_record, longest_pattern}
use Rattle.term.specs.Code.{variables}
use Rattle.term.specs.Extent.{extent_of}
use Rattle.term.proofs.Spans.{extent_within}
use Rattle.search.specs.State.{turns, PutBy, State, place, place_past, walk_of}
use Rattle.search.specs.Level.{Reply, reply, failed_at, spent_at, failed, refuted, start_of, inside_of, complements_of, levels, search_of}
use Rattle.parts.specs.Packed.{bit, packed, part_places, parts_in}
use Rattle.search.specs.Inner.Memory.{marks, put_by_in, Queued, Insides, Sized, Holding, Kept}
use Rattle.search.specs.Inner.Lent.{Handed, Lent, Change, input_of, lent_of, ◌⇒◌, Held, Keeps, levels_in, level_in}
use Rattle.search.specs.Inner.Bounds.{Moved}
use Rattle.search.specs.Inner.Replies.{failure, found, turned, reply_of, reply_in, end_in, opposite_of, inside_in, given, tries_of, run_start, inside, Assignable, Resting, Testable, LevelIs, RestIs, FollowIs, ComplementIs, ComplementsAre}
use Rattle.search.specs.Inner.Onward.{Onward}
use Rattle.search.specs.Inner.Skips.{behind_in, Skips, Lengthened, Lengthens}
use Rattle.search.specs.Inner.Halts.{Reports, Told, Halts, Halting, HaltsOr, RestBy, Begun, Levels}
use Rattle.search.specs.declared.place.Place.{Place}
use Rattle.search.specs.declared.marks.Marks.{Marks}
use Rattle.steps.specs.declared.Stop.{Stop}
use Rattle.steps.specs.declared.Stop.TheVariants.{Failure, NoAllowance, NoPair, RunName}
use Rattle.search.specs.declared.walk.Stopped.{Stopped}
use Rattle.search.specs.declared.skip.Lengthening.{Lengthening}
use Rattle.search.specs.declared.skip.Skipped.{Skipped}
use Rattle.search.specs.declared.Ended.{Ended}
use Rattle.search.specs.declared.Finding.{Finding}
use Rattle.search.specs.declared.Finding.TheVariants.{Found, Failed, Spent}
use Rattle.parts.proofs.Masks.{bit_new, bit_still, packed_longer, packed_below}
use Rattle.search.proofs.Held.{kept_part}
use Rattle.search.proofs.Kept.{kept_all, kept_then, kept_back, restored, past, past_holds, given_holds, start_holds, first_holds, state_shown}
use Rattle.search.proofs.Moved.{HeldAt, kept_again, moved_none, moved_keeps, moved_then, moved_to}
use Rattle.search.proofs.Tries.{tries_last, tries_hit, tries_spent, tries_more, tries_at, lengths_tries}
use Rattle.search.proofs.Skips.{Stays, Fair, skips_fair, skip_tries, skip_over}
use Rattle.search.proofs.Begins.{place_is, level_from, run_here_holds, none_begun, run_start_holds, run_begun}

-- Replies

module _ (x : Lent) where
  reply_outcome : (o : Finding) → (reply_in o x).outcome ≡ o
  reply_outcome Found = refl
  reply_outcome Failed = refl
  reply_outcome Spent = refl

  reply_left : (o : Finding) → (reply_in o x).left ≡ x.left
  reply_left Found = refl
  reply_left Failed = refl
  reply_left Spent = refl

-- The rest of a level, by what its pairs come to

pub rest_follows : {inp : Handed} {was got : Lent} {m : Marks} {p : Place} {r : Stopped} {parts stack : List ℕ} {o : Finding} {halts : Bool}
    → HeldAt inp was m p → Onward halts inp was m p parts stack r
    → FollowIs inp (lent_of r.assigned r.left parts stack ⇒ got) r.stop r.marks r.place o → RestIs inp (was ⇒ got) m p o
rest_follows holding onward follows = record {
  replies = λ s h k l.
      let w = onward.going s h in
      let c = w.so k l in
      follows.replies w.end w.moved.holds c.within c.enough ∙ sym c.same;
  kept = moved_keeps (onward.going holding.state holding.holds).moved follows.kept;
}

-- A level's start gives no variable any element

given_none : (s : State) → length s.parts ≡ variables → given s variables 0 0 ≡ s
given_none s h =
    let a : s.place.elements - 0 ≡ s.place.elements = omega arith in
    let b : s.place.node + 0 ≡ s.place.node = omega arith in
    rw (set_out s.parts variables (bound_part s.place.node 0 0) (omega (arith, h)), a, b)

-- The loop over lengths

module _ (inp : Handed) (was : Lent) (v first behind most : ℕ) (m : Marks) (start : Place) where
  abbrev Starts : State → Type 0
  Starts s = Held inp was m start s

  abbrev tries_from : ℕ → State → ℕ → ℕ → ℕ → ℕ → Reply
  tries_from k s more n size left = tries_of (level_in inp k) inp.table inp.bytes v s more n size left

  -- the search from the first length on is the search from length n on, at the place p
  pub record Trying (left : ℕ) (parts stack : List ℕ) (p : Place) (n : ℕ) : Type 0 where
    pub few : n ≤ most
    pub children : p.children ≡ start.children
    pub elements : p.elements ≡ start.elements - n
    pub at : p.at ≡ start.at
    pub further : start.node ≤ p.node
    pub within : p.node ≤ length inp.bytes
    pub kept : Kept was.assigned m was.parts was.stack parts stack
    pub least : first ≤ n
    pub fresh : n ≡ first → (left ≡ was.left) × (p.node - start.node ≡ behind)
    pub written : v < variables → get_or parts v 0 ≡ packed (bound_part start.node (p.node - start.node) n)
    pub same : (s : State) → Starts s → (k : ℕ) → levels inp.pattern start.at ≤ k
        → tries_from k s (most - first) first behind was.left ≡ tries_from k s (most - n) n (p.node - start.node) left

  pub try_first : (p : Place) → first ≤ most → p.children ≡ start.children → p.elements ≡ start.elements - first → p.at ≡ start.at
      → start.node ≤ p.node → p.node ≤ length inp.bytes → behind ≡ p.node - start.node
      → (v < variables → get_or was.parts v 0 ≡ packed (bound_part start.node (p.node - start.node) first)) → Trying was.left was.parts was.stack p first
  try_first p few children elements at further within z written = record {
    few = few;
    children = children;
    elements = elements;
    at = at;
    further = further;
    within = within;
    kept = kept_all;
    least = le_refl first;
    fresh = λ e. (refl, sym z);
    written = written;
    same = λ s i k l. ap (λ (x : ℕ). tries_from k s (most - first) first x was.left) z;
  }

  module _ {left : ℕ} {parts stack : List ℕ} {p : Place} {n : ℕ} (t : Trying left parts stack p n) where
    -- the bytes of the n elements
    abbrev size : ℕ
    size = p.node - start.node

    -- the variable is assigned
    pub record Marked (seen : ℕ) : Type 0 where
      pub holding : HeldAt inp was m start
      pub free : Assignable was.assigned v
      pub short : length inp.bytes ≤ longest_record
      pub byte : n < 256
      pub is_seen : seen ≡ bit_or was.assigned (2 ^ v)

    module _ {seen : ℕ} (q : Marked seen) where
      given_place : (s : State) → Starts s → (given s v n size).place ≡ p
      given_place s h =
          ap (λ (x : Place). place x.children (x.elements - n) x.at (x.node + size)) h.place
          ∙ place_is (place start.children (start.elements - n) start.at (start.node + size)) p
          (sym t.children) (sym t.elements) (sym t.at) (omega (arith, t.further))

      marked_holds : (s : State) → Starts s → Held inp (lent_of seen left parts stack) m p (given s v n size)
      marked_holds s h =
          let held : Held inp (lent_of was.assigned left parts stack) m start s = restored t.kept h in
          let i : Held inp (lent_of was.assigned left parts stack) m s.place s =
          subst (λ (x : Place). Held inp (lent_of was.assigned left parts stack) m x s) (sym h.place) held in
          let part = packed (bound_part start.node size n) in
          rw q.is_seen
          (restored (kept_back v part (omega (arith, q.free.below, held.sized.of_parts)) t.written)
          (subst (λ (x : Place). Held inp (lent_of (bit_or was.assigned (2 ^ v)) left (set parts v part) stack) m x (given s v n size))
          (given_place s h)
          (given_holds was.assigned v start.node size n (omega (arith, t.further, t.within, q.short)) q.free.below q.byte
          (ap (λ (x : Place). x.node) h.place) (omega (arith, t.further, t.within)) i)))

      pub marked_holding : HeldAt inp (lent_of seen left parts stack) m p
      marked_holding = record {
        state = given q.holding.state v n size;
        holds = marked_holds q.holding.state q.holding.holds;
      }

      -- what the rest of the level makes of it
      module _ {o : Finding} {got : Lent} (rest : RestIs inp (lent_of seen left parts stack ⇒ got) m p o) where
        abbrev answer : Reply
        answer = reply_in o got

        turn_is : (s : State) → Starts s → (k : ℕ) → levels inp.pattern start.at ≤ k → answer ≡ level_in inp k (given s v n size) left
        turn_is s h k l = rest.replies (given s v n size) (marked_holds s h) k (omega (arith, t.at, l))

        turn_kept : Keeps was m got
        turn_kept = kept_again (λ i b. rw q.is_seen (bit_still was.assigned v i b)) t.kept rest.kept

        abbrev replied : (o' : Finding) → Type 0
        replied o' = LevelIs inp (was ⇒ got) v first behind most m start o'

        fails : failed o ≡ true → failed answer.outcome ≡ true
        fails f = ap failed (reply_outcome got o) ∙ f

        pub try_last : most ≤ n → replied o
        try_last e = record {
          replies = λ s h k l. turn_is s h k l
              ∙ tries_last (level_in inp k) inp.table inp.bytes v s (most - n) n size left (omega arith)
              ∙ sym (t.same s h k l);
          kept = turn_kept;
        }

        pub try_hit : failed o ≡ false → replied o
        try_hit f = record {
          replies = λ s h k l. tries_hit (level_in inp k) inp.table inp.bytes v s (most - n) n size left
              answer (turn_is s h k l) (ap failed (reply_outcome got o) ∙ f)
              ∙ sym (t.same s h k l);
          kept = turn_kept;
        }

        pub try_spent : failed o ≡ true → n < most → got.left ≡ 0 → replied Spent
        try_spent f i z = record {
          replies = λ s h k l. ap spent_at (sym (reply_left got o))
              ∙ tries_spent (level_in inp k) inp.table inp.bytes v s (most - n) n size left
              answer (omega arith) (turn_is s h k l) (fails f) (reply_left got o ∙ z)
              ∙ sym (t.same s h k l);
          kept = turn_kept;
        }

        -- and its part is there still
        pub part_there : v < variables → get_or got.parts v 0 ≡ packed (bound_part start.node size n)
        part_there low = rest.kept.of_parts v low (rw q.is_seen (bit_new was.assigned v)) ∙ t.written low

        pub try_sized : length got.parts ≡ part_places
        try_sized = (turn_kept.sized q.holding.holds.sized).of_parts

        -- another length is tried, behind those that are passed over
        module _ (f : failed o ≡ true) (i : n < most) (all : most ≡ start.elements) (low : v < variables) (z : got.left ≡ 0 → ⊥) {parts₃ : List ℕ}
            {r : Lengthening} (l : Lengthens inp.table inp.classes inp.pattern inp.bytes was.assigned got.parts v p (got.left - 1) parts₃ r) where
          abbrev one : ℕ
          one = extent_of inp.table (drop p.node inp.bytes)

          abbrev more_of : ℕ
          more_of = l.further.lengths

          fair : Fair (behind_in p 1 (p.node + one)) (got.left - 1) (length inp.bytes) l.further
          fair = skips_fair l.skips

          stays : (s : State) → Starts s → Stays was.assigned got.parts v s
          stays s h =
              let held = restored turn_kept h in
              record { free = q.free.free; shown = λ w j b. held.shown w j; present = held.present }

          place_one : (s : State) → Starts s → behind_in p 1 (p.node + one) ≡ (given s v (n + 1) (size + one)).place
          place_one s h =
              place_is (behind_in p 1 (p.node + one)) (given s v (n + 1) (size + one)).place
              (t.children ∙ sym (ap (λ (y : Place). y.children) h.place))
              (omega (arith, t.elements, ap (λ (y : Place). y.elements) h.place))
              (t.at ∙ sym (ap (λ (y : Place). y.at) h.place))
              (omega (arith, t.further, ap (λ (y : Place). y.node) h.place))

          here : (s : State) → Starts s → Skips inp.table inp.classes inp.pattern inp.bytes was.assigned got.parts (given s v (n + 1) (size + one)).place (got.left - 1) l.further
          here s h =
              subst (λ (y : Place). Skips inp.table inp.classes inp.pattern inp.bytes was.assigned got.parts y (got.left - 1) l.further) (place_one s h) l.skips

          same_one : (s : State) → Starts s → (k : ℕ) → levels inp.pattern start.at ≤ k
              → tries_from k s (most - first) first behind was.left ≡ tries_from k s (s.place.elements - (n + 1)) (n + 1) (size + one) (got.left - 1)
          same_one s h k e =
              let j : most - n - 1 ≡ s.place.elements - (n + 1) = omega (arith, all, ap (λ (y : Place). y.elements) h.place) in
              let g : s.place.node + size ≡ p.node = omega (arith, ap (λ (y : Place). y.node) h.place, t.further) in
              t.same s h k e
              ∙ tries_more (level_in inp k) inp.table inp.bytes v s (most - n) n size left
              answer (omega arith) (turn_is s h k e) (fails f) (λ (y : answer.left ≡ 0). z (sym (reply_left got o) ∙ y))
              ∙ rw (reply_left got o, j, g)

          many : (s : State) → Starts s → n + 1 ≤ s.place.elements
          many s h = omega (arith, i, all, ap (λ (y : Place). y.elements) h.place)

          pub lengthened_kept : Kept was.assigned m was.parts was.stack parts₃ got.stack
          lengthened_kept =
              subst (λ (y : List ℕ). Kept was.assigned m was.parts was.stack y got.stack) (sym l.written)
              (kept_again (λ i b. b) turn_kept (kept_part v _ q.free.free))

          pub try_lengthens : Trying r.left parts₃ got.stack r.place (n + 1 + more_of)
          try_lengthens =
              let elements = ap (λ (y : Place). y.elements) l.place in
              let node = ap (λ (y : Place). y.node) l.place in
              record {
                few = omega (arith, fair.few, t.elements, all, i);
                children = ap (λ (y : Place). y.children) l.place ∙ t.children;
                elements = omega (arith, elements, t.elements);
                at = ap (λ (y : Place). y.at) l.place ∙ t.at;
                further = omega (arith, node, fair.further, t.further);
                within = omega (arith, node, fair.within (extent_within inp.table inp.bytes p.node t.within));
                kept = lengthened_kept;
                least = omega (arith, t.least);
                fresh = λ y. absurd (omega (arith, t.least, y));
                written = λ j.
                    ap (λ (y : List ℕ). get_or y v 0) l.written
                    ∙ get_or-set_same got.parts v _ 0 (omega (arith, low, try_sized))
                    ∙ ap (λ (y : ℕ). y + 65536 * (l.further.node - p.node) + 4294967296 * (1 + more_of)) (part_there low)
                    ∙ packed_longer start.node size (l.further.node - p.node) n (1 + more_of) (n + 1 + more_of) (r.place.node - start.node)
                    (omega arith) (omega (arith, node, t.further, fair.further))
                    (omega (arith, node, fair.within (extent_within inp.table inp.bytes p.node t.within), q.short));
                same = λ s h k e.
                    same_one s h k e
                    ∙ skip_tries _ _ _ _ _ _ v s k (omega arith) (stays s h) (n + 1) (size + one) (got.left - 1) (many s h) (here s h)
                    ∙ tries_at (level_in inp k) inp.table inp.bytes v s
                    (omega (arith, all, ap (λ (y : Place). y.elements) h.place)) refl
                    (omega (arith, node, fair.further, t.further, ap (λ (y : Place). y.node) h.place)) (sym l.paid);
              }

          pub try_over : r.over ≡ true
              → LevelIs inp (was ⇒ lent_of got.assigned r.left parts₃ got.stack) v first behind most m start Failed
          try_over e = record {
            replies = λ s h k j.
                ap failed_at l.paid
                ∙ sym (same_one s h k j
                ∙ skip_over _ _ _ _ _ _ v s k (omega arith) (stays s h) (n + 1) (size + one) (got.left - 1) (many s h) (here s h)
                (sym l.over ∙ e));
            kept = lengthened_kept;
          }

      -- and where the level halts
      module _ {o : Finding} {got : Lent} where
        try_halt : v ≡ variables → first ≡ 0 → most ≡ 0 → behind ≡ 0
            → Halts inp (lent_of seen left parts stack ⇒ got) m p o → Halts inp (was ⇒ got) m start o
        try_halt is-v is_first is_most none r = record {
          reached = r.reached;
          parts = r.parts;
          walks = λ s h. let w = r.walks (given s v n size) (marked_holds s h) in record {
            end = w.end;
            so = ap₂ (λ (x : State) (l : ℕ). walk_of turns inp.table inp.classes inp.pattern inp.bytes x l) (sym (unchanged s h))
                (sym (t.fresh at_first).0) ∙ w.so;
            moved = moved_then (begins s h) w.moved;
            stops = w.stops;
            unassigned = w.unassigned;
          };
          same_left = r.same_left;
          told = r.told;
        }
          where
            at_first : n ≡ first
            at_first = omega (arith, t.few, t.least, is_most)

            unchanged : (s : State) → Starts s → given s v n size ≡ s
            unchanged s h =
                ap (λ (x : ℕ). given s x n size) is-v ∙ ap (λ (x : ℕ). given s variables x size) (at_first ∙ is_first)
                ∙ ap (λ (x : ℕ). given s variables 0 x) ((t.fresh at_first).1 ∙ none) ∙ given_none s h.all_variables

            begins : (s : State) → Starts s → Moved inp was m start (lent_of seen left parts stack) m p (given s v n size)
            begins s h = moved_to (moved_none h) (λ i b. rw q.is_seen (bit_still was.assigned v i b)) t.kept (omega arith, omega arith, refl) (omega (arith, t.at)) (marked_holds s h)

      module _ {halts : Bool} {o : Finding} {got : Lent} (a : Halting halts v first most behind)
          (rest : RestBy halts inp (lent_of seen left parts stack ⇒ got) m p o) where
        abbrev replied_by : Lent → Finding → Type 0
        replied_by got' o' = HaltsOr halts inp (was ⇒ got') m start o' (LevelIs inp (was ⇒ got') v first behind most m start o')

        halt_by : halts ≡ true → Halts inp (was ⇒ got) m start o
        halt_by h = let n = a.none h in try_halt n.0 n.1 n.2 n.3 (rest.halted h)

        pub try_last_by : most ≤ n → replied_by got o
        try_last_by e = record { halted = halt_by; going = λ h. try_last (rest.going h) e }

        pub try_hit_by : failed o ≡ false → replied_by got o
        try_hit_by f = record { halted = halt_by; going = λ h. try_hit (rest.going h) f }

        pub try_spent_by : failed o ≡ true → n < most → got.left ≡ 0 → replied_by got Spent
        try_spent_by f i z = record { halted = λ h. absurd (omega (arith, (a.none h).2, i)); going = λ h. try_spent (rest.going h) f i z }

        -- none is left that can hold
        pub over_by : n < most → {o' : Finding} {got' : Lent} → LevelIs inp (was ⇒ got') v first behind most m start o' → replied_by got' o'
        over_by i r = record { halted = λ h. absurd (omega (arith, (a.none h).2, i)); going = λ h. r }

        -- another length is tried only where it does not halt
        pub rest_free : n < most → RestIs inp (lent_of seen left parts stack ⇒ got) m p o
        rest_free i = by halts refl
          where
            by : (b : Bool) → halts ≡ b → RestIs inp (lent_of seen left parts stack ⇒ got) m p o
            by true h = absurd (omega (arith, (a.none h).2, i))
            by false h = rest.going h

-- The same from where the level is begun

module _ (inp : Handed) (was : Lent) (v : ℕ) (halts : Bool) (least : ℕ) (m : Marks) (p₀ : Place) where
  abbrev Begins : Type 0
  Begins = Begun (length inp.pattern) (length inp.bytes) was.assigned was.parts was.stack v halts least m p₀

  -- some length is tried here
  pub record Turn (b : Begins) (left : ℕ) (parts stack : List ℕ) (p : Place) : Type 0 where
    pub n : ℕ
    pub trying : Trying inp was v b.first (p₀.node - b.from) b.most m (run_start b.first b.from p₀) left parts stack p n

  pub record Turns (left : ℕ) (parts stack : List ℕ) (p : Place) : Type 0 where
    pub turn : (b : Begins) → Turn b left parts stack p

  pub turn_first : Turns was.left was.parts was.stack p₀
  turn_first = record {
    turn = λ b. record {
      n = b.first;
      trying = try_first inp was v b.first (p₀.node - b.from) b.most m (run_start b.first b.from p₀) p₀ b.some refl (omega arith) refl b.behind b.within refl b.written;
    };
  }

  module _ {left : ℕ} {parts stack : List ℕ} {p : Place} (turns : Turns left parts stack p) (short : length inp.bytes ≤ longest_record) {seen : ℕ}
      (is_seen : seen ≡ bit_or was.assigned (2 ^ v)) where
    marked : (b : Begins) → Marked inp was v b.first (p₀.node - b.from) b.most m (run_start b.first b.from p₀) (turns.turn b).trying seen
    marked b = record {
      holding = b.holding;
      free = b.free;
      short = short;
      byte = omega (arith, (turns.turn b).trying.few, b.few);
      is_seen = is_seen;
    }

    pub turn_holding : Begins → HeldAt inp (lent_of seen left parts stack) m p
    turn_holding b = marked_holding _ _ _ _ _ _ _ _ (turns.turn b).trying (marked b)

    module _ {o : Finding} {got : Lent} (rest : RestBy halts inp (lent_of seen left parts stack ⇒ got) m p o) where
      abbrev Replied : Finding → Type 0
      Replied o' = Levels inp (was ⇒ got) v halts least m p₀ o'

      pub turn_hit : failed o ≡ false → Replied o
      turn_hit f = record { from = λ b. try_hit_by _ _ _ _ _ _ _ _ (turns.turn b).trying (marked b) b.halting rest f }

      pub turn_last : p.elements ≤ least → Replied o
      turn_last e = record {
        from = λ b. try_last_by _ _ _ _ _ _ _ _ (turns.turn b).trying (marked b) b.halting rest
            (omega (arith, e, b.last, (turns.turn b).trying.elements));
      }

      more : (b : Begins) → least < p.elements → (turns.turn b).n < b.most
      more b e = omega (arith, e, b.last, (turns.turn b).trying.elements)

      pub turn_spent : failed o ≡ true → least < p.elements → got.left ≡ 0 → Replied Spent
      turn_spent f e z = record {
        from = λ b. try_spent_by _ _ _ _ _ _ _ _ (turns.turn b).trying (marked b) b.halting rest f (more b e) z;
      }

      going : (b : Begins) → least < p.elements → RestIs inp (lent_of seen left parts stack ⇒ got) m p o
      going b e = rest_free _ _ _ _ _ _ _ _ (turns.turn b).trying (marked b) b.halting rest (more b e)

      named : (b : Begins) → least < p.elements → v < variables
      named b e = b.named (omega (arith, (turns.turn b).trying.least, more b e))

      -- its part can be lengthened
      pub turn_room : Begins → least < p.elements → Lengthened (length inp.bytes) got.parts v p
      turn_room b e = record {
        variable = named b e;
        sized = try_sized _ _ _ _ _ _ _ _ (turns.turn b).trying (marked b) (going b e);
        room = packed_below _ _ _ _ (omega (arith, (turns.turn b).trying.few, b.few))
            (part_there _ _ _ _ _ _ _ _ (turns.turn b).trying (marked b) (going b e) (named b e));
        element = omega (arith, e);
        within = (turns.turn b).trying.within;
        short = short;
      }

      module _ (f : failed o ≡ true) (i : least < p.elements) (z : got.left ≡ 0 → ⊥) {parts₃ : List ℕ} {r : Lengthening}
          (l : Lengthens inp.table inp.classes inp.pattern inp.bytes was.assigned got.parts v p (got.left - 1) parts₃ r) where
        whole : (b : Begins) → b.most ≡ (run_start b.first b.from p₀).elements
        whole b = omega (arith, b.last, b.all (named b i))

        pub turn_more : Turns r.left parts₃ got.stack r.place
        turn_more = record {
          turn = λ b. record {
            n = (turns.turn b).n + 1 + l.further.lengths;
            trying = try_lengthens _ _ _ _ _ _ _ _ (turns.turn b).trying (marked b) (going b i) f (more b i) (whole b) (named b i) z l;
          };
        }

        pub turn_over : r.over ≡ true
            → Levels inp (was ⇒ lent_of got.assigned r.left parts₃ got.stack) v halts least m p₀ Failed
        turn_over e = record {
          from = λ b. over_by _ _ _ _ _ _ _ _ (turns.turn b).trying (marked b) b.halting rest (more b i)
              (try_over _ _ _ _ _ _ _ _ (turns.turn b).trying (marked b) (going b i) f (more b i) (whole b) (named b i) z l e);
        }

-- What a level that starts does

module _ {inp : Handed} {was got : Lent} {m : Marks} {p : Place} {o : Finding} (holding : HeldAt inp was m p) (small : p.elements < 256) where
  pub rest_starts : Levels inp (was ⇒ got) variables false 255 m p o → RestIs inp (was ⇒ got) m p o
  unfolding tries_of none_begun
  rest_starts r =
      let whole : LevelIs inp (was ⇒ got) variables 0 (p.node - p.node) 0 m p o =
      subst (λ (x : Place). LevelIs inp (was ⇒ got) variables 0 (p.node - p.node) 0 m x o) (run_here_holds p)
      ((r.from (none_begun false holding small)).going refl) in
      record {
        replies = λ s h n l.
            let z : p.node - p.node ≡ 0 = omega arith in
            whole.replies s h n l ∙ ap (λ (x : ℕ). level_in inp n (given s variables 0 x) was.left) z
            ∙ ap (λ (x : State). level_in inp n x was.left) (given_none s h.all_variables);
        kept = whole.kept;
      }

  pub level_halts : Levels inp (was ⇒ got) variables true 255 m p o → Halts inp (was ⇒ got) m p o
  unfolding none_begun
  level_halts r = subst (λ (x : Place). Halts inp (was ⇒ got) m x o) (run_here_holds p) ((r.from (none_begun true holding small)).halted refl)

-- and one from a run name's first n elements on, of so many bytes, whose part was not written before
pub level_run : {inp : Handed} {assigned left : ℕ} {parts stack : List ℕ} {got : Lent} {m : Marks} {p : Place} (v w n size x : ℕ) → w ≡ v
    → HeldAt inp (lent_of assigned left parts stack) m p → p.at < length inp.pattern → v < variables → bit assigned v ≡ false
    → n ≤ p.elements → p.elements < 256 → p.node + size ≤ length inp.bytes → x ≡ packed (bound_part p.node size n)
    → {o : Finding} (q : Place) → q ≡ place_past p n 1 size
    → Levels inp (lent_of assigned left (set parts w x) stack ⇒ got) w false 0 m q o
    → LevelIs inp (lent_of assigned left parts stack ⇒ got) v n size p.elements m (place_past p 0 1 0) o
unfolding run_begun
level_run {inp} {assigned} {left} {parts} {stack} {got} {m} {p} v w n size x is-w holding at low free l small within is_x {o} q is_q r =
    let c = lent_of assigned left (set parts v x) stack ⇒ got in
    let there : LevelIs inp c v n (p.node + size - p.node) p.elements m (run_start n p.node (place_past p n 1 size)) o =
    ((level_from {v = v} {least = 0} {k = m} refl is_q
    (subst (λ (y : ℕ). Levels inp (lent_of assigned left (set parts y x) stack ⇒ got) y false 0 m q o) is-w r)
    ).from (run_begun v n size x holding at low free l small within is_x)).going refl in
    let here : LevelIs inp c v n size p.elements m (place_past p 0 1 0) o =
    subst (λ (y : ℕ). LevelIs inp c v n y p.elements m (place_past p 0 1 0) o) (omega arith)
    (subst (λ (y : Place). LevelIs inp c v n (p.node + size - p.node) p.elements m y o) (run_start_holds p n size l) there) in
    record {
      replies = λ s h k i. here.replies s (restored (kept_part v x (λ i. free)) h) k i;
      kept = kept_again (λ i b. b) (kept_part v x (λ i. free)) here.kept;
    }

-- Lengths that are passed over before the level

module _ {inp : Handed} {assigned left : ℕ} {parts stack : List ℕ} {m : Marks} {q q₀ : Place} (v most : ℕ)
    (free : bit assigned v ≡ false) {r : Skipped} (skips : Skips inp.table inp.classes inp.pattern inp.bytes assigned parts q₀ left r) (is_q : q₀ ≡ q)
    (all : most ≡ q.elements) where
  at_first : (s : State) → Held inp (lent_of assigned left parts stack) m q s
      → Skips inp.table inp.classes inp.pattern inp.bytes assigned parts (given s v 0 0).place left r
  at_first s h =
      let e : q₀ ≡ (given s v 0 0).place =
      is_q ∙ sym h.place ∙ place_is s.place (given s v 0 0).place refl (omega arith) refl (omega arith) in
      subst (λ (y : Place). Skips inp.table inp.classes inp.pattern inp.bytes assigned parts y left r) e skips

  own : (s : State) → Held inp (lent_of assigned left parts stack) m q s → Stays assigned parts v s
  own s h = record { free = λ l. free; shown = λ w j b. h.shown w j; present = h.present }

  every : (s : State) → Held inp (lent_of assigned left parts stack) m q s → most - 0 ≡ s.place.elements - 0
  every s h = omega (arith, all, ap (λ (y : Place). y.elements) h.place)

  pub level_skipped : (size : ℕ) → q.node + size ≡ r.node → {o : Finding} {got : Lent}
      → LevelIs inp (lent_of assigned (left - r.count) parts stack ⇒ got) v r.lengths size most m q o
      → LevelIs inp (lent_of assigned left parts stack ⇒ got) v 0 0 most m q o
  level_skipped size is_size x = record {
    replies = λ s h k l.
        x.replies s h k l
        ∙ sym (tries_at (level_in inp k) inp.table inp.bytes v s (every s h) refl refl refl
        ∙ skip_tries _ _ _ _ assigned parts v s k (omega arith) (own s h) 0 0 left (omega arith) (at_first s h)
        ∙ tries_at (level_in inp k) inp.table inp.bytes v s (omega (arith, every s h)) (omega arith)
        (omega (arith, is_size, ap (λ (y : Place). y.node) h.place)) refl);
    kept = x.kept;
  }

  pub level_over : r.over ≡ true
      → LevelIs inp (lent_of assigned left parts stack ⇒ lent_of assigned (left - r.count) parts stack) v 0 0 most m q Failed
  level_over e = record {
    replies = λ s h k l.
        sym (tries_at (level_in inp k) inp.table inp.bytes v s (every s h) refl refl refl
        ∙ skip_over _ _ _ _ assigned parts v s k (omega arith) (own s h) 0 0 left (omega arith) (at_first s h) e);
    kept = kept_all;
  }

-- What follows the walk

module _ (inp : Handed) (was : Lent) (m : Marks) (p : Place) where
  pub follow_fails : (stop : Stop) → stop ≡ Failure → FollowIs inp (was ⇒ was) stop m p Failed
  follow_fails stop e = rw e (record { replies = λ s h n l. refl; kept = kept_all })

  pub follow_spent : (stop : Stop) → stop ≡ NoAllowance → FollowIs inp (was ⇒ was) stop m p Spent
  follow_spent stop e = rw e (record { replies = λ s h n l. refl; kept = kept_all })

  pub follow_none : (v : ℕ) → was.left ≡ 0 → FollowIs inp (was ⇒ was) (RunName v) m p Spent
  follow_none v z = record {
    replies = λ s h n l.
        sym (lengths_tries (level_in inp n) inp.table inp.bytes v s s.place.elements 0 0 was.left ∙ rw (eq-eqb was.left 0 z));
    kept = kept_all;
  }

  pub follow_tests : {got : Lent} {o : Finding} (stop : Stop) → stop ≡ NoPair → ComplementsAre inp (was ⇒ got) m o → FollowIs inp (was ⇒ got) stop m p o
  follow_tests stop e c = rw e (record { replies = λ s h n l. (c p).replies s h n (omega (arith, l)); kept = (c p).kept })

-- the level past the run name
pub follow_tries : {inp : Handed} {assigned left : ℕ} {parts stack : List ℕ} {got : Lent} {m : Marks} {p : Place} {o : Finding} (v : ℕ) → (left ≡ 0 → ⊥)
    → p.at < length inp.pattern
    → LevelIs inp (lent_of assigned (left - 1) parts stack ⇒ got) v 0 0 p.elements m (place_past p 0 1 0) o
    → FollowIs inp (lent_of assigned left parts stack ⇒ got) (RunName v) m p o
follow_tries {inp} {left = left} {p = p} v z i r = record {
  replies = λ s h n l. r.replies (past s) (past_holds i h) n (omega (arith, l))
      ∙ ap (λ (x : ℕ). tries_of (level_in inp n) inp.table inp.bytes v (past s) x 0 0 (left - 1)) (sub-zero p.elements)
      ∙ sym (lengths_tries (level_in inp n) inp.table inp.bytes v s s.place.elements 0 0 left
      ∙ rw (ne_eqb left 0 z, h.place));
  kept = r.kept;
}

-- a walk that fails

pub failure_is : (stop : Stop) → failure stop ≡ true → stop ≡ Failure
failure_is Failure e = refl
failure_is NoAllowance e = absurd (true≢false (sym e))
failure_is NoPair e = absurd (true≢false (sym e))
failure_is (RunName v) e = absurd (true≢false (sym e))

pub rest_fails : {inp : Handed} {was : Lent} {m : Marks} {p : Place} {r : Stopped} {parts stack : List ℕ} {halts : Bool}
    → HeldAt inp was m p → Onward halts inp was m p parts stack r → failure r.stop ≡ true
    → RestIs inp (was ⇒ lent_of was.assigned r.left parts stack) m p Failed
rest_fails {inp} {r = r} {parts = parts} {stack = stack} holding onward e =
    let x =
    rest_follows holding onward
    (follow_fails inp (lent_of r.assigned r.left parts stack) r.marks r.place r.stop (failure_is r.stop e)) in
    record { replies = x.replies; kept = x.kept }

-- a level that halts, or does not

module _ (halts : Bool) {inp : Handed} {was : Lent} {m : Marks} {p : Place} {r : Stopped} {parts stack : List ℕ}
    (onward : Onward halts inp was m p parts stack r) where
  pub rest_fails_by : HeldAt inp was m p → failure r.stop ≡ true → RestBy halts inp (was ⇒ lent_of was.assigned r.left parts stack) m p Failed
  rest_fails_by holding e = record {
    halted = λ h. record {
      reached = r;
      parts = parts;
      walks = onward.halted h;
      same_left = refl;
      told = subst (λ (b : Bool). Told b r parts Failed was.assigned parts) (sym e) (refl, refl);
    };
    going = λ h. rest_fails holding onward e;
  }

  pub rest_reports : halts ≡ true → failure r.stop ≡ false → {o : Finding} {parts₂ : List ℕ} → Reports parts r.stop r.marks r.place o parts₂
      → RestBy halts inp (was ⇒ lent_of r.assigned r.left parts₂ stack) m p o
  rest_reports is_true e {o} {parts₂} reports = record {
    halted = λ h. record {
      reached = r;
      parts = parts;
      walks = onward.halted h;
      same_left = refl;
      told = subst (λ (b : Bool). Told b r parts o r.assigned parts₂) (sym e) (refl, reports);
    };
    going = λ h. absurd (true≢false (sym is_true ∙ h));
  }

  pub rest_follows_by : halts ≡ false → HeldAt inp was m p → {o : Finding} {got : Lent}
      → FollowIs inp (lent_of r.assigned r.left parts stack ⇒ got) r.stop r.marks r.place o → RestBy halts inp (was ⇒ got) m p o
  rest_follows_by is_false holding follows = record {
    halted = λ h. absurd (true≢false (sym h ∙ is_false));
    going = λ h. rest_follows holding onward follows;
  }

-- Complements

module _ (pattern : List ℕ) (c : PutBy) (within : c.at + 1 + c.size ≤ length pattern) where
  -- the inside, as the code takes it
  abbrev pub taken : List ℕ
  taken = take (c.at + 1 + c.size - (c.at + 1)) (drop (c.at + 1) pattern)

  pub inside_is : taken ≡ take c.size (drop (c.at + 1) pattern)
  inside_is = let z : c.at + 1 + c.size - (c.at + 1) ≡ c.size = omega arith in rw z

  pub inside_size : length (take c.size (drop (c.at + 1) pattern)) ≡ c.size
  inside_size = length-take-le c.size (drop (c.at + 1) pattern) (omega (arith, length-drop (c.at + 1) pattern))

  pub inside_length : length taken ≡ c.size
  inside_length = ap length inside_is ∙ inside_size

  pub inside_holding : {bytes assigned : ℕ} {parts stack : List ℕ} {m : Marks} → Testable (length pattern) bytes assigned parts stack m c
      → Holding (length taken) bytes assigned parts stack (inside m) (place 1 1 0 c.node)
  inside_holding h = rw inside_length h.holding

-- how it ends, where its search does
pub complement_tests : (inp : Handed) (d : PutBy) (within : d.at + 1 + d.size ≤ length inp.pattern) (m : Marks) {c : Change} {k : Marks} {p : Place}
    {o o' : Finding} → length inp.pattern ≤ longest_pattern → k ≡ inside m → p ≡ place 1 1 0 d.node
    → RestIs (input_of inp.table inp.classes (taken inp.pattern d within) inp.bytes) c k p o → o' ≡ turned o → ComplementIs inp c d m o'
complement_tests inp d within m {c} {k} {p} {o} {o'} short is_k is_p r e = record {
  replies = λ s h n l.
      rw (e) (sym (ended o)
      ∙ ap opposite_of (there.replies s h n (omega (arith, l, short, inside_length inp.pattern d within, ap length (inside_is inp.pattern d within)))));
  kept = there.kept;
}
  where
    there : RestIs (inside_in inp d) c (inside m) (place 1 1 0 d.node) o
    there =
        subst (λ (x : List ℕ). RestIs (input_of inp.table inp.classes x inp.bytes) c (inside m) (place 1 1 0 d.node) o)
        (inside_is inp.pattern d within)
        (subst (λ (x : Marks). RestIs (input_of inp.table inp.classes (taken inp.pattern d within) inp.bytes) c x (place 1 1 0 d.node) o) is_k
        (subst (λ (x : Place). RestIs (input_of inp.table inp.classes (taken inp.pattern d within) inp.bytes) c k x o) is_p r))

    ended : (x : Finding) → opposite_of (reply_in x c.after) ≡ end_in (turned x) c.after
    ended Found = refl
    ended Failed = refl
    ended Spent = refl

module _ (assigned left : ℕ) (parts : List ℕ) (next : ℕ → Reply) where
  refuted_stop : (a o : Finding) (l : ℕ) → o ≡ turned a → left ≡ l → found o ≡ false → reply_of o left assigned parts ≡ refuted a l next
  refuted_stop Found o l e z f = rw (e, z)
  refuted_stop Failed o l e z f = absurd (true≢false (sym (ap found e) ∙ f))
  refuted_stop Spent o l e z f = rw (e, z)

  refuted_on : (a o : Finding) (l : ℕ) → o ≡ turned a → left ≡ l → found o ≡ true → refuted a l next ≡ next left
  refuted_on Found o l e z f = absurd (true≢false (sym f ∙ ap found e))
  refuted_on Failed o l e z f = rw z
  refuted_on Spent o l e z f = absurd (true≢false (sym f ∙ ap found e))

-- The loop over complements

abbrev ended : Finding → ℕ → Ended
ended o left = record { outcome = o; left = left }

none : (lv : List ℕ → State → ℕ → Reply) (pattern : List ℕ) (shown : List Part) (stack : List ℕ) (i end left : ℕ) → end ≤ i → (cs : List PutBy) → Queued stack i end cs
    → reply Found left shown ≡ complements_of lv pattern shown cs left
unfolding complements_of
none lv pattern shown stack i end left h [] q = refl
none lv pattern shown stack i end left h (c ∷ cs) q = absurd (omega (arith, q.0))

module _ (lv : List ℕ → State → ℕ → Reply) (pattern : List ℕ) (shown : List Part) (c : PutBy) (cs : List PutBy) (left left' : ℕ) (o : Finding)
    (is : ended o left' ≡ opposite_of (inside_of lv pattern shown c left)) where
  complements_stop : (assigned : ℕ) (parts : List ℕ) → found o ≡ false → reply_of o left' assigned parts ≡ complements_of lv pattern shown (c ∷ cs) left
  unfolding complements_of
  complements_stop assigned parts f =
      refuted_stop assigned left' parts (λ l. complements_of lv pattern shown cs l) (inside_of lv pattern shown c left).outcome o
      (inside_of lv pattern shown c left).left (ap (λ (y : Ended). y.outcome) is) (ap (λ (y : Ended). y.left) is) f

  complements_on : found o ≡ true → complements_of lv pattern shown (c ∷ cs) left ≡ complements_of lv pattern shown cs left'
  unfolding complements_of
  complements_on f =
      refuted_on 0 left' [] (λ l. complements_of lv pattern shown cs l) (inside_of lv pattern shown c left).outcome o
      (inside_of lv pattern shown c left).left (ap (λ (y : Ended). y.outcome) is) (ap (λ (y : Ended). y.left) is) f

module _ (inp : Handed) (was : Lent) (m : Marks) where
  abbrev Ends : Place → State → Type 0
  Ends p s = Held inp was m p s

  -- the complements from the one at i on are still to be searched
  pub record Remains (left i : ℕ) (p : Place) (s : State) : Type 0 where
    pub rest : List PutBy
    pub queued : Queued was.stack i m.waiting rest
    pub insides : Insides (length inp.pattern) (length inp.bytes) p.at m rest
    pub same : (n : ℕ) → levels inp.pattern (length inp.pattern) - 1 ≤ n
        → complements_of (levels_in inp n) inp.pattern s.parts s.waiting was.left ≡ complements_of (levels_in inp n) inp.pattern s.parts rest left

  pub record Testing (seen left : ℕ) (parts stack : List ℕ) (i : ℕ) : Type 0 where
    pub same_mask : seen ≡ was.assigned
    pub kept : Kept was.assigned m was.parts was.stack parts stack
    pub remains : (p : Place) (s : State) → Ends p s → Remains left i p s

  pub test_first : Testing was.assigned was.left was.parts was.stack m.first
  test_first = record {
    same_mask = refl;
    kept = kept_all;
    remains = λ p s h. record { rest = s.waiting; queued = h.queued; insides = h.insides; same = λ n l. refl };
  }

  module _ {seen left : ℕ} {parts stack : List ℕ} {i : ℕ} (t : Testing seen left parts stack i) where
    pub test_end : m.waiting ≤ i → ComplementsAre inp (was ⇒ lent_of seen left parts stack) m Found
    test_end e p = record {
      replies = λ s h n l.
          let q = t.remains p s h in
          ap (reply Found left) (ap (λ (x : ℕ). parts_in x parts 0 variables) t.same_mask ∙ sym (state_shown (restored t.kept h)))
          ∙ none (levels_in inp n) inp.pattern s.parts was.stack i m.waiting left e q.rest q.queued
          ∙ sym (q.same n l);
      kept = t.kept;
    }

    module _ (h : i < m.waiting) where
      next : (p : Place) (s : State) → Ends p s → (cs : List PutBy) → Queued was.stack i m.waiting cs → Insides (length inp.pattern) (length inp.bytes) p.at m cs
          → Testable (length inp.pattern) (length inp.bytes) seen parts stack m (put_by_in (get_or stack (255 - i) 0))
      next p s e [] q k = absurd (omega (arith, q))
      next p s e (c ∷ cs) q k =
          rw (t.same_mask, t.kept.of_waiting i h, q.1)
          (record { within = k.0.within; holding = record { state = start_of s.parts c.node; holds = start_holds c (restored t.kept e) k.0 } })

      pub test_next : Resting (length inp.pattern) (length inp.bytes) was.assigned was.parts was.stack m
          → Testable (length inp.pattern) (length inp.bytes) seen parts stack m (put_by_in (get_or stack (255 - i) 0))
      test_next r =
          let p = r.place in
          let s = r.holding.state in
          let q = t.remains p s r.holding.holds in
          next p s r.holding.holds q.rest q.queued q.insides

      module _ {o : Finding} {got : Lent}
          (c : ComplementIs inp (lent_of seen left parts stack ⇒ got) (put_by_in (get_or stack (255 - i) 0)) m o) where
        test_kept : Keeps was m got
        test_kept = kept_then {m₁ = inside m} (λ v b. rw t.same_mask b) (le_refl m.frames) (le_refl m.waiting) t.kept c.kept

        -- the first of the rest is the one that was searched
        told : (p : Place) (s : State) → Ends p s → (d : PutBy) (cs : List PutBy) → Queued was.stack i m.waiting (d ∷ cs)
            → Insides (length inp.pattern) (length inp.bytes) p.at m (d ∷ cs) → (n : ℕ) → levels inp.pattern (length inp.pattern) - 1 ≤ n
            → end_in o got ≡ opposite_of (inside_of (levels_in inp n) inp.pattern s.parts d left)
        unfolding inside_of
        told p s e d cs q k n l =
            let is : ComplementIs inp (lent_of was.assigned left parts stack ⇒ got) d m o =
            subst (λ (x : PutBy). ComplementIs inp (lent_of was.assigned left parts stack ⇒ got) x m o) (ap put_by_in (t.kept.of_waiting i h) ∙ q.1)
            (subst (λ (x : ℕ). ComplementIs inp (lent_of x left parts stack ⇒ got) (put_by_in (get_or stack (255 - i) 0)) m o) t.same_mask c) in
            is.replies (start_of s.parts d.node) (rw (inside_size inp.pattern d k.0.within) (start_holds d (restored t.kept e) k.0)) n l

        module _ (p : Place) (s : State) (e : Ends p s) where
          stop : (n : ℕ) → levels inp.pattern (length inp.pattern) - 1 ≤ n → found o ≡ false → (cs : List PutBy) → Queued was.stack i m.waiting cs
              → Insides (length inp.pattern) (length inp.bytes) p.at m cs
              → reply_of o got.left was.assigned got.parts ≡ complements_of (levels_in inp n) inp.pattern s.parts cs left
          stop n l f [] q k = absurd (omega (arith, q))
          stop n l f (d ∷ cs) q k =
              complements_stop (levels_in inp n) inp.pattern s.parts d cs left got.left o (told p s e d cs q k n l) was.assigned got.parts f

          on : found o ≡ true → (cs : List PutBy) → Queued was.stack i m.waiting cs → Insides (length inp.pattern) (length inp.bytes) p.at m cs
              → ((n : ℕ) → levels inp.pattern (length inp.pattern) - 1 ≤ n
              → complements_of (levels_in inp n) inp.pattern s.parts s.waiting was.left ≡ complements_of (levels_in inp n) inp.pattern s.parts cs left)
              → Remains got.left (i + 1) p s
          on f [] q k same = absurd (omega (arith, q))
          on f (d ∷ cs) q k same = record {
            rest = cs;
            queued = let z : suc i ≡ i + 1 = omega arith in subst (λ (x : ℕ). Queued was.stack x m.waiting cs) z q.2;
            insides = k.1;
            same = λ n l. same n l ∙ complements_on (levels_in inp n) inp.pattern s.parts d cs left got.left o (told p s e d cs q k n l) f;
          }

        pub test_stop : found o ≡ false → ComplementsAre inp (was ⇒ lent_of was.assigned got.left got.parts got.stack) m o
        test_stop f p = record {
          replies = λ s e n l. let q = t.remains p s e in stop p s e n l f q.rest q.queued q.insides ∙ sym (q.same n l);
          kept = test_kept;
        }

        pub test_on : found o ≡ true → Testing was.assigned got.left got.parts got.stack (i + 1)
        test_on f = record {
          same_mask = refl;
          kept = test_kept;
          remains = λ p s e. let q = t.remains p s e in on p s e f q.rest q.queued q.insides q.same;
        }

-- The whole search

module _ (table classes pattern bytes : List ℕ) (allowance : ℕ) where
  pub search_over : leb (length pattern) longest_pattern && leb (length bytes) longest_record ≡ false → failed_at allowance ≡ search_of table classes pattern bytes allowance
  unfolding search_of
  search_over h = rw h

  pub search_within : {parts stack : List ℕ} {p : Place} {o : Finding} {got : Lent}
      → length pattern ≤ longest_pattern → length bytes ≤ longest_record → Sized parts stack → p ≡ place 1 1 0 0
      → RestIs (input_of table classes pattern bytes) (lent_of 0 allowance parts stack ⇒ got) (marks 0 0 0 0) p o
      → reply_in o got ≡ search_of table classes pattern bytes allowance
  unfolding search_of
  search_within {parts} {stack} {p} {o} {got} h k z is_p r =
      rw (le-leb (length pattern) longest_pattern h, le-leb (length bytes) longest_record k)
      ((subst (λ (x : Place). RestIs (input_of table classes pattern bytes) (lent_of 0 allowance parts stack ⇒ got) (marks 0 0 0 0) x o) is_p r
      ).replies (start_of (replicate variables absent) 0) (first_holds (length pattern) (length bytes) parts stack h z) (levels pattern 0) (omega arith))
