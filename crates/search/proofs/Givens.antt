-- The laws of the next answer on bytes, one for each way that its functions go.
-- Assumes nothing.
use Prim.Native.Nat.{ℕ, zero, suc, ◌+◌, ◌-◌, ◌^◌, ◌<◌, ◌≤◌}
use native.Mathlib.Omega.{arith}
use mathlib.Core.Path.{◌≡◌, refl, sym, ap, subst, ◌∙◌, ap₂}
use mathlib.Core.List.{List}
use Rattle.std.proofs.Common.{Option, Some, None}
use mathlib.Core.Bool.{true, false, cond, true≢false}
use lib.Bits.{bit_or}
use lib.ListN.{length, get_or, take, drop, set}
use lib.Dec.{eqb}
use borrow.Author.Tests.{lt-ltb, le-ltb, eq-eqb, ne_eqb}
use Rattle.answers.specs.Part.{bound_part}
use Rattle.term.proofs.Lists.{rest_part}
use Rattle.term.specs.Limits.{longest_record}
use Rattle.term.specs.Extent.{span_of, extent_of}
use Rattle.search.specs.State.{State, turns, place_past, walked, walk_of}
use Rattle.search.specs.Level.{Reply, spent_at, tried, complements_of, level_of, levels}
use Rattle.search.specs.Given.{Pass, ends, resumed_by, or_further, further_of, given_length_of, given_by, after_given, given_of}
use Rattle.search.specs.Inner.GivenReplies.{resumed_as, pass_by, pass_in, given_in, FurtherIs, GivenFollows, GivenIs}
use Rattle.parts.specs.Packed.{bit, packed}
use Rattle.search.specs.Inner.Memory.{Kept}
use Rattle.search.specs.Inner.Lent.{Handed, Lent, lent_of, ◌⇒◌, Held, Keeps, levels_in, level_in}
use Rattle.search.specs.Inner.Bounds.{Ready, Walks}
use Rattle.search.specs.Inner.Replies.{failure, reply_of, tries_of, LevelIs, RestIs}
use Rattle.search.specs.Inner.Halts.{PairsAre}
use Rattle.search.specs.declared.place.Place.{Place}
use Rattle.search.specs.declared.marks.Marks.{Marks}
use Rattle.steps.specs.declared.Stop.{Stop}
use Rattle.steps.specs.declared.Stop.TheVariants.{Failure, NoAllowance, NoPair, RunName}
use Rattle.search.specs.declared.walk.Stopped.{Stopped}
use Rattle.search.specs.declared.Finding.{Finding}
use Rattle.search.specs.declared.Finding.TheVariants.{Found, Failed, Spent}
use Rattle.parts.proofs.Masks.{bit_still}
use Rattle.search.proofs.Findings.{resuming}
use Rattle.search.proofs.Kept.{kept_all, restored, past, past_holds, given_holds}
use Rattle.search.proofs.Moved.{HeldAt, kept_again, moved_keeps}
use Rattle.search.proofs.Held.{kept_part}
use Rattle.search.proofs.Tries.{lengths_tries, given_past, level_stops}
use Rattle.search.proofs.Levels.{failure_is}
use Rattle.search.proofs.Reporting.{met, met_fails, met_parts, walk_stays}

-- The lengths after n

further_tries : (lv : State → ℕ → Reply) (table bytes : List ℕ) (v : ℕ) (s : State) (j n size left : ℕ) → 0 < j
    → further_of lv table bytes v s j n size left
    ≡ cond (eqb left 0) (spent_at left)
    (tries_of lv table bytes v (past s) (j - 1) (n + 1) (size + extent_of table (drop (s.place.node + size) bytes)) (left - 1))
unfolding further_of
further_tries lv table bytes v s zero n size left h = absurd (omega arith)
further_tries lv table bytes v s (suc j) n size left h =
    let z : suc j - 1 ≡ j = omega arith in
    lengths_tries lv table bytes v s j (n + 1) (size + extent_of table (drop (s.place.node + size) bytes)) left
    ∙ ap (λ (x : ℕ). cond (eqb left 0) (spent_at left)
    (tries_of lv table bytes v (past s) x (n + 1) (size + extent_of table (drop (s.place.node + size) bytes)) (left - 1))) (sym z)

module _ (inp : Handed) (was : Lent) (v n node : ℕ) (m : Marks) (p : Place) where
  pub further_none : p.elements ≤ n → FurtherIs inp (was ⇒ was) v n (node - p.node) m p Failed
  unfolding further_of
  further_none h = record {
    replies = λ s i k l.
        let z : p.elements - n ≡ 0 = omega arith in
        ap (λ (x : ℕ). further_of (level_in inp k) inp.table inp.bytes v s x n (node - p.node) was.left) (sym z);
    kept = kept_all;
  }

  pub further_spent : n < p.elements → was.left ≡ 0 → FurtherIs inp (was ⇒ was) v n (node - p.node) m p Spent
  further_spent h z = record {
    replies = λ s i k l.
        sym (further_tries (level_in inp k) inp.table inp.bytes v s (p.elements - n) n (node - p.node) was.left (omega arith)
        ∙ rw (eq-eqb was.left 0 z));
    kept = kept_all;
  }

pub further_level : {inp : Handed} {assigned left : ℕ} {parts stack : List ℕ} {got : Lent} {m : Marks} {p : Place} {o : Finding} (v n node : ℕ)
    → n < p.elements → (left ≡ 0 → ⊥) → p.at < length inp.pattern → p.node ≤ node → (e : ℕ)
    → e ≡ extent_of inp.table (take (length inp.bytes - node) (drop node inp.bytes))
    → LevelIs inp (lent_of assigned (left - 1) parts stack ⇒ got) v (n + 1) (node + e - p.node) p.elements m (place_past p 0 1 0) o
    → FurtherIs inp (lent_of assigned left parts stack ⇒ got) v n (node - p.node) m p o
further_level {inp} {left = left} {p = p} v n node h z i j e is-e r = record {
  replies = λ s g k l.
      let x : s.place.node + (node - p.node) ≡ node = omega (arith, ap (λ (x : Place). x.node) g.place) in
      let y : e ≡ extent_of inp.table (drop (s.place.node + (node - p.node)) inp.bytes) =
      is-e ∙ ap (extent_of inp.table) (rest_part node inp.bytes ∙ ap (λ (a : ℕ). drop a inp.bytes) (sym x)) in
      let a : p.elements - (n + 1) ≡ p.elements - n - 1 = omega arith in
      let b : node + e - p.node ≡ node - p.node + extent_of inp.table (drop (s.place.node + (node - p.node)) inp.bytes) = omega (arith, y) in
      r.replies (past s) (past_holds i g) k (omega (arith, l))
      ∙ ap₂ (λ (a b : ℕ). tries_of (level_in inp k) inp.table inp.bytes v (past s) a (n + 1) b (left - 1)) a b
      ∙ sym (further_tries (level_in inp k) inp.table inp.bytes v s (p.elements - n) n (node - p.node) left (omega arith)
      ∙ rw (ne_eqb left 0 z));
  kept = r.kept;
}

-- The rest of a level, by the stop of its walk

given_stops : (n : ℕ) (table classes pattern bytes g : List ℕ) (s : State) (left : ℕ) (stop : Stop) (l : ℕ) (end : State) (x : Pass)
    → 0 < n → walk_of turns table classes pattern bytes s left ≡ walked stop l end
    → x ≡ given_by stop (given_of (n - 1) table classes bytes pattern g) (level_of (n - 1) table classes bytes) table pattern bytes g end l
    → x ≡ given_of n table classes bytes pattern g s left
unfolding given_of after_given
given_stops zero table classes pattern bytes g s left stop l end x h e f = absurd (omega arith)
given_stops (suc n) table classes pattern bytes g s left stop l end x h e f = let z : suc n - 1 ≡ n = omega arith in rw e (f ∙ rw z)

pub given_follows : {inp : Handed} (g : List ℕ) {was got : Lent} {m : Marks} {p : Place} {r : Stopped} {parts stack : List ℕ} {x : Option Finding}
    → HeldAt inp was m p → Walks inp was m p parts stack r
    → GivenFollows inp g (lent_of r.assigned r.left parts stack ⇒ got) r.stop r.marks r.place x → GivenIs inp g (was ⇒ got) m p x
given_follows g {was} {got} {r = r} {x = x} holding walks follows = record {
  replies = λ s h k l.
      let w = walks s h in
      given_stops k _ _ _ _ g s was.left r.stop r.left w.end (pass_in x got) (omega arith) w.so
      (follows.replies w.end w.moved.holds (k - 1) (omega (arith, w.moved.further, l)));
  kept = moved_keeps (walks holding.state holding.holds).moved follows.kept;
}

resumed_by_holds : (o : Finding) (left assigned : ℕ) (parts : List ℕ)
    → pass_by (resumed_as o) left assigned parts ≡ resumed_by (reply_of o left assigned parts).outcome (reply_of o left assigned parts).left
resumed_by_holds Found left assigned parts = refl
resumed_by_holds Failed left assigned parts = refl
resumed_by_holds Spent left assigned parts = refl

-- with no pair left, what comes of a level from there
pub given_ends : {inp : Handed} (g : List ℕ) {was got : Lent} {m : Marks} {p : Place} {r : Stopped} {parts stack : List ℕ}
    → HeldAt inp was m p → Walks inp was m p parts stack r → r.stop ≡ NoPair → (x : Option Finding) {o : Finding} → x ≡ resumed_as o
    → RestIs inp (lent_of r.assigned r.left parts stack ⇒ got) r.marks r.place o → GivenIs inp g (was ⇒ got) m p x
given_ends {inp} g {was} {got} {r = r} holding walks e x {o} is rest = record {
  replies = λ s h k l.
      let w = walks s h in
      let i : walk_of turns inp.table inp.classes inp.pattern inp.bytes s was.left ≡ walked NoPair r.left w.end =
      w.so ∙ ap (λ (y : Stop). walked y r.left w.end) e in
      given_stops k _ _ _ _ g s was.left NoPair r.left w.end (pass_in x got) (omega arith) i
      (ap (λ (y : Option Finding). pass_in y got) is ∙ resumed_by_holds o got.left got.assigned got.parts
      ∙ ap (λ (y : Reply). resumed_by y.outcome y.left) (rest.replies w.end w.moved.holds k (omega (arith, w.moved.further, l))
      ∙ sym (level_stops k _ _ _ _ w.end r.left NoPair r.left w.end
      (complements_of (levels_in inp (k - 1)) inp.pattern w.end.parts w.end.waiting r.left) (omega arith)
      (walk_stays _ _ _ _ r.left w.end turns s was.left i) refl)));
  kept = moved_keeps (walks holding.state holding.holds).moved rest.kept;
}

module _ (inp : Handed) (g : List ℕ) (was : Lent) (m : Marks) (p : Place) where
  pub given_fails : (stop : Stop) → stop ≡ Failure → GivenFollows inp g (was ⇒ was) stop m p None
  given_fails stop e = rw e (record { replies = λ s h k l. refl; kept = kept_all })

  pub given_spent : (stop : Stop) → stop ≡ NoAllowance → GivenFollows inp g (was ⇒ was) stop m p (Some Spent)
  given_spent stop e = rw e (record { replies = λ s h k l. refl; kept = kept_all })

  -- an unassigned run name

  pub given_run : (stop : Stop) (v w : ℕ) → stop ≡ RunName v → w ≡ v → {x : Option Finding} {got : Lent}
      → GivenFollows inp g (was ⇒ got) (RunName w) m p x → GivenFollows inp g (was ⇒ got) stop m p x
  given_run stop v w e f {x} {got} r =
      subst (λ (y : Stop). GivenFollows inp g (was ⇒ got) y m p x) (ap (λ (i : ℕ). RunName i) f ∙ sym e) r

  pub given_none : (v : ℕ) → was.left ≡ 0 → GivenFollows inp g (was ⇒ was) (RunName v) m p (Some Spent)
  unfolding given_length_of
  given_none v z = record { replies = λ s h k l. rw (eq-eqb was.left 0 z); kept = kept_all }

  pub given_unfit : (v : ℕ) → (was.left ≡ 0 → ⊥) → p.elements < get_or g v 0 → (left : ℕ)
      → GivenFollows inp g (was ⇒ lent_of was.assigned left was.parts was.stack) (RunName v) m p None
  unfolding given_length_of
  given_unfit v z i left = record {
    replies = λ s h k l.
        rw (ne_eqb was.left 0 z, lt-ltb s.place.elements (get_or g v 0) (omega (arith, ap (λ (x : Place). x.elements) h.place)));
    kept = kept_all;
  }

given_fits : (gl : State → ℕ → Pass) (lv : State → ℕ → Reply) (table bytes : List ℕ) (n v : ℕ) (s : State) (left : ℕ) → (left ≡ 0 → ⊥)
    → n ≤ s.place.elements
    → given_length_of gl lv table bytes n v s left
    ≡ or_further (gl (tried s v n (span_of table (drop s.place.node bytes) false n)) (left - 1))
    (λ l. further_of lv table bytes v s (s.place.elements - n) n (span_of table (drop s.place.node bytes) false n) l)
unfolding given_length_of
given_fits gl lv table bytes n v s left z i = rw (ne_eqb left 0 z, le-ltb s.place.elements n i)

stays : (x : Option Finding) (left assigned : ℕ) (parts : List ℕ) (f : ℕ → Reply) → resuming x ≡ false
    → pass_by x left assigned parts ≡ or_further (pass_by x left assigned parts) f
stays (Some Found) left assigned parts f h = refl
stays (Some Failed) left assigned parts f h = absurd (true≢false h)
stays (Some Spent) left assigned parts f h = refl
stays None left assigned parts f h = refl

goes_on : (x : Option Finding) (left assigned : ℕ) (parts : List ℕ) (f : ℕ → Reply) → resuming x ≡ true
    → or_further (pass_by x left assigned parts) f ≡ ends (f left)
goes_on (Some Found) left assigned parts f h = absurd (true≢false (sym h))
goes_on (Some Failed) left assigned parts f h = refl
goes_on (Some Spent) left assigned parts f h = absurd (true≢false (sym h))
goes_on None left assigned parts f h = absurd (true≢false (sym h))

module _ (inp : Handed) (g : List ℕ) (was : Lent) (v n node : ℕ) (m : Marks) (p : Place) where
  -- the given length is taken, up to a byte, and the variable's part is written
  pub record Taken (part seen : ℕ) (q : Place) : Type 0 where
    pub holding : HeldAt inp was m p
    pub ready : Ready (length inp.pattern) v p
    pub free : bit was.assigned v ≡ false
    pub short : length inp.bytes ≤ longest_record
    pub some : was.left ≡ 0 → ⊥
    pub is_n : n ≡ get_or g v 0
    pub fits : n ≤ p.elements
    pub byte : n < 256
    pub is_node : node ≡ p.node + span_of inp.table (drop p.node inp.bytes) false n
    pub within : node ≤ length inp.bytes
    pub is_place : q ≡ place_past p n 1 (node - p.node)
    pub is_part : part ≡ packed (bound_part p.node (node - p.node) n)
    pub is_seen : seen ≡ bit_or was.assigned (2 ^ v)

  module _ {part seen : ℕ} {q : Place} (t : Taken part seen q) where
    abbrev size : ℕ
    size = node - p.node

    abbrev Starts : State → Type 0
    Starts s = Held inp was m p s

    -- what the rest of the level is given
    abbrev given : Lent
    given = lent_of seen (was.left - 1) (set was.parts v part) was.stack

    -- the same as it is written
    abbrev written : Lent
    written = lent_of (bit_or was.assigned (2 ^ v)) (was.left - 1) (set was.parts v (packed (bound_part p.node size n))) was.stack

    taken_holds : (s : State) → Starts s → Held inp given m q (tried s v n size)
    taken_holds s h =
        let i : Held inp was m (past s).place (past s) =
        subst (λ (x : Place). Held inp was m x (past s)) (sym (past_holds t.ready.at h).place) (past_holds t.ready.at h) in
        let j = given_holds was.assigned v p.node size n (omega (arith, t.is_node, t.within, t.short)) (omega (arith, t.ready.variable)) t.byte
        {s = past s} (omega (arith, ap (λ (x : Place). x.node) h.place)) (omega (arith, t.is_node, t.within)) i in
        let k : Held inp written m (tried s v n size).place (tried s v n size) =
        subst (λ (x : State). Held inp written m x.place x) (given_past (λ a b. spent_at b) inp.table inp.bytes v s n size) j in
        rw (t.is_part, t.is_seen)
        (subst (λ (x : Place). Held inp written m x (tried s v n size)) (ap (λ (x : Place). place_past x n 1 size) h.place ∙ sym t.is_place) k)

    pub taken_holding : HeldAt inp given m q
    taken_holding = record { state = tried t.holding.state v n size; holds = taken_holds t.holding.state t.holding.holds }

    -- what the rest of the level makes of it
    module _ {x : Option Finding} {got : Lent} (rest : GivenIs inp g (given ⇒ got) m q x) where
      taken_is : (s : State) → Starts s → (k : ℕ) → levels inp.pattern p.at - 1 ≤ k
          → pass_in x got ≡ given_in inp g k (tried s v n size) (was.left - 1)
      taken_is s h k l =
          rest.replies (tried s v n size) (taken_holds s h) k
          (omega (arith, ap (λ (y : Place). y.at) t.is_place, t.ready.at, l))

      pub taken_kept : Keeps was m got
      taken_kept = kept_again (λ i b. rw t.is_seen (bit_still was.assigned v i b)) (kept_part v part (λ i. t.free)) rest.kept

      pub taken_again : HeldAt inp (lent_of was.assigned got.left got.parts got.stack) m p
      taken_again = record { state = t.holding.state; holds = restored taken_kept t.holding.holds }

      abbrev after : State → ℕ → ℕ → Reply
      after s k l = further_of (level_in inp k) inp.table inp.bytes v s (p.elements - n) n size l

      replied : (s : State) → Starts s → (k : ℕ) → levels inp.pattern p.at - 1 ≤ k
          → given_length_of (given_in inp g k) (level_in inp k) inp.table inp.bytes (get_or g v 0) v s was.left
          ≡ or_further (pass_in x got) (λ l. after s k l)
      replied s h k l =
          let at = ap (λ (y : Place). y.elements) h.place in
          let a : span_of inp.table (drop s.place.node inp.bytes) false n ≡ size =
          ap (λ (y : Place). span_of inp.table (drop y.node inp.bytes) false n) h.place ∙ omega (arith, t.is_node) in
          ap (λ (y : ℕ). given_length_of (given_in inp g k) (level_in inp k) inp.table inp.bytes y v s was.left) (sym t.is_n)
          ∙ given_fits (given_in inp g k) (level_in inp k) inp.table inp.bytes n v s was.left t.some (omega (arith, at, t.fits))
          ∙ ap₂ (λ (y z : ℕ). or_further (given_in inp g k (tried s v n y) (was.left - 1))
          (λ i. further_of (level_in inp k) inp.table inp.bytes v s (z - n) n y i)) a at
          ∙ ap (λ (y : Pass). or_further y (λ i. after s k i)) (sym (taken_is s h k l))

      pub given_stays : resuming x ≡ false → GivenFollows inp g (was ⇒ got) (RunName v) m p x
      given_stays f = record {
        replies = λ s h k l. stays x got.left got.assigned got.parts (λ i. after s k i) f ∙ sym (replied s h k l);
        kept = taken_kept;
      }

      pub given_goes_on : resuming x ≡ true → {o : Finding} {got' : Lent}
          → FurtherIs inp (lent_of was.assigned got.left got.parts got.stack ⇒ got') v n size m p o
          → GivenFollows inp g (was ⇒ got') (RunName v) m p (Some o)
      given_goes_on f r = record {
        replies = λ s h k l.
            ap ends (r.replies s (restored taken_kept h) k l) ∙ sym (goes_on x got.left got.assigned got.parts (λ i. after s k i) f)
            ∙ sym (replied s h k l);
        kept = kept_again (λ i b. b) taken_kept r.kept;
      }

-- pairs that fail
pub given_unknown : {inp : Handed} (g : List ℕ) {was : Lent} {m : Marks} {p : Place} {r : Stopped} {parts stack : List ℕ} (assigned left : ℕ)
    → HeldAt inp was m p → PairsAre inp was m p parts stack r → r.stop ≡ Failure
    → GivenIs inp g (was ⇒ lent_of assigned left parts stack) m p None
given_unknown {inp} g {was} {m} {stack = stack} assigned left holding pairs e =
    let f = met_fails pairs ∙ ap failure e in
    let x =
    given_follows g holding pairs.halts.walks
    (given_fails inp g (lent_of (met pairs).assigned (met pairs).left pairs.halts.parts stack) (met pairs).marks (met pairs).place (met pairs).stop
    (failure_is (met pairs).stop f)) in
    record {
      replies = x.replies;
      kept = subst (λ (y : List ℕ). Kept was.assigned m was.parts was.stack y stack) (sym (met_parts pairs f)) x.kept;
    }
