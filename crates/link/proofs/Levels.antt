-- What a walk leads to: the lengths of a run name, and the complements put by. lv is the search of a level.
use Prim.Native.Nat.{ℕ, zero, suc, ◌+◌, ◌-◌, ◌*◌, ◌<◌, ◌≤◌}
use native.Mathlib.Omega.{arith}
use mathlib.Core.Path.{◌≡◌, refl, sym, ◌∙◌, ap, subst}
use mathlib.Core.List.{List, [], ◌∷◌}
use mathlib.Core.Bool.{false}
use lib.ListN.{length, take, drop, length-drop, length-take}
use borrow.Author.Tests.{ne_eqb, eq-eqb}
use Rattle.answers.specs.declared.Part.{Part}
use Rattle.term.specs.Limits.{longest_pattern, longest_record}
use Rattle.term.specs.Code.{variables}
use Rattle.term.specs.Tree.{list_code, encode}
use Rattle.term.specs.Term.{Term, Terms, nil, ◌::◌, ◌⧺◌, count, single, sizes}
use Rattle.term.specs.Pattern.{Pattern, Children, end, plain, run, pattern_tree, child_trees, pattern_bytes}
use Rattle.term.specs.Extent.{extent_of}
use Rattle.term.specs.declared.Code.TheVariants.{Run}
use Rattle.term.proofs.SameParts.{branch_some}
use Rattle.anti_pattern.specs.Search.{Env, Result, bind, lengths, freely}
use Rattle.anti_pattern.proofs.Machine.{Frame, Pending, frame, machine}
use Rattle.anti_pattern.proofs.Meter.{Metered, meter, then_meter, refute_meter}
use Rattle.anti_pattern.proofs.Facts.{join_one, count_join}
use Rattle.anti_pattern.proofs.Metering.{Split, enough, over, split}
use Rattle.anti_pattern.proofs.Steps.{step_found, step_refute, step_length, step_last_length, length_used_up}
use Rattle.search.specs.State.{PutBy, State}
use Rattle.search.specs.Level.{Reply, reply, spent_at, start_of, tried, or_else, lengths_of, inside_of, and_then, complements_of, levels}
use Rattle.search.specs.declared.Finding.TheVariants.{Found}
use Rattle.term.proofs.Joins.{sizes_join, sizes_none}
use Rattle.link.proofs.Represents.{Limited, bytes_left, Stands, Shown, Waits, AllWait, Represents, Agrees, is_found, is_failed, is_spent}
use Rattle.link.proofs.Places.{here_stands, past_leaf}
use Rattle.link.proofs.Parts.{shown_bind}
use Rattle.link.proofs.Turns.{extent_element}

-- replies

module _ {table bytes : List ℕ} where
  pub carry : {m n : Metered} {r q : Reply} → m ≡ n → r ≡ q → Agrees table bytes n q → Agrees table bytes m r
  carry {m} {n} {r} {q} e f a = rw (e, f) a

  pub or_then : {m : Metered} {r : Reply} (f : Unit {0} → Result) (next : ℕ → Reply) → Agrees table bytes m r
      → ((n : ℕ) → Agrees table bytes (meter n (f tt)) (next n)) → Agrees table bytes (then_meter m f) (or_else r next)
  or_then f next (is_found h) k = is_found h
  or_then f next (is_failed {left}) k = k left
  or_then f next is_spent k = is_spent

  refute_then : {m : Metered} {r : Reply} (f : Unit {0} → Result) (next : ℕ → Reply) → Agrees table bytes m r
      → ((n : ℕ) → Agrees table bytes (meter n (f tt)) (next n)) → Agrees table bytes (refute_meter m f) (and_then r next)
  refute_then f next (is_found h) k = is_failed
  refute_then f next (is_failed {left}) k = k left
  refute_then f next is_spent k = is_spent

-- the start of a level: the pattern's bytes are those of one node, against the record's node at a place
pub start_represents : (table pattern bytes : List ℕ) (parts : List Part) (e : Env) (q : Pattern) (t : Term) (node : ℕ)
    → pattern ≡ pattern_bytes table q [] → Limited table false (child_trees (plain q end)) → Stands table bytes node (single t)
    → Shown table bytes parts e → Represents table pattern bytes (start_of parts node) (plain q end) (single t) [] e []
unfolding encode
start_represents table pattern bytes parts e q t node c l stands shown = record {
  here = record {
    bytes_after = stands.after;
    codes = c;
    stands = stands.stands;
    within = stands.within;
    children = refl;
    elements = refl;
    few = omega arith;
    around = tt;
    patterns_limited = l;
    elements_limited = stands.limited;
  };
  shown = shown;
  waiting = tt;
}

-- what a search of levels, at most n within one another, is to reply
abbrev pub Searches : List ℕ → List ℕ → List ℕ → ℕ → (List ℕ → State → ℕ → Reply) → Type 0
Searches table classes bytes n lv =
    (pattern : List ℕ) → length pattern ≤ longest_pattern → (s : State) (qs : Children) (ts : Terms) (fs : List Frame) (e : Env) (ds : List Pending) (left : ℕ)
    → Represents table pattern bytes s qs ts fs e ds → levels pattern s.place.at ≤ n
    → Agrees table bytes (meter left (machine table classes freely (frame qs ts s.place.node ∷ fs) e ds)) (lv pattern s left)

module _ (table classes bytes : List ℕ) (n : ℕ) (lv : List ℕ → State → ℕ → Reply) (searches : Searches table classes bytes n lv) (pattern : List ℕ)
    (narrow : length pattern ≤ longest_pattern) where
  -- the lengths of an unassigned run name
  module _ (small : length table ≤ 200) (short : length bytes ≤ longest_record) (s : State) (v : ℕ) (qs : Children) (ts : Terms) (fs : List Frame) (e : Env)
      (ds : List Pending)
      (h : Represents table pattern bytes s (run v qs) ts fs e ds) (above : 32 ≤ v) (low : v < variables) (few : levels pattern (s.place.at + 1) ≤ n) where
    pub run_bound : (w us : Terms) → ts ≡ w ⧺ us
        → Represents table pattern bytes (tried s v (count w) (sizes table w)) qs us fs (bind e v s.place.node w) ds
    unfolding list_code
    run_bound w us z =
        let g = subst (λ (x : Terms). Represents table pattern bytes s (run v qs) x fs e ds) z h in
        past_leaf table pattern bytes s (run v qs) qs (Run v) w us fs e (bind e v s.place.node w) ds _ refl refl g
        (shown_bind table bytes short s.parts e v s.place.node w low (λ k. omega arith) h.shown
        (here_stands table pattern bytes s.place s.frames (run v qs) w us fs g.here))

    abbrev pub bound : Terms → Terms → Result
    bound w us = machine table classes freely (frame qs us (s.place.node + sizes table w) ∷ fs) (bind e v s.place.node w) ds

    lengths_spent : (k m size left : ℕ) → left ≡ 0 → lengths_of (lv pattern) table bytes v s k m size left ≡ spent_at left
    unfolding lengths_of
    lengths_spent zero m size left z = rw (eq-eqb left 0 z)
    lengths_spent (suc k) m size left z = rw (eq-eqb left 0 z)

    lengths_last : (m size left : ℕ) → 0 < left → lengths_of (lv pattern) table bytes v s 0 m size left ≡ lv pattern (tried s v m size) (left - 1)
    unfolding lengths_of
    lengths_last m size left i = rw (ne_eqb left 0 (λ z. omega arith))

    lengths_next : (k m size m' size' left : ℕ) → 0 < left → m + 1 ≡ m' → size + extent_of table (drop (s.place.node + size) bytes) ≡ size'
        → lengths_of (lv pattern) table bytes v s (suc k) m size left
        ≡ or_else (lv pattern (tried s v m size) (left - 1)) (λ l. lengths_of (lv pattern) table bytes v s k m' size' l)
    unfolding lengths_of
    lengths_next k m size m' size' left i x y = rw (ne_eqb left 0 (λ z. omega arith), x, y)

    pub next_size : (w : Terms) (t : Term) (us : Terms) → ts ≡ w ⧺ (t :: us)
        → sizes table w + extent_of table (drop (s.place.node + sizes table w) bytes) ≡ sizes table (w ⧺ single t)
    next_size w t us z =
        let g = (run_bound w (t :: us) z).here in
        let x : extent_of table (drop (s.place.node + sizes table w) bytes) ≡ sizes table (single t) =
        ap (extent_of table) g.stands ∙ extent_element table small t us (bytes_left table fs g.bytes_after) g.elements_limited in
        omega (arith, sizes_join table w (single t))

    -- from the elements w on, with us left
    abbrev pub Goes : Terms → Terms → ℕ → Type 0
    Goes w us left =
        Agrees table bytes (meter left (lengths w us bound)) (lengths_of (lv pattern) table bytes v s (count us) (count w) (sizes table w) left)

    lengths_by : (w us : Terms) (left : ℕ) → (0 < left → Goes w us left) → Split left 0 → Goes w us left
    lengths_by w us left f (over i) = f i
    lengths_by w us left f (enough i) =
        let k : left ≡ 0 = omega arith in
        carry (ap (λ (m : ℕ). meter m (lengths w us bound)) k ∙ length_used_up w us bound)
        (lengths_spent (count us) (count w) (sizes table w) left k) is_spent

    pub lengths_from : (us w : Terms) (left : ℕ) → ts ≡ w ⧺ us → Goes w us left
    lengths_from nil w left z =
        lengths_by w nil left (λ i.
        carry (step_last_length left i w bound) (lengths_last (count w) (sizes table w) left i)
        (searches pattern narrow _ qs nil fs _ ds (left - 1) (run_bound w nil z) few)) (split left 0)
    lengths_from (t :: us) w left z =
        lengths_by w (t :: us) left (λ i.
        carry (step_length left i w t us bound)
        (lengths_next (count us) (count w) (sizes table w) (count (w ⧺ single t)) (sizes table (w ⧺ single t)) left i (sym (count_join w (single t)))
        (next_size w t us z))
        (or_then (λ u. lengths (w ⧺ single t) us bound) _ (searches pattern narrow _ qs (t :: us) fs _ ds (left - 1) (run_bound w (t :: us) z) few)
        (λ l. lengths_from us (w ⧺ single t) l (z ∙ sym (join_one w t us))))) (split left 0)

    pub lengths_agree : (left : ℕ)
        → Agrees table bytes (meter left (lengths nil ts bound)) (lengths_of (lv pattern) table bytes v s s.place.elements 0 0 left)
    lengths_agree left =
        carry refl
        (ap (λ (k : ℕ). lengths_of (lv pattern) table bytes v s k 0 0 left) h.here.elements
        ∙ ap (λ (m : ℕ). lengths_of (lv pattern) table bytes v s (count ts) 0 m left) (sym (sizes_none table)))
        (lengths_from ts nil left refl)

  -- the complements put by

  complements_none : (parts : List Part) (left : ℕ) → complements_of lv pattern parts [] left ≡ reply Found left parts
  unfolding complements_of
  complements_none parts left = refl

  complements_next : (parts : List Part) (c : PutBy) (cs : List PutBy) (left : ℕ)
      → complements_of lv pattern parts (c ∷ cs) left
      ≡ and_then (lv (take c.size (drop (c.at + 1) pattern)) (start_of parts c.node) left) (complements_of lv pattern parts cs)
  unfolding complements_of inside_of
  complements_next parts c cs left = refl

  inside_agrees : (parts : List Part) (e : Env) (c : PutBy) (d : Pending) (left : ℕ) → Shown table bytes parts e → Waits table pattern bytes c d
      → 257 * length pattern ≤ n
      → Agrees table bytes (meter left (machine table classes freely (frame (plain d.inside end) (single d.term) d.at ∷ []) e []))
      (lv (take c.size (drop (c.at + 1) pattern)) (start_of parts c.node) left)
  inside_agrees parts e c d left shown w few =
      let i = take c.size (drop (c.at + 1) pattern) in
      let l : length i < length pattern =
      omega (
        arith,
        length-take c.size (drop (c.at + 1) pattern),
        length-drop (c.at + 1) pattern,
        ap length w.codes,
        branch_some table (pattern_tree d.inside) [],
      ) in
      carry (ap (λ (m : ℕ). meter left (machine table classes freely (frame (plain d.inside end) (single d.term) m ∷ []) e [])) w.at) refl
      (searches i (omega arith) (start_of parts c.node) (plain d.inside end) (single d.term) [] e [] left
      (start_represents table i bytes parts e d.inside d.term c.node w.codes w.limited w.stands shown)
      (omega arith))

  pub complements_agree : (parts : List Part) (e : Env) (cs : List PutBy) (ds : List Pending) (left : ℕ) → Shown table bytes parts e
      → AllWait table pattern bytes cs ds → 257 * length pattern ≤ n
      → Agrees table bytes (meter left (machine table classes freely [] e ds)) (complements_of lv pattern parts cs left)
  complements_agree parts e [] [] left shown w few = carry (step_found table classes freely e left) (complements_none parts left) (is_found shown)
  complements_agree parts e [] (d ∷ ds) left shown w few = absurd w
  complements_agree parts e (c ∷ cs) [] left shown w few = absurd w
  complements_agree parts e (c ∷ cs) (d ∷ ds) left shown w few =
      carry (step_refute table classes freely e d ds left) (complements_next parts c cs left)
      (refute_then (λ u. machine table classes freely [] e ds) (complements_of lv pattern parts cs) (inside_agrees parts e c d left shown w.0 few)
      (λ l. complements_agree parts e cs ds l shown w.1 few))
