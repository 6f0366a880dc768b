-- How the place of the walk moves: past a child that holds of some elements, into a node, out of it.
use Prim.Native.Nat.{ℕ, suc, ◌+◌, ◌-◌, ◌≤◌}
use native.Mathlib.Omega.{arith}
use mathlib.Core.Path.{◌≡◌, refl, sym, ◌∙◌, ap, ap₂, subst}
use mathlib.Core.List.{List, [], ◌∷◌}
use mathlib.Core.Bool.{Bool, true, false, cond, ◌&&◌, false≢true}
use lib.ListN.{length, get_or, drop, length-drop}
use lib.Dec.{eqb}
use borrow.Author.Tests.{eqb-true}
use Rattle.answers.specs.declared.Part.{Part}
use Rattle.term.proofs.Lists.{front, past_front}
use Rattle.term.specs.Table.{is_list, width}
use Rattle.term.specs.Tree.{Tree, Trees, branch, empty, more, number, list_code, encode, encodes}
use Rattle.term.specs.Term.{Terms, node, nil, ◌::◌, ◌⧺◌, count, size, sizes, term_trees, terms_bytes}
use Rattle.term.specs.Pattern.{Children, symbol, end, plain, run, child_trees}
use Rattle.term.specs.Limits.{Shape, below_of, Fits}
use Rattle.term.specs.declared.Code.{Code}
use Rattle.term.specs.declared.Code.TheVariants.{Symbol}
use Rattle.term.proofs.Sizes.{arity, children_bytes, past_tree, past_terms, terms_length, number_children, node_bytes, symbol_bytes}
use Rattle.anti_pattern.specs.Search.{Env}
use Rattle.anti_pattern.proofs.Machine.{Frame, Pending, frame}
use Rattle.anti_pattern.proofs.Facts.{count_join}
use Rattle.search.specs.State.{remaining, State, state, place_past, entered, reopened, alone}
use Rattle.search.specs.declared.place.Remaining.{Remaining}
use Rattle.search.specs.declared.place.Place.{Place}
use Rattle.term.proofs.Joins.{bytes_join, sizes_join, fit_split, leaf_length}
use Rattle.link.proofs.Represents.{Limited, codes_left, bytes_left, Stacked, Here, Stands, Shown, Represents}

-- limits

-- of a node and those that follow it: these, and the node's children
limited_rest : {table : List ℕ} {records : Bool} {t : Tree} {ts : Trees} → Limited table records (more t ts) → Limited table records ts
unfolding Fits
limited_rest h = record { left = h.left; in_list = h.in_list; fit = h.fit.1 }

pub limited_children : {table : List ℕ} {records : Bool} {c : Code} {us ts : Trees} → Limited table records (more (branch c us) ts) → Limited table records us
unfolding Fits
limited_children {table} {records} {c} h = record { left = below_of c h.left; in_list = list_code table c; fit = h.fit.0.3 }

-- a symbol that has no children by the table
pub childless : {table : List ℕ} {records : Bool} {s : ℕ} {us ts : Trees} → Limited table records (more (branch (Symbol s) us) ts) → get_or table s 0 ≡ 0
    → number us ≡ 0
unfolding Fits Shape
childless h e = rw e at h.fit.0.2.1

-- of elements that come first, and of those behind them
limited_split : {table : List ℕ} (w us : Terms) → Limited table true (term_trees (w ⧺ us)) → Limited table true (term_trees w) × Limited table true (term_trees us)
limited_split {table} w us h =
    let f = fit_split table true w us h.left h.in_list h.fit in
    (record { left = h.left; in_list = h.in_list; fit = f.0 }, record { left = h.left; in_list = h.in_list; fit = f.1 })

-- so many bytes of terms at a place lie within
pub within_terms : (table bytes : List ℕ) (at : ℕ) (ts : Terms) (bs : List ℕ) → at ≤ length bytes → drop at bytes ≡ terms_bytes table ts bs
    → at + sizes table ts ≤ length bytes
within_terms table bytes at ts bs h e = omega (arith, ap length e, length-drop at bytes, terms_length table ts bs)

-- a node's own bytes

pub some_width : (list : Bool) → 1 ≤ cond list 2 1
some_width true = omega arith
some_width false = omega arith

past_own : (l : List ℕ) (a : ℕ) (list : Bool) (s n : ℕ) (bs : List ℕ) → drop a l ≡ s ∷ cond list (n ∷ bs) bs → drop (a + cond list 2 1) l ≡ bs
past_own l a true s n bs h = past_front l a 2 (s ∷ n ∷ []) bs h refl
past_own l a false s n bs h = past_front l a 1 (s ∷ []) bs h refl

-- whether a node is open around

pub stacked_alone : (table : List ℕ) (frames : List Remaining) (at : ℕ) → Stacked table frames at [] → frames ≡ []
stacked_alone table [] at h = refl
stacked_alone table (c ∷ cs) at h = absurd h

pub stacked_open : (table : List ℕ) (frames : List Remaining) (at : ℕ) (f : Frame) (fs : List Frame) → Stacked table frames at (f ∷ fs)
    → (c : Remaining) × (cs : List Remaining) × (frames ≡ c ∷ cs)
stacked_open table [] at f fs h = absurd h
stacked_open table (c ∷ cs) at f fs h = (c, cs, refl)

-- behind the last child pattern of a level nothing of the pattern is left
pub behind_last : (table : List ℕ) (frames : List Remaining) (at children : ℕ) (qs : Children) (fs : List Frame) → Stacked table frames at fs
    → children ≡ suc (arity qs) → alone frames && eqb children 1 ≡ true → children_bytes table qs (codes_left table fs) ≡ []
unfolding encode
behind_last table [] at children end [] h k e = refl
behind_last table [] at children (plain q qs) [] h k e = absurd (omega (arith, eqb-true children 1 e))
behind_last table [] at children (run v qs) [] h k e = absurd (omega (arith, eqb-true children 1 e))
behind_last table [] at children qs (f ∷ fs) h k e = absurd h
behind_last table (c ∷ cs) at children qs fs h k e = absurd (false≢true e)

module _ (table pattern bytes : List ℕ) (p : Place) (frames : List Remaining) where
  -- past a child that holds of the elements w
  pub here_past : (cs qs : Children) (c : Tree) (w us : Terms) (fs : List Frame) (codes : ℕ) → child_trees cs ≡ more c (child_trees qs)
      → length (encode table c []) ≡ codes → Here table pattern bytes p frames cs (w ⧺ us) fs
      → Here table pattern bytes (place_past p (count w) codes (sizes table w)) frames qs us fs
  unfolding encode number
  here_past cs qs c w us fs codes z k h =
      let j : drop p.node bytes ≡ terms_bytes table w (terms_bytes table us (bytes_left table fs h.bytes_after)) =
      h.stands ∙ bytes_join table w us (bytes_left table fs h.bytes_after) in
      let n : p.node + sizes table (w ⧺ us) ≡ p.node + sizes table w + sizes table us = omega (arith, sizes_join table w us) in
      let a : arity cs ≡ suc (arity qs) = sym (number_children cs) ∙ ap number z ∙ ap suc (number_children qs) in
      let i : drop p.at pattern ≡ encode table c (children_bytes table qs (codes_left table fs)) =
      h.codes ∙ ap (λ (ts : Trees). encodes table ts (codes_left table fs)) z in
      record {
        bytes_after = h.bytes_after;
        codes = ap (λ (m : ℕ). drop (p.at + m) pattern) (sym k) ∙ past_tree table pattern p.at c (children_bytes table qs (codes_left table fs)) i;
        stands = past_terms table bytes p.node w (terms_bytes table us (bytes_left table fs h.bytes_after)) j;
        within = within_terms table bytes p.node w (terms_bytes table us (bytes_left table fs h.bytes_after)) h.within j;
        children = omega (arith, h.children);
        elements = omega (arith, h.elements, count_join w us);
        few = omega (arith, h.few);
        around = subst (λ (m : ℕ). Stacked table frames m fs) n h.around;
        patterns_limited = limited_rest (subst (Limited table false) z h.patterns_limited);
        elements_limited = (limited_split w us h.elements_limited).1;
      }

  -- the elements that come first stand there
  pub here_stands : (cs : Children) (w us : Terms) (fs : List Frame) → Here table pattern bytes p frames cs (w ⧺ us) fs → Stands table bytes p.node w
  here_stands cs w us fs h = record {
    after = terms_bytes table us (bytes_left table fs h.bytes_after);
    stands = h.stands ∙ bytes_join table w us (bytes_left table fs h.bytes_after);
    within = h.within;
    limited = (limited_split w us h.elements_limited).0;
  }

  -- into a node
  pub here_open : (s r : ℕ) → get_or table s 0 ≡ get_or table r 0 → (ps qs : Children) (us ts : Terms) (fs : List Frame)
      → Here table pattern bytes p frames (plain (symbol s ps) qs) (node r us :: ts) fs
      → Here table pattern bytes (entered p (arity ps) (count us) (width table s)) (remaining (p.children - 1) (p.elements - 1) ∷ frames)
      ps us (frame qs ts (p.node + size table (node r us)) ∷ fs)
  unfolding encode size
  here_open s r alike ps qs us ts fs h =
      let list : is_list table r ≡ is_list table s = ap (λ (b : ℕ). eqb b 255) (sym alike) in
      let wide : width table r ≡ width table s = ap (λ (b : Bool). cond b 2 1) list in
      let codes = h.codes ∙ symbol_bytes table s ps (children_bytes table qs (codes_left table fs)) in
      let k : p.children - 1 ≡ arity qs = omega (arith, h.children) in
      let e : p.elements - 1 ≡ count ts = omega (arith, h.elements) in
      let n : p.node + (width table r + sizes table us) ≡ p.node + width table s + sizes table us = omega arith in
      let m : p.node + (width table r + sizes table us + sizes table ts) ≡ p.node + (width table r + sizes table us) + sizes table ts = omega arith in
      record {
        bytes_after = h.bytes_after;
        codes = past_own pattern p.at (is_list table s) s (arity ps) (children_bytes table ps (children_bytes table qs (codes_left table fs))) codes;
        stands = past_own bytes p.node (is_list table s) r (count us) (terms_bytes table us (terms_bytes table ts (bytes_left table fs h.bytes_after)))
            (h.stands ∙ node_bytes table r us (terms_bytes table ts (bytes_left table fs h.bytes_after))
            ∙ ap (λ (b : Bool). r ∷ cond b (count us ∷ terms_bytes table us (terms_bytes table ts (bytes_left table fs h.bytes_after)))
            (terms_bytes table us (terms_bytes table ts (bytes_left table fs h.bytes_after)))) list);
        within = omega (arith, within_terms table bytes p.node (node r us :: ts) (bytes_left table fs h.bytes_after) h.within h.stands);
        children = refl;
        elements = refl;
        few = omega (arith, h.few, some_width (is_list table s), (front pattern p.at s _ codes).0);
        around = (
          record {
            counted = ap₂ remaining k e;
            at = n;
            patterns = limited_rest h.patterns_limited;
            elements = limited_rest h.elements_limited;
          },
          subst (λ (x : ℕ). Stacked table frames x fs) (m ∙ ap (λ (x : ℕ). x + sizes table ts) n) h.around,
        );
        patterns_limited = limited_children h.patterns_limited;
        elements_limited = limited_children h.elements_limited;
      }

  -- out of it
  pub here_close : (c : Remaining) (f : Frame) (fs : List Frame) → Here table pattern bytes p (c ∷ frames) end nil (f ∷ fs)
      → Here table pattern bytes (reopened p c) frames f.patterns f.elements fs
  unfolding encode size
  here_close c f fs h =
      let z : p.node + 0 + sizes table f.elements ≡ p.node + sizes table f.elements = omega arith in
      record {
        bytes_after = h.bytes_after;
        codes = h.codes;
        stands = h.stands;
        within = h.within;
        children = ap (λ (x : Remaining). x.children) h.around.0.counted;
        elements = ap (λ (x : Remaining). x.elements) h.around.0.counted;
        few = omega (arith, h.few);
        around = subst (λ (m : ℕ). Stacked table frames m fs) z h.around.1;
        patterns_limited = h.around.0.patterns;
        elements_limited = h.around.0.elements;
      }

  pub close_at : (c : Remaining) (f : Frame) (fs : List Frame) → Here table pattern bytes p (c ∷ frames) end nil (f ∷ fs) → f.at ≡ p.node
  unfolding size
  close_at c f fs h = omega (arith, h.around.0.at)

-- past a child of one byte that holds of the elements w, whatever becomes of the parts
pub past_leaf : (table pattern bytes : List ℕ) (s : State) (cs qs : Children) (c : Code) (w us : Terms) (fs : List Frame) (e f : Env)
    (ds : List Pending)
    (parts : List Part) → child_trees cs ≡ more (branch c empty) (child_trees qs) → list_code table c ≡ false
    → Represents table pattern bytes s cs (w ⧺ us) fs e ds → Shown table bytes parts f
    → Represents table pattern bytes (state parts s.frames s.waiting (place_past s.place (count w) 1 (sizes table w))) qs us fs f ds
past_leaf table pattern bytes s cs qs c w us fs e f ds parts z l h shown = record {
  here = here_past table pattern bytes s.place s.frames cs qs (branch c empty) w us fs 1 z (leaf_length table c l) h.here;
  shown = shown;
  waiting = h.waiting;
}
