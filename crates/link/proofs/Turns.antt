-- What the next turn of the walk does, by what stands there.
use Prim.Native.Nat.{ℕ, suc, ◌<◌, ◌≤◌}
use native.Mathlib.Omega.{arith}
use mathlib.Core.Path.{◌≡◌, refl, sym, ◌∙◌, ap, ap₂, subst}
use mathlib.Core.List.{List, [], ◌∷◌}
use mathlib.Core.Bool.{Bool, true, false, cond, ◌&&◌}
use lib.ListN.{length, get_or, drop}
use lib.Dec.{eqb, leb}
use borrow.Author.Tests.{le-leb, ne_eqb, eq-eqb}
use Rattle.answers.specs.Part.{part, absent}
use Rattle.answers.specs.declared.Part.{Part}
use Rattle.term.proofs.Lists.{first_left, some_left, front}
use Rattle.term.specs.Class.{Alike}
use Rattle.term.specs.Same.{same_byte}
use Rattle.term.specs.Table.{is_list, width}
use Rattle.term.specs.Code.{decode_of}
use Rattle.term.specs.Tree.{Tree, Trees, more, number, encode, encodes}
use Rattle.term.specs.Term.{Term, Terms, node, nil, ◌::◌, count, single, size, sizes, term_tree, term_trees, terms_bytes}
use Rattle.term.specs.Pattern.{Pattern, Children, name, symbol, complement, end, plain, pattern_tree, child_trees, pattern_bytes}
use Rattle.term.specs.Limits.{Counted, Shape, Fits}
use Rattle.term.specs.Extent.{entry_of, extent_of}
use Rattle.term.specs.declared.Code.{Code}
use Rattle.term.specs.declared.Code.TheVariants.{Complement}
use Rattle.term.proofs.Sizes.{arity, children_bytes, number_children, number_terms, node_bytes, symbol_bytes, term_size}
use Rattle.term.proofs.Spans.{entry_symbol, extent_tree}
use Rattle.anti_pattern.proofs.Machine.{Frame}
use Rattle.anti_pattern.specs.Search.{behind}
use Rattle.steps.specs.Turn.{step_of, variable_in, variable_of, stands_of, over_step, symbol_step, assigned_step, name_step, complement_step, pair_step, plain_step, code_step}
use Rattle.search.specs.State.{alone, variable_at, step_at}
use Rattle.search.specs.declared.place.Remaining.{Remaining}
use Rattle.search.specs.declared.place.Place.{Place}
use Rattle.steps.specs.declared.Step.TheVariants.{Stops, Fails, Closes, Opens, Passes, Binds, PutsBy}
use Rattle.steps.specs.declared.Stop.TheVariants.{Failure, NoAllowance, NoPair}
use Rattle.term.proofs.Joins.{sizes_single, root_of, first_code}
use Rattle.link.proofs.Represents.{Limited, codes_left, bytes_left, Here, Stands}
use Rattle.link.proofs.Places.{behind_last}
use Rattle.link.proofs.Parts.{assigned_stands, assigned_differs}
use Rattle.std.specs.Prelude.{Some, None}

-- the extent of what stands first

extent_first : (table : List ℕ) → length table ≤ 200 → (records : Bool) (t : Tree) (ts : Trees) (bs : List ℕ)
    → Limited table records (more t ts) → extent_of table (encodes table (more t ts) bs) ≡ length (encode table t [])
unfolding Fits encode
extent_first table small records t ts bs h = extent_tree table small records t h.left h.in_list (encodes table ts bs) h.fit.0

pub extent_element : (table : List ℕ) → length table ≤ 200 → (t : Term) (ts : Terms) (bs : List ℕ)
    → Limited table true (term_trees (t :: ts)) → extent_of table (terms_bytes table (t :: ts) bs) ≡ sizes table (single t)
extent_element table small t ts bs h =
    extent_first table small true (term_tree t) (term_trees ts) bs h ∙ term_size table t ∙ sym (sizes_single table t)

-- by the numbers alone

module _ (table classes pattern bytes : List ℕ) (had : Part) (p : Place) (left : ℕ) (outermost : Bool) where
  pub turn_over : p.children ≡ 0 → 0 < p.elements → step_at outermost table classes pattern bytes had p left ≡ Stops Failure
  unfolding step_at step_of over_step
  turn_over h k = rw (eq-eqb p.children 0 h, ne_eqb p.elements 0 (λ e. omega arith))

  pub turn_end : p.children ≡ 0 → p.elements ≡ 0 → step_at outermost table classes pattern bytes had p left ≡ cond outermost (Stops NoPair) Closes
  unfolding step_at step_of over_step
  turn_end h k = rw (eq-eqb p.children 0 h, eq-eqb p.elements 0 k)

  turn_code : (c : Code) → 0 < p.children → p.at < length pattern → decode_of (get_or pattern p.at 0) ≡ c
      → step_at outermost table classes pattern bytes had p left
      ≡ code_step (outermost && eqb p.children 1) c table classes bytes (drop p.at pattern) (drop p.node bytes) had p.elements left
  unfolding step_at step_of
  turn_code c h k e = rw (ne_eqb p.children 0 (λ z. omega arith), some_left pattern p.at k, first_left pattern p.at, e)

  plain_short : (c : Code) → p.elements ≡ 0
      → plain_step (outermost && eqb p.children 1) c table classes bytes (drop p.at pattern) (drop p.node bytes) had p.elements left ≡ Stops Failure
  unfolding plain_step
  plain_short c h = rw (eq-eqb p.elements 0 h)

  plain_spent : (c : Code) → 0 < p.elements → p.node < length bytes → left ≡ 0
      → plain_step (outermost && eqb p.children 1) c table classes bytes (drop p.at pattern) (drop p.node bytes) had p.elements left ≡ Stops NoAllowance
  unfolding plain_step
  plain_spent c h k z = rw (ne_eqb p.elements 0 (λ e. omega arith), some_left bytes p.node k, eq-eqb left 0 z)

  plain_pair : (c : Code) → 0 < p.elements → p.node < length bytes → 0 < left
      → plain_step (outermost && eqb p.children 1) c table classes bytes (drop p.at pattern) (drop p.node bytes) had p.elements left
      ≡ pair_step (outermost && eqb p.children 1) c table classes bytes (drop p.at pattern) (drop p.node bytes) had p.elements
  unfolding plain_step
  plain_pair c h k z =
      rw (ne_eqb p.elements 0 (λ e. omega arith), some_left bytes p.node k, ne_eqb left 0 (λ e. omega arith))

  by_plain : (q : Pattern)
      → code_step (outermost && eqb p.children 1) (root_of (pattern_tree q)) table classes bytes (drop p.at pattern) (drop p.node bytes) had p.elements left
      ≡ plain_step (outermost && eqb p.children 1) (root_of (pattern_tree q)) table classes bytes (drop p.at pattern) (drop p.node bytes) had p.elements left
  unfolding code_step
  by_plain (name v) = refl
  by_plain (symbol s qs) = refl
  by_plain (complement q) = refl

some_bytes : (table bytes : List ℕ) (at : ℕ) (t : Term) (ts : Terms) (bs : List ℕ) → drop at bytes ≡ terms_bytes table (t :: ts) bs → at < length bytes
unfolding encode
some_bytes table bytes at (node s us) ts bs h = (front bytes at s _ (h ∙ node_bytes table s us (terms_bytes table ts bs))).0

-- at a place

module _ (table classes pattern bytes : List ℕ) (p : Place) (frames : List Remaining) (fs : List Frame) where
  -- a child pattern: a run name too
  module _ (cs qs : Children) (c : Tree) (ts : Terms) (z : child_trees cs ≡ more c (child_trees qs)) (h : Here table pattern bytes p frames cs ts fs) where
    some_children : 0 < p.children
    unfolding number
    some_children = omega (arith, h.children, number_children cs, ap number z)

    first_child : (p.at < length pattern) × (decode_of (get_or pattern p.at 0) ≡ root_of c)
    unfolding Fits encode
    first_child =
        let l = subst (Limited table false) z h.patterns_limited in
        first_code table pattern p.at c (children_bytes table qs (codes_left table fs)) l.left l.in_list l.fit.0
        (h.codes ∙ ap (λ (us : Trees). encodes table us (codes_left table fs)) z)

    pub child_here : p.at < length pattern
    child_here = first_child.0

    pub variable_here : variable_at pattern p.at ≡ variable_of (root_of c)
    unfolding variable_at variable_in
    variable_here = rw (some_left pattern p.at first_child.0, first_left pattern p.at, first_child.1)

    pub does_code : (had : Part) (left : ℕ)
        → step_at (alone frames) table classes pattern bytes had p left
        ≡ code_step (alone frames && eqb p.children 1) (root_of c) table classes bytes (drop p.at pattern) (drop p.node bytes) had p.elements left
    does_code had left = turn_code table classes pattern bytes had p left (alone frames) (root_of c) some_children first_child.0 first_child.1

  -- a plain child pattern
  module _ (q : Pattern) (qs : Children) (had : Part) (left : ℕ) where
    does_plain : (ts : Terms) → Here table pattern bytes p frames (plain q qs) ts fs
        → step_at (alone frames) table classes pattern bytes had p left
        ≡ plain_step (alone frames && eqb p.children 1) (root_of (pattern_tree q)) table classes bytes (drop p.at pattern) (drop p.node bytes) had p.elements left
    does_plain ts h = does_code (plain q qs) qs (pattern_tree q) ts refl h had left ∙ by_plain table classes pattern bytes had p left (alone frames) q

    pub does_short : Here table pattern bytes p frames (plain q qs) nil fs → step_at (alone frames) table classes pattern bytes had p left ≡ Stops Failure
    does_short h = does_plain nil h ∙ plain_short table classes pattern bytes had p left (alone frames) (root_of (pattern_tree q)) h.elements

    module _ (t : Term) (ts : Terms) (h : Here table pattern bytes p frames (plain q qs) (t :: ts) fs) where
      pub does_spent : left ≡ 0 → step_at (alone frames) table classes pattern bytes had p left ≡ Stops NoAllowance
      does_spent z =
          does_plain (t :: ts) h
          ∙ plain_spent table classes pattern bytes had p left (alone frames) (root_of (pattern_tree q)) (omega (arith, h.elements))
          (some_bytes table bytes p.node t ts _ h.stands) z

      pub does_pair : 0 < left
          → step_at (alone frames) table classes pattern bytes had p left
          ≡ pair_step (alone frames && eqb p.children 1) (root_of (pattern_tree q)) table classes bytes (drop p.at pattern) (drop p.node bytes) had
          p.elements
      does_pair z =
          does_plain (t :: ts) h
          ∙ plain_pair table classes pattern bytes had p left (alone frames) (root_of (pattern_tree q)) (omega (arith, h.elements))
          (some_bytes table bytes p.node t ts _ h.stands) z

  -- an assigned variable, its own elements against those left
  module _ (cs : Children) (ts : Terms) (h : Here table pattern bytes p frames cs ts fs) (at : ℕ) (w : Terms) (s : Stands table bytes at w)
      (k : Alike table classes) where
    assigned_by : (b : Bool) → (leb (count w) (count ts) && stands_of table classes bytes (part at (sizes table w) (count w))
        (terms_bytes table ts (bytes_left table fs h.bytes_after))) ≡ b
        → assigned_step table classes bytes (part at (sizes table w) (count w)) (drop p.node bytes) p.elements ≡ cond b (Passes (count w) (sizes table w)) Fails
    unfolding assigned_step
    assigned_by b e = rw (h.elements, h.stands, e)

    pub assigned_passes : (us : Terms) → behind classes w ts ≡ Some us
        → assigned_step table classes bytes (part at (sizes table w) (count w)) (drop p.node bytes) p.elements ≡ Passes (count w) (sizes table w)
    assigned_passes us b = assigned_by true (assigned_stands table bytes classes k at w ts (bytes_left table fs h.bytes_after) s h.elements_limited.left h.elements_limited.in_list
        h.elements_limited.fit us b)

    pub assigned_fails : behind classes w ts ≡ None → assigned_step table classes bytes (part at (sizes table w) (count w)) (drop p.node bytes) p.elements ≡ Fails
    assigned_fails b =
        assigned_by false
        (assigned_differs table bytes classes k at w ts (bytes_left table fs h.bytes_after) s h.elements_limited.left h.elements_limited.in_list
        h.elements_limited.fit b)

-- the pairs

module _ (table : List ℕ) (small : length table ≤ 200) (classes pattern bytes : List ℕ) (p : Place) (frames : List Remaining) (fs : List Frame) where
  -- an unassigned name takes the node
  pub name_binds : (cs : Children) (t : Term) (ts : Terms) (v : ℕ) → Here table pattern bytes p frames cs (t :: ts) fs
      → name_step table classes bytes (drop p.node bytes) v absent p.elements ≡ Binds v (sizes table (single t))
  unfolding name_step
  name_binds cs t ts v h = rw (h.stands, extent_element table small t ts (bytes_left table fs h.bytes_after) h.elements_limited)

  -- a symbol, by what the table says of it
  opens_by : (s r n m : ℕ) → same_byte classes false s r ≡ true → (xs ys : List ℕ) (l : Bool) → is_list table s ≡ l → entry_of table s ≡ get_or table s 0
      → Counted l n (get_or table s 0) → Counted l m (get_or table s 0) → 0 < get_or table s 0
      → symbol_step table classes (s ∷ cond l (n ∷ xs) xs) (r ∷ cond l (m ∷ ys) ys) s ≡ Opens n m (cond l 2 1)
  unfolding symbol_step
  opens_by s r n m same xs ys true e k f g i =
      rw (
        same,
        k,
        ne_eqb (get_or table s 0) 0 (λ z. omega arith),
        e,
        le-leb 2 (suc (suc (length xs))) (omega arith),
        le-leb 2 (suc (suc (length ys))) (omega arith),
      )
  opens_by s r n m same xs ys false e k f g i =
      rw (same, k, ne_eqb (get_or table s 0) 0 (λ z. omega arith), e) (ap₂ (λ (x y : ℕ). Opens x y 1) (sym f) (sym g))

  -- a record's symbol of the same class, whose table byte is alike
  module _ (s r : ℕ) (same : same_byte classes false s r ≡ true) (alike : get_or table s 0 ≡ get_or table r 0) where
    pub symbol_opens : (ps qs : Children) (us ts : Terms) → Here table pattern bytes p frames (plain (symbol s ps) qs) (node r us :: ts) fs
        → 0 < get_or table s 0 → symbol_step table classes (drop p.at pattern) (drop p.node bytes) s ≡ Opens (arity ps) (count us) (width table s)
    unfolding Fits Shape encode
    symbol_opens ps qs us ts h i =
        let f = h.patterns_limited.fit.0 in
        let g = h.elements_limited.fit.0 in
        let n : Counted (is_list table r) (count us) (get_or table r 0) = rw (number_terms us) at g.2.1 in
        let m : Counted (is_list table s) (count us) (get_or table s 0) = subst (λ (b : ℕ). Counted (eqb b 255) (count us) b) (sym alike) n in
        rw (
          h.codes,
          symbol_bytes table s ps (children_bytes table qs (codes_left table fs)),
          h.stands,
          node_bytes table r us (terms_bytes table ts (bytes_left table fs h.bytes_after)),
          sym alike,
        )
        (opens_by s r (arity ps) (count us) same _ _ (is_list table s) refl (entry_symbol table s f.2.0)
        (rw (number_children ps) at f.2.1) m i)

    pub symbol_passes : (qs : Children) (ts : Terms) → Here table pattern bytes p frames (plain (symbol s end) qs) (node r nil :: ts) fs
        → get_or table s 0 ≡ 0
        → symbol_step table classes (drop p.at pattern) (drop p.node bytes) s ≡ Passes 1 (sizes table (single (node r nil)))
    unfolding Fits Shape encode symbol_step size
    symbol_passes qs ts h i =
        let j : get_or table r 0 ≡ 0 = sym alike ∙ i in
        rw (
          h.stands,
          node_bytes table r nil (terms_bytes table ts (bytes_left table fs h.bytes_after)),
          same,
          entry_symbol table s h.patterns_limited.fit.0.2.0,
          i,
          j,
        )

  pub symbol_fails : (s r : ℕ) (cs : Children) (us ts : Terms) → Here table pattern bytes p frames cs (node r us :: ts) fs
      → same_byte classes false s r ≡ false → symbol_step table classes (drop p.at pattern) (drop p.node bytes) s ≡ Fails
  unfolding symbol_step encode
  symbol_fails s r cs us ts h e = rw (h.stands, node_bytes table r us (terms_bytes table ts (bytes_left table fs h.bytes_after)), e)

  -- a complement is put by, the last child pattern of its level or not
  pub complement_put_by : (q : Pattern) (qs : Children) (t : Term) (ts : Terms) (had : Part)
      → Here table pattern bytes p frames (plain (complement q) qs) (t :: ts) fs
      → pair_step (alone frames && eqb p.children 1) Complement table classes bytes (drop p.at pattern) (drop p.node bytes) had p.elements
      ≡ PutsBy (length (pattern_bytes table (complement q) [])) (cond (alone frames && eqb p.children 1) 0 (sizes table (single t)))
  unfolding pair_step complement_step encode
  complement_put_by q qs t ts had h = by (alone frames && eqb p.children 1) refl
    where
      by : (last : Bool) → alone frames && eqb p.children 1 ≡ last
          → complement_step last table (drop p.at pattern) (drop p.node bytes)
          ≡ PutsBy (length (pattern_bytes table (complement q) [])) (cond last 0 (sizes table (single t)))
      by true e =
          ap (λ (l : List ℕ). PutsBy (length l) 0)
          (h.codes
          ∙ ap (encode table (pattern_tree (complement q))) (behind_last table frames _ p.children qs fs h.around h.children e))
      by false e =
          rw (
            h.codes,
            extent_first table small false (pattern_tree (complement q)) (child_trees qs) (codes_left table fs) h.patterns_limited,
            h.stands,
            extent_element table small t ts (bytes_left table fs h.bytes_after) h.elements_limited,
          )
