-- The pass, tree by tree: what is done, what is still to come, and what has been put.
use Prim.Native.Nat.{ℕ, ◌+◌, ◌-◌, ◌*◌, ◌≤◌, ◌<◌}
use native.Mathlib.Omega.{arith}
use mathlib.Core.Path.{◌≡◌, refl, sym, ap, subst, ◌∙◌}
use mathlib.Core.List.{List, []}
use mathlib.Core.Bool.{Bool, true, false, cond, ◌&&◌, and_assoc, true≢false}
use lib.ListN.{length, take, drop}
use lib.Seq.{sets, drop-drop}
use Rattle.term.specs.Tree.{Tree, Trees, branch, empty, more, number, encode, encodes}
use Rattle.term.specs.Limits.{below_of, Fits}
use Rattle.term.specs.declared.Code.{Code}
use Rattle.term.proofs.Sizes.{branch_length, more_length, encodes_append}
use Rattle.term.proofs.Lists.{past_front}
use Rattle.splice.specs.Splicing.{◌⊕◌, in_list, list_class, same_list, splice, splice_all}
use Rattle.splice.specs.Converting.{most_elements, narrow, all_narrow}
use Rattle.splice.specs.Pass.{head_of, one, Standing, ComesTo, Stored, Puts, Stores, PutsNode, StoresNode, PutWithin}
use Rattle.splice.specs.declared.Head.{Head}
use Rattle.splice.specs.declared.Put.{Put}
use Rattle.splice.proofs.Splicing.{join_empty, join_shift}
use Rattle.splice.proofs.Converting.{number_join, encodes_join, length_join, fit_join, fit_all_more, below_less, directly_list}
use Rattle.splice.proofs.Turning.{replaced_same}
use Rattle.splice.proofs.Stored.{sets_append}
use Rattle.splice.proofs.Nodes.{Node, node_found, node_at, nothing, part_rest, part_length}
use Rattle.std.specs.Prelude.{Option, Some, None, IfSome}
use Rattle.std.proofs.lemmas.Option.{none-some}

narrow_join : (table : List ℕ) (us ts : Trees) → all_narrow table (us ⊕ ts) ≡ (all_narrow table us && all_narrow table ts)
unfolding ◌⊕◌ narrow
narrow_join table empty ts = refl
narrow_join table (more u us) ts = ap (λ (x : Bool). narrow table u && x) (narrow_join table us ts) ∙ sym (and_assoc (narrow table u) (all_narrow table us) (all_narrow table ts))

wide_join : (x y z : Bool) → (y && true) ≡ false → (x && (y && z)) ≡ false
wide_join true true z e = absurd (true≢false e)
wide_join false true z e = refl
wide_join true false z e = refl
wide_join false false z e = refl

-- what is done, and one tree more; and a list's own bytes passed over
abbrev pub joined : Put → Put → Put
joined r n = record { used = r.used + n.used; put = r.put + n.put; elements = r.elements + n.elements }

abbrev pub opened : Put → Head → Put
opened r h = record { used = r.used + h.size; put = r.put; elements = r.elements }

module _ (table classes s : List ℕ) (a : Option ℕ) (at : ℕ) (out₀ : List ℕ) (ts : Trees) where
  -- of the trees ts: xs is put, to is still to come
  pub record Done (out : List ℕ) (trees : ℕ) (r : Put) : Type 0 where
    pub xs : Trees
    pub to : Trees
    pub stand : Standing table (drop r.used s) trees a to
    pub spliced : splice_all classes table a ts ≡ xs ⊕ splice_all classes table a to
    pub read : length (encodes table ts []) ≡ r.used + length (encodes table to [])
    pub long : r.put ≡ length (encodes table xs [])
    pub many : r.elements ≡ number xs
    pub thin : all_narrow table xs ≡ true
    pub stores : out ≡ sets out₀ at (encodes table xs [])

  -- at the start
  pub done_first : (n : ℕ) → Standing table s n a ts → Done out₀ n nothing
  unfolding ◌⊕◌ number narrow encode
  done_first n h = record {
    xs = empty;
    to = ts;
    stand = h;
    spliced = refl;
    read = omega arith;
    long = refl;
    many = refl;
    thin = refl;
    stores = refl;
  }

  -- at the end
  pub done_last : (out : List ℕ) (r : Put) → Done out 0 r
      → ComesTo table ts (splice_all classes table a ts) r × Stored table (splice_all classes table a ts) at out₀ out
  unfolding number splice encode
  done_last out r d = go d.to refl d.stand.many
    where
      go : (to : Trees) → d.to ≡ to → number to ≡ 0
          → ComesTo table ts (splice_all classes table a ts) r × Stored table (splice_all classes table a ts) at out₀ out
      go empty e n =
          let i : splice_all classes table a ts ≡ d.xs = d.spliced ∙ ap (λ (x : Trees). d.xs ⊕ splice_all classes table a x) e ∙ join_empty d.xs in
          let z : length (encodes table d.to []) ≡ 0 = rw e refl in
          rw i (record { used = omega (arith, d.read); put = d.long; elements = d.many; narrow = d.thin }, λ x. d.stores)
      go (more t to) e n = absurd (omega arith)

  module _ (out : List ℕ) (trees : ℕ) (r : Put) (d : Done out trees r) where
    -- the next tree
    pub record Next : Type 0 where
      pub code : Code
      pub us : Trees
      pub vs : Trees
      pub is : d.to ≡ more (branch code us) vs
      pub stand : Standing table (drop r.used s) trees a (more (branch code us) vs)

    pub next : 0 < trees → Next
    unfolding number
    next h = go d.to refl d.stand
      where
        go : (to : Trees) → d.to ≡ to → Standing table (drop r.used s) trees a to → Next
        go empty e g = absurd (omega (arith, g.many))
        go (more (branch c us) vs) e g = record { code = c; us = us; vs = vs; is = e; stand = g }

    -- the bytes still to come
    still : (n : Next) → length (encodes table ts []) ≡ r.used + (length (encode table (branch n.code n.us) []) + length (encodes table n.vs []))
    still n =
        omega (
          arith,
          d.read,
          ap (λ (x : Trees). length (encodes table x [])) n.is,
          more_length table (branch n.code n.us) n.vs,
        )

    -- a list directly inside: its elements are still to come
    pub done_direct : (n : Next) (h : Head) → Node table classes (drop r.used s) n.code n.us (encodes table n.vs n.stand.rest) h
        → same_list a (list_class classes table n.code) ≡ true
        → Done out (trees - 1 + h.kids) (opened r h)
    unfolding Fits number
    done_direct n h i e =
        let c = n.code in
        let us = n.us in
        let vs = n.vs in
        let g = n.stand in
        let l = directly_list classes table a c e in
        record {
          xs = d.xs;
          to = us ⊕ vs;
          stand = record {
            small = g.small;
            rest = g.rest;
            records = g.records;
            left = g.left;
            bytes = sym (drop-drop h.size r.used s) ∙ i.past ∙ sym (encodes_join table us vs g.rest);
            many = omega (arith, number_join us vs, g.many, i.here.kids);
            fits =
                fit_join table g.records us vs g.left (in_list a)
                (fit_all_more table g.records us (below_of c g.left) g.left (in_list a) (below_less table c g.left) (rw (l.0 ∙ sym l.1) at g.fits.0.3))
                g.fits.1;
          };
          spliced = d.spliced ∙ ap (λ (x : Trees). d.xs ⊕ x) (ap (splice_all classes table a) n.is ∙ replaced_same classes table a c us vs e);
          read = omega (arith, still n, branch_length table c us, length_join table us vs, i.here.size);
          long = d.long;
          many = d.many;
          thin = d.thin;
          stores = d.stores;
        }

    -- a tree alone, and spliced as a node
    apart : (n : Next) → Standing table (drop r.used s) 1 a (one (branch n.code n.us))
    unfolding encode number Fits
    apart n =
        let g = n.stand in
        record { small = g.small; rest = encodes table n.vs g.rest; records = g.records; left = g.left; bytes = g.bytes; many = refl; fits = (g.fits.0, tt) }

    apart_spliced : (n : Next) → same_list a (list_class classes table n.code) ≡ false
        → splice_all classes table a ts ≡ d.xs ⊕ more (splice classes table (branch n.code n.us)) (splice_all classes table a n.vs)
    unfolding splice
    apart_spliced n e =
        let c : Code = n.code in
        let us : Trees = n.us in
        let vs : Trees = n.vs in
        d.spliced
        ∙ ap (λ (x : Trees). d.xs ⊕ splice_all classes table a x) n.is
        ∙ ap (λ (x : Bool). d.xs ⊕ cond x (splice_all classes table (list_class classes table c) us ⊕ splice_all classes table a vs) (more (splice classes table (branch c us)) (splice_all classes table a vs))) e

    -- any other tree is put as a node
    pub done_node : (n : Next) (out₂ : List ℕ) (p : Put) → same_list a (list_class classes table n.code) ≡ false
        → PutsNode table classes (drop r.used s) (Some p) → StoresNode table classes (drop r.used s) (at + r.put) out out₂
        → Done out₂ (trees - 1) (joined r p)
    unfolding Fits encode number PutsNode StoresNode splice
    done_node n out₂ p e f w =
        let c : Code = n.code in
        let us : Trees = n.us in
        let vs : Trees = n.vs in
        let t : Tree = branch c us in
        let u : Tree = splice classes table t in
        let g = n.stand in
        let alone = apart n in
        let q = f a t alone in
        record {
          xs = d.xs ⊕ one u;
          to = vs;
          stand = record {
            small = g.small;
            rest = g.rest;
            records = g.records;
            left = g.left;
            bytes =
                ap (λ (k : ℕ). drop (r.used + k) s) q.used
                ∙ past_front s r.used (length (encodes table (one t) [])) (encodes table (one t) []) (encodes table vs g.rest)
                (g.bytes ∙ encodes_append table (one t) [] (encodes table vs g.rest)) refl;
            many = omega (arith, g.many);
            fits = g.fits.1;
          };
          spliced = apart_spliced n e ∙ sym (join_shift d.xs u (splice_all classes table a vs));
          read = omega (arith, still n, q.used);
          long = omega (arith, d.long, q.put, length_join table d.xs (one u));
          many = omega (arith, d.many, q.elements, number_join d.xs (one u));
          thin = narrow_join table d.xs (one u) ∙ rw (d.thin, q.narrow) refl;
          stores =
              let k : at + r.put ≡ at + length (encodes table d.xs []) = ap (λ (j : ℕ). at + j) d.long in
              rw (w a t alone q.narrow, k, d.stores)
              (sym
              (ap (sets out₀ at) (encodes_join table d.xs (one u) [] ∙ encodes_append table d.xs [] (encodes table (one u) []))
              ∙ sets_append out₀ at (encodes table d.xs []) (encodes table (one u) [])));
        }

    -- a node inside which some list has too many elements
    pub wide_node : (n : Next) → same_list a (list_class classes table n.code) ≡ false → PutsNode table classes (drop r.used s) None
        → all_narrow table (splice_all classes table a ts) ≡ false
    unfolding PutsNode narrow
    wide_node n e f =
        let t : Tree = branch n.code n.us in
        let u : Tree = splice classes table t in
        let q : (narrow table u && true) ≡ false = f a t (apart n) in
        ap (all_narrow table) (apart_spliced n e) ∙ narrow_join table d.xs (more u (splice_all classes table a n.vs))
        ∙ wide_join (all_narrow table d.xs) (narrow table u) (all_narrow table (splice_all classes table a n.vs)) q

-- The invariant of the pass

pub record Passing (table classes s : List ℕ) (n : ℕ) (a : Option ℕ) (at : ℕ) (out₀ out : List ℕ) (trees : ℕ) (r : Put) : Type 0 where
  pub within : PutWithin s r
  pub bounded : trees ≤ most_elements + most_elements * r.used
  pub kept : length out ≡ length out₀
  pub done : (ts : Trees) → Standing table s n a ts → Done table classes s a at out₀ ts out trees r

pub pass_first : (table classes s : List ℕ) (n : ℕ) (a : Option ℕ) (at : ℕ) (out : List ℕ) → n ≤ most_elements
    → Passing table classes s n a at out out n nothing
pass_first table classes s n a at out h = record {
  within = (omega arith, omega arith, omega arith);
  bounded = omega arith;
  kept = refl;
  done = λ ts g. done_first table classes s a at out ts n g;
}

module _ {table classes s : List ℕ} {n : ℕ} {a : Option ℕ} {at : ℕ} {out₀ out : List ℕ} {trees : ℕ} {r : Put}
    (p : Passing table classes s n a at out₀ out trees r) where
  -- what is answered, and what is put
  abbrev Answered : Option Put → Type 0
  Answered o = Puts table classes s n a o × (IfSome o (PutWithin s) × Stores table classes s n a at out₀ out)

  pub pass_last : trees ≤ 0 → Answered (Some r)
  unfolding Puts Stores
  pass_last e = (λ ts g. (last ts g).0, (p.within, λ ts g. (last ts g).1))
    where
      z : trees ≡ 0
      z = omega arith

      last : (ts : Trees) → Standing table s n a ts → ComesTo table ts (splice_all classes table a ts) r × Stored table (splice_all classes table a ts) at out₀ out
      last ts g = done_last table classes s a at out₀ ts out r (subst (λ (k : ℕ). Done table classes s a at out₀ ts out k r) z (p.done ts g))

  abbrev rest : List ℕ
  rest = take (length s - r.used) (drop r.used s)

  following : 0 < trees → (ts : Trees) (g : Standing table s n a ts) → Next table classes s a at out₀ ts out trees r (p.done ts g)
  following m ts g = next table classes s a at out₀ ts out trees r (p.done ts g) m

  module _ (m : 0 < trees) where
    -- some node stands there
    pub pass_stop : None ≡ head_of table classes rest → Answered None
    unfolding Puts Stores
    pass_stop e = (λ ts g. absurd (never ts g), (tt, λ ts g x. absurd (never ts g)))
      where
        never : (ts : Trees) → Standing table s n a ts → ⊥
        never ts g =
            let x = following m ts g in
            let f = node_found table classes (drop r.used s) trees a x.code x.us x.vs x.stand in none-some f.head (rw (part_rest s r.used) at e ∙ f.is)

  module _ (m : 0 < trees) {h : Head} (is : Some h ≡ head_of table classes rest) where
    first : (ts : Trees) (g : Standing table s n a ts)
        → Node table classes (drop r.used s) (following m ts g).code (following m ts g).us (encodes table (following m ts g).vs (following m ts g).stand.rest) h
    first ts g =
        let x = following m ts g in
        node_at table classes (drop r.used s) trees a x.code x.us x.vs x.stand (rw (part_rest s r.used) at is)

    around_is : (ts : Trees) (g : Standing table s n a ts) (b : Bool) → same_list a h.class ≡ b → same_list a (list_class classes table (following m ts g).code) ≡ b
    around_is ts g b e = ap (same_list a) (sym (first ts g).here.class) ∙ e

    -- some list in a node has too many elements
    pub pass_wide : same_list a h.class ≡ false → PutsNode table classes rest None → (out₂ : List ℕ)
        → Puts table classes s n a None × (IfSome {T = Put} None (PutWithin s) × Stores table classes s n a at out₀ out₂)
    unfolding Puts Stores
    pass_wide e f out₂ = (λ ts g. wide ts g, (tt, λ ts g x. absurd (true≢false (sym x ∙ wide ts g))))
      where
        wide : (ts : Trees) → Standing table s n a ts → all_narrow table (splice_all classes table a ts) ≡ false
        wide ts g = wide_node table classes s a at out₀ ts out trees r (p.done ts g) (following m ts g) (around_is ts g false e) (rw (part_rest s r.used) at f)

    pub pass_direct : 0 < h.size → h.size ≤ length rest → h.kids ≤ most_elements → same_list a h.class ≡ true
        → Passing table classes s n a at out₀ out (trees - 1 + h.kids) (opened r h)
    pass_direct z f k e = record {
      within = (omega (arith, p.within.0), omega (arith, p.within.1), omega (arith, p.within.2, part_length s r.used));
      bounded = omega (arith, p.bounded);
      kept = p.kept;
      done = λ ts g. done_direct table classes s a at out₀ ts out trees r (p.done ts g) (following m ts g) h (first ts g) (around_is ts g true e);
    }

    pub pass_node : (q : Put) (out₂ : List ℕ) → same_list a h.class ≡ false → length out₂ ≡ length out
        → PutsNode table classes rest (Some q) × (((0 < q.used) × PutWithin rest q) × StoresNode table classes rest (at + r.put) out out₂)
        → Passing table classes s n a at out₀ out₂ (trees - 1) (joined r q)
    pass_node q out₂ e l f =
        let w = f.1.0 in
        record {
          within = (
            omega (arith, p.within.0, w.1.0),
            omega (arith, p.within.1, w.1.1),
            omega (arith, p.within.2, w.1.2, part_length s r.used),
          );
          bounded = omega (arith, p.bounded);
          kept = l ∙ p.kept;
          done = λ ts g.
              done_node table classes s a at out₀ ts out trees r (p.done ts g) (following m ts g) out₂ q (around_is ts g false e)
              (rw (part_rest s r.used) at f.0) (rw (part_rest s r.used) at f.1.1);
        }
