-- A node that stays: its own bytes, and what its children come to.
use Prim.Native.Nat.{ℕ, suc, ◌+◌, ◌-◌, ◌≤◌, ◌<◌}
use native.Mathlib.Omega.{arith}
use native.Mathlib.Numerals.{add-one}
use mathlib.Core.Path.{◌≡◌, refl, sym, ap, ◌∙◌}
use mathlib.Core.List.{List, [], ◌∷◌}
use mathlib.Core.Bool.{Bool, true, false, cond, ◌&&◌, false≢true}
use lib.ListN.{length, get_or, set, take, drop, length-drop}
use lib.Seq.{sets, take_all}
use Rattle.term.specs.Code.{byte_of}
use Rattle.term.specs.Tree.{Tree, Trees, branch, empty, more, number, list_code, own, encode, encodes}
use Rattle.term.specs.Limits.{below_of, Fits}
use Rattle.term.specs.declared.Code.{Code}
use Rattle.term.proofs.SameParts.{and_true}
use Rattle.term.proofs.Sizes.{branch_length}
use Rattle.term.proofs.Lists.{front}
use Rattle.reader.proofs.Nodes.{own_past}
use Rattle.splice.specs.Splicing.{in_list, list_class, splice, splice_all}
use Rattle.splice.specs.Converting.{narrow, all_narrow}
use Rattle.splice.specs.Pass.{head_of, stored, narrow_node, node_put, one, Standing, ComesTo, Answers, Puts, Stores, PutsNode, StoresNode, PutWithin}
use Rattle.splice.specs.declared.Head.{Head}
use Rattle.splice.specs.declared.Put.{Put}
use Rattle.splice.proofs.Splicing.{in_list_holds}
use Rattle.splice.proofs.Stored.{set_before}
use Rattle.splice.proofs.Heads.{Headed, headed}
use Rattle.std.specs.Prelude.{Option, Some, None, IfSome}
use Rattle.std.proofs.lemmas.Option.{same_Some}

-- a part to the end
pub part_rest : (s : List ℕ) (i : ℕ) → take (length s - i) (drop i s) ≡ drop i s
part_rest s i = take_all (length s - i) (drop i s) (omega (arith, length-drop i s))

pub part_length : (s : List ℕ) (i : ℕ) → length (take (length s - i) (drop i s)) ≡ length s - i
part_length s i = ap length (part_rest s i) ∙ length-drop i s

-- a node at the start of s: what is read of it, its children, and the rest
pub record Node (table classes s : List ℕ) (code : Code) (us : Trees) (rest : List ℕ) (h : Head) : Type 0 where
  pub here : Headed classes table code (number us) h
  pub byte : get_or s 0 0 ≡ byte_of code
  pub past : drop h.size s ≡ encodes table us rest
  pub inner : Standing table (drop h.size s) (number us) (list_class classes table code) us

-- what is read of a tree that stands first, and such a node
pub record Found (table classes s : List ℕ) (code : Code) (us : Trees) (rest : List ℕ) : Type 0 where
  pub head : Head
  pub is : head_of table classes s ≡ Some head
  pub node : Node table classes s code us rest head

pub node_found : (table classes s : List ℕ) (n : ℕ) (a : Option ℕ) (c : Code) (us vs : Trees) (g : Standing table s n a (more (branch c us) vs))
    → Found table classes s c us (encodes table vs g.rest)
unfolding encode own Fits
node_found table classes s n a c us vs g =
    let rest : List ℕ = encodes table us (encodes table vs g.rest) in
    let r = headed classes table g.small g.records (in_list a) c (number us) rest g.fits.0.1 g.fits.0.2 in
    let i = r.headed in
    let past : drop r.head.size s ≡ rest = rw (i.size, g.bytes) (own_past table c (number us) rest) in
    record {
      head = r.head;
      is = rw g.bytes r.is;
      node = record {
        here = i;
        byte = (front s 0 (byte_of c) _ g.bytes).1;
        past = past;
        inner = record {
          small = g.small;
          rest = encodes table vs g.rest;
          records = g.records;
          left = below_of c g.left;
          bytes = past;
          many = refl;
          fits = rw (in_list_holds classes table c) g.fits.0.3;
        };
      };
    }

pub node_at : (table classes s : List ℕ) (n : ℕ) (a : Option ℕ) (c : Code) (us vs : Trees) (g : Standing table s n a (more (branch c us) vs)) {h : Head}
    → Some h ≡ head_of table classes s → Node table classes s c us (encodes table vs g.rest) h
node_at table classes s n a c us vs g {h} e =
    let f = node_found table classes s n a c us vs g in rw (same_Some h f.head (e ∙ f.is)) f.node

node_stored : (table out : List ℕ) (at b : ℕ) (ks : Trees) (list : Bool) → narrow_node list (number ks) ≡ true
    → stored list (sets (set out at b) (at + cond list 2 1) (encodes table ks [])) (at + 1) (number ks)
    ≡ sets out at (b ∷ cond list (number ks ∷ encodes table ks []) (encodes table ks []))
node_stored table out at b ks true m =
    let two : at + 2 ≡ suc (suc at) = omega arith in
    rw (m, add-one at, two) (set_before (set out at b) (suc at) (suc (suc at)) (number ks) (encodes table ks []) (omega arith))
node_stored table out at b ks false m = rw (add-one at)

wide_branch : (x : Bool) → ((x && false) && true) ≡ false
wide_branch true = refl
wide_branch false = refl

-- no trees come to nothing
abbrev pub nothing : Put
nothing = record { used = 0; put = 0; elements = 0 }

module _ (table classes s : List ℕ) (a : Option ℕ) where
  pub none_put : Puts table classes s 0 a (Some nothing)
  unfolding Puts splice number narrow encode
  none_put empty g = record { used = refl; put = refl; elements = refl; narrow = refl }
  none_put (more t ts) g = absurd (omega (arith, g.many))

  pub none_stored : (at : ℕ) (out : List ℕ) → Stores table classes s 0 a at out out
  unfolding Stores splice number encode
  none_stored at out empty g x = refl
  none_stored at out (more t ts) g x = absurd (omega (arith, g.many))

-- by what its children come to
module _ (table classes s : List ℕ) (at : ℕ) (out : List ℕ) (h : Head) (is : Some h ≡ head_of table classes s) (some : 0 < h.size) (fits : h.size ≤ length s) where
  abbrev inside : List ℕ
  inside = take (length s - h.size) (drop h.size s)

  node : (a : Option ℕ) (c : Code) (us : Trees) (g : Standing table s 1 a (one (branch c us))) → Node table classes s c us g.rest h
  unfolding encode
  node a c us g = node_at table classes s 1 a c us empty g is

  -- what is answered, and what is put
  abbrev Answered : List ℕ → Option Put → Type 0
  Answered after q = PutsNode table classes s q × (IfSome q (λ r. (0 < r.used) × PutWithin s r) × StoresNode table classes s at out after)

  module _ (o : Option Put) (out₁ out₂ : List ℕ)
      (f : Puts table classes inside h.kids h.class o × (IfSome o (PutWithin inside) × Stores table classes inside h.kids h.class (at + h.size) out₁ out₂)) where
    inner_comes : (c : Code) (us : Trees) (l : List ℕ) → Node table classes s c us l h → Answers table us (splice_all classes table (list_class classes table c) us) o
    unfolding Puts
    inner_comes c us l n = (rw (part_rest s h.size, n.here.kids, n.here.class) at f.0) us n.inner

    -- some list inside has too many elements
    pub node_unanswered : o ≡ None → (after : List ℕ) → Answered after None
    unfolding PutsNode StoresNode splice narrow
    node_unanswered e after = (
      λ a t g. wide a t g,
      (tt, λ a t g x. absurd (false≢true (sym (wide a t g) ∙ x))),
    )
      where
        wide : (a : Option ℕ) (t : Tree) → Standing table s 1 a (one t) → all_narrow table (one (splice classes table t)) ≡ false
        wide a (branch c us) g =
            let n = node a c us g in
            let q : all_narrow table (splice_all classes table (list_class classes table c) us) ≡ false = rw e at (inner_comes c us g.rest n) in
            rw q (wide_branch (narrow_node (list_code table c) (number (splice_all classes table (list_class classes table c) us))))

    module _ (r : Put) (r_is : o ≡ Some r) (e : out₁ ≡ set out at (get_or s 0 0)) where
      inner_is : (c : Code) (us : Trees) (l : List ℕ) → Node table classes s c us l h → ComesTo table us (splice_all classes table (list_class classes table c) us) r
      inner_is c us l n = rw r_is at (inner_comes c us l n)

      listed : (c : Code) (us : Trees) (l : List ℕ) → Node table classes s c us l h → in_list h.class ≡ list_code table c
      listed c us l n = ap in_list n.here.class ∙ in_list_holds classes table c

      node_puts : PutsNode table classes s (node_put h r)
      unfolding PutsNode splice narrow number encode
      node_puts a (branch c us) g =
          go (narrow_node (list_code table c) (number (splice_all classes table (list_class classes table c) us))) refl
        where
          go : (b : Bool) → narrow_node (list_code table c) (number (splice_all classes table (list_class classes table c) us)) ≡ b
              → Answers table (one (branch c us)) (one (splice classes table (branch c us))) (node_put h r)
          go true e =
              let n = node a c us g in
              let q = inner_is c us g.rest n in
              let ks : Trees = splice_all classes table (list_class classes table c) us in
              rw (q.elements, listed c us g.rest n, e) (record {
                used = omega (arith, n.here.size, q.used, branch_length table c us);
                put = omega (arith, n.here.size, q.put, branch_length table c ks);
                elements = refl;
                narrow = rw (e, q.narrow) refl;
              })
          go false e =
              let n = node a c us g in
              let q = inner_is c us g.rest n in
              rw (q.elements, listed c us g.rest n, e)
              (ap (λ (x : Bool). (x && all_narrow table (splice_all classes table (list_class classes table c) us)) && true) e)

      node_stores : StoresNode table classes s at out (stored (in_list h.class) out₂ (at + 1) r.elements)
      unfolding Stores StoresNode splice narrow encode own
      node_stores a (branch c us) g x =
          let n = node a c us g in
          let q = inner_is c us g.rest n in
          let ks : Trees = splice_all classes table (list_class classes table c) us in
          let y = and_true (narrow table (branch c ks)) true x in
          let z = and_true (narrow_node (list_code table c) (number ks)) (all_narrow table ks) y.0 in
          let o : out₂ ≡ sets out₁ (at + h.size) (encodes table ks []) =
          (rw (part_rest s h.size, n.here.kids, n.here.class) at f.1.1) us n.inner z.1 in
          rw (listed c us g.rest n, q.elements, o, e, n.byte, n.here.size) (node_stored table out at (byte_of c) ks (list_code table c) z.0)

      node_within : IfSome (node_put h r) (λ p. (0 < p.used) × PutWithin s p)
      node_within = go (narrow_node (in_list h.class) r.elements)
        where
          w : PutWithin inside r
          w = rw r_is at f.1.0

          go : (b : Bool) → IfSome (cond b (Some (record { used = h.size + r.used; put = h.size + r.put; elements = 1 })) None) (λ p. (0 < p.used) × PutWithin s p)
          go true = (omega arith, (omega (arith, w.0), omega arith, omega (arith, w.2, part_length s h.size)))
          go false = tt

      pub node_answered : (after : List ℕ) (q : Option Put) → (q ≡ node_put h r) × (after ≡ stored (in_list h.class) out₂ (at + 1) r.elements) → Answered after q
      node_answered after q i = rw (i.0, i.1) (node_puts, (node_within, node_stores))

  -- without children
  pub leaf_answered : (out₁ : List ℕ) → out₁ ≡ set out at (get_or s 0 0) → h.kids ≡ 0 → (after : List ℕ) (q : Option Put)
      → (q ≡ node_put h nothing) × (after ≡ stored (in_list h.class) out₁ (at + 1) 0) → Answered after q
  leaf_answered out₁ e k =
      node_answered (Some nothing) out₁ out₁
      (rw k (none_put table classes inside h.class, ((omega arith, omega arith, omega arith), none_stored table classes inside h.class (at + h.size) out₁)))
      nothing refl e
