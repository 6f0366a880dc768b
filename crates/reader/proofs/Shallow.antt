-- Reading without frames: a symbol without children; a tree with fewer than 32 nodes that have children, which is not nested deeper than 32.
use Prim.Native.Nat.{ℕ, zero, suc, ◌+◌, ◌-◌, ◌≤◌, ◌<◌}
use native.Mathlib.Omega.{arith}
use mathlib.Core.Path.{◌≡◌, refl, sym, ap, ◌∙◌}
use mathlib.Core.List.{List, [], ◌∷◌}
use mathlib.Core.Bool.{Bool, true, false, cond, false≢true}
use lib.ListN.{length, get_or, drop, length-drop}
use lib.Seq.{get_or-drop}
use lib.Dec.{ltb, eqb}
use borrow.Author.Tests.{ltb-true, lt-ltb, le-ltb, eqb-true, eq-eqb, ne_eqb}
use Rattle.term.specs.Code.{decode_of}
use Rattle.term.specs.Table.{list}
use Rattle.term.specs.Language.{Language, simple}
use Rattle.term.specs.Limits.{nesting, longest_record}
use Rattle.term.specs.declared.Code.TheVariants.{Symbol}
use Rattle.reader.specs.Frame.{frame}
use Rattle.reader.specs.Node.{open_node, node_at}
use Rattle.reader.specs.Reading.{shown, read_tree, read_whole, childless, SurelyRead}
use Rattle.reader.specs.declared.Frame.{Frame}
use Rattle.reader.proofs.Nodes.{node_open}
use Rattle.reader.proofs.Steps.{plus, tree_open, all_none, whole_tree, whole_all}
use Rattle.reader.proofs.Frames.{rest_of, ToCome, whole_to_come, children_to_come, none_to_come, skip}
use Rattle.std.specs.Prelude.{Ok, Option, Some, None}
use Rattle.reader.specs.Node.{opened}

-- what is known of a test that passes
surely : (records : Bool) (lang : Language) (s : List ℕ) (b : Bool) → (b ≡ true → shown (read_whole records lang s) ≡ Ok (length s)) → SurelyRead records lang s b
surely records lang s true h = h refl
surely records lang s false h = tt

-- A symbol without children

module _ (lang : Language) (s : List ℕ) (b : ℕ) (one : length s ≡ 1) (is : decode_of (get_or s 0 0) ≡ Symbol b) where
  abbrev table : List ℕ
  table = lang.table

  in_table : (x : Bool) → ltb b (length table) ≡ x → cond x (eqb (get_or table b 0) 0) false ≡ true → (b < length table) × (get_or table b 0 ≡ 0)
  in_table true e h = (ltb-true b (length table) e, eqb-true (get_or table b 0) 0 h)
  in_table false e h = absurd (false≢true h)

  leaf_node : b < length table → get_or table b 0 ≡ 0 → node_at lang false None nesting s ≡ Ok (opened 1 (get_or table b 0) None (nesting - 1))
  unfolding open_node
  leaf_node known z =
      node_open lang false None nesting s (Symbol b) (λ e. omega arith) (sym is) (lt-ltb b (length table) known) (λ e. omega arith)
      ∙ rw (ne_eqb (get_or table b 0) list (λ e. omega arith))

  pub leaf_read : SurelyRead false lang s (childless lang.table b)
  leaf_read =
      surely false lang s (childless table b) (λ e.
      let k = in_table (ltb b (length table)) refl e in
      ap shown (whole_tree false lang s (omega arith))
      ∙ whole_all s (read_tree lang false nesting None s) (length s)
      (tree_open lang false nesting None s (leaf_node k.0 k.1)
      ∙ ap (plus 1) (all_none (read_tree lang false (nesting - 1) None) (get_or table b 0) (drop 1 s) k.1) ∙ ap Ok (sym one))
      (omega arith) (omega arith))

-- Fewer than 32 nodes with children

-- the trees of all frames
abbrev total : List Frame → ℕ
total [] = 0
total (f ∷ fs) = f.count + total fs

-- each node with children takes one of the 32 levels at most
abbrev Roomy : ℕ → List Frame → Type 0
Roomy parents [] = Unit {0}
Roomy parents (f ∷ fs) = (nesting ≤ f.left + parents) × Roomy parents fs

roomier : (parents : ℕ) (fs : List Frame) → Roomy parents fs → Roomy (parents + 1) fs
roomier parents [] r = tt
roomier parents (f ∷ fs) r = (omega (arith, r.0), roomier parents fs r.1)

module _ (table s : List ℕ) where
  -- read up to `at`: some frames are still to come, whose trees end at `end` at the earliest
  pub record Passing (at end parents : ℕ) : Type 0 where
    pub frames : List Frame
    pub trees : at + total frames ≡ end
    pub few : parents < nesting
    pub roomy : Roomy parents frames
    pub to_come : ToCome (simple table) true s frames at

  pub passing_starts : Passing 0 1 0
  passing_starts = record { frames = frame 1 nesting None ∷ []; trees = refl; few = omega arith; roomy = (omega arith, tt); to_come = whole_to_come (simple table) true s }

  -- the frame of the next tree
  record Next (at trees parents : ℕ) : Type 0 where
    first : Frame
    others : List Frame
    some : 0 < first.count
    is_total : first.count + total others ≡ trees
    room : nesting ≤ first.left + parents
    roomy : Roomy parents others
    to_come : ToCome (simple table) true s (first ∷ others) at

  next_frame : (at parents : ℕ) (fs : List Frame) → 0 < total fs → Roomy parents fs → ToCome (simple table) true s fs at → Next at (total fs) parents
  next_frame at parents [] h r l = absurd (omega arith)
  next_frame at parents (f ∷ fs) h r l =
      by f.count refl (λ z. next_frame at parents fs (omega (arith, h, z)) r.1 (skip (simple table) true s f fs at z l))
    where
      by : (n : ℕ) → f.count ≡ n → (f.count ≡ 0 → Next at (total fs) parents) → Next at (total (f ∷ fs)) parents
      by zero e later =
          let n = later e in
          record { first = n.first; others = n.others; some = n.some; is_total = omega (arith, n.is_total, e); room = n.room; roomy = n.roomy; to_come = n.to_come }
      by (suc n) e later =
          record { first = f; others = fs; some = omega (arith, e); is_total = refl; room = r.0; roomy = r.1; to_come = l }

  none_left : (at : ℕ) (fs : List Frame) → total fs ≡ 0 → ToCome (simple table) true s fs at → shown (read_tree (simple table) true nesting None s) ≡ Ok at
  none_left at [] z l = none_to_come (simple table) true s at l
  none_left at (f ∷ fs) z l = none_left at fs (omega (arith, z)) (skip (simple table) true s f fs at (omega (arith, z)) l)

  -- all trees are read
  pub passing_ends : {at end parents : ℕ} → Passing at end parents → end ≤ at → length s ≤ longest_record → SurelyRead true (simple table) s (eqb at (length s))
  passing_ends {at} {end} i h k =
      surely true (simple table) s (eqb at (length s)) (λ e.
      let z = eqb-true at (length s) e in
      ap shown (whole_tree true (simple table) s k)
      ∙ whole_all s (read_tree (simple table) true nesting None s) (length s) (none_left at i.frames (omega (arith, h, i.trees)) i.to_come ∙ ap Ok z)
      (omega arith) (omega arith))

  -- the node of a symbol that is in the table
  module _ (at b : ℕ) (within : at < length s) (is : b ≡ get_or s at 0) (known : b < length table) (stand : (Option ℕ)) (left : ℕ) (low : 0 < left) where
    symbol_node : node_at (simple table) true stand left (drop at s) ≡ open_node (simple table) stand (left - 1) (drop at s) (Symbol b)
    symbol_node =
        let z : at ≡ at + 0 = omega arith in
        node_open (simple table) true stand left (drop at s) (Symbol b) (λ e. omega (arith, length-drop at s, e))
        (ap Symbol (is ∙ ap (λ (n : ℕ). get_or s n 0) z ∙ sym (get_or-drop at s 0 0))) (lt-ltb b (length table) known) (λ e. omega arith)

    fixed_node : (get_or table b 0 ≡ list → ⊥) → node_at (simple table) true stand left (drop at s) ≡ Ok (opened 1 (get_or table b 0) None (left - 1))
    unfolding open_node
    fixed_node d = symbol_node ∙ rw (ne_eqb (get_or table b 0) list d)

    list_node_holds : get_or table b 0 ≡ list → at + 1 < length s → node_at (simple table) true stand left (drop at s) ≡ Ok (opened 2 (get_or s (at + 1) 0) (Some b) (left - 1))
    unfolding open_node
    list_node_holds e h =
        symbol_node
        ∙ rw (eq-eqb (get_or table b 0) list e, le-ltb (length (drop at s)) 2 (omega (arith, length-drop at s)), get_or-drop at s 1 0)

  module _ {at end parents : ℕ} (i : Passing at end parents) (more : at < end) where
    next : Next at (total i.frames) parents
    next = next_frame at parents i.frames (omega (arith, i.trees)) i.roomy i.to_come

    levels : 0 < next.first.left
    levels = omega (arith, next.room, i.few)

    -- a node with children
    parent : {size k : ℕ} {inside : (Option ℕ)} → parents < nesting - 1
        → node_at (simple table) true next.first.stand next.first.left (drop at s) ≡ Ok (opened size k inside (next.first.left - 1))
        → Passing (at + size) (end + size - 1 + k) (parents + 1)
    parent {size} {k} {inside} h e =
        let f = next.first in
        record {
          frames = frame k (f.left - 1) inside ∷ rest_of f ∷ next.others;
          trees = omega (arith, i.trees, next.is_total, next.some, more);
          few = omega arith;
          roomy = (omega (arith, next.room, levels), (omega (arith, next.room), roomier parents next.others next.roomy));
          to_come = children_to_come (simple table) true s f next.others at next.some e next.to_come;
        }

    module _ (b entry : ℕ) (within : end ≤ length s) (is : b ≡ get_or s at 0) (known : b < length table) (is_entry : entry ≡ get_or table b 0) where
      pub pass_leaf : entry ≡ 0 → Passing (at + 1) end parents
      pass_leaf z =
          let f = next.first in
          let e = fixed_node at b (omega arith) is known f.stand f.left levels (λ x. omega (arith, x, is_entry, z)) in
          record {
            frames = rest_of f ∷ next.others;
            trees = omega (arith, i.trees, next.is_total, next.some);
            few = i.few;
            roomy = (next.room, next.roomy);
            to_come = skip (simple table) true s (frame (get_or table b 0) (f.left - 1) None) (rest_of f ∷ next.others) (at + 1) (sym is_entry ∙ z)
                (children_to_come (simple table) true s f next.others at next.some e next.to_come);
          }

      pub pass_fixed : parents < nesting - 1 → entry < list → Passing (at + 1) (end + entry) (parents + 1)
      pass_fixed h d =
          let f = next.first in
          let x : end + 1 - 1 + get_or table b 0 ≡ end + entry = omega (arith, is_entry) in
          rw x at (parent h (fixed_node at b (omega arith) is known f.stand f.left levels (λ x. omega (arith, x, is_entry))))

      pub pass_list : (k : ℕ) → parents < nesting - 1 → entry ≡ list → end < length s → k ≡ get_or s (at + 1) 0 → Passing (at + 2) (end + 1 + k) (parents + 1)
      pass_list k h d l is_k =
          let f = next.first in
          let x : end + 2 - 1 + get_or s (at + 1) 0 ≡ end + 1 + k = omega (arith, is_k) in
          rw x at (parent h (list_node_holds at b (omega arith) is known f.stand f.left levels (sym is_entry ∙ d) (omega arith)))
