-- The loop of `read_tree`: what is shown of the reader's steps, and the trees that are still to come.
use Prim.Native.Nat.{ℕ, zero, suc, ◌+◌, ◌-◌, ◌≤◌, ◌<◌}
use native.Mathlib.Omega.{arith}
use native.Mathlib.Numerals.{sub-one}
use mathlib.Core.Path.{◌≡◌, refl, sym, ap, subst, ◌∙◌}
use mathlib.Core.List.{List, [], ◌∷◌, ◌++◌, reverse}
use mathlib.Core.Bool.{Bool, true, false, cond, ◌||◌}
use lib.Dec.{ltb}
use lib.ListN.{length, get_or, drop, take, length-drop}
use lib.Seq.{drop-drop, get_or-drop}
use Rattle.answers.specs.declared.Refusal.{Refusal}
use Rattle.answers.specs.declared.Refusal.TheVariants.{Length}
use Rattle.term.proofs.Lists.{rest_part}
use Rattle.term.specs.Code.{code_in}
use Rattle.term.specs.Language.{Language}
use Rattle.term.specs.Limits.{nesting, Octets}
use Rattle.term.specs.Splicing.{in_list}
use Rattle.term.specs.Tree.{Trees}
use Rattle.term.specs.declared.Code.{Code}
use Rattle.reader.specs.Frame.{frame}
use Rattle.reader.specs.Reading.{Parsed, refused, read, shown, read_all, grow, enter}
use Rattle.reader.specs.declared.Frame.{Frame}
use Rattle.reader.proofs.Answers.{Got, opened_at, ends_shown}
use Rattle.reader.proofs.Steps.{plus, and_then, shown_chain, all_none, all_more}
use Rattle.sheet.specs.Word.{word_at}
use Rattle.stored.specs.Reading.{stored_node, told_length, agrees, agreed, read_node, read_stored_tree}
use Rattle.stored.specs.Passes.{stored_size, agrees_at}
use Rattle.stored.proofs.Forms.{store_length}
use Rattle.stored.specs.declared.Level.{Level}
use Rattle.stored.proofs.Frames.{level, root, rest_at, Standing, standing_starts, depth_within, next_leaf, next_level, next_around, leaf_known}
use Rattle.stored.proofs.Passing.{own_some}
use Rattle.stored.proofs.Inverse.{NodeReads, node_reads, own_long, stored_size_holds, TreeSound, sound}
use Rattle.std.specs.Prelude.{Result, Ok, Err, Option, None}
use Rattle.reader.specs.Node.{opened}
use Rattle.reader.specs.declared.Open.{Open}

-- a node's own bytes and its children, unless the length that it tells is wrong
abbrev pub closing : Bool → ℕ → ℕ → Result ℕ Refusal → Result ℕ Refusal
closing list told size (Err r) = Err r
closing list told size (Ok n) = cond (agrees list told n) (Ok (size + n)) (Err Length)

shown_closing : (c : Code) (size : ℕ) (list : Bool) (told : ℕ) (a : Parsed Trees) → shown (grow c size (agreed list told a)) ≡ closing list told size (shown a)
unfolding shown grow agreed
shown_closing c size list told (refused r) = refl
shown_closing c size list told (read ts n) = by (agrees list told n)
  where
    by : (b : Bool) → shown (grow c size (cond b (read ts n) (refused Length))) ≡ cond b (Ok (size + n)) (Err Length)
    by true = refl
    by false = refl

module _ (lang : Language) where
  -- a node that is refused refuses its tree
  tree_refused : (left : ℕ) (stand : (Option ℕ)) (s : List ℕ) (r : Refusal) → stored_node lang stand left s ≡ Err r → shown (read_stored_tree lang left stand s) ≡ Err r
  unfolding read_stored_tree read_node enter shown
  tree_refused zero stand s r e = rw e
  tree_refused (suc left) stand s r e = rw e

  module _ (left : ℕ) (stand : (Option ℕ)) (s : List ℕ) {size k : ℕ} {inside : (Option ℕ)} {low : ℕ} (e : stored_node lang stand left s ≡ Ok (opened size k inside low)) where
    reads : NodeReads lang stand left s size k inside low
    reads = opened_at (NodeReads lang stand left s) (node_reads lang stand left s) e

    node_below : low < left
    node_below = let n = reads.node in omega (arith, n.levels, n.is_low)

    node_size : (size ≤ length s) × (size ≡ stored_size (in_list inside))
    node_size = (reads.within, omega (arith, stored_size_holds (in_list inside) reads.own_bytes_holds size 0 0 (own_long reads.node) reads.is_size refl))

  -- a node that is open goes on with its children
  tree_open : (left : ℕ) (stand : (Option ℕ)) (s : List ℕ) {size k : ℕ} {inside : (Option ℕ)} {low : ℕ} → stored_node lang stand left s ≡ Ok (opened size k inside low)
      → shown (read_stored_tree lang left stand s) ≡ closing (in_list inside) (told_length s) size (shown (read_all (read_stored_tree lang low inside) k (drop size s)))
  unfolding read_stored_tree read_node enter
  tree_open zero stand s e = absurd (omega (arith, node_below zero stand s e))
  tree_open (suc left) stand s {size} {k} {inside} {low} e =
      let l : low ≡ left = (reads (suc left) stand s e).node.is_low ∙ sub-one (suc left) in
      rw (e, l) (shown_closing (code_in true (get_or s 0 0)) size (in_list inside) (told_length s) (read_all (read_stored_tree lang left inside) k (drop size s)))

-- what is read lies within the bytes
pub tree_ends : (lang : Language) (left : ℕ) (stand : (Option ℕ)) (s : List ℕ) (n : ℕ) → Octets s → shown (read_stored_tree lang left stand s) ≡ Ok n → n ≤ length s
tree_ends lang left stand s n o d =
    let g = ends_shown (read_stored_tree lang left stand s) n d in
    let t : TreeSound lang left stand s g.0 n = subst (Got (TreeSound lang left stand s)) g.1 (sound lang left stand s) in
    omega (arith, t.long, ap length (t.bytes o) ∙ store_length lang.table g.0 (drop n s))

-- From a place on, what follows from where it ends

abbrev onward : ℕ → Result ℕ Refusal → (ℕ → Result ℕ Refusal) → Result ℕ Refusal
onward at (Err r) g = Err r
onward at (Ok n) g = g (at + n)

onward_plus : (at n : ℕ) (r : Result ℕ Refusal) (g : ℕ → Result ℕ Refusal) → onward at (plus n r) g ≡ onward (at + n) r g
onward_plus at n (Err r) g = refl
onward_plus at n (Ok m) g = let z : at + (n + m) ≡ at + n + m = omega arith in ap g z

module _ (s : List ℕ) (at : ℕ) (list : Bool) (size : ℕ) where
  -- the length that a list tells stands in front of its children
  told_there : size ≡ stored_size list → (n : ℕ) → agrees_at s list (at + size) (at + size + n) ≡ agrees list (told_length (drop at s)) n
  unfolding agrees_at word_at
  told_there e n = by list e
    where
      by : (l : Bool) → size ≡ stored_size l → agrees_at s l (at + size) (at + size + n) ≡ agrees l (told_length (drop at s)) n
      by true e =
          let a : at + size - 2 ≡ at + 2 = omega arith in
          let b : at + size + n - (at + size) ≡ n = omega arith in
          let c : at + 2 + 1 ≡ at + 3 = omega arith in
          rw (a, b, c, get_or-drop at s 2 0, get_or-drop at s 3 0)
      by false e = refl

  -- a node's children, the trees after the node, and then what follows
  after_node : (h : List ℕ → Result ℕ Refusal) (g : ℕ → Result ℕ Refusal) → size ≡ stored_size list → (a : Result ℕ Refusal)
      → onward at (and_then (closing list (told_length (drop at s)) size a) (λ n. h (drop n (drop at s)))) g
      ≡ onward (at + size) a (λ m. cond (agrees_at s list (at + size) m) (onward m (h (drop m s)) g) (Err Length))
  after_node h g e (Err r) = refl
  after_node h g e (Ok n) = rw (told_there e n) (by (agrees list (told_length (drop at s)) n))
    where
      by : (b : Bool) → onward at (and_then (cond b (Ok (size + n)) (Err Length)) (λ n. h (drop n (drop at s)))) g
          ≡ cond b (onward (at + size + n) (h (drop (at + size + n) s)) g) (Err Length)
      by true =
          let z : at + (size + n) ≡ at + size + n = omega arith in
          onward_plus at (size + n) (h (drop (size + n) (drop at s))) g ∙ rw (drop-drop (size + n) at s, z)
      by false = refl

module _ (lang : Language) (s : List ℕ) where
  -- a level that ends, and then the others
  abbrev ended : Level → (ℕ → Result ℕ Refusal) → ℕ → Result ℕ Refusal
  ended l g m = cond (agrees_at s (in_list l.frame.stand) l.start m) (g m) (Err Length)

  -- the trees of all levels, one level after the other
  unfoldable pub resume : List Level → ℕ → Result ℕ Refusal
  resume [] at = Ok at
  resume (l ∷ ls) at = onward at (shown (read_all (read_stored_tree lang l.frame.left l.frame.stand) l.frame.count (drop at s))) (ended l (resume ls))

  module _ (l : Level) (ls : List Level) (at : ℕ) where
    resume_none : l.frame.count ≡ 0 → resume (l ∷ ls) at ≡ ended l (resume ls) at
    unfolding resume
    resume_none e =
        let z : at + 0 ≡ at = omega arith in
        ap (λ (a : Result ℕ Refusal). onward at a (ended l (resume ls))) (all_none (read_stored_tree lang l.frame.left l.frame.stand) l.frame.count (drop at s) e) ∙ ap (ended l (resume ls)) z

    module _ (some : l.frame.count ≡ 0 → ⊥) where
      -- the first tree, and then the others
      first : {a : (Result ℕ Refusal)} → shown (read_stored_tree lang l.frame.left l.frame.stand (drop at s)) ≡ a
          → resume (l ∷ ls) at ≡ onward at (and_then a (λ n. shown (read_all (read_stored_tree lang l.frame.left l.frame.stand) (l.frame.count - 1) (drop n (drop at s))))) (ended l (resume ls))
      unfolding resume
      first e =
          let t = read_stored_tree lang l.frame.left l.frame.stand in
          ap (λ (a : Result ℕ Refusal). onward at a (ended l (resume ls)))
          (ap shown (all_more t l.frame.count (drop at s) some) ∙ shown_chain (t (drop at s)) (λ n. read_all t (l.frame.count - 1) (drop n (drop at s)))
          ∙ ap (λ (a : Result ℕ Refusal). and_then a (λ n. shown (read_all t (l.frame.count - 1) (drop n (drop at s))))) e)

      resume_refused : (r : Refusal) → stored_node lang l.frame.stand l.frame.left (drop at s) ≡ Err r → resume (l ∷ ls) at ≡ Err r
      resume_refused r e = first (tree_refused lang l.frame.left l.frame.stand (drop at s) r e)

      resume_open : {size k : ℕ} {inside : (Option ℕ)} {low : ℕ} → stored_node lang l.frame.stand l.frame.left (drop at s) ≡ Ok (opened size k inside low)
          → resume (l ∷ ls) at ≡ resume (level (frame k low inside) (at + size) ∷ rest_at l ∷ ls) (at + size)
      unfolding resume
      resume_open {size} {k} {inside} {low} e =
          first (tree_open lang l.frame.left l.frame.stand (drop at s) e)
          ∙ after_node s at (in_list inside) size (λ x. shown (read_all (read_stored_tree lang l.frame.left l.frame.stand) (l.frame.count - 1) x)) (ended l (resume ls))
          (node_size lang l.frame.left l.frame.stand (drop at s) e).1 (shown (read_all (read_stored_tree lang low inside) k (drop size (drop at s))))
          ∙ rw (drop-drop size at s)

  -- The loop of `read_tree`

  abbrev pub ToCome : ℕ → List Level → Type 0
  ToCome at ls = shown (read_stored_tree lang nesting None s) ≡ resume ls at

  pub record Reading (around : List Level) (top : Level) (at : ℕ) : Type 0 where
    pub within : at ≤ length s
    pub standing : Standing (ToCome at) around top at

  whole_to_come : ToCome 0 (root ∷ [])
  unfolding resume read_all shown agrees_at
  whole_to_come =
      let t = read_stored_tree lang nesting None in
      sym (ap (λ (a : Result ℕ Refusal). onward 0 a Ok) (shown_chain (t s) (λ n. read_all t 0 (drop n s))) ∙ by (shown (t s)))
    where
      by : (a : Result ℕ Refusal) → onward 0 (and_then a (λ n. Ok 0)) Ok ≡ a
      by (Err r) = refl
      by (Ok n) = ap Ok (omega arith)

  pub reading_starts : {around : List Level} → around ≡ [] → Reading around root 0
  reading_starts e = record { within = omega arith; standing = standing_starts e whole_to_come }

module _ {lang : Language} {s : List ℕ} {around : List Level} {top : Level} {at : ℕ} (i : Reading lang s around top at) where
  -- after the last tree of a level
  module _ (none_left : top.frame.count ≡ 0) {b : Bool} (is : b ≡ agrees_at s (in_list top.frame.stand) (top.start) at) where
    closes : shown (read_stored_tree lang nesting None s) ≡ cond b (resume lang s (reverse around) at) (Err Length)
    closes = i.standing.to_go ∙ resume_none lang s top (reverse around) at none_left ∙ rw (is)

    pub disagrees : b ≡ false → Err Length ≡ shown (read_stored_tree lang nesting None s)
    disagrees e = sym (closes ∙ rw (e))

    pub no_more : b ≡ true → around ≡ [] → Ok at ≡ shown (read_stored_tree lang nesting None s)
    unfolding resume
    no_more e d = sym (closes ∙ rw (e, d))

    pub read_around : b ≡ true → {l : Level} {left : List Level} → around ≡ left ++ l ∷ [] → Reading lang s left l at
    read_around e d = record { within = i.within; standing = next_around i.standing d (closes ∙ rw (e)) }

  module _ (some : top.frame.count ≡ 0 → ⊥) {n : (Result Open Refusal)} (is : n ≡ stored_node lang top.frame.stand top.frame.left (take (length s - at) (drop at s))) where
    pub node_refuses : {r : Refusal} → n ≡ Err r → Err r ≡ shown (read_stored_tree lang nesting None s)
    node_refuses {r} e = sym (i.standing.to_go ∙ resume_refused lang s top (reverse around) at some r (rw (rest_part at s) at (sym is ∙ e)))

    module _ {size k : ℕ} {inside : (Option ℕ)} {low : ℕ} (e : n ≡ Ok (opened size k inside low)) where
      opens : stored_node lang top.frame.stand top.frame.left (drop at s) ≡ Ok (opened size k inside low)
      opens = rw (rest_part at s) at (sym is ∙ e)

      pub node_ends : (at + size ≤ length s) × (0 < size)
      node_ends =
          let z = node_size lang top.frame.left top.frame.stand (drop at s) opens in
          (omega (arith, z, length-drop at s, i.within), omega (arith, z, own_some (in_list inside)))

      pub place_free : length around < nesting
      place_free = omega (arith, depth_within i.standing, node_below lang top.frame.left top.frame.stand (drop at s) opens)

      next_opened : ToCome lang s (at + size) (level (frame k low inside) (at + size) ∷ rest_at top ∷ reverse around)
      next_opened = i.standing.to_go ∙ resume_open lang s top (reverse around) at some opens

      pub read_leaf : in_list inside || ltb 0 k ≡ false → Reading lang s around (rest_at top) (at + size)
      unfolding agrees_at
      read_leaf h =
          let l = leaf_known (in_list inside) k h in
          record {
            within = node_ends.0;
            standing = next_leaf i.standing (at + size) (omega arith)
                (next_opened ∙ resume_none lang s (level (frame k low inside) (at + size)) (rest_at top ∷ reverse around) (at + size) l.1 ∙ rw l.0);
          }

      pub read_level : (g : Frame) → g ≡ frame k low inside → {pushed : List Level} → pushed ≡ around ++ rest_at top ∷ [] → Reading lang s pushed (level g (at + size)) (at + size)
      read_level g q p = record {
        within = node_ends.0;
        standing = next_level i.standing (at + size) g q (node_below lang top.frame.left top.frame.stand (drop at s) opens) (omega arith) (omega (arith, own_some (in_list inside), node_size lang top.frame.left top.frame.stand (drop at s) opens)) next_opened p;
      }
