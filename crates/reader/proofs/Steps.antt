-- What is shown of the reader's steps, and that what they read lies within the bytes.
use Prim.Native.Nat.{ℕ, zero, suc, ◌+◌, ◌-◌, ◌≤◌, ◌<◌}
use native.Mathlib.Omega.{arith}
use native.Mathlib.Numerals.{sub-one}
use mathlib.Core.Path.{◌≡◌, refl, ap, subst, ◌∙◌}
use mathlib.Core.List.{List}
use mathlib.Core.Bool.{Bool, true, false, cond}
use lib.ListN.{length, get_or, drop}
use lib.Dec.{eqb}
use borrow.Author.Tests.{le-leb, lt-leb, eq-eqb, ne_eqb}
use Rattle.answers.specs.declared.Refusal.{Refusal}
use Rattle.answers.specs.declared.Refusal.TheVariants.{Long, Spare}
use Rattle.term.specs.Code.{code_in}
use Rattle.term.specs.Tree.{Tree, Trees}
use Rattle.term.specs.Language.{Language}
use Rattle.term.specs.Limits.{nesting, longest}
use Rattle.term.specs.declared.Code.{Code}
use Rattle.term.proofs.Sizes.{encode_length}
use Rattle.reader.specs.Node.{node_at}
use Rattle.reader.specs.Reading.{Parsed, refused, read, shown, join, chain, read_all, grow, enter, read_tree, unless_spare, read_whole}
use Rattle.reader.proofs.Answers.{Got, opened_at, refused_shown, ends_shown}
use Rattle.reader.proofs.Nodes.{NodeSound, own_length, own_size_holds, sound_node}
use Rattle.reader.proofs.Inverse.{TreeSound, sound, tree_unfold}
use Rattle.std.specs.Prelude.{Result, Ok, Err, Option, None}
use Rattle.reader.specs.Node.{opened}

-- What is read lies within the bytes and the nesting

module _ (lang : Language) (records : Bool) (stand : (Option ℕ)) (left : ℕ) (s : List ℕ) {size k : ℕ} {inside : (Option ℕ)} {low : ℕ}
    (e : node_at lang records stand left s ≡ Ok (opened size k inside low)) where
  node_sound : NodeSound lang records stand left s (code_in records (get_or s 0 0)) size k inside low
  node_sound = opened_at (NodeSound lang records stand left s (code_in records (get_or s 0 0))) (sound_node lang records stand left s) e

  pub node_within : (size ≤ length s) × (0 < size)
  node_within =
      let c = code_in records (get_or s 0 0) in
      (omega (arith, ap length node_sound.bytes ∙ own_length lang.table c k (drop size s), node_sound.long), omega (arith, node_sound.long, own_size_holds lang.table c))

  pub node_below : (0 < left) × (low < left + (2 - k))
  node_below = (node_sound.levels, node_sound.fewer)

pub tree_ends : (lang : Language) (records : Bool) (left : ℕ) (stand : (Option ℕ)) (s : List ℕ) (n : ℕ) → shown (read_tree lang records left stand s) ≡ Ok n → n ≤ length s
tree_ends lang records left stand s n e =
    let x = ends_shown (read_tree lang records left stand s) n e in
    let h = subst (Got (TreeSound lang records left stand s)) x.1 (sound lang records left stand s) in
    omega (arith, ap length h.bytes ∙ encode_length lang.table x.0 (drop n s), h.long)

-- So many bytes before what was read

abbrev pub plus : ℕ → Result ℕ Refusal → Result ℕ Refusal
plus n (Err r) = Err r
plus n (Ok m) = Ok (n + m)

shown_grow : (c : Code) (size : ℕ) (a : Parsed Trees) → shown (grow c size a) ≡ plus size (shown a)
unfolding shown grow
shown_grow c size (refused r) = refl
shown_grow c size (read ts n) = refl

shown_join : (t : Tree) (n : ℕ) (a : Parsed Trees) → shown (join t n a) ≡ plus n (shown a)
unfolding shown join
shown_join t n (refused r) = refl
shown_join t n (read ts m) = refl

-- and then what follows
abbrev pub and_then : Result ℕ Refusal → (ℕ → Result ℕ Refusal) → Result ℕ Refusal
and_then (Err r) g = Err r
and_then (Ok n) g = plus n (g n)

pub shown_chain : (a : Parsed Tree) (g : ℕ → Parsed Trees) → shown (chain a g) ≡ and_then (shown a) (λ n. shown (g n))
unfolding shown chain
shown_chain (refused r) g = refl
shown_chain (read t n) g = shown_join t n (g n)

-- One tree

module _ (lang : Language) (records : Bool) (left : ℕ) (stand : (Option ℕ)) (s : List ℕ) where
  -- a node that is refused refuses its tree
  pub tree_refused : (r : Refusal) → node_at lang records stand left s ≡ Err r → shown (read_tree lang records left stand s) ≡ Err r
  unfolding shown enter
  tree_refused r e = ap shown (tree_unfold lang records left stand s) ∙ rw e

  -- a node that is open goes on with its children
  pub tree_open : {size k : ℕ} {inside : (Option ℕ)} {low : ℕ} → node_at lang records stand left s ≡ Ok (opened size k inside low)
      → shown (read_tree lang records left stand s) ≡ plus size (shown (read_all (read_tree lang records low inside) k (drop size s)))
  unfolding enter
  tree_open {size} {k} {inside} {low} e =
      ap shown (tree_unfold lang records left stand s)
      ∙ rw e (shown_grow (code_in records (get_or s 0 0)) size (read_all (read_tree lang records low inside) k (drop size s)))

-- So many trees

pub all_none : (f : List ℕ → Parsed Tree) (k : ℕ) (s : List ℕ) → k ≡ 0 → shown (read_all f k s) ≡ Ok 0
unfolding shown read_all
all_none f k s e = rw e

-- one more is the first, and then one fewer
pub all_more : (f : List ℕ → Parsed Tree) (k : ℕ) (s : List ℕ) → (k ≡ 0 → ⊥) → read_all f k s ≡ chain (f s) (λ n. read_all f (k - 1) (drop n s))
unfolding read_all
all_more f zero s h = absurd (h refl)
all_more f (suc k) s h = rw (sub-one (suc k))

-- The whole of the bytes

module _ (records : Bool) (lang : Language) (s : List ℕ) where
  pub whole_long : longest records < length s → shown (read_whole records lang s) ≡ Err Long
  unfolding read_whole shown
  whole_long h = rw (lt-leb (length s) (longest records) h)

  pub whole_tree : length s ≤ longest records → read_whole records lang s ≡ unless_spare s (read_tree lang records nesting None s)
  unfolding read_whole
  whole_tree h = rw (le-leb (length s) (longest records) h)

pub whole_refused : (s : List ℕ) (a : Parsed Tree) (r : Refusal) → shown a ≡ Err r → shown (unless_spare s a) ≡ Err r
unfolding shown unless_spare
whole_refused s a r e = rw (refused_shown a r e)

whole_ends : (s : List ℕ) (a : Parsed Tree) (n : ℕ) → shown a ≡ Ok n → shown (unless_spare s a) ≡ cond (eqb n (length s)) (Ok n) (Err Spare)
unfolding shown unless_spare
whole_ends s a n e = let x = ends_shown a n e in rw x.1 (by x.0 (eqb n (length s)))
  where
    by : (t : Tree) (b : Bool) → shown (cond b (read t n) (refused Spare)) ≡ cond b (Ok n) (Err Spare)
    by t true = refl
    by t false = refl

pub whole_spare : (s : List ℕ) (a : Parsed Tree) (n : ℕ) → shown a ≡ Ok n → n < length s → shown (unless_spare s a) ≡ Err Spare
whole_spare s a n e h = whole_ends s a n e ∙ simp (ne_eqb n (length s) (omega arith))

pub whole_all : (s : List ℕ) (a : Parsed Tree) (n : ℕ) → shown a ≡ Ok n → n ≤ length s → length s ≤ n → shown (unless_spare s a) ≡ Ok n
whole_all s a n e h k = whole_ends s a n e ∙ simp (eq-eqb n (length s) (omega arith))
