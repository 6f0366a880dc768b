-- Reading and writing are inverse: what is read from bytes is the one tree within the limits that has those bytes.
use Prim.Native.Nat.{ℕ, zero, suc, ◌+◌, ◌≤◌, ◌<◌}
use native.Mathlib.Omega.{arith}
use native.Mathlib.Nat.{le_refl}
use mathlib.Core.Path.{◌≡◌, refl, sym, ap, ap₂, subst, fun_ext, ◌∙◌}
use mathlib.Core.List.{List, [], ◌∷◌}
use mathlib.Core.Bool.{Bool, false}
use mathlib.Core.Logic.{◌↔◌}
use lib.ListN.{length, get_or, drop, length-drop}
use lib.Seq.{drop-drop, drop-length, drop_at, get_or-drop}
use lib.Dec.{leb, eqb}
use borrow.Author.Tests.{eqb-true, leb-true, le-leb, eq-eqb}
use Rattle.answers.specs.declared.Refusal.TheVariants.{Short}
use Rattle.term.specs.Code.{code_in}
use Rattle.term.specs.Tree.{Tree, Trees, branch, empty, more, number, own, encode, encodes}
use Rattle.term.specs.Language.{Language}
use Rattle.term.specs.Limits.{nesting, Written, Shape, below_of, Fits, FitAll, longest, Octets, Accepted}
use Rattle.term.specs.Splicing.{stand_in, in_list, unspliced, SplicedAt, SplicedAll}
use Rattle.term.specs.declared.Code.{Code}
use Rattle.term.proofs.Bools.{cond_all}
use Rattle.term.proofs.Codes.{code_back}
use Rattle.term.proofs.Splicing.{stand_list}
use Rattle.term.proofs.Sizes.{encode_append, branch_length, more_length}
use Rattle.reader.specs.Node.{node_at}
use Rattle.reader.specs.Reading.{Parsed, refused, read, join, chain, read_all, grow, enter, read_by, read_tree, unless_spare, read_whole}
use Rattle.reader.proofs.Answers.{Got, opened_map, got_map, got_enter, got_chain, enter_same}
use Rattle.reader.proofs.Nodes.{own_size, own_first, own_past, own_size_holds, node_complete, NodeSound, sound_node}
use Rattle.std.specs.Prelude.{Option, None}

-- As many nodes as there are bytes are enough

all_same : (f g : List ℕ → Parsed Tree) (n : ℕ) → ((s : List ℕ) → length s ≤ n → f s ≡ g s) → (k : ℕ) (s : List ℕ) → length s ≤ n → read_all f k s ≡ read_all g k s
unfolding read_all
all_same f g n h zero s l = refl
all_same f g n h (suc k) s l = ap₂ chain (h s l) (fun_ext (λ u. all_same f g n h k (drop u s) (omega (arith, length-drop u s))))

module _ (lang : Language) (records : Bool) where
  none_short : (left : ℕ) (stand : (Option ℕ)) (s : List ℕ) (g : ℕ → ℕ → Option ℕ → ℕ → Parsed Trees) → length s ≤ 0
      → enter (code_in records (get_or s 0 0)) (node_at lang records stand left s) g ≡ refused Short
  unfolding node_at enter
  none_short left stand [] g l = refl
  none_short left stand (x ∷ s) g l = absurd (omega arith)

  enough : (n m left : ℕ) (stand : (Option ℕ)) (s : List ℕ) → length s ≤ n → length s ≤ m → read_by lang records n left stand s ≡ read_by lang records m left stand s
  unfolding read_by
  enough zero zero left stand s l d = refl
  enough zero (suc m) left stand s l d = sym (none_short left stand s (λ size k inside low. read_all (read_by lang records m low inside) k (drop size s)) l)
  enough (suc n) zero left stand s l d = none_short left stand s (λ size k inside low. read_all (read_by lang records n low inside) k (drop size s)) d
  enough (suc n) (suc m) left stand s l d =
      enter_same (code_in records (get_or s 0 0)) (node_at lang records stand left s)
      (λ size k inside low. read_all (read_by lang records n low inside) k (drop size s)) (λ size k inside low. read_all (read_by lang records m low inside) k (drop size s))
      (opened_map
      (λ size k inside low o.
      let p : 0 < size = omega (arith, o.long, own_size_holds lang.table (code_in records (get_or s 0 0))) in
      let q = length-drop size s in
      all_same (read_by lang records n low inside) (read_by lang records m low inside) (length (drop size s))
      (λ x h. enough n m low inside x (omega arith) (omega arith)) k (drop size s) (le_refl (length (drop size s))))
      (node_at lang records stand left s) (sound_node lang records stand left s))

  -- the tree at the start of s, with no bound on the nodes
  pub tree_unfold : (left : ℕ) (stand : (Option ℕ)) (s : List ℕ)
      → read_tree lang records left stand s
      ≡ enter (code_in records (get_or s 0 0)) (node_at lang records stand left s) (λ size k inside low. read_all (read_tree lang records low inside) k (drop size s))
  unfolding read_tree read_by
  tree_unfold left stand s =
      enough (length s) (suc (length s)) left stand s (le_refl (length s)) (omega arith)
      ∙ enter_same (code_in records (get_or s 0 0)) (node_at lang records stand left s)
      (λ size k inside low. read_all (read_by lang records (length s) low inside) k (drop size s)) (λ size k inside low. read_all (read_tree lang records low inside) k (drop size s))
      (opened_map
      (λ size k inside low o.
      all_same (read_by lang records (length s) low inside) (read_tree lang records low inside) (length s)
      (λ x h. enough (length s) (length x) low inside x h (le_refl (length x))) k (drop size s) (omega (arith, length-drop size s)))
      (node_at lang records stand left s) (sound_node lang records stand left s))

-- Trees within the limits are read back

-- a node's own bytes, and then what its children are read from
node_step : (lang : Language) (records : Bool) (left : ℕ) (stand : (Option ℕ)) (c : Code) (k : ℕ) (r : List ℕ) → 0 < left → Written records c
    → Shape lang.table (in_list stand) c k → unspliced lang.edition lang.classes stand (stand_in lang.table c) ≡ false
    → read_tree lang records left stand (own lang.table c k r)
    ≡ grow c (own_size lang.table c) (read_all (read_tree lang records (below_of c left) (stand_in lang.table c)) k r)
unfolding enter
node_step lang records left stand c k r l w h d =
    tree_unfold lang records left stand (own lang.table c k r)
    ∙ rw (node_complete lang records stand left c k r l w h d, own_first lang.table c k r, code_back records c w, own_past lang.table c k r)

behind_tree : (table : List ℕ) (t : Tree) (bs : List ℕ) → drop (length (encode table t [])) (encode table t bs) ≡ bs
behind_tree table t bs = ap (drop (length (encode table t []))) (encode_append table t [] bs) ∙ drop_at (encode table t []) bs (length (encode table t [])) refl

mutual
  unfolding Fits encode grow read_all number chain join

  pub complete : (lang : Language) (records : Bool) (t : Tree) (left : ℕ) (stand : (Option ℕ)) (bs : List ℕ) → Fits lang.table records t left (in_list stand)
      → SplicedAt lang stand t → read_tree lang records left stand (encode lang.table t bs) ≡ read t (length (encode lang.table t []))
  complete lang records (branch c ts) left stand bs f d =
      let table = lang.table in
      rw (
        node_step lang records left stand c (number ts) (encodes table ts bs) f.0 f.1 f.2 d.0,
        completes lang records ts (below_of c left) (stand_in table c) bs (rw (stand_list table c) f.3) d.1,
        branch_length table c ts,
      )

  completes : (lang : Language) (records : Bool) (ts : Trees) (left : ℕ) (stand : (Option ℕ)) (bs : List ℕ) → FitAll lang.table records ts left (in_list stand)
      → SplicedAll lang stand ts → read_all (read_tree lang records left stand) (number ts) (encodes lang.table ts bs) ≡ read ts (length (encodes lang.table ts []))
  completes lang records empty left stand bs f d = refl
  completes lang records (more t ts) left stand bs f d =
      let table = lang.table in
      rw (
        complete lang records t left stand (encodes table ts bs) f.0 d.0,
        behind_tree table t (encodes table ts bs),
        completes lang records ts left stand bs f.1 d.1,
        more_length table t ts,
      )

-- What is read is within the limits, and the bytes are its own

octets_drop : (n : ℕ) (s : List ℕ) → Octets s → Octets (drop n s)
octets_drop n s o i = rw (get_or-drop n s i 0) (o (n + i))

module _ (lang : Language) (records : Bool) (left : ℕ) (stand : (Option ℕ)) where
  abbrev table : List ℕ
  table = lang.table

  pub record TreeSound (s : List ℕ) (t : Tree) (n : ℕ) : Type 0 where
    pub bytes : s ≡ encode lang.table t (drop n s)
    pub long : n ≡ length (encode lang.table t [])
    pub fits : Octets s → Fits lang.table records t left (in_list stand)
    pub spliced : SplicedAt lang stand t

  pub record TreesSound (s : List ℕ) (k : ℕ) (ts : Trees) (n : ℕ) : Type 0 where
    pub bytes : s ≡ encodes lang.table ts (drop n s)
    pub long : n ≡ length (encodes lang.table ts [])
    pub counted : number ts ≡ k
    pub fits : Octets s → FitAll lang.table records ts left (in_list stand)
    pub spliced : SplicedAll lang stand ts

  none_sound : (s : List ℕ) → TreesSound s 0 empty 0
  unfolding encodes number FitAll
  none_sound s = record { bytes = refl; long = refl; counted = refl; fits = λ o. tt; spliced = tt }

  more_sound : (s : List ℕ) (k : ℕ) (t : Tree) (n : ℕ) (ts : Trees) (m : ℕ) → TreeSound s t n → TreesSound (drop n s) k ts m → TreesSound s (suc k) (more t ts) (n + m)
  unfolding encodes number FitAll
  more_sound s k t n ts m a b = record {
    bytes = a.bytes ∙ ap (encode table t) (b.bytes ∙ ap (encodes table ts) (drop-drop m n s));
    long = rw (more_length table t ts) (ap₂ ◌+◌ a.long b.long);
    counted = ap suc b.counted;
    fits = λ o. (a.fits o, b.fits (octets_drop n s o));
    spliced = (a.spliced, b.spliced);
  }

  pub sound_all : (f : List ℕ → Parsed Tree) → ((s : List ℕ) → Got (TreeSound s) (f s)) → (k : ℕ) (s : List ℕ) → Got (TreesSound s k) (read_all f k s)
  unfolding read_all
  sound_all f h zero s = none_sound s
  sound_all f h (suc k) s =
      got_chain (TreesSound s (suc k)) (f s) (λ n. read_all f k (drop n s))
      (got_map (λ t n a. got_map (λ ts m b. more_sound s k t n ts m a b) (read_all f k (drop n s)) (sound_all f h k (drop n s))) (f s) (h s))

grow_sound : (lang : Language) (records : Bool) (left : ℕ) (stand : (Option ℕ)) (s : List ℕ) (c : Code) (size k : ℕ) (inside : (Option ℕ)) (low : ℕ) (ts : Trees) (n : ℕ)
    → NodeSound lang records stand left s c size k inside low → TreesSound lang records low inside (drop size s) k ts n
    → TreeSound lang records left stand s (branch c ts) (size + n)
unfolding encode Fits
grow_sound lang records left stand s c size k inside low ts n o b =
    let table = lang.table in
    record {
      bytes = rw b.counted (o.bytes ∙ ap (own table c k) (b.bytes ∙ ap (encodes table ts) (drop-drop n size s)));
      long = rw (branch_length table c ts) (ap₂ ◌+◌ o.long b.long);
      fits = λ x. (
        o.levels,
        o.written,
        rw b.counted (o.shape x),
        rw (← stand_list table c, ← o.is_inside, ← o.is_low) (b.fits (octets_drop size s x)),
      );
      spliced = (o.spliced, rw (← o.is_inside) b.spliced);
    }

sound_by : (lang : Language) (records : Bool) (n left : ℕ) (stand : (Option ℕ)) (s : List ℕ) → Got (TreeSound lang records left stand s) (read_by lang records n left stand s)
unfolding read_by
sound_by lang records zero left stand s = tt
sound_by lang records (suc n) left stand s =
    got_enter (TreeSound lang records left stand s) (code_in records (get_or s 0 0)) (node_at lang records stand left s)
    (λ size k inside low. read_all (read_by lang records n low inside) k (drop size s))
    (opened_map
    (λ size k inside low o.
    got_map (λ ts m b. grow_sound lang records left stand s (code_in records (get_or s 0 0)) size k inside low ts m o b)
    (read_all (read_by lang records n low inside) k (drop size s))
    (sound_all lang records low inside (read_by lang records n low inside) (sound_by lang records n low inside) k (drop size s)))
    (node_at lang records stand left s) (sound_node lang records stand left s))

pub sound : (lang : Language) (records : Bool) (left : ℕ) (stand : (Option ℕ)) (s : List ℕ) → Got (TreeSound lang records left stand s) (read_tree lang records left stand s)
unfolding read_tree
sound lang records left stand s = sound_by lang records (length s) left stand s

-- The theorem

unfoldable pub ReadWhole : Language → Bool → List ℕ → Tree → ℕ → Type 0
ReadWhole lang records s t n = (encode lang.table t [] ≡ s) × (n ≡ length s) × (Octets s → Accepted lang records t)

module _ (lang : Language) (records : Bool) (s : List ℕ) where
  whole_sound : length s ≤ longest records → (a : Parsed Tree) → Got (TreeSound lang records nesting None s) a → Got (ReadWhole lang records s) (unless_spare s a)
  unfolding unless_spare ReadWhole
  whole_sound l (refused r) h = tt
  whole_sound l (read t n) h =
      cond_all (Got (ReadWhole lang records s)) (eqb n (length s))
      (λ e.
      let z : n ≡ length s = eqb-true n (length s) e in
      let b : encode lang.table t [] ≡ s = sym (h.bytes ∙ ap (λ (m : ℕ). encode lang.table t (drop m s)) z ∙ ap (encode lang.table t) (drop-length s)) in
      (b, z, λ o. record { short = rw b l; fits = h.fits o; spliced = h.spliced }))
      (λ e. tt)

  pub whole_read : Got (ReadWhole lang records s) (read_whole records lang s)
  unfolding read_whole
  whole_read =
      cond_all (Got (ReadWhole lang records s)) (leb (length s) (longest records))
      (λ l. whole_sound (leb-true (length s) (longest records) l) (read_tree lang records nesting None s) (sound lang records nesting None s))
      (λ l. tt)

  -- bytes are read as a tree exactly if they are the tree's own and the tree is within the limits
  pub read_iff : Octets s → (t : Tree) → (read_whole records lang s ≡ read t (length s)) ↔ ((encode lang.table t [] ≡ s) × Accepted lang records t)
  unfolding ReadWhole read_whole unless_spare
  read_iff o t = (to, from)
    where
      to : read_whole records lang s ≡ read t (length s) → (encode lang.table t [] ≡ s) × Accepted lang records t
      to e = let h = subst (Got (ReadWhole lang records s)) e whole_read in (h.0, h.2 o)

      from : (encode lang.table t [] ≡ s) × Accepted lang records t → read_whole records lang s ≡ read t (length s)
      from h =
          let n : length (encode lang.table t []) ≡ length s = ap length h.0 in
          let l : length s ≤ longest records = rw h.0 at h.1.short in
          let d : read_tree lang records nesting None s ≡ read t (length s) =
          ap (read_tree lang records nesting None) (sym h.0) ∙ complete lang records t nesting None [] h.1.fits h.1.spliced ∙ ap (read t) n in
          rw (le-leb (length s) (longest records) l, d, eq-eqb (length s) (length s) refl)
