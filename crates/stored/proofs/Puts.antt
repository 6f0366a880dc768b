-- The loop of `put_tree`: the trees that are still to be put, and what a node's bytes are when its children are done.
use Prim.Native.Nat.{ℕ, suc, ◌+◌, ◌-◌, ◌/◌, ◌%◌, ◌≤◌, ◌<◌}
use native.Mathlib.Omega.{arith}
use native.Mathlib.Numerals.{add-one}
use mathlib.Core.Path.{◌≡◌, refl, sym, ap, subst, ◌∙◌}
use mathlib.Core.List.{List, [], ◌∷◌, ◌++◌, reverse}
use mathlib.Core.Bool.{Bool, true, false, cond, ◌||◌}
use lib.Dec.{ltb}
use lib.ListN.{length, get_or, set, drop, take, length-drop}
use lib.Seq.{sets, set_comm, drop-drop}
use Rattle.answers.specs.declared.Refusal.{Refusal}
use Rattle.term.proofs.Lists.{rest_part}
use Rattle.term.specs.Code.{code_in}
use Rattle.term.specs.Language.{Language}
use Rattle.term.specs.Limits.{nesting}
use Rattle.term.specs.Splicing.{in_list}
use Rattle.term.specs.Tree.{Tree, Trees, branch, empty, more, number, list_code, own}
use Rattle.term.specs.declared.Code.{Code}
use Rattle.reader.specs.Frame.{frame}
use Rattle.reader.specs.Node.{node_at}
use Rattle.reader.specs.Reading.{Parsed, refused, read, join, chain, read_all, grow, enter, read_tree}
use Rattle.reader.specs.declared.Frame.{Frame}
use Rattle.reader.proofs.Answers.{Got, opened_at}
use Rattle.reader.proofs.Nodes.{NodeSound, sound_node}
use Rattle.reader.proofs.Steps.{all_more, node_within}
use Rattle.reader.proofs.Inverse.{TreesSound, sound_all, sound, tree_unfold}
use Rattle.sheet.specs.Word.{word}
use Rattle.term.proofs.Stores.{sets_append}
use Rattle.stored.specs.Form.{tell, store, stores, longest_stored}
use Rattle.stored.specs.Passes.{record_trees, stored_trees, Putting, own_of, own_size, stored_size, Stands, with_told}
use Rattle.stored.proofs.Forms.{store_append, branch_length, more_length}
use Rattle.stored.specs.declared.Level.{Level}
use Rattle.stored.proofs.Frames.{level, root, rest_at, Standing, standing_starts, depth_within, stands, next_leaf, next_level, next_around, leaf_known}
use Rattle.stored.proofs.Passing.{own_some}
use Rattle.stored.proofs.Inverse.{is_list_holds, own_long}
use Rattle.std.specs.Prelude.{Option, None, Result, Ok, Err}
use Rattle.reader.specs.Node.{opened}
use Rattle.reader.specs.declared.Open.{Open}

-- What was read, taken apart

join_read : (t : Tree) (n : ℕ) (a : Parsed Trees) (us : Trees) (m : ℕ) → join t n a ≡ read us m → (vs : Trees) × ((y : ℕ) × ((a ≡ read vs y) × (us ≡ more t vs) × (m ≡ n + y)))
unfolding join
join_read t n (refused r) us m e = let z : ◌≡◌ {A = ℕ} 0 1 = cc in absurd (omega arith)
join_read t n (read vs y) us m e = (vs, (y, (refl, cc, cc)))

chain_read : (a : Parsed Tree) (g : ℕ → Parsed Trees) (us : Trees) (m : ℕ) → chain a g ≡ read us m
    → (t : Tree) × ((x : ℕ) × ((a ≡ read t x) × ((vs : Trees) × ((y : ℕ) × ((g x ≡ read vs y) × (us ≡ more t vs) × (m ≡ x + y))))))
unfolding chain
chain_read (refused r) g us m e = let z : ◌≡◌ {A = ℕ} 0 1 = cc in absurd (omega arith)
chain_read (read t x) g us m e = (t, (x, (refl, join_read t x (g x) us m e)))

grow_read : (c : Code) (size : ℕ) (a : Parsed Trees) (t : Tree) (x : ℕ) → grow c size a ≡ read t x → (ws : Trees) × ((z : ℕ) × ((a ≡ read ws z) × (t ≡ branch c ws) × (x ≡ size + z)))
unfolding grow
grow_read c size (refused r) t x e = let z : ◌≡◌ {A = ℕ} 0 1 = cc in absurd (omega arith)
grow_read c size (read ws z) t x e = (ws, (z, (refl, cc, cc)))

module _ (lang : Language) where
  -- an open node's tree
  open_tree : (left : ℕ) (stand : (Option ℕ)) (s : List ℕ) {size k : ℕ} {inside : (Option ℕ)} {low : ℕ} → node_at lang true stand left s ≡ Ok (opened size k inside low)
      → read_tree lang true left stand s ≡ grow (code_in true (get_or s 0 0)) size (record_trees lang low inside k (drop size s))
  unfolding enter record_trees
  open_tree left stand s e = tree_unfold lang true left stand s ∙ rw e

  refused_tree : (left : ℕ) (stand : (Option ℕ)) (s : List ℕ) (r : Refusal) → node_at lang true stand left s ≡ Err r → read_tree lang true left stand s ≡ refused r
  unfolding enter
  refused_tree left stand s r e = tree_unfold lang true left stand s ∙ rw e

  counted : (left : ℕ) (stand : (Option ℕ)) (k : ℕ) (s : List ℕ) (ts : Trees) (n : ℕ) → record_trees lang left stand k s ≡ read ts n → number ts ≡ k
  unfolding record_trees
  counted left stand k s ts n e =
      (subst (Got (TreesSound lang true left stand s k)) e (sound_all lang true left stand (read_tree lang true left stand) (sound lang true left stand) k s)).counted

-- What a node's bytes are

set_sets : (xs l : List ℕ) (j i a : ℕ) → i < j → set (sets l j xs) i a ≡ sets (set l i a) j xs
set_sets [] l j i a h = refl
set_sets (x ∷ xs) l j i a h = set_sets xs (set l j x) (suc j) i a (omega arith) ∙ ap (λ (y : List ℕ). sets y (suc j) xs) (set_comm l j i x a (λ e. omega arith))

put_node : (list : Bool) (b k n : ℕ) (out : List ℕ) (to : ℕ) (xs : List ℕ)
    → with_told list (sets (sets out to (b ∷ cond list (k ∷ []) [])) (to + stored_size list) xs) (to + stored_size list) (to + stored_size list + n)
    ≡ sets out to (b ∷ cond list (k ∷ tell list n xs) (tell list n xs))
unfolding with_told tell word
put_node true b k n out to xs =
    let size : to + 4 + n - (to + 4) ≡ n = omega arith in
    let place : to + 4 - 2 ≡ to + 2 = omega arith in
    let two : suc (suc to) ≡ to + 2 = omega arith in
    let three : suc (to + 2) ≡ to + 3 = omega arith in
    let four : suc (to + 3) ≡ to + 4 = omega arith in
    let l = set (set out to b) (suc to) k in
    rw (size, place, two, three, four)
    (ap (λ (y : List ℕ). set y (to + 3) (n / 256)) (set_sets xs l (to + 4) (to + 2) (n % 256) (omega arith))
    ∙ set_sets xs (set l (to + 2) (n % 256)) (to + 4) (to + 3) (n / 256) (omega arith))
put_node false b k n out to xs = rw (add-one to)

-- the number of children is the second byte
own_read : (table : List ℕ) (c : Code) (k : ℕ) (p r : List ℕ) (xs : List ℕ) (l : Bool) → list_code table c ≡ l → p ≡ own table c k r
    → own table c k xs ≡ get_or p 0 0 ∷ cond l (get_or p 1 0 ∷ xs) xs
unfolding own
own_read table c k p r xs true e h = rw (h, e)
own_read table c k p r xs false e h = rw (h, e)

module _ (lang : Language) (left : ℕ) (stand : (Option ℕ)) (s : List ℕ) {size k : ℕ} {inside : (Option ℕ)} {low : ℕ} (e : node_at lang true stand left s ≡ Ok (opened size k inside low)) where
  node : NodeSound lang true stand left s (code_in true (get_or s 0 0)) size k inside low
  node = opened_at (NodeSound lang true stand left s (code_in true (get_or s 0 0))) (sound_node lang true stand left s) e

  own_bytes_holds : (size ≤ length s) × (size ≡ own_size (in_list inside)) × (low < left)
  own_bytes_holds = ((node_within lang true stand left s e).0, own_long node, omega (arith, node.levels, node.is_low))

  -- its stored bytes: its own, its children's, and then their length
  node_stored : (ts : Trees) (n : ℕ) → record_trees lang low inside k (drop size s) ≡ read ts n → (out : List ℕ) (to : ℕ)
      → sets out to (store lang.table (branch (code_in true (get_or s 0 0)) ts) [])
      ≡ with_told (in_list inside) (sets (sets out to (own_of (in_list inside) s)) (to + stored_size (in_list inside)) (stores lang.table ts [])) (to + stored_size (in_list inside)) (to + stored_size (in_list inside) + length (stores lang.table ts []))
  unfolding store
  node_stored ts n r out to =
      let c = code_in true (get_or s 0 0) in
      let xs = stores lang.table ts [] in
      rw (counted lang low inside k (drop size s) ts n r, ← is_list_holds node)
      (ap (sets out to) (own_read lang.table c k s (drop size s) (tell (in_list inside) (length xs) xs) (in_list inside) (sym (is_list_holds node)) node.bytes)
      ∙ sym (put_node (in_list inside) (get_or s 0 0) (get_or s 1 0) (length xs) out to xs))

  stored_length : (ts : Trees) → length (store lang.table (branch (code_in true (get_or s 0 0)) ts) []) ≡ stored_size (in_list inside) + length (stores lang.table ts [])
  stored_length ts = rw (is_list_holds node) (branch_length lang.table (code_in true (get_or s 0 0)) ts)

-- What is owed

module _ (lang : Language) (s : List ℕ) where
  -- the trees of a level can be read; put, and with their length, they leave the rest
  pub record Owes (Rest : ℕ → ℕ → List ℕ → Type 0) (l : Level) (from to : ℕ) (out : List ℕ) : Type 0 where
    pub trees : Trees
    pub size : ℕ
    pub are_read : record_trees lang l.frame.left l.frame.stand l.frame.count (drop from s) ≡ read trees size
    pub rest : Rest (from + size) (to + length (stores lang.table trees []))
        (with_told (in_list l.frame.stand) (sets out to (stores lang.table trees [])) l.start (to + length (stores lang.table trees [])))

module _ (lang : Language) (s final : List ℕ) (end : ℕ) where
  -- one level after the other; the output is then the final one
  unfoldable pub Owed : List Level → ℕ → ℕ → List ℕ → Type 0
  Owed [] from to out = (out ≡ final) × (to ≡ end)
  Owed (l ∷ ls) from to out = Owes lang s (Owed ls) l from to out

  owed_room : (ls : List Level) (from to : ℕ) (out : List ℕ) → Owed ls from to out → to ≤ end
  unfolding Owed
  owed_room [] from to out h = omega (arith, h.1)
  owed_room (l ∷ ls) from to out h = omega (arith, owed_room ls (from + h.size) (to + length (stores lang.table h.trees [])) _ h.rest)

  module _ (l : Level) (ls : List Level) (from to : ℕ) (out : List ℕ) (owed : Owed (l ∷ ls) from to out) where
    h : Owes lang s (Owed ls) l from to out
    unfolding Owed
    h = owed

    owed_none : l.frame.count ≡ 0 → Owed ls from to (with_told (in_list l.frame.stand) out l.start to)
    unfolding record_trees read_all stores
    owed_none e =
        let r : read empty 0 ≡ read h.trees h.size = ap (λ (k : ℕ). record_trees lang l.frame.left l.frame.stand k (drop from s)) (sym e) ∙ h.are_read in
        let t : h.trees ≡ empty = cc in
        let n : h.size ≡ 0 = cc in
        let a : from + 0 ≡ from = omega arith in
        let b : to + 0 ≡ to = omega arith in
        rw (t, n, a, b) at h.rest

    module _ (some : l.frame.count ≡ 0 → ⊥) where
      -- the first tree, and then the others
      first : (t : Tree) × ((x : ℕ) × ((read_tree lang true l.frame.left l.frame.stand (drop from s) ≡ read t x) × ((vs : Trees) × ((y : ℕ)
          × ((record_trees lang l.frame.left l.frame.stand (l.frame.count - 1) (drop x (drop from s)) ≡ read vs y) × (h.trees ≡ more t vs) × (h.size ≡ x + y))))))
      unfolding record_trees
      first =
          let f = read_tree lang true l.frame.left l.frame.stand in
          chain_read (f (drop from s)) (λ m. read_all f (l.frame.count - 1) (drop m (drop from s))) h.trees h.size (sym (all_more f l.frame.count (drop from s) some) ∙ h.are_read)

      -- a node that is refused is no tree's
      not_refused : {r : Refusal} → node_at lang true l.frame.stand l.frame.left (drop from s) ≡ Err r → ⊥
      not_refused {r} e =
          let d = sym (refused_tree lang l.frame.left l.frame.stand (drop from s) r e) ∙ first.1.1.0 in
          let z : ◌≡◌ {A = ℕ} 0 1 = cc in
          omega arith

      module _ {size k : ℕ} {inside : (Option ℕ)} {low : ℕ} (e : node_at lang true l.frame.stand l.frame.left (drop from s) ≡ Ok (opened size k inside low)) where
        -- a node's children come next, and then the trees after it
        parts_owed : (ws vs : Trees) (z y : ℕ) → record_trees lang low inside k (drop size (drop from s)) ≡ read ws z
            → record_trees lang l.frame.left l.frame.stand (l.frame.count - 1) (drop (size + z) (drop from s)) ≡ read vs y
            → h.trees ≡ more (branch (code_in true (get_or (drop from s) 0 0)) ws) vs → h.size ≡ size + z + y
            → Owed (level (frame k low inside) (to + stored_size (in_list inside)) ∷ rest_at l ∷ ls) (from + size) (to + stored_size (in_list inside)) (sets out to (own_of (in_list inside) (drop from s)))
        unfolding stores Owed
        parts_owed ws vs z y r q a b =
            let t = branch (code_in true (get_or (drop from s) 0 0)) ws in
            let m = length (stores lang.table ws []) in
            let c : to + stored_size (in_list inside) + m ≡ to + length (store lang.table t []) = omega (arith, stored_length lang l.frame.left l.frame.stand (drop from s) e ws) in
            let d : from + size + z ≡ from + (size + z) = omega arith in
            let f : from + (size + z) + y ≡ from + h.size = omega (arith, b) in
            let g : to + length (store lang.table t []) + length (stores lang.table vs []) ≡ to + length (stores lang.table h.trees []) =
            omega (arith, ap (λ (us : Trees). length (stores lang.table us [])) a ∙ more_length lang.table t vs) in
            let o : sets (sets out to (store lang.table t [])) (to + length (store lang.table t [])) (stores lang.table vs []) ≡ sets out to (stores lang.table h.trees []) =
            sym (ap (λ (us : Trees). sets out to (stores lang.table us [])) a ∙ ap (sets out to) (store_append lang.table t [] (stores lang.table vs [])) ∙ sets_append out to (store lang.table t []) (stores lang.table vs [])) in
            record {
              trees = ws;
              size = z;
              are_read = rw (← drop-drop size from s) r;
              rest = record {
                trees = vs;
                size = y;
                are_read = rw (d, ← drop-drop (size + z) from s) q;
                rest = rw (← node_stored lang l.frame.left l.frame.stand (drop from s) e ws z r out to, c, d, o, g, f) h.rest;
              };
            }

        owed_open : Owed (level (frame k low inside) (to + stored_size (in_list inside)) ∷ rest_at l ∷ ls) (from + size) (to + stored_size (in_list inside)) (sets out to (own_of (in_list inside) (drop from s)))
        owed_open =
            let v = first.1.1.1 in
            let d = grow_read (code_in true (get_or (drop from s) 0 0)) size (record_trees lang low inside k (drop size (drop from s))) first.0 first.1.0
            (sym (open_tree lang l.frame.left l.frame.stand (drop from s) e) ∙ first.1.1.0) in
            parts_owed d.0 v.0 d.1.0 v.1.0 d.1.1.0
            (ap (λ (x : ℕ). record_trees lang l.frame.left l.frame.stand (l.frame.count - 1) (drop x (drop from s))) (sym d.1.1.2) ∙ v.1.1.0)
            (v.1.1.1 ∙ ap (λ (t : Tree). more t v.0) d.1.1.1) (omega (arith, v.1.1.2, d.1.1.2))

-- The loop of `put_tree`

module _ (lang : Language) (s out₀ : List ℕ) where
  abbrev bytes : List ℕ
  bytes = stored_trees lang.table (record_trees lang nesting None 1 s)

  abbrev Owing : ℕ → ℕ → List ℕ → List Level → Type 0
  Owing from to out ls = Owed lang s (sets out₀ 0 bytes) (length bytes) ls from to out

  pub record Writing (around : List Level) (top : Level) (from to : ℕ) (out : List ℕ) : Type 0 where
    pub within : from ≤ length s
    pub room : length bytes ≤ length out₀
    pub short : length bytes ≤ longest_stored
    pub kept : length out ≡ length out₀
    pub standing : Standing (Owing from to out) around top to

  pub writing_starts : Putting lang s (length out₀) → {around : List Level} → around ≡ [] → Writing around root 0 0 out₀
  unfolding stored_trees with_told Owed
  writing_starts p e =
      let r : stores lang.table p.trees [] ≡ bytes = rw p.are_read refl in
      record {
        within = omega arith;
        room = rw (← r) p.has_room;
        short = rw (← r) p.short;
        kept = refl;
        standing = standing_starts e (record { trees = p.trees; size = p.bytes; are_read = p.are_read; rest = (ap (sets out₀ 0) r, omega (arith, ap length r)) });
      }

module _ {lang : Language} {s out₀ : List ℕ} {around : List Level} {top : Level} {from to : ℕ} {out : List ℕ}
    (i : Writing lang s out₀ around top from to out) where
  -- after the last tree of a level
  pub length_fits : Stands (in_list top.frame.stand) (top.start) to (length out) × (to ≤ longest_stored)
  length_fits =
      let h = owed_room lang s _ _ _ from to out i.standing.to_go in
      (stands i.standing (omega (arith, h, i.room, i.kept)), omega (arith, h, i.short))

  module _ (none_left : top.frame.count ≡ 0) (out₁ : List ℕ) (put : out₁ ≡ with_told (in_list top.frame.stand) out (top.start) to) where
    closed : Owing lang s out₀ from to out₁ (reverse around)
    closed = rw put (owed_none lang s _ _ top (reverse around) from to out i.standing.to_go none_left)

    pub all_put : around ≡ [] → out₁ ≡ sets out₀ 0 (stored_trees lang.table (record_trees lang nesting None 1 s))
    unfolding Owed
    all_put d = let h : Owing lang s out₀ from to out₁ (reverse []) = rw (d) at closed in h.0

    pub put_around : {l : Level} {left : List Level} → around ≡ left ++ l ∷ [] → length out₁ ≡ length out₀ → Writing lang s out₀ left l from to out₁
    put_around d l = record { within = i.within; room = i.room; short = i.short; kept = l; standing = next_around i.standing d closed }

  module _ (some : top.frame.count ≡ 0 → ⊥) {n : (Result Open Refusal)} (is : n ≡ node_at lang true top.frame.stand top.frame.left (take (length s - from) (drop from s))) where
    pub never_refused : {r : Refusal} → n ≡ Err r → ⊥
    never_refused e = not_refused lang s _ _ top _ from to out i.standing.to_go some (rw (rest_part from s) at (sym is ∙ e))

    module _ {size k : ℕ} {inside : (Option ℕ)} {low : ℕ} (e : n ≡ Ok (opened size k inside low)) where
      opens : node_at lang true top.frame.stand top.frame.left (drop from s) ≡ Ok (opened size k inside low)
      opens = rw (rest_part from s) at (sym is ∙ e)

      next_opened : Owing lang s out₀ (from + size) (to + stored_size (in_list inside)) (sets out to (own_of (in_list inside) (drop from s)))
          (level (frame k low inside) (to + stored_size (in_list inside)) ∷ rest_at top ∷ reverse around)
      next_opened = owed_open lang s _ _ top (reverse around) from to out i.standing.to_go some opens

      pub node_ends : (from + size ≤ length s) × (0 < size)
      node_ends =
          let w = own_bytes_holds lang top.frame.left top.frame.stand (drop from s) opens in
          (omega (arith, w.0, length-drop from s, i.within), omega (arith, w.1, own_some (in_list inside)))

      pub place_free : length around < nesting
      place_free = omega (arith, depth_within i.standing, (own_bytes_holds lang top.frame.left top.frame.stand (drop from s) opens).2)

      pub own_fits : (own_size (in_list inside) ≤ length (take (length s - from) (drop from s))) × (to + stored_size (in_list inside) ≤ length out)
      own_fits =
          let w = own_bytes_holds lang top.frame.left top.frame.stand (drop from s) opens in
          (rw (rest_part from s) (omega (arith, w.0, w.1)), omega (arith, owed_room lang s _ _ _ (from + size) (to + stored_size (in_list inside)) _ next_opened, i.room, i.kept))

      module _ (next : ℕ) (is_next : next ≡ to + stored_size (in_list inside)) (out₁ : List ℕ) (put : out₁ ≡ sets out to (own_of (in_list inside) (take (length s - from) (drop from s)))) (same : length out₁ ≡ length out₀) where
        pub put_leaf : in_list inside || ltb 0 k ≡ false → Writing lang s out₀ around (rest_at top) (from + size) next out₁
        unfolding with_told
        put_leaf h =
            let l = leaf_known (in_list inside) k h in
            let o = owed_none lang s _ _ (level (frame k low inside) (to + stored_size (in_list inside))) (rest_at top ∷ reverse around) (from + size) (to + stored_size (in_list inside)) _ next_opened l.1 in
            record {
              within = node_ends.0;
              room = i.room;
              short = i.short;
              kept = same;
              standing = next_leaf i.standing next (omega arith) (rw (is_next, put, rest_part from s, l.0) (rw l.0 at o));
            }

        pub put_level : (g : Frame) → g ≡ frame k low inside → {pushed : List Level} → pushed ≡ around ++ rest_at top ∷ []
            → Writing lang s out₀ pushed (level g next) (from + size) next out₁
        put_level g q p = record {
          within = node_ends.0;
          room = i.room;
          short = i.short;
          kept = same;
          standing = next_level i.standing next g q (own_bytes_holds lang top.frame.left top.frame.stand (drop from s) opens).2 (omega arith) (omega (arith, own_some (in_list inside)))
              (rw (is_next, put, rest_part from s) next_opened) p;
        }
