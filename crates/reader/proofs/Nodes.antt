-- A node's own bytes: what they are read as, and what they are written from.
use Prim.Native.Nat.{ℕ, ◌+◌, ◌-◌, ◌≤◌, ◌<◌}
use native.Mathlib.Omega.{arith}
use mathlib.Core.Path.{◌≡◌, refl, sym, ap, ◌∙◌}
use mathlib.Core.List.{List, [], ◌∷◌}
use mathlib.Core.Bool.{Bool, true, false, cond}
use lib.ListN.{length, get_or, drop}
use lib.Dec.{ltb, eqb}
use borrow.Author.Tests.{ltb-true, ltb-false, eqb-true, eqb-false, lt-ltb, le-ltb, ne_eqb}
use Rattle.answers.specs.declared.Refusal.TheVariants.{Short}
use Rattle.term.specs.Table.{is_list}
use Rattle.term.specs.Code.{decode_of, code_in, byte_of}
use Rattle.term.specs.Tree.{list_code, own}
use Rattle.term.specs.Language.{Language}
use Rattle.term.specs.Limits.{Written, Counted, Shape, below_of, Octets}
use Rattle.term.specs.Splicing.{stand_in, in_list, unspliced}
use Rattle.term.specs.declared.Code.{Code}
use Rattle.term.specs.declared.Code.TheVariants.{Symbol, Name, Run, Complement}
use Rattle.term.proofs.Bools.{cond_all}
use Rattle.term.proofs.Codes.{code_back}
use Rattle.term.proofs.Sizes.{own_length as list_length}
use Rattle.term.proofs.Splicing.{leaf_spliced}
use Rattle.reader.specs.Node.{known, unless_unspliced, open_node, code_node, node_at}
use Rattle.reader.proofs.Answers.{Opened}
use Rattle.std.specs.Prelude.{Option, Some, None, Ok, Err}
use Rattle.reader.specs.Node.{opened}

-- the number of a node's own bytes
abbrev pub own_size : List ℕ → Code → ℕ
own_size table c = cond (list_code table c) 2 1

-- what a byte stands for can be written, and is written as that byte
abbrev Coded : Bool → ℕ → Code → Type 0
Coded records b (Symbol s) = Written records (Symbol s) × (byte_of (Symbol s) ≡ b)
Coded records b (Name v) = Written records (Name v) × (byte_of (Name v) ≡ b)
Coded records b (Run v) = Written records (Run v) × (byte_of (Run v) ≡ b)
Coded records b Complement = Written records Complement × (byte_of Complement ≡ b)
Coded records b Code.Refused = Unit {0}

coded : (records : Bool) (b : ℕ) → Coded records b (code_in records b)
unfolding decode_of Written byte_of
coded true b = (tt, refl)
coded false b =
    cond_all (Coded false b) (ltb b 200) (λ e. (ltb-true b 200 e, refl))
    (λ e₁. cond_all (Coded false b) (ltb b 232) (λ e. (omega (arith, ltb-false b 200 e₁, ltb-true b 232 e), omega (arith, ltb-false b 200 e₁)))
    (λ e₂. cond_all (Coded false b) (ltb b 248)
    (λ e. ((omega (arith, ltb-false b 232 e₂), omega (arith, ltb-false b 232 e₂, ltb-true b 248 e)), omega (arith, ltb-false b 232 e₂)))
    (λ e₃. cond_all (Coded false b) (eqb b 248) (λ e. (tt, sym (eqb-true b 248 e))) (λ e. tt))))

-- The checks in their order

module _ (lang : Language) (records : Bool) (stand : (Option ℕ)) (left : ℕ) (s : List ℕ) where
  pub node_short : length s ≡ 0 → node_at lang records stand left s ≡ Err Short
  unfolding node_at
  node_short h = rw h

  module _ (c : Code) (long : length s ≡ 0 → ⊥) (is : c ≡ code_in records (get_or s 0 0)) where
    pub node_code : node_at lang records stand left s ≡ code_node lang stand left s c
    unfolding node_at
    node_code = rw (ne_eqb (length s) 0 long, ← is)

    pub node_open : known lang.table c ≡ true → (left ≡ 0 → ⊥) → node_at lang records stand left s ≡ open_node lang stand (below_of c left) s c
    unfolding code_node
    node_open k d = node_code ∙ rw (k, ne_eqb left 0 d)

-- A node's own bytes are read as the node

shape_known : (table : List ℕ) (in_list : Bool) (c : Code) (k : ℕ) → Shape table in_list c k → known table c ≡ true
unfolding Shape
shape_known table in_list (Symbol b) k h = lt-ltb b (length table) h.0
shape_known table in_list (Name v) k h = refl
shape_known table in_list (Run v) k h = refl
shape_known table in_list Complement k h = refl
shape_known table in_list Code.Refused k h = absurd h

symbol_complete : (list : Bool) (entry b k low : ℕ) (u : Bool) (r : List ℕ) → Counted list k entry → (list ≡ true → u ≡ false)
    → cond list
    (unless_unspliced u (cond (ltb (length (b ∷ cond list (k ∷ r) r)) 2) (Err Short) (Ok (opened 2 (get_or (b ∷ cond list (k ∷ r) r) 1 0) (Some b) low))))
    (Ok (opened 1 entry None low))
    ≡ Ok (opened (cond list 2 1) k (cond list (Some b) None) low)
symbol_complete true entry b k low u r h d = rw (d refl, le-ltb (length (b ∷ k ∷ r)) 2 (omega arith))
symbol_complete false entry b k low u r h d = rw h

-- a list that is spliced where it stands
list_spliced : (lang : Language) (stand : (Option ℕ)) (b : ℕ) → unspliced lang.edition lang.classes stand (stand_in lang.table (Symbol b)) ≡ false
    → is_list lang.table b ≡ true → unspliced lang.edition lang.classes stand (Some b) ≡ false
list_spliced lang stand b h e = rw e at h

open_complete : (lang : Language) (stand : (Option ℕ)) (low : ℕ) (c : Code) (k : ℕ) (r : List ℕ) → Shape lang.table (in_list stand) c k
    → unspliced lang.edition lang.classes stand (stand_in lang.table c) ≡ false
    → open_node lang stand low (own lang.table c k r) c ≡ Ok (opened (own_size lang.table c) k (stand_in lang.table c) low)
unfolding Shape open_node own list_code byte_of
open_complete lang stand low (Symbol b) k r h d =
    symbol_complete (is_list lang.table b) (get_or lang.table b 0) b k low (unspliced lang.edition lang.classes stand (Some b)) r h.1
    (list_spliced lang stand b d)
open_complete lang stand low (Name v) k r h d = rw h
open_complete lang stand low (Run v) k r h d = rw (h.0, h.1)
open_complete lang stand low Complement k r h d = rw h
open_complete lang stand low Code.Refused k r h d = absurd h

module _ (table : List ℕ) where
  pub own_first : (c : Code) (k : ℕ) (r : List ℕ) → get_or (own table c k r) 0 0 ≡ byte_of c
  unfolding own
  own_first c k r = refl

  own_long : (c : Code) (k : ℕ) (r : List ℕ) → length (own table c k r) ≡ 0 → ⊥
  unfolding own
  own_long c k r e = omega arith

  pub own_size_holds : (c : Code) → 0 < own_size table c
  own_size_holds c = cond_all (λ (n : ℕ). 0 < n) (list_code table c) (λ e. omega arith) (λ e. omega arith)

  pub own_length : (c : Code) (k : ℕ) (r : List ℕ) → length (own table c k r) ≡ own_size table c + length r
  unfolding own
  own_length c k r = list_length (list_code table c) (byte_of c) k r

  pub own_past : (c : Code) (k : ℕ) (r : List ℕ) → drop (own_size table c) (own table c k r) ≡ r
  unfolding own
  own_past c k r = by (list_code table c)
    where
      by : (list : Bool) → drop (cond list 2 1) (byte_of c ∷ cond list (k ∷ r) r) ≡ r
      by true = refl
      by false = refl

pub node_complete : (lang : Language) (records : Bool) (stand : (Option ℕ)) (left : ℕ) (c : Code) (k : ℕ) (r : List ℕ) → 0 < left → Written records c
    → Shape lang.table (in_list stand) c k → unspliced lang.edition lang.classes stand (stand_in lang.table c) ≡ false
    → node_at lang records stand left (own lang.table c k r) ≡ Ok (opened (own_size lang.table c) k (stand_in lang.table c) (below_of c left))
node_complete lang records stand left c k r l w h d =
    let table = lang.table in
    node_open lang records stand left (own table c k r) c (own_long table c k r) (sym (ap (code_in records) (own_first table c k r) ∙ code_back records c w))
    (shape_known table (in_list stand) c k h) (λ e. omega arith)
    ∙ open_complete lang stand (below_of c left) c k r h d

-- An open node: its own bytes stand at the start, and its code allows it

module _ (lang : Language) (records : Bool) (stand : (Option ℕ)) (left : ℕ) where
  abbrev table : List ℕ
  table = lang.table

  pub record NodeSound (s : List ℕ) (c : Code) (size k : ℕ) (inside : (Option ℕ)) (low : ℕ) : Type 0 where
    pub bytes : s ≡ own lang.table c k (drop size s)
    pub long : size ≡ own_size lang.table c
    pub written : Written records c
    pub shape : Octets s → Shape lang.table (in_list stand) c k
    pub spliced : unspliced lang.edition lang.classes stand (stand_in lang.table c) ≡ false
    pub is_inside : inside ≡ stand_in lang.table c
    pub levels : 0 < left
    pub is_low : low ≡ below_of c left
    -- less nesting is left for two children or more
    pub fewer : low < left + (2 - k)

  sized : (s : List ℕ) (c : Code) (x k : ℕ) (list : Bool) (inside : (Option ℕ)) → byte_of c ≡ x → list_code table c ≡ list → stand_in table c ≡ inside
      → unspliced lang.edition lang.classes stand inside ≡ false → Written records c
      → (Octets (x ∷ cond list (k ∷ s) s) → Shape table (in_list stand) c k) → 0 < left → below_of c left < left + (2 - k)
      → NodeSound (x ∷ cond list (k ∷ s) s) c (cond list 2 1) k inside (below_of c left)
  unfolding own
  sized s c x k true inside b i n u w h l f =
      record { bytes = rw (i, b); long = rw i; written = w; shape = h; spliced = rw n u; is_inside = sym n; levels = l; is_low = refl; fewer = f }
  sized s c x k false inside b i n u w h l f =
      record { bytes = rw (i, b); long = rw i; written = w; shape = h; spliced = rw n u; is_inside = sym n; levels = l; is_low = refl; fewer = f }

  sound_list : (n x : ℕ) (s : List ℕ) → byte_of (Symbol n) ≡ x → Written records (Symbol n) → 2 ≤ length (x ∷ s) → n < length table → is_list table n ≡ true
      → unspliced lang.edition lang.classes stand (Some n) ≡ false → 0 < left
      → NodeSound (x ∷ s) (Symbol n) 2 (get_or (x ∷ s) 1 0) (Some n) (below_of (Symbol n) left)
  unfolding Shape list_code
  sound_list n x [] b w m h e u l = absurd (omega arith)
  sound_list n x (y ∷ s) b w m h e u l = sized s (Symbol n) x y true (Some n) b e (rw e) u w (λ o. (h, rw e (o 1))) l (omega arith)

  sound_symbol : (n x : ℕ) (s : List ℕ) → byte_of (Symbol n) ≡ x → Written records (Symbol n) → n < length table → 0 < left
      → Opened (NodeSound (x ∷ s) (Symbol n)) (open_node lang stand (below_of (Symbol n) left) (x ∷ s) (Symbol n))
  unfolding open_node Shape list_code
  sound_symbol n x s b w h l =
      cond_all (Opened (NodeSound (x ∷ s) (Symbol n))) (is_list table n)
      (λ e. cond_all (Opened (NodeSound (x ∷ s) (Symbol n))) (unspliced lang.edition lang.classes stand (Some n)) (λ u. tt)
      (λ u. cond_all (Opened (NodeSound (x ∷ s) (Symbol n))) (ltb (length (x ∷ s)) 2) (λ d. tt)
      (λ d. sound_list n x s b w (ltb-false (length (x ∷ s)) 2 d) h e u l)))
      (λ e. sized s (Symbol n) x (get_or table n 0) false None b e (rw e) (leaf_spliced lang.edition lang.classes stand) w (λ o. (h, rw e refl)) l (omega arith))

  sound_open : (x : ℕ) (s : List ℕ) (c : Code) → Coded records x c → known table c ≡ true → 0 < left
      → Opened (NodeSound (x ∷ s) c) (open_node lang stand (below_of c left) (x ∷ s) c)
  unfolding open_node list_code Shape
  sound_open x s (Symbol n) h k l = sound_symbol n x s h.1 h.0 (ltb-true n (length table) k) l
  sound_open x s (Name v) h k l = sized s (Name v) x 0 false None h.1 refl refl (leaf_spliced lang.edition lang.classes stand) h.0 (λ o. refl) l (omega arith)
  sound_open x s (Run v) h k l =
      cond_all (Opened (NodeSound (x ∷ s) (Run v))) (in_list stand)
      (λ e. sized s (Run v) x 0 false None h.1 refl refl (leaf_spliced lang.edition lang.classes stand) h.0 (λ o. (refl, e)) l (omega arith)) (λ e. tt)
  sound_open x s Complement h k l = sized s Complement x 1 false None h.1 refl refl (leaf_spliced lang.edition lang.classes stand) h.0 (λ o. refl) l (omega arith)
  sound_open x s Code.Refused h k l = tt

  sound_code : (x : ℕ) (s : List ℕ) (c : Code) → Coded records x c → Opened (NodeSound (x ∷ s) c) (code_node lang stand left (x ∷ s) c)
  unfolding code_node
  sound_code x s c h =
      cond_all (Opened (NodeSound (x ∷ s) c)) (known table c)
      (λ k. cond_all (Opened (NodeSound (x ∷ s) c)) (eqb left 0) (λ e. tt) (λ e. sound_open x s c h k (omega (arith, eqb-false left 0 e))))
      (λ k. tt)

  pub sound_node : (s : List ℕ) → Opened (NodeSound s (code_in records (get_or s 0 0))) (node_at lang records stand left s)
  unfolding node_at
  sound_node [] = tt
  sound_node (x ∷ s) =
      cond_all (Opened (NodeSound (x ∷ s) (code_in records x))) (eqb (length (x ∷ s)) 0) (λ e. tt)
      (λ e. sound_code x s (code_in records x) (coded records x))
