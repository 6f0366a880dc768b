-- Where both ends can be spliced, a way through accepted trees can be had: the limits make no difference.
use Prim.Native.Nat.{ℕ, suc, ◌≤◌, ◌<◌}
use native.Mathlib.Omega.{arith}
use native.Mathlib.Nat.{le_refl}
use mathlib.Core.Path.{◌≡◌, refl, sym, ap, ◌∙◌}
use mathlib.Core.Logic.{◌↔◌, ◌⊎◌, inl, inr}
use mathlib.Core.List.{List, []}
use mathlib.Core.Bool.{Bool, true, false, cond, false≢true}
use lib.ListN.{length}
use lib.Dec.{leb}
use borrow.Author.Tests.{leb-true}
use Rattle.term.specs.Tree.{Tree, Trees, branch, empty, more, number, list_code, encode, encodes}
use Rattle.term.specs.Language.{simple}
use Rattle.term.specs.Limits.{Shape, below_of, Fits, FitAll, longest, Accepted}
use Rattle.term.specs.declared.Code.{Code}
use Rattle.term.specs.declared.Code.TheVariants.{Symbol, Name, Run, Complement}
use Rattle.term.proofs.SameParts.{and_true}
use Rattle.term.proofs.Sizes.{branch_length, more_length}
use Rattle.term.specs.Class.{class_of}
use Rattle.term.proofs.Splicing.{one_spliced}
use Rattle.splice.proofs.ByClass.{Classes, class_code, classed, classed_all, UpToClass}
use Rattle.splice.specs.Splicing.{in_list, ◌⊕◌, list_class, same_list, placed, splice, splice_all}
use Rattle.splice.specs.Converting.{narrow, all_narrow, Spliceable}
use Rattle.splice.specs.Turning.{Step, replaced, exchanged, TurnedThrough, done, forth, back}
use Rattle.splice.proofs.Splicing.{in_list_holds, join_assoc, join_shift, directly_true}
use Rattle.splice.proofs.Classes.{one_class, same_class}
use Rattle.splice.proofs.Turning.{turned_kind, turned_then, turned_back, turned_inside, turned_once, turned_spliced}
use Rattle.splice.proofs.Converting.{number_join, length_join, fit_join, fit_split, fit_all_more, below_less, directly_list, narrow_placed, placed_none}
use Rattle.std.specs.Prelude.{None, Option}

-- within the limits, in no more bytes than so many
Within : List ℕ → Bool → ℕ → Bool → ℕ → Tree → Type 0
Within table records left l n t = Fits table records t left l × (length (encode table t []) ≤ n)

module _ (table : List ℕ) (records : Bool) where
  -- a child exchanged for another that fits and is no longer
  within_child : (c : Code) (ts vs : Trees) (t u : Tree) (left n : ℕ) (l : Bool) → Within table records left l n (branch c (ts ⊕ more t vs))
      → Within table records (below_of c left) (list_code table c) (length (encode table t [])) u → Within table records left l n (branch c (ts ⊕ more u vs))
  unfolding Within Fits ◌⊕◌ number
  within_child c ts vs t u left n l h g =
      let f = h.0 in
      let r = fit_split table records ts (more t vs) (below_of c left) (list_code table c) f.3 in
      let i : number (ts ⊕ more t vs) ≡ number (ts ⊕ more u vs) = number_join ts (more t vs) ∙ sym (number_join ts (more u vs)) in (
        (f.0, f.1, rw i at f.2, fit_join table records ts (more u vs) (below_of c left) (list_code table c) r.0 (g.0, r.1.1)),
        omega (
          arith,
          h.1,
          g.1,
          branch_length table c (ts ⊕ more t vs),
          branch_length table c (ts ⊕ more u vs),
          length_join table ts (more t vs),
          length_join table ts (more u vs),
          more_length table t vs,
          more_length table u vs,
        ),
      )

  -- a list with other elements, which fit, are no longer and not too many
  shape_list : (c : Code) (l : Bool) (m n : ℕ) → list_code table c ≡ true → n ≤ 255 → Shape table l c m → Shape table l c n
  unfolding Shape list_code
  shape_list (Symbol s) l m n i k h = (h.0, rw i k)
  shape_list (Name v) l m n i k h = absurd (false≢true i)
  shape_list (Run v) l m n i k h = absurd (false≢true i)
  shape_list Complement l m n i k h = absurd (false≢true i)
  shape_list Code.Refused l m n i k h = absurd (false≢true i)

  list_shape : (c : Code) (l : Bool) (n : ℕ) → list_code table c ≡ true → Shape table l c n → n ≤ 255
  unfolding Shape list_code
  list_shape (Symbol s) l n i h = rw i at h.1
  list_shape (Name v) l n i h = absurd (false≢true i)
  list_shape (Run v) l n i h = absurd (false≢true i)
  list_shape Complement l n i h = absurd (false≢true i)
  list_shape Code.Refused l n i h = absurd (false≢true i)

  within_list : (c : Code) (ts us : Trees) (left n : ℕ) (l : Bool) → list_code table c ≡ true → Within table records left l n (branch c ts)
      → number us ≤ 255 → FitAll table records us (below_of c left) (list_code table c) → length (encodes table us []) ≤ length (encodes table ts [])
      → Within table records left l n (branch c us)
  unfolding Within Fits
  within_list c ts us left n l i h k g m = (
    (h.0.0, h.0.1, shape_list c l (number ts) (number us) i k h.0.2, g),
    omega (arith, h.1, branch_length table c ts, branch_length table c us),
  )

-- First the children, each in its place

module _ (classes table : List ℕ) where
  each : Trees → Trees
  each empty = empty
  each (more t ts) = more (splice classes table t) (each ts)

  flat : Option ℕ → Trees → Trees
  flat a empty = empty
  flat a (more t ts) = placed classes table a t (flat a ts)

  flat_each : (a : Option ℕ) (ts : Trees) → flat a (each ts) ≡ splice_all classes table a ts
  unfolding each flat splice
  flat_each a empty = refl
  flat_each a (more t ts) = ap (placed classes table a (splice classes table t)) (flat_each a ts)

  flat_none : (ts : Trees) → flat None ts ≡ ts
  unfolding flat
  flat_none empty = refl
  flat_none (more t ts) = placed_none classes table t (flat None ts) ∙ ap (more t) (flat_none ts)

  -- then the empty lists

  trimmed : Option ℕ → Tree → Trees → Trees
  trimmed a (branch d empty) ts = cond (same_list a (list_class classes table d)) ts (more (branch d empty) ts)
  trimmed a (branch d (more u us)) ts = more (branch d (more u us)) ts

  trim : Option ℕ → Trees → Trees
  trim a empty = empty
  trim a (more t ts) = trimmed a t (trim a ts)

  flat_trimmed : (a : Option ℕ) (t : Tree) (ts : Trees) → flat a (trimmed a t ts) ≡ placed classes table a t (flat a ts)
  unfolding flat trimmed ◌⊕◌
  flat_trimmed a (branch d empty) ts = go (same_list a (list_class classes table d)) refl
    where
      go : (b : Bool) → same_list a (list_class classes table d) ≡ b
          → flat a (cond b ts (more (branch d empty) ts)) ≡ cond (same_list a (list_class classes table d)) (flat a ts) (more (branch d empty) (flat a ts))
      go true e = rw e
      go false e = rw e
  flat_trimmed a (branch d (more u us)) ts = refl

  flat_trim : (a : Option ℕ) (ts : Trees) → flat a (trim a ts) ≡ flat a ts
  unfolding trim flat
  flat_trim a empty = refl
  flat_trim a (more t ts) = flat_trimmed a t (trim a ts) ∙ ap (placed classes table a t) (flat_trim a ts)

  -- after which each tree in its place is one element or more
  Full : Option ℕ → Trees → Type 0
  Full a empty = Unit {0}
  Full a (more t ts) = ((us : Trees) → number us < number (placed classes table a t us)) × Full a ts

  full_trimmed : (a : Option ℕ) (t : Tree) (ts : Trees) → Full a ts → Full a (trimmed a t ts)
  unfolding Full trimmed number ◌⊕◌
  full_trimmed a (branch d empty) ts h = go (same_list a (list_class classes table d)) refl
    where
      go : (b : Bool) → same_list a (list_class classes table d) ≡ b → Full a (cond b ts (more (branch d empty) ts))
      go true e = h
      go false e = (λ us. rw e (omega arith), h)
  full_trimmed a (branch d (more u us)) ts h = (λ vs. go (same_list a (list_class classes table d)) vs, h)
    where
      go : (b : Bool) (vs : Trees) → number vs < number (cond b (more u us ⊕ vs) (more (branch d (more u us)) vs))
      go true vs = let i = number_join us vs in omega arith
      go false vs = omega arith

  full_trim : (a : Option ℕ) (ts : Trees) → Full a (trim a ts)
  unfolding Full trim
  full_trim a empty = tt
  full_trim a (more t ts) = full_trimmed a t (trim a ts) (full_trim a ts)

  full_number : (a : Option ℕ) (ts : Trees) → Full a ts → number ts ≤ number (flat a ts)
  unfolding Full flat number
  full_number a empty h = omega arith
  full_number a (more t ts) h = let i = full_number a ts h.1 in let j = h.0 (flat a ts) in omega arith

-- The way of a list whose children are spliced

module _ (classes table : List ℕ) (records : Bool) (left n : ℕ) (l : Bool) (c : Code) (list : list_code table c ≡ true) where
  -- a list directly inside is replaced by its elements
  one_way : (d : Code) (xs us ts : Trees) → same_list (list_class classes table c) (list_class classes table d) ≡ true
      → Within table records left l n (branch c (xs ⊕ more (branch d us) ts)) → number (xs ⊕ us ⊕ ts) ≤ 255
      → Within table records left l n (branch c (xs ⊕ us ⊕ ts))
      × (Step classes table (branch c (xs ⊕ more (branch d us) ts)) (branch c (xs ⊕ us ⊕ ts)))
  unfolding Within Fits
  one_way d xs us ts e h k =
      let i = directly_true (list_class classes table c) (list_class classes table d) e in
      let j = directly_list classes table (list_class classes table c) d e in
      let r = fit_split table records xs (more (branch d us) ts) (below_of c left) (list_code table c) h.0.3 in
      let g : FitAll table records us (below_of c left) (list_code table c) =
      fit_all_more table records us (below_of d (below_of c left)) (below_of c left) (list_code table c) (below_less table d (below_of c left))
      (rw (j.0 ∙ sym list) at r.1.0.3) in (
        within_list table records c (xs ⊕ more (branch d us) ts) (xs ⊕ us ⊕ ts) left n l list h k
            (fit_join table records xs (us ⊕ ts) (below_of c left) (list_code table c) r.0 (fit_join table records us ts (below_of c left) (list_code table c) g r.1.1))
            (omega (
              arith,
              length_join table xs (us ⊕ ts),
              length_join table us ts,
              length_join table xs (more (branch d us) ts),
              more_length table (branch d us) ts,
              branch_length table d us,
            )),
        replaced c d i.0 xs us ts i.1 i.2,
      )

  Way : Trees → Trees → Type 0
  Way ts us = TurnedThrough (Within table records left l n) classes table (branch c ts) (branch c us)

  a : Option ℕ
  a = list_class classes table c

  number_within : (ts : Trees) → Within table records left l n (branch c ts) → number ts ≤ 255
  unfolding Within Fits
  number_within ts h = list_shape table records c l (number ts) list h.0.2

  -- one tree is passed over
  pass : (xs : Trees) (t : Tree) (ts us : Trees) → Way ((xs ⊕ more t empty) ⊕ ts) ((xs ⊕ more t empty) ⊕ us) → Way (xs ⊕ more t ts) (xs ⊕ more t us)
  pass xs t ts us w = rw (← join_shift xs t ts, ← join_shift xs t us) w

  trim_way : (xs ts : Trees) → Within table records left l n (branch c (xs ⊕ ts)) → Way (xs ⊕ ts) (xs ⊕ trim classes table a ts)
  unfolding Way trim trimmed a ◌⊕◌ number
  trim_way xs empty h = done _ h
  trim_way xs (more (branch d empty) ts) h =
      go (λ ys. trim_way ys ts) (same_list (list_class classes table c) (list_class classes table d)) refl
    where
      go : ((ys : Trees) → Within table records left l n (branch c (ys ⊕ ts)) → Way (ys ⊕ ts) (ys ⊕ trim classes table (list_class classes table c) ts))
          → (b : Bool) → same_list (list_class classes table c) (list_class classes table d) ≡ b
          → Way (xs ⊕ more (branch d empty) ts)
          (xs ⊕ cond b (trim classes table (list_class classes table c) ts) (more (branch d empty) (trim classes table (list_class classes table c) ts)))
      go w true e =
          let k : number (xs ⊕ ts) ≤ 255 =
          omega (arith, number_within (xs ⊕ more (branch d empty) ts) h, number_join xs ts, number_join xs (more (branch d empty) ts)) in
          let o = one_way d xs empty ts e h k in
          forth _ _ _ h o.1 (w xs o.0)
      go w false e = pass xs (branch d empty) ts (trim classes table a ts) (w (xs ⊕ more (branch d empty) empty) (rw (join_shift xs (branch d empty) ts) h))
  trim_way xs (more (branch d (more u us)) ts) h =
      pass xs (branch d (more u us)) ts (trim classes table a ts)
      (trim_way (xs ⊕ more (branch d (more u us)) empty) ts (rw (join_shift xs (branch d (more u us)) ts) h))

  flat_way : (xs ts : Trees) → Full classes table a ts → Within table records left l n (branch c (xs ⊕ ts)) → number (xs ⊕ flat classes table a ts) ≤ 255
      → Way (xs ⊕ ts) (xs ⊕ flat classes table a ts)
  unfolding Way flat a Full
  flat_way xs empty f h k = done _ h
  flat_way xs (more (branch d us) ts) f h k =
      go (λ ys. flat_way ys ts f.1) (same_list (list_class classes table c) (list_class classes table d)) refl k
    where
      go : ((ys : Trees) → Within table records left l n (branch c (ys ⊕ ts)) → number (ys ⊕ flat classes table a ts) ≤ 255 → Way (ys ⊕ ts) (ys ⊕ flat classes table a ts))
          → (b : Bool) → same_list (list_class classes table c) (list_class classes table d) ≡ b
          → number (xs ⊕ cond b (us ⊕ flat classes table a ts) (more (branch d us) (flat classes table a ts))) ≤ 255
          → Way (xs ⊕ more (branch d us) ts) (xs ⊕ cond b (us ⊕ flat classes table a ts) (more (branch d us) (flat classes table a ts)))
      go w true e k =
          let m : number (xs ⊕ us ⊕ ts) ≤ 255 =
          omega (
            arith,
            k,
            full_number classes table a ts f.1,
            number_join xs (us ⊕ ts),
            number_join us ts,
            number_join xs (us ⊕ flat classes table a ts),
            number_join us (flat classes table a ts),
          ) in
          let o = one_way d xs us ts e h m in
          let v = w (xs ⊕ us) (rw (join_assoc xs us ts) o.0) (rw (join_assoc xs us (flat classes table a ts)) k) in
          forth _ _ _ h o.1 (rw (join_assoc xs us ts, join_assoc xs us (flat classes table a ts)) at v)
      go w false e k =
          pass xs (branch d us) ts (flat classes table a ts)
          (w (xs ⊕ more (branch d us) empty) (rw (join_shift xs (branch d us) ts) h) (rw (join_shift xs (branch d us) (flat classes table a ts)) k))

module _ (classes table : List ℕ) (records : Bool) where
  no_list : (c : Code) → list_code table c ≡ false → list_class classes table c ≡ None
  unfolding list_class list_code
  no_list (Symbol s) e = rw e
  no_list (Name v) e = refl
  no_list (Run v) e = refl
  no_list Complement e = refl
  no_list Code.Refused e = refl

  finish : (left n : ℕ) (l : Bool) (c : Code) (ts : Trees) → Within table records left l n (branch c ts)
      → (in_list (list_class classes table c) ≡ true → number (flat classes table (list_class classes table c) ts) ≤ 255)
      → TurnedThrough (Within table records left l n) classes table (branch c ts) (branch c (flat classes table (list_class classes table c) ts))
  unfolding Way a ◌⊕◌
  finish left n l c ts h k = go (list_code table c) refl
    where
      go : (b : Bool) → list_code table c ≡ b
          → TurnedThrough (Within table records left l n) classes table (branch c ts) (branch c (flat classes table (list_class classes table c) ts))
      go true e =
          let x : Option ℕ = list_class classes table c in
          let w = trim_way classes table records left n l c e empty ts h in
          let m : number (flat classes table x (trim classes table x ts)) ≤ 255 = rw (flat_trim classes table x ts) (k (in_list_holds classes table c ∙ e)) in
          let v = flat_way classes table records left n l c e empty (trim classes table x ts) (full_trim classes table x ts)
          (turned_kind (Within table records left l n) classes table (turned_back (Within table records left l n) classes table w)) m in
          turned_then (Within table records left l n) classes table w (rw (flat_trim classes table x ts) at v)
      go false e = rw (no_list c e, flat_none classes table ts) (done _ h)

  NarrowEach : Trees → Type 0
  NarrowEach empty = Unit {0}
  NarrowEach (more t ts) = (narrow table (splice classes table t) ≡ true) × NarrowEach ts

  narrow_each : (a : Option ℕ) (ts : Trees) → all_narrow table (splice_all classes table a ts) ≡ true
      → (in_list a ≡ true → number (splice_all classes table a ts) ≤ 255) → NarrowEach ts
  unfolding splice NarrowEach
  narrow_each a empty n m = tt
  narrow_each a (more t ts) n m =
      let r = narrow_placed classes table a (splice classes table t) (splice_all classes table a ts) n m in
      (r.0, narrow_each a ts r.1 r.2)

  -- a tree that can be spliced is turned into what it is spliced to, within the limits
  mutual
    unfolding splice narrow each Within Fits NarrowEach ◌⊕◌

    down : (t : Tree) (left : ℕ) (l : Bool) → Fits table records t left l → narrow table (splice classes table t) ≡ true
        → TurnedThrough (Within table records left l (length (encode table t []))) classes table t (splice classes table t)
    down (branch c ts) left l f n =
        let x : Option ℕ = list_class classes table c in
        let ss : Trees = splice_all classes table x ts in
        let r = and_true (cond (list_code table c) (leb (number ss) 255) true) (all_narrow table ss) n in
        let m : in_list x ≡ true → number ss ≤ 255 = λ i. leb-true (number ss) 255 (rw (sym (in_list_holds classes table c) ∙ i) at r.0) in
        let size : ℕ = length (encode table (branch c ts) []) in
        let w = down_each c left size l empty ts (narrow_each x ts r.1 m) (f, le_refl size) in
        let v = finish left size l c (each classes table ts)
        (turned_kind (Within table records left l size) classes table (turned_back (Within table records left l size) classes table w))
        (λ i. rw (flat_each classes table x ts) (m i)) in
        turned_then (Within table records left l size) classes table w (rw (flat_each classes table x ts) at v)

    down_each : (c : Code) (left n : ℕ) (l : Bool) (xs ts : Trees) → NarrowEach ts → Within table records left l n (branch c (xs ⊕ ts))
        → TurnedThrough (Within table records left l n) classes table (branch c (xs ⊕ ts)) (branch c (xs ⊕ each classes table ts))
    down_each c left n l xs empty q h = done _ h
    down_each c left n l xs (more t ts) q h =
        let r = fit_split table records xs (more t ts) (below_of c left) (list_code table c) h.0.3 in
        let u : Tree = splice classes table t in
        let i = down t (below_of c left) (list_code table c) r.1.0 q.0 in
        let w = turned_inside (Within table records (below_of c left) (list_code table c) (length (encode table t []))) classes table (Within table records left l n) c xs ts
        (λ x k. within_child table records c xs ts t x left n l h k) i in
        let k = turned_kind (Within table records left l n) classes table (turned_back (Within table records left l n) classes table w) in
        let v = down_each c left n l (xs ⊕ more u empty) ts q.1 (rw (join_shift xs u ts) k) in
        turned_then (Within table records left l n) classes table w (rw (join_shift xs u ts, join_shift xs u (each classes table ts)) at v)

-- Exchanges change neither limits nor length

module _ (classes table : List ℕ) (ok : Classes table classes) (records : Bool) where
  same_list_holds : (c d : Code) → class_code classes c ≡ class_code classes d → list_code table c ≡ list_code table d
  same_list_holds c d e = sym (in_list_holds classes table c) ∙ ap in_list (one_class classes table ok c d e) ∙ in_list_holds classes table d

  pub below_classed : (c : Code) (left : ℕ) → below_of (class_code classes c) left ≡ below_of c left
  unfolding class_code
  below_classed (Symbol s) left = refl
  below_classed (Name v) left = refl
  below_classed (Run v) left = refl
  below_classed Complement left = refl
  below_classed Code.Refused left = refl

  same_below : (c d : Code) (left : ℕ) → class_code classes c ≡ class_code classes d → below_of c left ≡ below_of d left
  same_below c d left e = sym (below_classed c left) ∙ ap (λ (x : Code). below_of x left) e ∙ below_classed d left

  number_classed : (ts : Trees) → number (classed_all classes ts) ≡ number ts
  unfolding number classed
  number_classed empty = refl
  number_classed (more t ts) = ap suc (number_classed ts)

  same_number : (ts us : Trees) → classed_all classes ts ≡ classed_all classes us → number ts ≡ number us
  same_number ts us e = sym (number_classed ts) ∙ ap number e ∙ number_classed us

  exchange_root : (c d : Code) (ts us : Trees) (left n : ℕ) (l : Bool) → class_code classes c ≡ class_code classes d → classed_all classes ts ≡ classed_all classes us
      → Within table records left l n (branch c ts) → Fits table records (branch d us) left l
      → TurnedThrough (Within table records left l n) classes table (branch c ts) (branch d ts)
  unfolding Within Fits
  exchange_root c d ts us left n l e f h g =
      let i = same_list_holds c d e in
      let k : Within table records left l n (branch d ts) = (
        (g.0, g.1, rw (same_number ts us f) g.2, rw (← i, ← same_below c d left e) h.0.3),
        omega (arith, h.1, branch_length table c ts, rw i at (branch_length table c ts), branch_length table d ts),
      ) in
      go (same_class classes c d e) k
    where
      go : (c ≡ d) ⊎ ((s : ℕ) × (r : ℕ) × (c ≡ Symbol s) × (d ≡ Symbol r) × (class_of classes s ≡ class_of classes r)) → Within table records left l n (branch d ts)
          → TurnedThrough (Within table records left l n) classes table (branch c ts) (branch d ts)
      go (inl i) k = rw (← i) (done _ h)
      go (inr (s, r, i, j, x)) k =
          turned_once (Within table records left l n) classes table (branch c ts) (branch d ts) h k (rw (i, j) (exchanged s r ts x))

  mutual
    unfolding classed Within Fits ◌⊕◌

    exchange : (t u : Tree) (left n : ℕ) (l : Bool) → UpToClass classes t u → Within table records left l n t → Fits table records u left l
        → TurnedThrough (Within table records left l n) classes table t u
    exchange (branch c ts) (branch d us) left n l e h g =
        let i : class_code classes c ≡ class_code classes d = cc in
        let j : classed_all classes ts ≡ classed_all classes us = cc in
        let w = exchange_root c d ts us left n l i j h g in
        let k = turned_kind (Within table records left l n) classes table (turned_back (Within table records left l n) classes table w) in
        turned_then (Within table records left l n) classes table w (exchange_all d left n l empty ts us j k g.3)

    exchange_all : (c : Code) (left n : ℕ) (l : Bool) (xs ts us : Trees) → classed_all classes ts ≡ classed_all classes us
        → Within table records left l n (branch c (xs ⊕ ts)) → FitAll table records us (below_of c left) (list_code table c)
        → TurnedThrough (Within table records left l n) classes table (branch c (xs ⊕ ts)) (branch c (xs ⊕ us))
    exchange_all c left n l xs empty empty e h g = done _ h
    exchange_all c left n l xs empty (more u us) e h g = let z : ◌≡◌ {A = ℕ} 0 1 = cc in absurd (omega arith)
    exchange_all c left n l xs (more t ts) empty e h g = let z : ◌≡◌ {A = ℕ} 0 1 = cc in absurd (omega arith)
    exchange_all c left n l xs (more t ts) (more u us) e h g =
        let r = fit_split table records xs (more t ts) (below_of c left) (list_code table c) h.0.3 in
        let i = exchange t u (below_of c left) (length (encode table t [])) (list_code table c) (cc) (r.1.0, le_refl (length (encode table t []))) g.0 in
        let w = turned_inside (Within table records (below_of c left) (list_code table c) (length (encode table t []))) classes table (Within table records left l n) c xs ts
        (λ x k. within_child table records c xs ts t x left n l h k) i in
        let k = turned_kind (Within table records left l n) classes table (turned_back (Within table records left l n) classes table w) in
        let v = exchange_all c left n l (xs ⊕ more u empty) ts us (cc) (rw (join_shift xs u ts) k) g.1 in
        turned_then (Within table records left l n) classes table w (rw (join_shift xs u ts, join_shift xs u us) at v)

-- A way goes on through trees of a wider kind
turned_wider : (Kind Wide : Tree → Type 0) (classes table : List ℕ) → ((t : Tree) → Kind t → Wide t) → {t u : Tree} → TurnedThrough Kind classes table t u
    → TurnedThrough Wide classes table t u
turned_wider Kind Wide classes table f (done t h) = done t (f t h)
turned_wider Kind Wide classes table f (forth t u v h s r) = forth t u v (f t h) s (turned_wider Kind Wide classes table f r)
turned_wider Kind Wide classes table f (back t u v h s r) = back t u v (f t h) s (turned_wider Kind Wide classes table f r)

-- The theorem: of trees that can be spliced, with every tree on the way accepted

module _ (classes table : List ℕ) (ok : Classes table classes) (records : Bool) where
  accept : (n : ℕ) → n ≤ longest records → (t : Tree) → Within table records 32 false n t → Accepted (simple table) records t
  unfolding Within
  accept n k t h = record { short = omega (arith, h.1); fits = h.0; spliced = one_spliced table [] None t }

  down_accepted : (t : Tree) → Spliceable classes table records t → TurnedThrough (Accepted (simple table) records) classes table t (splice classes table t)
  down_accepted t h =
      turned_wider (Within table records 32 false (length (encode table t []))) (Accepted (simple table) records) classes table
      (accept (length (encode table t [])) h.accepted.short) (down classes table records t 32 false h.accepted.fits h.narrow_lists)

  pub turned_accepted : (t u : Tree) → Spliceable classes table records t → Spliceable classes table records u
      → TurnedThrough (Accepted (simple table) records) classes table t u ↔ UpToClass classes (splice classes table t) (splice classes table u)
  unfolding Within
  turned_accepted t u h g = (turned_spliced classes table ok (Accepted (simple table) records), from)
    where
      from : UpToClass classes (splice classes table t) (splice classes table u) → TurnedThrough (Accepted (simple table) records) classes table t u
      from e =
          let a = down_accepted t h in
          let b = down_accepted u g in
          let i = turned_kind (Accepted (simple table) records) classes table (turned_back (Accepted (simple table) records) classes table a) in
          let j = turned_kind (Accepted (simple table) records) classes table (turned_back (Accepted (simple table) records) classes table b) in
          turned_then (Accepted (simple table) records) classes table a
          (turned_then (Accepted (simple table) records) classes table
          (turned_wider (Within table records 32 false (longest records)) (Accepted (simple table) records) classes table
          (accept (longest records) (le_refl (longest records)))
          (exchange classes table ok records (splice classes table t) (splice classes table u) 32 (longest records) false e (i.fits, i.short) j.fits))
          (turned_back (Accepted (simple table) records) classes table b))
