-- Trees can be turned into each other exactly when they are equal up to class once they are spliced.
use Prim.Native.Nat.{ℕ}
use native.Mathlib.Omega.{arith}
use mathlib.Core.Path.{◌≡◌, refl, sym, ap, ap₂, ◌∙◌}
use mathlib.Core.Logic.{◌↔◌, ◌⊎◌, inl, inr}
use mathlib.Core.List.{List}
use mathlib.Core.Bool.{Bool, true, false, cond}
use Rattle.term.specs.Tree.{Tree, Trees, branch, empty, more}
use Rattle.term.specs.declared.Code.{Code}
use Rattle.term.specs.declared.Code.TheVariants.{Symbol}
use Rattle.term.specs.Class.{class_of}
use Rattle.splice.proofs.ByClass.{Classes, class_code, classed, classed_all, UpToClass}
use Rattle.splice.specs.Splicing.{◌⊕◌, list_class, same_list, placed, splice, splice_all}
use Rattle.splice.specs.Turning.{Step, replaced, exchanged, inside, TurnedThrough, done, forth, back, Turned}
use Rattle.splice.proofs.Splicing.{join_shift, directly_true, true_directly, splice_join}
use Rattle.splice.proofs.Classes.{classed_join, one_class, same_class, placed_classed}
use Rattle.std.specs.Prelude.{Option, Some}

-- Turning is an equivalence, and goes on inside a tree

module _ (Kind : Tree → Type 0) (classes table : List ℕ) where
  pub turned_kind : {t u : Tree} → TurnedThrough Kind classes table t u → Kind t
  turned_kind (done t h) = h
  turned_kind (forth t u v h s r) = h
  turned_kind (back t u v h s r) = h

  pub turned_then : {t u v : Tree} → TurnedThrough Kind classes table t u → TurnedThrough Kind classes table u v → TurnedThrough Kind classes table t v
  turned_then (done t h) q = q
  turned_then (forth t u w h s r) q = forth t u _ h s (turned_then r q)
  turned_then (back t u w h s r) q = back t u _ h s (turned_then r q)

  pub turned_back : {t u : Tree} → TurnedThrough Kind classes table t u → TurnedThrough Kind classes table u t
  turned_back (done t h) = done t h
  turned_back (forth t u v h s r) = turned_then (turned_back r) (back u t t (turned_kind r) s (done t h))
  turned_back (back t u v h s r) = turned_then (turned_back r) (forth u t t (turned_kind r) s (done t h))

  -- through trees of another kind, in a child of a node
  pub turned_inside : (Wide : Tree → Type 0) (c : Code) (ts vs : Trees) {t u : Tree} → ((x : Tree) → Kind x → Wide (branch c (ts ⊕ more x vs)))
      → TurnedThrough Kind classes table t u → TurnedThrough Wide classes table (branch c (ts ⊕ more t vs)) (branch c (ts ⊕ more u vs))
  turned_inside Wide c ts vs f (done t h) = done _ (f t h)
  turned_inside Wide c ts vs f (forth t u v h s r) = forth _ _ _ (f t h) (inside c ts vs t u s) (turned_inside Wide c ts vs f r)
  turned_inside Wide c ts vs f (back t u v h s r) = back _ _ _ (f t h) (inside c ts vs u t s) (turned_inside Wide c ts vs f r)

  pub turned_once : (t u : Tree) → Kind t → Kind u → Step classes table t u → TurnedThrough Kind classes table t u
  turned_once t u h g s = forth t u u h s (done u g)

-- What is turned is spliced alike

module _ (classes table : List ℕ) where
  pub replaced_same : (a : Option ℕ) (d : Code) (us vs : Trees) → same_list a (list_class classes table d) ≡ true
      → splice_all classes table a (more (branch d us) vs) ≡ splice_all classes table a (us ⊕ vs)
  unfolding splice
  replaced_same a d us vs e =
      let h = directly_true a (list_class classes table d) e in
      let i : list_class classes table d ≡ a = h.2 ∙ sym h.1 in
      rw (e, i) (sym (splice_join classes table a us vs))

  pub replaced_splice : (c d : Code) (k : ℕ) (ts us vs : Trees) → list_class classes table c ≡ Some k → list_class classes table d ≡ Some k
      → splice classes table (branch c (ts ⊕ more (branch d us) vs)) ≡ splice classes table (branch c (ts ⊕ us ⊕ vs))
  unfolding splice
  replaced_splice c d k ts us vs e f =
      let a : Option ℕ = list_class classes table c in
      ap (branch c)
      (splice_join classes table a ts (more (branch d us) vs)
      ∙ ap (λ (x : Trees). splice_all classes table a ts ⊕ x) (replaced_same a d us vs (true_directly k a (list_class classes table d) e f))
      ∙ sym (splice_join classes table a ts (us ⊕ vs)))

  module _ (ok : Classes table classes) where
    inside_classed : (a : Option ℕ) (ts vs : Trees) (t : Tree)
        → classed_all classes (splice_all classes table a (ts ⊕ more t vs))
        ≡ classed_all classes (splice_all classes table a ts)
        ⊕ placed classes table a (classed classes (splice classes table t)) (classed_all classes (splice_all classes table a vs))
    unfolding splice
    inside_classed a ts vs t =
        ap (classed_all classes) (splice_join classes table a ts (more t vs))
        ∙ classed_join classes (splice_all classes table a ts) (splice_all classes table a (more t vs))
        ∙ ap (λ (x : Trees). classed_all classes (splice_all classes table a ts) ⊕ x)
        (placed_classed classes table ok a (splice classes table t) (splice_all classes table a vs))

    step_spliced : {t u : Tree} → Step classes table t u → UpToClass classes (splice classes table t) (splice classes table u)
    unfolding splice classed class_code
    step_spliced (replaced c d k ts us vs e f) = ap (classed classes) (replaced_splice c d k ts us vs e f)
    step_spliced (exchanged s r ts e) =
        let i : class_code classes (Symbol s) ≡ class_code classes (Symbol r) = ap Symbol e in
        ap₂ branch i (ap (λ (a : Option ℕ). classed_all classes (splice_all classes table a ts)) (one_class classes table ok (Symbol s) (Symbol r) i))
    step_spliced (inside c ts vs t u s) =
        let a : Option ℕ = list_class classes table c in
        ap (branch (class_code classes c))
        (inside_classed a ts vs t
        ∙ ap (λ (x : Tree). classed_all classes (splice_all classes table a ts) ⊕ placed classes table a x (classed_all classes (splice_all classes table a vs))) (step_spliced s)
        ∙ sym (inside_classed a ts vs u))

    pub turned_spliced : (Kind : Tree → Type 0) {t u : Tree} → TurnedThrough Kind classes table t u → UpToClass classes (splice classes table t) (splice classes table u)
    turned_spliced Kind (done t h) = refl
    turned_spliced Kind (forth t u v h s r) = step_spliced s ∙ turned_spliced Kind r
    turned_spliced Kind (back t u v h s r) = sym (step_spliced s) ∙ turned_spliced Kind r

-- A tree is turned into what it is spliced to

module _ (classes table : List ℕ) where
  turned_placed : (c : Code) (xs : Trees) (t : Tree) (ts : Trees)
      → Turned classes table (branch c (xs ⊕ more t ts)) (branch c (xs ⊕ placed classes table (list_class classes table c) t ts))
  turned_placed c xs (branch d us) ts = go (same_list (list_class classes table c) (list_class classes table d)) refl
    where
      go : (b : Bool) → same_list (list_class classes table c) (list_class classes table d) ≡ b
          → Turned classes table (branch c (xs ⊕ more (branch d us) ts)) (branch c (xs ⊕ cond b (us ⊕ ts) (more (branch d us) ts)))
      go true e =
          let h = directly_true (list_class classes table c) (list_class classes table d) e in
          turned_once (λ v. Unit {0}) classes table _ _ tt tt (replaced c d h.0 xs us ts h.1 h.2)
      go false e = done _ tt

  mutual
    unfolding splice ◌⊕◌

    pub turned_splice : (t : Tree) → Turned classes table t (splice classes table t)
    turned_splice (branch c ts) = turned_all c empty ts

    turned_all : (c : Code) (xs ts : Trees) → Turned classes table (branch c (xs ⊕ ts)) (branch c (xs ⊕ splice_all classes table (list_class classes table c) ts))
    turned_all c xs empty = done _ tt
    turned_all c xs (more t ts) =
        let u : Tree = splice classes table t in
        let us : Trees = splice_all classes table (list_class classes table c) ts in
        turned_then (λ v. Unit {0}) classes table (turned_inside (λ v. Unit {0}) classes table (λ v. Unit {0}) c xs ts (λ x h. tt) (turned_splice t))
        (turned_then (λ v. Unit {0}) classes table (rw (join_shift xs u ts, join_shift xs u us) at (turned_all c (xs ⊕ more u empty) ts)) (turned_placed c xs u us))

-- Trees that are equal up to class are turned into each other by exchanges

module _ (classes table : List ℕ) where
  exchanged_code : (c d : Code) (ts : Trees) → class_code classes c ≡ class_code classes d → Turned classes table (branch c ts) (branch d ts)
  exchanged_code c d ts e = go (same_class classes c d e)
    where
      go : (c ≡ d) ⊎ ((s : ℕ) × (r : ℕ) × (c ≡ Symbol s) × (d ≡ Symbol r) × (class_of classes s ≡ class_of classes r))
          → Turned classes table (branch c ts) (branch d ts)
      go (inl i) = rw i (done _ tt)
      go (inr (s, r, i, j, x)) = turned_once (λ v. Unit {0}) classes table _ _ tt tt (rw (i, j) (exchanged s r ts x))

  mutual
    unfolding classed ◌⊕◌

    pub turned_exchanged : (t u : Tree) → UpToClass classes t u → Turned classes table t u
    turned_exchanged (branch c ts) (branch d us) e =
        turned_then (λ v. Unit {0}) classes table (exchanged_code c d ts (cc)) (exchanged_all d empty ts us (cc))

    exchanged_all : (c : Code) (xs ts us : Trees) → classed_all classes ts ≡ classed_all classes us
        → Turned classes table (branch c (xs ⊕ ts)) (branch c (xs ⊕ us))
    exchanged_all c xs empty empty e = done _ tt
    exchanged_all c xs empty (more u us) e = let z : ◌≡◌ {A = ℕ} 0 1 = cc in absurd (omega arith)
    exchanged_all c xs (more t ts) empty e = let z : ◌≡◌ {A = ℕ} 0 1 = cc in absurd (omega arith)
    exchanged_all c xs (more t ts) (more u us) e =
        turned_then (λ v. Unit {0}) classes table
        (turned_inside (λ v. Unit {0}) classes table (λ v. Unit {0}) c xs ts (λ x h. tt) (turned_exchanged t u (cc)))
        (rw (join_shift xs u ts, join_shift xs u us) at (exchanged_all c (xs ⊕ more u empty) ts us (cc)))

-- The theorem

module _ (classes table : List ℕ) (ok : Classes table classes) where
  pub turned_exactly : (t u : Tree) → Turned classes table t u ↔ UpToClass classes (splice classes table t) (splice classes table u)
  turned_exactly t u = (
    turned_spliced classes table ok (λ v. Unit {0}),
    λ e. turned_then (λ v. Unit {0}) classes table (turned_splice classes table t)
        (turned_then (λ v. Unit {0}) classes table (turned_exchanged classes table (splice classes table t) (splice classes table u) e)
        (turned_back (λ v. Unit {0}) classes table (turned_splice classes table u))),
  )
