-- What is spliced is spliced, and splicing it again changes nothing.
use Prim.Native.Nat.{ℕ}
use native.Mathlib.Omega.{arith}
use mathlib.Core.Path.{◌≡◌, refl, sym, ap, ◌∙◌}
use mathlib.Core.List.{List}
use mathlib.Core.Bool.{Bool, true, false, cond}
use borrow.Author.Tests.{eqb-true, eq-eqb}
use Rattle.term.specs.Language.{language}
use Rattle.term.specs.Splicing.{stand_in, unspliced, SplicedAt, SplicedAll, in_list as standing}
use Rattle.term.specs.Splicing as term_spliced
use Rattle.term.specs.Tree.{Tree, Trees, branch, empty, more, list_code}
use Rattle.term.specs.declared.Edition.TheVariants.{Two}
use Rattle.term.proofs.Splicing.{stand_list}
use Rattle.term.specs.declared.Code.{Code}
use Rattle.splice.specs.Splicing.{◌⊕◌, class_in, list_class, in_list, same_list, placed, splice, splice_all}
use Rattle.splice.proofs.ByClass.{SplicedIn, AllSplicedIn, Spliced}
use Rattle.std.specs.Prelude.{Option, Some, None}

-- sequences joined

pub join_empty : (ts : Trees) → ts ⊕ empty ≡ ts
unfolding ◌⊕◌
join_empty empty = refl
join_empty (more t ts) = ap (more t) (join_empty ts)

pub join_assoc : (ts us vs : Trees) → (ts ⊕ us) ⊕ vs ≡ ts ⊕ us ⊕ vs
unfolding ◌⊕◌
join_assoc empty us vs = refl
join_assoc (more t ts) us vs = ap (more t) (join_assoc ts us vs)

-- one more in front
pub join_shift : (ts : Trees) (t : Tree) (us : Trees) → (ts ⊕ more t empty) ⊕ us ≡ ts ⊕ more t us
unfolding ◌⊕◌
join_shift ts t us = join_assoc ts (more t empty) us

-- a list's children stand in a list
pub in_list_holds : (classes table : List ℕ) (c : Code) → in_list (list_class classes table c) ≡ list_code table c
unfolding list_class
in_list_holds classes table c = go (stand_in table c) ∙ stand_list table c
  where
    go : (x : (Option ℕ)) → in_list (class_in classes x) ≡ standing x
    go (Some s) = refl
    go None = refl

-- directly inside: both are lists, of one class

pub directly_true : (a l : Option ℕ) → same_list a l ≡ true → (k : ℕ) × (a ≡ Some k) × (l ≡ Some k)
directly_true None l e = let z : ◌≡◌ {A = ℕ} 0 1 = ap (λ (x : Bool). cond x 1 0) e in absurd (omega arith)
directly_true (Some k) None e = let z : ◌≡◌ {A = ℕ} 0 1 = ap (λ (x : Bool). cond x 1 0) e in absurd (omega arith)
directly_true (Some k) (Some l) e = (k, refl, ap Some (sym (eqb-true k l e)))

pub true_directly : (k : ℕ) (a l : Option ℕ) → a ≡ Some k → l ≡ Some k → same_list a l ≡ true
true_directly k a l e f = rw (e, f) (eq-eqb k k refl)

directly_one : (a l : Option ℕ) → same_list a l ≡ true → l ≡ a
directly_one a l e = let h = directly_true a l e in h.2 ∙ sym h.1

module _ (classes table : List ℕ) where
  spliced_join : (a : Option ℕ) (us ts : Trees) → AllSplicedIn classes table a us → AllSplicedIn classes table a ts → AllSplicedIn classes table a (us ⊕ ts)
  unfolding ◌⊕◌ SplicedIn
  spliced_join a empty ts h g = g
  spliced_join a (more u us) ts h g = (h.0, spliced_join a us ts h.1 g)

  placed_spliced : (a : Option ℕ) (t : Tree) (ts : Trees) → Spliced classes table t → AllSplicedIn classes table a ts
      → AllSplicedIn classes table a (placed classes table a t ts)
  unfolding SplicedIn
  placed_spliced a (branch c us) ts h g = go (same_list a (list_class classes table c)) refl
    where
      go : (b : Bool) → same_list a (list_class classes table c) ≡ b → AllSplicedIn classes table a (cond b (us ⊕ ts) (more (branch c us) ts))
      go true e = spliced_join a us ts (rw (directly_one a (list_class classes table c) e) at h.1) g
      go false e = ((e, h.1), g)

  -- "Splicing" gives what is spliced
  mutual
    unfolding splice SplicedIn

    pub splice_spliced : (t : Tree) → Spliced classes table (splice classes table t)
    splice_spliced (branch c ts) = (refl, all_spliced (list_class classes table c) ts)

    all_spliced : (a : Option ℕ) (ts : Trees) → AllSplicedIn classes table a (splice_all classes table a ts)
    all_spliced a empty = tt
    all_spliced a (more t ts) =
        placed_spliced a (splice classes table t) (splice_all classes table a ts) (splice_spliced t) (all_spliced a ts)

  placed_same : (a : Option ℕ) (t : Tree) (ts : Trees) → SplicedIn classes table a t → placed classes table a t ts ≡ more t ts
  unfolding SplicedIn
  placed_same a (branch c us) ts h = rw h.0

  -- and leaves alone what is spliced already, wherever it stands
  mutual
    unfolding splice SplicedIn

    pub spliced_same : (a : Option ℕ) (t : Tree) → SplicedIn classes table a t → splice classes table t ≡ t
    spliced_same a (branch c ts) h = ap (branch c) (all_same (list_class classes table c) ts h.1)

    all_same : (a : Option ℕ) (ts : Trees) → AllSplicedIn classes table a ts → splice_all classes table a ts ≡ ts
    all_same a empty h = refl
    all_same a (more t ts) h = rw (spliced_same a t h.0, all_same a ts h.1) (placed_same a t ts h.0)

  -- "Splicing twice changes nothing more"
  pub splice_twice : (t : Tree) → splice classes table (splice classes table t) ≡ splice classes table t
  splice_twice t = spliced_same None (splice classes table t) (splice_spliced t)

  -- sequences are spliced one after the other

  pub placed_join : (a : Option ℕ) (t : Tree) (us ts : Trees) → placed classes table a t us ⊕ ts ≡ placed classes table a t (us ⊕ ts)
  unfolding ◌⊕◌
  placed_join a (branch c vs) us ts = go (same_list a (list_class classes table c))
    where
      go : (b : Bool) → cond b (vs ⊕ us) (more (branch c vs) us) ⊕ ts ≡ cond b (vs ⊕ us ⊕ ts) (more (branch c vs) (us ⊕ ts))
      go true = join_assoc vs us ts
      go false = refl

  pub splice_join : (a : Option ℕ) (us ts : Trees) → splice_all classes table a (us ⊕ ts) ≡ splice_all classes table a us ⊕ splice_all classes table a ts
  unfolding splice ◌⊕◌
  splice_join a empty ts = refl
  splice_join a (more u us) ts =
      ap (placed classes table a (splice classes table u)) (splice_join a us ts)
      ∙ sym (placed_join a (splice classes table u) (splice_all classes table a us) (splice_all classes table a ts))

-- spliced trees are those of edition 2
module _ (classes table : List ℕ) where
  mutual
    unfolding SplicedIn list_class

    spliced_at : (x : (Option ℕ)) (t : Tree) → SplicedIn classes table (class_in classes x) t → SplicedAt (language Two table classes) x t
    spliced_at x (branch c ts) h = (h.0, spliced_all_at (stand_in table c) ts h.1)

    spliced_all_at : (x : (Option ℕ)) (ts : Trees) → AllSplicedIn classes table (class_in classes x) ts → SplicedAll (language Two table classes) x ts
    spliced_all_at x empty h = tt
    spliced_all_at x (more t ts) h = (spliced_at x t h.0, spliced_all_at x ts h.1)

  pub spliced_two : (t : Tree) → Spliced classes table t → term_spliced.Spliced (language Two table classes) t
  spliced_two t h = spliced_at None t h

  -- and the other way

  mutual
    unfolding SplicedIn list_class

    two_at : (x : (Option ℕ)) (t : Tree) → SplicedAt (language Two table classes) x t → SplicedIn classes table (class_in classes x) t
    two_at x (branch c ts) h = (h.0, two_all_at (stand_in table c) ts h.1)

    two_all_at : (x : (Option ℕ)) (ts : Trees) → SplicedAll (language Two table classes) x ts → AllSplicedIn classes table (class_in classes x) ts
    two_all_at x empty h = tt
    two_all_at x (more t ts) h = (two_at x t h.0, two_all_at x ts h.1)

  pub two_spliced : (t : Tree) → term_spliced.Spliced (language Two table classes) t → Spliced classes table t
  two_spliced t h = two_at None t h
