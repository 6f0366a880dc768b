-- Splicing up to class.
use Prim.Native.Nat.{ℕ}
use native.Mathlib.Nat.{le_refl}
use mathlib.Core.Path.{◌≡◌, refl, sym, ap, ap₂, ◌∙◌}
use mathlib.Core.Logic.{◌⊎◌, inl, inr}
use mathlib.Core.List.{List, []}
use mathlib.Core.Bool.{Bool, true, false, cond}
use Rattle.term.specs.Table.{is_list}
use Rattle.term.specs.Tree.{Tree, Trees, branch, empty, more}
use Rattle.term.specs.declared.Code.{Code}
use Rattle.term.specs.declared.Code.TheVariants.{Symbol, Name, Run, Complement}
use Rattle.term.specs.Class.{class_of}
use Rattle.splice.proofs.ByClass.{Classes, class_code, classed, classed_all, UpToClass}
use Rattle.splice.specs.Splicing.{◌⊕◌, class_in, list_class, same_list, placed, splice, splice_all}
use Rattle.splice.proofs.ByClass.{SplicedIn, AllSplicedIn}
use Rattle.std.specs.Prelude.{Some, None, Option}

-- without a class list each symbol is its own class
pub no_classes : (table : List ℕ) → Classes table []
no_classes table = record { low = λ s. le_refl s; own = λ s. refl; alike = λ s. refl }

module _ (classes : List ℕ) where
  pub classed_join : (us ts : Trees) → classed_all classes (us ⊕ ts) ≡ classed_all classes us ⊕ classed_all classes ts
  unfolding classed ◌⊕◌
  classed_join empty ts = refl
  classed_join (more u us) ts = ap (more (classed classes u)) (classed_join us ts)

module _ (classes table : List ℕ) (ok : Classes table classes) where
  -- a symbol's class is a list of the symbol's class
  pub class_list : (c : Code) → list_class classes table (class_code classes c) ≡ list_class classes table c
  unfolding list_class class_code
  class_list (Symbol s) = rw (ok.alike s) (go (is_list table s))
    where
      go : (b : Bool) → class_in classes (cond b (Some (class_of classes s)) None) ≡ class_in classes (cond b (Some s) None)
      go true = ap Some (ok.own s)
      go false = refl
  class_list (Name v) = refl
  class_list (Run v) = refl
  class_list Complement = refl
  class_list Code.Refused = refl

  pub one_class : (c d : Code) → class_code classes c ≡ class_code classes d → list_class classes table c ≡ list_class classes table d
  one_class c d e = sym (class_list c) ∙ ap (list_class classes table) e ∙ class_list d

  pub placed_classed : (a : Option ℕ) (t : Tree) (ts : Trees)
      → classed_all classes (placed classes table a t ts) ≡ placed classes table a (classed classes t) (classed_all classes ts)
  unfolding classed
  placed_classed a (branch c us) ts = rw (class_list c) (go (same_list a (list_class classes table c)))
    where
      go : (b : Bool)
          → classed_all classes (cond b (us ⊕ ts) (more (branch c us) ts))
          ≡ cond b (classed_all classes us ⊕ classed_all classes ts) (more (branch (class_code classes c) (classed_all classes us)) (classed_all classes ts))
      go true = classed_join classes us ts
      go false = refl

  -- splicing and taking classes may be exchanged
  mutual
    unfolding splice classed

    pub splice_classed : (t : Tree) → classed classes (splice classes table t) ≡ splice classes table (classed classes t)
    splice_classed (branch c ts) = rw (class_list c) (ap (branch (class_code classes c)) (all_classed (list_class classes table c) ts))

    pub all_classed : (a : Option ℕ) (ts : Trees) → classed_all classes (splice_all classes table a ts) ≡ splice_all classes table a (classed_all classes ts)
    all_classed a empty = refl
    all_classed a (more t ts) =
        placed_classed a (splice classes table t) (splice_all classes table a ts)
        ∙ ap₂ (placed classes table a) (splice_classed t) (all_classed a ts)

  -- what is equal up to class is spliced alike
  pub splice_up_to_class : (t u : Tree) → UpToClass classes t u → UpToClass classes (splice classes table t) (splice classes table u)
  splice_up_to_class t u e = splice_classed t ∙ ap (splice classes table) e ∙ sym (splice_classed u)

-- codes of one class: the same, or two symbols
module _ (classes : List ℕ) where
  symbol? : (c : Code) → ((s : ℕ) × (c ≡ Symbol s)) ⊎ (class_code classes c ≡ c)
  unfolding class_code
  symbol? (Symbol s) = inl (s, refl)
  symbol? (Name v) = inr refl
  symbol? (Run v) = inr refl
  symbol? Complement = inr refl
  symbol? Code.Refused = inr refl

  pub same_class : (c d : Code) → class_code classes c ≡ class_code classes d
      → (c ≡ d) ⊎ ((s : ℕ) × (r : ℕ) × (c ≡ Symbol s) × (d ≡ Symbol r) × (class_of classes s ≡ class_of classes r))
  unfolding class_code
  same_class c d e = go (symbol? c) (symbol? d)
    where
      go : ((s : ℕ) × (c ≡ Symbol s)) ⊎ (class_code classes c ≡ c) → ((r : ℕ) × (d ≡ Symbol r)) ⊎ (class_code classes d ≡ d)
          → (c ≡ d) ⊎ ((s : ℕ) × (r : ℕ) × (c ≡ Symbol s) × (d ≡ Symbol r) × (class_of classes s ≡ class_of classes r))
      go (inl (s, f)) (inl (r, g)) =
          let i : Symbol (class_of classes s) ≡ Symbol (class_of classes r) = ap (class_code classes) (sym f) ∙ e ∙ ap (class_code classes) g in
          inr (s, r, f, g, cc)
      go (inl (s, f)) (inr g) =
          let i : d ≡ Symbol (class_of classes s) = sym g ∙ sym e ∙ ap (class_code classes) f in
          let h : Symbol (class_of classes (class_of classes s)) ≡ Symbol (class_of classes s) = sym (ap (class_code classes) i) ∙ g ∙ i in
          inr (s, class_of classes s, f, i, cc)
      go (inr f) (inl (r, g)) =
          let i : c ≡ Symbol (class_of classes r) = sym f ∙ e ∙ ap (class_code classes) g in
          let h : Symbol (class_of classes (class_of classes r)) ≡ Symbol (class_of classes r) = sym (ap (class_code classes) i) ∙ f ∙ i in
          inr (class_of classes r, r, i, g, cc)
      go (inr f) (inr g) = inl (sym f ∙ e ∙ g)

-- what is spliced is so up to class: "satisfies" up to class ranges over the same terms
module _ (classes table : List ℕ) (ok : Classes table classes) where
  mutual
    unfolding SplicedIn classed

    pub spliced_classed : (a : Option ℕ) (t : Tree) → SplicedIn classes table a t → SplicedIn classes table a (classed classes t)
    spliced_classed a (branch c ts) h =
        (rw (class_list classes table ok c) h.0, rw (class_list classes table ok c) (all_spliced_classed (list_class classes table c) ts h.1))

    all_spliced_classed : (a : Option ℕ) (ts : Trees) → AllSplicedIn classes table a ts → AllSplicedIn classes table a (classed_all classes ts)
    all_spliced_classed a empty h = tt
    all_spliced_classed a (more t ts) h = (spliced_classed a t h.0, all_spliced_classed a ts h.1)

  mutual
    unfolding SplicedIn classed

    pub classed_spliced : (a : Option ℕ) (t : Tree) → SplicedIn classes table a (classed classes t) → SplicedIn classes table a t
    classed_spliced a (branch c ts) h =
        (rw (class_list classes table ok c) at h.0, all_classed_spliced (list_class classes table c) ts (rw (class_list classes table ok c) at h.1))

    all_classed_spliced : (a : Option ℕ) (ts : Trees) → AllSplicedIn classes table a (classed_all classes ts) → AllSplicedIn classes table a ts
    all_classed_spliced a empty h = tt
    all_classed_spliced a (more t ts) h = (classed_spliced a t h.0, all_classed_spliced a ts h.1)
