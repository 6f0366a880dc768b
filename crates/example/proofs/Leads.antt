-- A record whose symbols are renamed has as many bytes and is within the limits; it comes earlier where the first symbol that changes is lowered.
use Prim.Native.Nat.{ℕ, suc, ◌+◌, ◌-◌, ◌<◌, ◌≤◌}
use mathlib.Core.Path.{◌≡◌, refl, sym, ◌∙◌, ap, ap₂, subst}
use mathlib.Core.Logic.{inl, inr}
use mathlib.Core.List.{List, [], ◌∷◌, ◌++◌}
use mathlib.Core.Bool.{Bool, true, false, cond}
use native.Mathlib.Omega.{arith}
use lib.Dec.{eqb, ltb}
use lib.ListN.{length, get_or}
use borrow.Author.Tests.{eqb-true, eq-eqb, ne_eqb, ltb-true, lt-ltb}
use Rattle.term.specs.Class.{class_of}
use Rattle.term.specs.Language.{Language, language}
use Rattle.term.specs.Limits.{Written, Counted, Shape, Fits, FitAll, TermAccepted, longest_record, nesting}
use Rattle.term.specs.Splicing.{stand_in, unspliced, SplicedAt, SplicedAll}
use Rattle.term.specs.Table.{is_list, list}
use Rattle.term.specs.Term.{Term, node, Terms, nil, ◌::◌, ◌⧺◌, count, size, sizes, term_tree, term_trees, term_bytes, terms_bytes}
use Rattle.term.specs.Tree.{number, list_code, encode}
use Rattle.term.specs.declared.Code.TheVariants.{Symbol}
use Rattle.term.specs.declared.Edition.{Edition}
use Rattle.term.specs.declared.Edition.TheVariants.{One, Two}
use Rattle.term.proofs.Sizes.{node_bytes, encode_append, term_size, number_terms}
use Rattle.anti_pattern.specs.Order.{Smaller}
use Rattle.example.proofs.Renaming.{rename, renames}
use Rattle.std.specs.Prelude.{Option, Some, None}

-- the first symbol that is not renamed to itself, root first, left to right: there is none, it is lowered or raised
pub data Lead : Type 0 where
  still : Lead
  lowered : Lead
  raised : Lead

abbrev pub or_lead : Lead → Lead → Lead
or_lead still x = x
or_lead lowered x = lowered
or_lead raised x = raised

abbrev lead_by : Bool → Bool → Lead → Lead
lead_by true lower next = next
lead_by false true next = lowered
lead_by false false next = raised

module _ (f : ℕ → ℕ) where
  abbrev mutual
    pub lead : Term → Lead
    lead (node s ts) = lead_by (eqb (f s) s) (ltb (f s) s) (leads ts)

    pub leads : Terms → Lead
    leads nil = still
    leads (t :: ts) = or_lead (lead t) (leads ts)

  or_assoc : (x y z : Lead) → or_lead (or_lead x y) z ≡ or_lead x (or_lead y z)
  or_assoc still y z = refl
  or_assoc lowered y z = refl
  or_assoc raised y z = refl

  leads_join : (us ts : Terms) → leads (us ⧺ ts) ≡ or_lead (leads us) (leads ts)
  leads_join nil ts = refl
  leads_join (u :: us) ts = ap (or_lead (lead u)) (leads_join us ts) ∙ sym (or_assoc (lead u) (leads us) (leads ts))

  -- a root that stays, and one that is lowered
  pub lead_past : (s : ℕ) (us ts : Terms) → f s ≡ s → leads (node s us :: ts) ≡ leads (us ⧺ ts)
  lead_past s us ts e = ap (λ (m : Bool). or_lead (lead_by m (ltb (f s) s) (leads us)) (leads ts)) (eq-eqb (f s) s e) ∙ sym (leads_join us ts)

  pub lead_low : (s : ℕ) (us ts : Terms) → f s < s → leads (node s us :: ts) ≡ lowered
  lead_low s us ts h =
      ap₂ (λ (m n : Bool). or_lead (lead_by m n (leads us)) (leads ts)) (ne_eqb (f s) s (λ e. omega (arith, e))) (lt-ltb (f s) s h)

smaller_behind : (p xs ys : List ℕ) → Smaller xs ys → Smaller (p ++ xs) (p ++ ys)
smaller_behind [] xs ys h = h
smaller_behind (b ∷ p) xs ys h = inr (refl, smaller_behind p xs ys h)

smaller_own : (l : Bool) (s n m : ℕ) (xs ys : List ℕ) → n ≡ m → Smaller xs ys → Smaller (s ∷ cond l (n ∷ xs) xs) (s ∷ cond l (m ∷ ys) ys)
smaller_own true s n m xs ys e h = inr (refl, inr (e, h))
smaller_own false s n m xs ys e h = inr (refl, h)

-- cases of the first
data Leads (f : ℕ → ℕ) (s : ℕ) (ts : Terms) : Type 0 where
  root : f s < s → Leads f s ts
  below : f s ≡ s → leads f ts ≡ lowered → Leads f s ts

root_or_below : (f : ℕ → ℕ) (s : ℕ) (ts : Terms) → lead f (node s ts) ≡ lowered → Leads f s ts
root_or_below f s ts h = go (eqb (f s) s) (ltb (f s) s) refl refl h
  where
    go : (m n : Bool) → eqb (f s) s ≡ m → ltb (f s) s ≡ n → lead_by m n (leads f ts) ≡ lowered → Leads f s ts
    go true n i j e = below (eqb-true (f s) s i) e
    go false true i j e = root (ltb-true (f s) s j)
    go false false i j e = let z : ◌≡◌ {A = ℕ} 0 1 = cc in absurd (omega arith)

module _ (classes table : List ℕ) (f : ℕ → ℕ) (inside : (s : ℕ) → s < length table → f s < length table)
    (alike : (s : ℕ) → get_or table (f s) 0 ≡ get_or table s 0) where
  abbrev to : Term → Term
  to t = rename classes f t

  abbrev tos : Terms → Terms
  tos ts = renames classes f ts

  count_to : (ts : Terms) → count (tos ts) ≡ count ts
  count_to nil = refl
  count_to (t :: ts) = ap suc (count_to ts)

  same_list_holds : (s : ℕ) → is_list table (f s) ≡ is_list table s
  same_list_holds s = ap (λ (x : ℕ). eqb x list) (alike s)

  mutual
    unfolding size

    size_to : (t : Term) → size table (to t) ≡ size table t
    size_to (node s ts) = ap₂ (λ (l : Bool) (n : ℕ). cond l 2 1 + n) (same_list_holds s) (sizes_to ts)

    sizes_to : (ts : Terms) → sizes table (tos ts) ≡ sizes table ts
    sizes_to nil = refl
    sizes_to (t :: ts) = ap₂ ◌+◌ (size_to t) (sizes_to ts)

  number_to : (ts : Terms) → number (term_trees (tos ts)) ≡ number (term_trees ts)
  number_to ts = number_terms (tos ts) ∙ count_to ts ∙ sym (number_terms ts)

  mutual
    unfolding Fits Shape Written list_code

    fits_to : (t : Term) (left : ℕ) (in_list : Bool) → Fits table true (term_tree t) left in_list → Fits table true (term_tree (to t)) left in_list
    fits_to (node s ts) left in_list h = (
      h.0,
      tt,
      (
        inside s h.2.0,
        subst (λ (n : ℕ). Counted (is_list table (f s)) n (get_or table (f s) 0)) (sym (number_to ts))
            (subst (λ (x : ℕ). Counted (eqb x list) (number (term_trees ts)) x) (sym (alike s)) h.2.1),
      ),
      subst (λ (l : Bool). FitAll table true (term_trees (tos ts)) (left - 1) l) (sym (same_list_holds s)) (fit_to ts (left - 1) (is_list table s) h.3),
    )

    fit_to : (ts : Terms) (left : ℕ) (in_list : Bool) → FitAll table true (term_trees ts) left in_list → FitAll table true (term_trees (tos ts)) left in_list
    fit_to nil left in_list h = tt
    fit_to (t :: ts) left in_list h = (fits_to t left in_list h.0, fit_to ts left in_list h.1)

  pub long_to : (t : Term) → length (term_bytes table (to t) []) ≡ length (term_bytes table t [])
  long_to t = term_size table (to t) ∙ size_to t ∙ sym (term_size table t)

  -- a spliced record stays so where classes stay apart
  module _ (edition : Edition) (one : (x y : ℕ) → eqb (class_of classes (f x)) (class_of classes (f y)) ≡ eqb (class_of classes x) (class_of classes y)) where
    abbrev l : Language
    l = language edition table classes

    abbrev stand_to : Option ℕ → Option ℕ
    stand_to (Some s) = Some (f s)
    stand_to None = None

    stand_to_holds : (s : ℕ) → stand_in table (Symbol (f s)) ≡ stand_to (stand_in table (Symbol s))
    stand_to_holds s = ap (λ (b : Bool). cond b (Some (f s)) None) (same_list_holds s) ∙ go (is_list table s)
      where
        go : (b : Bool) → cond b (Some (f s)) None ≡ stand_to (cond b (Some s) None)
        go true = refl
        go false = refl

    unspliced_to : (e : Edition) (x y : (Option ℕ)) → unspliced e classes (stand_to x) (stand_to y) ≡ unspliced e classes x y
    unspliced_to One x y = refl
    unspliced_to Two (Some s) (Some r) = one s r
    unspliced_to Two (Some s) None = refl
    unspliced_to Two None y = refl

    mutual
      spliced_to : (x : (Option ℕ)) (t : Term) → SplicedAt l x (term_tree t) → SplicedAt l (stand_to x) (term_tree (to t))
      spliced_to x (node s ts) h = (
        ap (unspliced edition classes (stand_to x)) (stand_to_holds s) ∙ unspliced_to edition x (stand_in table (Symbol s)) ∙ h.0,
        subst (λ (y : (Option ℕ)). SplicedAll l y (term_trees (tos ts))) (sym (stand_to_holds s)) (all_spliced_to (stand_in table (Symbol s)) ts h.1),
      )

      all_spliced_to : (x : (Option ℕ)) (ts : Terms) → SplicedAll l x (term_trees ts) → SplicedAll l (stand_to x) (term_trees (tos ts))
      all_spliced_to x nil h = tt
      all_spliced_to x (t :: ts) h = (spliced_to x t h.0, all_spliced_to x ts h.1)

    pub accepted_to : (t : Term) → TermAccepted l t → TermAccepted l (to t)
    accepted_to t h = record {
      short = subst (λ (n : ℕ). n ≤ longest_record) (sym (long_to t)) h.short;
      fits = fits_to t nesting false h.fits;
      spliced = spliced_to None t h.spliced;
    }

  -- where no symbol changes the term stays
  unless : (x y : Lead) → or_lead x y ≡ still → (x ≡ still) × (y ≡ still)
  unless still y h = (refl, h)
  unless lowered y h = let z : ◌≡◌ {A = ℕ} 0 1 = cc in absurd (omega arith)
  unless raised y h = let z : ◌≡◌ {A = ℕ} 0 1 = cc in absurd (omega arith)

  mutual
    unmoved : (t : Term) → lead f t ≡ still → to t ≡ t
    unmoved (node s ts) h = go (eqb (f s) s) (ltb (f s) s) refl h (λ e. unmoved_all ts e)
      where
        go : (m n : Bool) → eqb (f s) s ≡ m → lead_by m n (leads f ts) ≡ still → (leads f ts ≡ still → tos ts ≡ ts) → node (f s) (tos ts) ≡ node s ts
        go true n i e g = ap₂ node (eqb-true (f s) s i) (g e)
        go false true i e g = let z : ◌≡◌ {A = ℕ} 0 1 = cc in absurd (omega arith)
        go false false i e g = let z : ◌≡◌ {A = ℕ} 0 1 = cc in absurd (omega arith)

    unmoved_all : (ts : Terms) → leads f ts ≡ still → tos ts ≡ ts
    unmoved_all nil h = refl
    unmoved_all (t :: ts) h = let x = unless (lead f t) (leads f ts) h in ap₂ ◌::◌ (unmoved t x.0) (unmoved_all ts x.1)

  abbrev own_before : ℕ → ℕ → List ℕ → List ℕ
  own_before s n bs = s ∷ cond (is_list table s) (n ∷ bs) bs

  node_smaller : (s : ℕ) (ts : Terms) (xs ys : List ℕ) → Leads f s ts
      → (leads f ts ≡ lowered → Smaller (terms_bytes table (tos ts) xs) (terms_bytes table ts ys))
      → Smaller (term_bytes table (node (f s) (tos ts)) xs) (term_bytes table (node s ts) ys)
  node_smaller s ts xs ys h g =
      subst (λ (l : List ℕ). Smaller l (term_bytes table (node s ts) ys)) (sym (node_bytes table (f s) (tos ts) xs))
      (subst (λ (l : List ℕ). Smaller (own_before (f s) (count (tos ts)) (terms_bytes table (tos ts) xs)) l) (sym (node_bytes table s ts ys)) (go h))
    where
      go : Leads f s ts → Smaller (own_before (f s) (count (tos ts)) (terms_bytes table (tos ts) xs)) (own_before s (count ts) (terms_bytes table ts ys))
      go (root i) = inl i
      go (below i j) =
          subst (λ (x : ℕ). Smaller (own_before x (count (tos ts)) (terms_bytes table (tos ts) xs)) (own_before s (count ts) (terms_bytes table ts ys))) (sym i)
          (smaller_own (is_list table s) s (count (tos ts)) (count ts) (terms_bytes table (tos ts) xs) (terms_bytes table ts ys) (count_to ts) (g j))

  mutual
    unfolding encode

    pub first_bytes : (t : Term) (xs ys : List ℕ) → lead f t ≡ lowered → Smaller (term_bytes table (to t) xs) (term_bytes table t ys)
    first_bytes (node s ts) xs ys h = node_smaller s ts xs ys (root_or_below f s ts h) (λ e. first_bytes_all ts xs ys e)

    first_bytes_all : (ts : Terms) (xs ys : List ℕ) → leads f ts ≡ lowered → Smaller (terms_bytes table (tos ts) xs) (terms_bytes table ts ys)
    first_bytes_all nil xs ys h = let z : ◌≡◌ {A = ℕ} 0 1 = cc in absurd (omega arith)
    first_bytes_all (t :: ts) xs ys h =
        go (lead f t) refl h (λ e. first_bytes t (terms_bytes table (tos ts) xs) (terms_bytes table ts ys) e) (λ e. first_bytes_all ts xs ys e)
      where
        go : (x : Lead) → lead f t ≡ x → or_lead x (leads f ts) ≡ lowered
            → (lead f t ≡ lowered → Smaller (term_bytes table (to t) (terms_bytes table (tos ts) xs)) (term_bytes table t (terms_bytes table ts ys)))
            → (leads f ts ≡ lowered → Smaller (terms_bytes table (tos ts) xs) (terms_bytes table ts ys))
            → Smaller (term_bytes table (to t) (terms_bytes table (tos ts) xs)) (term_bytes table t (terms_bytes table ts ys))
        go still e k i g =
            subst (λ (u : Term). Smaller (term_bytes table u (terms_bytes table (tos ts) xs)) (term_bytes table t (terms_bytes table ts ys))) (sym (unmoved t e))
            (subst (λ (l : List ℕ). Smaller l (term_bytes table t (terms_bytes table ts ys))) (sym (encode_append table (term_tree t) [] (terms_bytes table (tos ts) xs)))
            (subst (λ (l : List ℕ). Smaller (term_bytes table t [] ++ terms_bytes table (tos ts) xs) l) (sym (encode_append table (term_tree t) [] (terms_bytes table ts ys)))
            (smaller_behind (term_bytes table t []) (terms_bytes table (tos ts) xs) (terms_bytes table ts ys) (g k))))
        go lowered e k i g = i e
        go raised e k i g = let z : ◌≡◌ {A = ℕ} 0 1 = cc in absurd (omega arith)
