-- Records that need no search: one with a symbol that is not its own class, and one in which the larger of two twins comes and the smaller has not.
-- Each is passed over where all before it are.
use Prim.Native.Nat.{ℕ, zero, suc, ◌<◌, ◌≤◌}
use mathlib.Core.Path.{◌≡◌, refl, sym, ◌∙◌, ap, ap₂, subst}
use mathlib.Core.Logic.{inl, inr}
use mathlib.Core.List.{List, [], ◌∷◌}
use mathlib.Core.Bool.{Bool, true, false, cond}
use native.Mathlib.Omega.{arith}
use lib.Dec.{eqb}
use lib.ListN.{length, get_or}
use borrow.Author.Tests.{eqb-true, eqb-false, eq-eqb, ne_eqb}
use Rattle.term.specs.Class.{class_of, Alike}
use Rattle.term.specs.Code.{byte_of}
use Rattle.term.specs.Limits.{TermAccepted}
use Rattle.term.specs.Pattern.{Pattern, name, symbol, complement, Children, end, plain, run, pattern_bytes, child_trees}
use Rattle.term.specs.Table.{is_list}
use Rattle.term.specs.Term.{Term}
use Rattle.term.specs.Tree.{number, own, list_code, encode, encodes}
use Rattle.term.proofs.Classes.{class_none, classes_exactly, accepted_alike, none_alike}
use Rattle.anti_pattern.specs.Demands.{Unsatisfied}
use Rattle.anti_pattern.specs.Language.{Language, Classed}
use Rattle.anti_pattern.specs.Order.{All}
use Rattle.anti_pattern.specs.Search.{Env, first_answer, whole}
use Rattle.anti_pattern.proofs.Demands.{search_decides}
use Rattle.anti_pattern.proofs.Metering.{Split, enough, over, split}
use Rattle.anti_pattern.proofs.Within.{accepted_of}
use Rattle.example.specs.Least.{bytes_in, Passed, Behind}
use Rattle.example.specs.Inner.{Twins}
use Rattle.example.proofs.Leads.{lowered, lead, long_to, accepted_to, first_bytes}
use Rattle.example.proofs.Renaming.{swap, rename, Fixed, Fixeds, same_count, failed_alike}
use Rattle.std.specs.Prelude.{Option, Some, None}

-- what an accepted class list and the empty one have

pub classed_alike : (l : Language) → Classed l → Alike l.table l.classes
classed_alike l (inl e) = subst (Alike l.table) (sym e) (none_alike l.table)
classed_alike l (inr h) = accepted_alike l.table l.classes h

pub classed_lowest : (l : Language) → Classed l → (s : ℕ) → class_of l.classes s ≤ s
classed_lowest l (inl e) s = subst (λ (c : List ℕ). class_of c s ≤ s) (sym e) (omega arith)
classed_lowest l (inr h) s = go (split (suc s) (length l.table))
  where
    go : Split (suc s) (length l.table) → class_of l.classes s ≤ s
    go (enough i) = ((classes_exactly l.table l.classes).0 h).lowest s i
    go (over i) = omega (arith, class_none l.classes s (omega (arith, i, ((classes_exactly l.table l.classes).0 h).as_long)))

classed_own : (l : Language) → Classed l → (s : ℕ) → class_of l.classes (class_of l.classes s) ≡ class_of l.classes s
classed_own l (inl e) s = subst (λ (c : List ℕ). class_of c (class_of c s) ≡ class_of c s) (sym e) refl
classed_own l (inr h) s = go (split (suc s) (length l.table))
  where
    go : Split (suc s) (length l.table) → class_of l.classes (class_of l.classes s) ≡ class_of l.classes s
    go (enough i) = ((classes_exactly l.table l.classes).0 h).own_class s i
    go (over i) =
        ap (class_of l.classes) (class_none l.classes s (omega (arith, i, ((classes_exactly l.table l.classes).0 h).as_long)))

-- a renaming that the search can't tell
pub record Interchange (l : Language) (q : Pattern) (f : ℕ → ℕ) : Type 0 where
  pub inside : (s : ℕ) → s < length l.table → f s < length l.table
  pub alike : (s : ℕ) → get_or l.table (f s) 0 ≡ get_or l.table s 0
  pub one : (x y : ℕ) → eqb (class_of l.classes (f x)) (class_of l.classes (f y)) ≡ eqb (class_of l.classes x) (class_of l.classes y)
  pub fixed : Fixed l.classes f q

pub renamed_passed : (l : Language) → Classed l → (q : Pattern) (allowance : ℕ) (f : ℕ → ℕ) → Interchange l q f
    → (t : Term) → TermAccepted l t → lead f t ≡ lowered → Behind l q allowance (bytes_in l t) → Passed l q allowance t
renamed_passed l c q allowance f i t a low before =
    let u = rename l.classes f t in
    let g = accepted_to l.classes l.table f i.inside i.alike l.edition i.one t a in
    let n = before u g (inr (long_to l.classes l.table f i.inside i.alike t, first_bytes l.classes l.table f i.inside i.alike t [] [] low)) in
    let m = same_count l.classes f i.one l.table q i.fixed t in (
      omega (arith, m, n.0),
      (search_decides l (classed_alike l c) q t (accepted_of l t a)).failed_none
          (failed_alike l.classes f i.one l.table q i.fixed t (failing u g n.1)),
    )
  where
    failing : (u : Term) → TermAccepted l u → Unsatisfied l q u → first_answer (whole l q u).out ≡ None
    failing u g n = go (first_answer (whole l q u).out) refl
      where
        go : (o : Option Env) → first_answer (whole l q u).out ≡ o → o ≡ None
        go (Some e) h = absurd (n e.value ((search_decides l (classed_alike l c) q u (accepted_of l u g)).found_first e h).satisfies)
        go None h = refl

-- the two renamings

eqb_iff : (x y z w : ℕ) → (z ≡ w → x ≡ y) → (x ≡ y → z ≡ w) → eqb x y ≡ eqb z w
eqb_iff x y z w f g = go (eqb z w) refl
  where
    go : (m : Bool) → eqb z w ≡ m → eqb x y ≡ m
    go true h = eq-eqb x y (f (eqb-true z w h))
    go false h = ne_eqb x y (λ e. eqb-false z w h (g e))

module _ (a b : ℕ) where
  swap_a : swap a b a ≡ b
  swap_a = ap (λ (m : Bool). cond m b (cond (eqb a b) a a)) (eq-eqb a a refl)

  pub swap_b : swap a b b ≡ a
  swap_b = go (eqb b a) refl
    where
      go : (m : Bool) → eqb b a ≡ m → cond m b (cond (eqb b b) a b) ≡ a
      go true h = eqb-true b a h
      go false h = ap (λ (m : Bool). cond m a b) (eq-eqb b b refl)

  pub swap_other : (x : ℕ) → (x ≡ a → ⊥) → (x ≡ b → ⊥) → swap a b x ≡ x
  swap_other x h k = ap₂ (λ (m n : Bool). cond m b (cond n a x)) (ne_eqb x a h) (ne_eqb x b k)

  swap_back : (x : ℕ) → swap a b (swap a b x) ≡ x
  swap_back x = go (eqb x a) (eqb x b) refl refl
    where
      go : (m n : Bool) → eqb x a ≡ m → eqb x b ≡ n → swap a b (cond m b (cond n a x)) ≡ x
      go true n h k = swap_b ∙ sym (eqb-true x a h)
      go false true h k = swap_a ∙ sym (eqb-true x b k)
      go false false h k = swap_other x (eqb-false x a h) (eqb-false x b k)

  swap_injective : (x y : ℕ) → eqb (swap a b x) (swap a b y) ≡ eqb x y
  swap_injective x y = eqb_iff (swap a b x) (swap a b y) x y (λ e. ap (swap a b) e) (λ e. sym (swap_back x) ∙ ap (swap a b) e ∙ swap_back y)

  swap_fixed : (s r : ℕ) → (s ≡ a → ⊥) → (s ≡ b → ⊥) → eqb s (swap a b r) ≡ eqb s r
  swap_fixed s r h k =
      let i : swap a b s ≡ s = swap_other s h k in
      eqb_iff s (swap a b r) s r (λ e. sym i ∙ ap (swap a b) e) (λ e. sym i ∙ ap (swap a b) e ∙ swap_back r)

  -- what holds of both and of a symbol holds of the exchanged one
  swapped : (P : ℕ → Type 0) (x : ℕ) → P a → P b → P x → P (swap a b x)
  swapped P x h k j = go (eqb x a) (eqb x b)
    where
      go : (m n : Bool) → P (cond m b (cond n a x))
      go true n = k
      go false true = h
      go false false = j

  swapped_to : {X : Type 0} (g : ℕ → X) (x : ℕ) → g a ≡ g b → g (swap a b x) ≡ g x
  swapped_to {X} g x e = go (eqb x a) (eqb x b) refl refl
    where
      go : (m n : Bool) → eqb x a ≡ m → eqb x b ≡ n → g (cond m b (cond n a x)) ≡ g x
      go true n h k = sym e ∙ ap g (sym (eqb-true x a h))
      go false true h k = e ∙ ap g (sym (eqb-true x b k))
      go false false h k = refl

all_at : (P : ℕ → Type 0) (s : List ℕ) → ((i : ℕ) → i < length s → P (get_or s i 0)) → All P s
all_at P [] h = tt
all_at P (b ∷ s) h = (h zero (omega arith), all_at P s (λ i k. h (suc i) (omega arith)))

past_number : (P : ℕ → Type 0) (m : Bool) (n : ℕ) (bs : List ℕ) → All P (cond m (n ∷ bs) bs) → All P bs
past_number P true n bs h = h.1
past_number P false n bs h = h

module _ (l : Language) (c : Classed l) where
  -- each symbol to its class: the pattern may have any of them
  mutual
    class_fixed : (q : Pattern) → Fixed l.classes (class_of l.classes) q
    class_fixed (name v) = tt
    class_fixed (symbol s qs) = (λ r. ap (eqb (class_of l.classes s)) (classed_own l c r), class_fixeds qs)
    class_fixed (complement q) = class_fixed q

    class_fixeds : (qs : Children) → Fixeds l.classes (class_of l.classes) qs
    class_fixeds end = tt
    class_fixeds (plain q qs) = (class_fixed q, class_fixeds qs)
    class_fixeds (run v qs) = class_fixeds qs

  pub class_interchange : (q : Pattern) → Interchange l q (class_of l.classes)
  class_interchange q = record {
    inside = λ s h. omega (arith, h, classed_lowest l c s);
    alike = (classed_alike l c).alike;
    one = λ x y. ap₂ eqb (classed_own l c x) (classed_own l c y);
    fixed = class_fixed q;
  }

  -- two twins exchanged, of symbols that are their own class
  module _ (pattern : List ℕ) (a b : ℕ) (w : Twins l pattern a b) where
    abbrev pub exchange : ℕ → ℕ
    exchange x = swap a b (class_of l.classes x)

    own_exchange : (x : ℕ) → class_of l.classes (exchange x) ≡ exchange x
    own_exchange x =
        swapped a b (λ y. class_of l.classes y ≡ y) (class_of l.classes x) w.own_a w.own_b (classed_own l c x)

    abbrev Neither : ℕ → Type 0
    Neither s = (class_of l.classes s ≡ a → ⊥) × (class_of l.classes s ≡ b → ⊥)

    mutual
      unfolding encode own list_code byte_of

      pattern_fixed : (q : Pattern) (bs : List ℕ) → All Neither (pattern_bytes l.table q bs) → Fixed l.classes exchange q × All Neither bs
      pattern_fixed (name v) bs h = (tt, h.1)
      pattern_fixed (symbol s qs) bs h =
          let r = children_fixed qs bs (past_number Neither (is_list l.table s) (number (child_trees qs)) (encodes l.table (child_trees qs) bs) h.1) in
          ((λ x. ap (eqb (class_of l.classes s)) (own_exchange x) ∙ swap_fixed a b (class_of l.classes s) (class_of l.classes x) h.0.0 h.0.1, r.0), r.1)
      pattern_fixed (complement q) bs h = pattern_fixed q bs h.1

      children_fixed : (qs : Children) (bs : List ℕ) → All Neither (encodes l.table (child_trees qs) bs) → Fixeds l.classes exchange qs × All Neither bs
      children_fixed end bs h = (tt, h)
      children_fixed (plain q qs) bs h =
          let x = pattern_fixed q (encodes l.table (child_trees qs) bs) h in
          let y = children_fixed qs bs x.1 in ((x.0, y.0), y.1)
      children_fixed (run v qs) bs h = children_fixed qs bs h.1

    pub twin_interchange : (q : Pattern) → pattern_bytes l.table q [] ≡ pattern → Interchange l q exchange
    twin_interchange q e = record {
      inside = λ s h. swapped a b (λ x. x < length l.table) (class_of l.classes s) (omega (arith, w.smaller, w.inside)) w.inside
          (omega (arith, h, classed_lowest l c s));
      alike = λ s. swapped_to a b (λ (x : ℕ). get_or l.table x 0) (class_of l.classes s) w.alike ∙ (classed_alike l c).alike s;
      one = λ x y. ap₂ eqb (own_exchange x) (own_exchange y) ∙ swap_injective a b (class_of l.classes x) (class_of l.classes y);
      fixed = (pattern_fixed q [] (subst (All Neither) (sym e) (all_at Neither pattern w.without))).0;
    }
