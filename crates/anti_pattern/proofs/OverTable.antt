-- Over more terms than the language's the same assignments satisfy: what a pattern's free variables are assigned is the same as terms of the record.
use Prim.Native.Nat.{ℕ, ◌<◌}
use native.Mathlib.Omega.{arith}
use mathlib.Core.Path.{◌≡◌, refl, sym, ◌∙◌, ap, ap₂, subst}
use mathlib.Core.Logic.{inl, inr}
use mathlib.Core.List.{List, [], ◌∷◌}
use mathlib.Core.Bool.{Bool, true, false, cond, false≢true}
use lib.Dec.{eqb, ltb}
use lib.ListN.{length}
use borrow.Author.Tests.{eqb-true, ltb-true, ltb-false}
use Rattle.term.specs.Class.{class_of, Alike}
use Rattle.term.specs.Pattern.{Pattern, name, symbol, complement, Children, end, plain, run}
use Rattle.term.specs.Splicing.{stand_in, unspliced, SplicedAt, SplicedAll}
use Rattle.term.specs.Table.{list, is_list}
use Rattle.term.specs.Term.{Term, node, Terms, nil, ◌::◌, single, term_tree, term_trees}
use Rattle.term.specs.declared.Code.TheVariants.{Symbol}
use Rattle.term.specs.declared.Edition.{Edition}
use Rattle.term.specs.declared.Edition.TheVariants.{One, Two}
use Rattle.term.proofs.Classes.{class_none, classes_exactly, accepted_alike, none_alike}
use Rattle.term.proofs.SameParts.{entry_alike, same_counts}
use Rattle.anti_pattern.specs.Language.{Language, Classed, Over, OverAll, TermOf, TermsOf, ◌⊢◌∼◌, ◌⊢◌≈◌, ◌⊢◌≋◌}
use Rattle.anti_pattern.specs.Meaning.{Assignment, ExtendsAt, Extends, Holds, HoldAll, SatisfiesOver}
use Rattle.anti_pattern.specs.Variables.{vars, vars_all, free, among}
use Rattle.anti_pattern.proofs.Alike.{node_open, cons_open, of_split, children_of_holds}
use Rattle.std.specs.Prelude.{Option, Some, None}

alike : (l : Language) → Classed l → Alike l.table l.classes
alike l (inl e) = subst (Alike l.table) (sym e) (none_alike l.table)
alike l (inr h) = accepted_alike l.table l.classes h

-- no symbol outside the table is of one class with a symbol of the table
inside : (l : Language) → Classed l → (s r : ℕ) → l ⊢ s ∼ r → r < length l.table → s < length l.table
inside l (inl e) s r h k =
    let own : (n : ℕ) → class_of l.classes n ≡ n = λ n. class_none l.classes n (omega (arith, ap length e)) in
    omega (arith, h, own s, own r)
inside l (inr c) s r h k = go (ltb s (length l.table)) refl
  where
    go : (m : Bool) → ltb s (length l.table) ≡ m → s < length l.table
    go true z = ltb-true s (length l.table) z
    go false z =
        let d = (classes_exactly l.table l.classes).0 c in
        let out = ltb-false s (length l.table) z in
        omega (arith, h, class_none l.classes s (omega (arith, d.as_long)), d.lowest r k)

-- where the children of nodes of one class stand, lists or not

abbrev StandAlike : Language → Option ℕ → Option ℕ → Type 0
StandAlike l (Some s) (Some r) = l ⊢ s ∼ r
StandAlike l (Some s) None = ⊥
StandAlike l None (Some r) = ⊥
StandAlike l None None = Unit {0}

stands_alike : (l : Language) (s r : ℕ) → l ⊢ s ∼ r → is_list l.table s ≡ is_list l.table r
    → StandAlike l (stand_in l.table (Symbol s)) (stand_in l.table (Symbol r))
stands_alike l s r h e = go (is_list l.table s) (is_list l.table r) e
  where
    go : (b d : Bool) → b ≡ d → StandAlike l (cond b (Some s) None) (cond d (Some r) None)
    go true true e = h
    go true false e = absurd (false≢true (sym e))
    go false true e = absurd (false≢true e)
    go false false e = tt

spliced_alike : (l : Language) (edition : Edition) (x y z w : (Option ℕ)) → StandAlike l x y → StandAlike l z w
    → unspliced edition l.classes x z ≡ unspliced edition l.classes y w
spliced_alike l One x y z w h k = refl
spliced_alike l Two (Some s) (Some r) (Some p) (Some q) h k = ap₂ eqb h k
spliced_alike l Two (Some s) (Some r) (Some p) None h k = absurd k
spliced_alike l Two (Some s) (Some r) None (Some q) h k = absurd k
spliced_alike l Two (Some s) (Some r) None None h k = refl
spliced_alike l Two (Some s) None z w h k = absurd h
spliced_alike l Two None (Some r) z w h k = absurd h
spliced_alike l Two None None z w h k = refl

module _ (l : Language) (c : Classed l) where
  mutual
    same_over : (u t : Term) → l ⊢ u ≈ t → Over l.table t → Over l.table u
    same_over (node s us) (node r ts) h g =
        let a = node_open l s r us ts h in
        let e = entry_alike l.table l.classes (alike l c) s r a.0 in (
          inside l c s r a.0 g.0,
          λ n. same_counts l.classes us ts a.1 ∙ g.1 (ap (λ (b : ℕ). eqb b list) (sym e) ∙ n) ∙ sym e,
          same_all_over us ts a.1 g.2,
        )

    same_all_over : (us ts : Terms) → l ⊢ us ≋ ts → OverAll l.table ts → OverAll l.table us
    same_all_over nil ts h g = tt
    same_all_over (u :: us) nil h g = let z = same_counts l.classes (u :: us) nil h in absurd (omega arith)
    same_all_over (u :: us) (t :: ts) h g = let a = cons_open l u t us ts h in (same_over u t a.0 g.0, same_all_over us ts a.1 g.1)

  mutual
    same_spliced : (x y : (Option ℕ)) → StandAlike l x y → (u t : Term) → l ⊢ u ≈ t → SplicedAt l y (term_tree t) → SplicedAt l x (term_tree u)
    same_spliced x y k (node s us) (node r ts) h g =
        let a = node_open l s r us ts h in
        let e = entry_alike l.table l.classes (alike l c) s r a.0 in
        let z = stands_alike l s r a.0 (ap (λ (b : ℕ). eqb b list) e) in (
          spliced_alike l l.edition x y (stand_in l.table (Symbol s)) (stand_in l.table (Symbol r)) k z ∙ g.0,
          same_all_spliced (stand_in l.table (Symbol s)) (stand_in l.table (Symbol r)) z us ts a.1 g.1,
        )

    same_all_spliced : (x y : (Option ℕ)) → StandAlike l x y → (us ts : Terms) → l ⊢ us ≋ ts → SplicedAll l y (term_trees ts) → SplicedAll l x (term_trees us)
    same_all_spliced x y k nil ts h g = tt
    same_all_spliced x y k (u :: us) nil h g = let z = same_counts l.classes (u :: us) nil h in absurd (omega arith)
    same_all_spliced x y k (u :: us) (t :: ts) h g =
        let a = cons_open l u t us ts h in (same_spliced x y k u t a.0 g.0, same_all_spliced x y k us ts a.1 g.1)

  pub same_of : (u t : Term) → l ⊢ u ≈ t → TermOf l t → TermOf l u
  same_of u t h g = (same_over u t h g.0, same_spliced None None tt u t h g.1)

  same_all_of : (us ts : Terms) → l ⊢ us ≋ ts → TermsOf l ts → TermsOf l us
  same_all_of nil ts h g = tt
  same_all_of (u :: us) nil h g = let z = same_counts l.classes (u :: us) nil h in absurd (omega arith)
  same_all_of (u :: us) (t :: ts) h g = let a = cons_open l u t us ts h in (same_of u t a.0 g.0, same_all_of us ts a.1 g.1)

  -- a variable is assigned terms of the language
  abbrev Of : Assignment → ℕ → Type 0
  Of a v = (w : Terms) × TermsOf l w × (a v ≡ Some w)

  next : (a : Assignment) (u v : ℕ) (vs : List ℕ) → Of a u → among v (u ∷ vs) ≡ true → (among v vs ≡ true → Of a v) → Of a v
  next a u v vs o m f = go (eqb u v) refl m
    where
      go : (b : Bool) → eqb u v ≡ b → cond b true (among v vs) ≡ true → Of a v
      go true e m = subst (Of a) (eqb-true u v e) o
      go false e m = f m

  -- every variable outside complements is, whatever terms there are
  module _ (There : Terms → Type 0) where
    mutual
      holds_of : (q : Pattern) (a : Assignment) (t : Term) (vs : List ℕ) (v : ℕ) → TermOf l t → Holds l There q a t
          → among v (vars q vs) ≡ true → (among v vs ≡ true → Of a v) → Of a v
      holds_of (name u) a t vs v g h m f = next a u v vs (single h.0, (same_of h.0 t h.2 g, tt), h.1) m f
      holds_of (symbol s qs) a (node r ts) vs v g h m f = hold_all_of qs a ts vs v (children_of_holds l r ts g) h.1 m f
      holds_of (complement q) a t vs v g h m f = f m

      hold_all_of : (qs : Children) (a : Assignment) (ts : Terms) (vs : List ℕ) (v : ℕ) → TermsOf l ts → HoldAll l There qs a ts
          → among v (vars_all qs vs) ≡ true → (among v vs ≡ true → Of a v) → Of a v
      hold_all_of end a ts vs v g h m f = f m
      hold_all_of (plain q qs) a nil vs v g h m f = absurd h
      hold_all_of (plain q qs) a (t :: ts) vs v g h m f =
          holds_of q a t (vars_all qs vs) v g.0 h.0 m (λ n. hold_all_of qs a ts vs v g.1 h.1 n f)
      hold_all_of (run u qs) a ts vs v g h m f =
          let d = of_split l h.1 h.2 (subst (TermsOf l) h.5 g) in
          next a u v (vars_all qs vs) (h.0, same_all_of h.0 h.1 h.4 d.0, h.3) m
          (λ n. hold_all_of qs a h.2 vs v d.1 h.6 n f)

  -- there are the terms of the language, and maybe others
  abbrev Enough : (Terms → Type 0) → Type 0
  Enough There = (w : Terms) → TermsOf l w → There w

  extends_over : (There Here : Terms → Type 0) → Enough Here → (q : Pattern) (a b : Assignment) (t : Term) → TermOf l t → Holds l There q b t
      → Extends There a (free q) b → Extends Here a (free q) b
  unfolding Extends
  extends_over There Here here q a b t g h x v = go (a v) (among v (free q)) (x v) (λ m. holds_of There q b t [] v g h m (λ n. absurd (false≢true n)))
    where
      go : (o : Option Terms) (m : Bool) → ExtendsAt There o m (b v) → (m ≡ true → Of b v) → ExtendsAt Here o m (b v)
      go (Some w) m y f = y
      go None true y f = let o = f refl in (o.0, here o.0 o.1, o.2)
      go None false y f = y

  -- the pattern holds over the ones if it does over the others; within a complement the other way round
  mutual
    holds_over : (There Here : Terms → Type 0) → Enough There → Enough Here → (q : Pattern) (a : Assignment) (t : Term) → TermOf l t
        → Holds l There q a t → Holds l Here q a t
    holds_over There Here there here (name v) a t g h = h
    holds_over There Here there here (symbol s qs) a (node r ts) g h = (h.0, hold_all_over There Here there here qs a ts (children_of_holds l r ts g) h.1)
    holds_over There Here there here (complement q) a t g n = λ b x h.
        n b (extends_over Here There there q a b t g h x) (holds_over Here There here there q b t g h)

    hold_all_over : (There Here : Terms → Type 0) → Enough There → Enough Here → (qs : Children) (a : Assignment) (ts : Terms) → TermsOf l ts
        → HoldAll l There qs a ts → HoldAll l Here qs a ts
    hold_all_over There Here there here end a ts g h = h
    hold_all_over There Here there here (plain q qs) a nil g h = h
    hold_all_over There Here there here (plain q qs) a (t :: ts) g h =
        (holds_over There Here there here q a t g.0 h.0, hold_all_over There Here there here qs a ts g.1 h.1)
    hold_all_over There Here there here (run v qs) a ts g h =
        let d = of_split l h.1 h.2 (subst (TermsOf l) h.5 g) in
        (h.0, h.1, h.2, h.3, h.4, h.5, hold_all_over There Here there here qs a h.2 d.1 h.6)

  pub satisfies_over : (There Here : Terms → Type 0) → Enough There → Enough Here → (q : Pattern) (t : Term) (a : Assignment) → TermOf l t
      → SatisfiesOver l There q t a → SatisfiesOver l Here q t a
  satisfies_over There Here there here q t a g s = record {
    exact = extends_over There Here here q _ a t g s.holds s.exact;
    holds = holds_over There Here there here q a t g s.holds;
  }
