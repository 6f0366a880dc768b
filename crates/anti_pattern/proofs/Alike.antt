-- To be the same in a language is an equivalence, of terms, of runs and of assignments; and a pattern holds under the one if it holds under the other.
use Prim.Native.Nat.{ℕ}
use mathlib.Core.Path.{◌≡◌, refl, sym, ◌∙◌, ap, subst}
use mathlib.Core.List.{List}
use mathlib.Core.Bool.{Bool, false≢true}
use lib.Dec.{eqb}
use borrow.Author.Tests.{eqb-true, eq-eqb}
use Rattle.term.specs.Class.{class_of}
use Rattle.term.specs.Pattern.{Pattern, name, symbol, complement, Children, end, plain, run}
use Rattle.term.specs.Same.{same_term, same_terms}
use Rattle.term.specs.Term.{Term, node, Terms, nil, ◌::◌, ◌⧺◌, single, term_tree, term_trees}
use Rattle.term.specs.Splicing.{stand_in, SplicedAll}
use Rattle.term.specs.declared.Code.TheVariants.{Symbol}
use Rattle.term.proofs.Splicing.{spliced_elsewhere}
use Rattle.term.proofs.SameParts.{and_true, same_term_holds, same_terms_holds, same_counts}
use Rattle.anti_pattern.specs.Language.{Language, OverAll, TermOf, TermsOf, ◌⊢◌∼◌, ◌⊢◌≈◌, ◌⊢◌≋◌}
use Rattle.anti_pattern.specs.Meaning.{Assignment, ExtendsAt, Extends, Holds, HoldAll, OneAt, CountAsOne}
use Rattle.anti_pattern.specs.Order.{length_of}
use Rattle.anti_pattern.specs.Variables.{free, among}
use Rattle.anti_pattern.proofs.Facts.{none_some, some_same}
use Rattle.std.specs.Prelude.{Option, Some, None}

module _ (l : Language) where
  -- nodes and sequences, part by part

  pub node_open : (s r : ℕ) (ts us : Terms) → l ⊢ node s ts ≈ node r us → (l ⊢ s ∼ r) × (l ⊢ ts ≋ us)
  node_open s r ts us h =
      let a = and_true (eqb (class_of l.classes s) (class_of l.classes r)) (same_terms l.classes ts us) h in
      (eqb-true (class_of l.classes s) (class_of l.classes r) a.0, a.1)

  pub node_same : (s r : ℕ) (ts us : Terms) → l ⊢ s ∼ r → l ⊢ ts ≋ us → l ⊢ node s ts ≈ node r us
  node_same s r ts us e h = rw (eq-eqb (class_of l.classes s) (class_of l.classes r) e) h

  pub cons_open : (t u : Term) (ts us : Terms) → l ⊢ t :: ts ≋ u :: us → (l ⊢ t ≈ u) × (l ⊢ ts ≋ us)
  cons_open t u ts us h = and_true (same_term l.classes t u) (same_terms l.classes ts us) h

  pub cons_same : (t u : Term) (ts us : Terms) → l ⊢ t ≈ u → l ⊢ ts ≋ us → l ⊢ t :: ts ≋ u :: us
  cons_same t u ts us e h = rw e h

  mutual
    pub term_sym : (t u : Term) → l ⊢ t ≈ u → l ⊢ u ≈ t
    term_sym (node s ts) (node r us) h = let a = node_open s r ts us h in node_same r s us ts (sym a.0) (run_sym ts us a.1)

    pub run_sym : (ts us : Terms) → l ⊢ ts ≋ us → l ⊢ us ≋ ts
    run_sym nil nil h = refl
    run_sym nil (u :: us) h = h
    run_sym (t :: ts) nil h = h
    run_sym (t :: ts) (u :: us) h = let a = cons_open t u ts us h in cons_same u t us ts (term_sym t u a.0) (run_sym ts us a.1)

  mutual
    pub term_trans : (t u v : Term) → l ⊢ t ≈ u → l ⊢ u ≈ v → l ⊢ t ≈ v
    term_trans (node s ts) (node r us) (node p vs) h k =
        let a = node_open s r ts us h in let b = node_open r p us vs k in node_same s p ts vs (a.0 ∙ b.0) (run_trans ts us vs a.1 b.1)

    pub run_trans : (ts us vs : Terms) → l ⊢ ts ≋ us → l ⊢ us ≋ vs → l ⊢ ts ≋ vs
    run_trans nil nil vs h k = k
    run_trans nil (u :: us) vs h k = absurd (false≢true h)
    run_trans (t :: ts) nil vs h k = absurd (false≢true h)
    run_trans (t :: ts) (u :: us) nil h k = k
    run_trans (t :: ts) (u :: us) (v :: vs) h k =
        let a = cons_open t u ts us h in let b = cons_open u v us vs k in cons_same t v ts vs (term_trans t u v a.0 b.0) (run_trans ts us vs a.1 b.1)

  pub term_eq : (t u : Term) → t ≡ u → l ⊢ t ≈ u
  term_eq t u e = subst (λ (v : Term). l ⊢ t ≈ v) e (same_term_holds l.classes t)

  -- a run of one
  pub single_same : (t u : Term) → l ⊢ t ≈ u → l ⊢ single t ≋ single u
  single_same t u h = cons_same t u nil nil h refl

  pub single_open : (x : Terms) (t : Term) → l ⊢ x ≋ single t → (u : Term) × (x ≡ single u) × (l ⊢ u ≈ t)
  single_open nil t h = absurd (false≢true h)
  single_open (u :: nil) t h = (u, refl, (cons_open u t nil nil h).0)
  single_open (u :: (y :: ys)) t h = absurd (false≢true (cons_open u t (y :: ys) nil h).1)

  -- what is assigned

  pub one_refl : (o : Option Terms) → OneAt l o o
  one_refl None = tt
  one_refl (Some w) = same_terms_holds l.classes w

  pub one_sym : (o p : Option Terms) → OneAt l o p → OneAt l p o
  one_sym None None h = h
  one_sym None (Some x) h = h
  one_sym (Some w) None h = h
  one_sym (Some w) (Some x) h = run_sym w x h

  pub one_trans : (o p q : Option Terms) → OneAt l o p → OneAt l p q → OneAt l o q
  one_trans None None q h k = k
  one_trans None (Some x) q h k = absurd h
  one_trans (Some w) None q h k = absurd h
  one_trans (Some w) (Some x) None h k = k
  one_trans (Some w) (Some x) (Some y) h k = run_trans w x y h k

  pub one_length : (o p : Option Terms) → OneAt l o p → length_of o ≡ length_of p
  one_length None None h = refl
  one_length None (Some x) h = absurd h
  one_length (Some w) None h = absurd h
  one_length (Some w) (Some x) h = same_counts l.classes w x h

  one_some : (o p : Option Terms) (w : Terms) → OneAt l o p → o ≡ Some w → (x : Terms) × (p ≡ Some x) × (l ⊢ x ≋ w)
  one_some None p w h e = absurd (none_some e)
  one_some (Some y) None w h e = absurd h
  one_some (Some y) (Some x) w h e = (x, refl, run_sym w x (subst (λ (z : Terms). l ⊢ z ≋ x) (some_same e) h))

  pub some_one : (o p : Option Terms) (w x : Terms) → o ≡ Some w → p ≡ Some x → l ⊢ w ≋ x → OneAt l o p
  some_one o p w x e f h =
      subst (λ (y : Option Terms). OneAt l y p) (sym e) (subst (λ (y : Option Terms). OneAt l (Some w) y) (sym f) h)

  -- assignments that count as one are extended to such

  abbrev kept : Option Terms → Option Terms → Option Terms
  kept (Some x) o = Some x
  kept None o = o

  extends_one : (a b : Assignment) (vs : List ℕ) (c : Assignment) → CountAsOne l a b → Extends (TermsOf l) a vs c
      → (d : Assignment) × Extends (TermsOf l) b vs d × CountAsOne l c d
  unfolding Extends
  extends_one a b vs c e x =
      (λ v. kept (b v) (c v), λ v. (go (a v) (b v) (among v vs) (c v) (e v) (x v)).0, λ v. (go (a v) (b v) (among v vs) (c v) (e v) (x v)).1)
    where
      go : (o p : Option Terms) (m : Bool) (r : Option Terms) → OneAt l o p → ExtendsAt (TermsOf l) o m r → ExtendsAt (TermsOf l) p m (kept p r) × OneAt l r (kept p r)
      go None None m r e x = (x, one_refl r)
      go None (Some y) m r e x = absurd e
      go (Some w) None m r e x = absurd e
      go (Some w) (Some y) m r e x = (refl, subst (λ (z : Option Terms). OneAt l z (Some y)) (sym x) e)

  -- the pattern holds under the one if it does under the other
  mutual
    pub holds_one : (q : Pattern) (a b : Assignment) (t : Term) → CountAsOne l a b → Holds l (TermsOf l) q a t → Holds l (TermsOf l) q b t
    holds_one (name v) a b t e h =
        let x = one_some (a v) (b v) (single h.0) (e v) h.1 in
        let u = single_open x.0 h.0 x.2 in
        (u.0, x.1 ∙ ap Some u.1, term_trans u.0 h.0 t u.2 h.2)
    holds_one (symbol s qs) a b (node r ts) e h = (h.0, hold_all_one qs a b ts e h.1)
    holds_one (complement q) a b t e n = λ c x h.
        let d = extends_one b a (free q) c (λ v. one_sym (a v) (b v) (e v)) x in n d.0 d.1 (holds_one q c d.0 t d.2 h)

    pub hold_all_one : (qs : Children) (a b : Assignment) (ts : Terms) → CountAsOne l a b → HoldAll l (TermsOf l) qs a ts → HoldAll l (TermsOf l) qs b ts
    hold_all_one end a b ts e h = h
    hold_all_one (plain q qs) a b nil e h = h
    hold_all_one (plain q qs) a b (t :: ts) e h = (holds_one q a b t e h.0, hold_all_one qs a b ts e h.1)
    hold_all_one (run v qs) a b ts e h =
        let x = one_some (a v) (b v) h.0 (e v) h.3 in
        (x.0, h.1, h.2, x.1, run_trans x.0 h.0 h.1 x.2 h.4, h.5, hold_all_one qs a b h.2 e h.6)

-- the terms of a run are of the language, in front and behind
pub of_join : (l : Language) (x us : Terms) → TermsOf l x → TermsOf l us → TermsOf l (x ⧺ us)
of_join l nil us g h = h
of_join l (t :: x) us g h = (g.0, of_join l x us g.1 h)

pub of_split : (l : Language) (x us : Terms) → TermsOf l (x ⧺ us) → TermsOf l x × TermsOf l us
of_split l nil us g = (tt, g)
of_split l (t :: x) us g = let r = of_split l x us g.1 in ((g.0, r.0), r.1)

-- the children of a term of the language are
each_of : (l : Language) (stand : (Option ℕ)) (ts : Terms) → OverAll l.table ts → SplicedAll l stand (term_trees ts) → TermsOf l ts
each_of l stand nil o h = tt
each_of l stand (t :: ts) o h = ((o.0, spliced_elsewhere l stand (term_tree t) h.0), each_of l stand ts o.1 h.1)

pub children_of_holds : (l : Language) (s : ℕ) (ts : Terms) → TermOf l (node s ts) → TermsOf l ts
children_of_holds l s ts g = each_of l (stand_in l.table (Symbol s)) ts g.0.2 g.1.1
