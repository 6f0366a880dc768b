-- Laws of the extensions of an assignment: the same for names and for run names.
use Prim.Native.Nat.{ℕ}
use mathlib.Core.Path.{◌≡◌, refl, sym, subst, fun_ext}
use mathlib.Core.List.{List, [], ◌∷◌}
use mathlib.Core.Bool.{Bool, true, false, cond}
use lib.Dec.{eqb}
use Rattle.term.specs.Term.{Terms}
use Rattle.anti_pattern.specs.Language.{Language, TermsOf}
use Rattle.anti_pattern.specs.Meaning.{Assignment, ExtendsAt, Extends}
use Rattle.anti_pattern.specs.Search.{update}
use Rattle.anti_pattern.specs.Variables.{among}
use borrow.Author.Tests.{eqb-true}
use Rattle.anti_pattern.proofs.Facts.{eqb_same}
use Rattle.std.specs.Prelude.{Option, Some, None}

module _ (l : Language) where
  pub extends_refl : (a : Assignment) → Extends (TermsOf l) a [] a
  unfolding Extends
  extends_refl a i = go (a i)
    where
      go : (o : Option Terms) → ExtendsAt (TermsOf l) o false o
      go None = refl
      go (Some w) = refl

  pub extends_nil : (a b : Assignment) → Extends (TermsOf l) a [] b → a ≡ b
  unfolding Extends
  extends_nil a b x = fun_ext (λ i. go (a i) (b i) (x i))
    where
      go : (o p : Option Terms) → ExtendsAt (TermsOf l) o false p → o ≡ p
      go None p h = sym h
      go (Some w) p h = sym h

  -- what is assigned stays
  pub extends_at : (a b : Assignment) (vs : List ℕ) (v : ℕ) (w : Terms) → a v ≡ Some w → Extends (TermsOf l) a vs b → b v ≡ Some w
  unfolding Extends
  extends_at a b vs v w e x = subst (λ (o : Option Terms). ExtendsAt (TermsOf l) o (among v vs) (b v)) e (x v)

  -- a variable that is assigned already may stand in the list or not
  module _ (a b : Assignment) (vs : List ℕ) (v : ℕ) (w : Terms) (e : a v ≡ Some w) where
    any : (i : ℕ) (m n : Bool) → v ≡ i → ExtendsAt (TermsOf l) (a i) m (b i) → ExtendsAt (TermsOf l) (a i) n (b i)
    any i m n p h =
        let q : a i ≡ Some w = subst (λ (j : ℕ). a j ≡ Some w) p e in
        subst (λ (o : Option Terms). ExtendsAt (TermsOf l) o n (b i)) (sym q) (subst (λ (o : Option Terms). ExtendsAt (TermsOf l) o m (b i)) q h)

    pub extends_add : Extends (TermsOf l) a vs b → Extends (TermsOf l) a (v ∷ vs) b
    unfolding Extends
    extends_add x i = go (eqb v i) refl
      where
        go : (m : Bool) → eqb v i ≡ m → ExtendsAt (TermsOf l) (a i) (cond m true (among i vs)) (b i)
        go true p = any i (among i vs) true (eqb-true v i p) (x i)
        go false p = x i

    pub extends_drop : Extends (TermsOf l) a (v ∷ vs) b → Extends (TermsOf l) a vs b
    unfolding Extends
    extends_drop x i = go (eqb v i) refl (x i)
      where
        go : (m : Bool) → eqb v i ≡ m → ExtendsAt (TermsOf l) (a i) (cond m true (among i vs)) (b i) → ExtendsAt (TermsOf l) (a i) (among i vs) (b i)
        go true p h = any i true (among i vs) (eqb-true v i p) h
        go false p h = h

  -- to assign a variable of the list is to extend what is so assigned
  module _ (a b : Assignment) (vs : List ℕ) (v : ℕ) (w : Terms) where
    pub extends_set : Extends (TermsOf l) a (v ∷ vs) b → Extends (TermsOf l) (update a v (Some w)) vs (update b v (Some w))
    unfolding Extends
    extends_set x i = go (eqb v i) (x i)
      where
        go : (m : Bool) → ExtendsAt (TermsOf l) (a i) (cond m true (among i vs)) (b i) → ExtendsAt (TermsOf l) (cond m (Some w) (a i)) (among i vs) (cond m (Some w) (b i))
        go true y = refl
        go false y = y

    pub extends_unbind : a v ≡ None → TermsOf l w → Extends (TermsOf l) (update a v (Some w)) vs b → Extends (TermsOf l) a (v ∷ vs) b
    unfolding Extends
    extends_unbind e g x i = go (eqb v i) refl (x i)
      where
        go : (m : Bool) → eqb v i ≡ m → ExtendsAt (TermsOf l) (cond m (Some w) (a i)) (among i vs) (b i) → ExtendsAt (TermsOf l) (a i) (cond m true (among i vs)) (b i)
        go true p y = subst (λ (o : Option Terms). ExtendsAt (TermsOf l) o true (b i)) (sym (subst (λ (j : ℕ). a j ≡ None) (eqb-true v i p) e)) (w, g, y)
        go false p y = y

    pub extends_bound : Extends (TermsOf l) (update a v (Some w)) vs b → b v ≡ Some w
    unfolding Extends
    extends_bound x = subst (λ (m : Bool). ExtendsAt (TermsOf l) (cond m (Some w) (a v)) (among v vs) (b v)) (eqb_same v) (x v)
