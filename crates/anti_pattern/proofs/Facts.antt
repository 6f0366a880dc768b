-- Laws of equal terms, and of sequences of terms.
use Prim.Native.Nat.{ℕ, suc, ◌+◌, ◌≤◌}
use mathlib.Core.Path.{◌≡◌, refl, sym, ◌∙◌, ap, subst}
use mathlib.Core.Bool.{Bool, true, false, cond, false≢true, not-eq-not}
use mathlib.Core.List.{List}
use native.Mathlib.Omega.{arith}
use native.Mathlib.Nat.{zero-add, suc-add}
use lib.Dec.{eqb}
use borrow.Author.Tests.{eq-eqb}
use Rattle.term.specs.Same.{same_term, same_terms}
use Rattle.term.specs.Term.{Term, Terms, nil, ◌::◌, ◌⧺◌, count, single}
use Rattle.term.proofs.SameParts.{and_true, same_counts}
use Rattle.anti_pattern.specs.Search.{behind}
use Rattle.std.specs.Prelude.{Some, None}

pub eqb_same : (n : ℕ) → eqb n n ≡ true
eqb_same n = eq-eqb n n refl

-- sequences

pub join_nil : (w : Terms) → w ⧺ nil ≡ w
join_nil nil = refl
join_nil (t :: w) = ap (t ::◌) (join_nil w)

pub join_one : (w : Terms) (t : Term) (x : Terms) → (w ⧺ single t) ⧺ x ≡ w ⧺ (t :: x)
join_one nil t x = refl
join_one (u :: w) t x = ap (u ::◌) (join_one w t x)

pub count_join : (w x : Terms) → count (w ⧺ x) ≡ count w + count x
count_join nil x = sym (zero-add (count x))
count_join (t :: w) x = ap suc (count_join w x) ∙ sym (suc-add (count w) (count x))

-- as many elements from the start of a sequence
pub cut : (w ts : Terms) → count w ≤ count ts → (x : Terms) × (us : Terms) × (ts ≡ x ⧺ us) × (count w ≡ count x)
cut nil ts h = (nil, ts, refl, refl)
cut (t :: w) nil h = absurd (omega arith)
cut (t :: w) (u :: ts) h = let r = cut w ts (omega arith) in (u :: r.0, r.1, ap (u ::◌) r.2, omega (arith, r.3))

one_term : (w : Terms) → count w ≡ 1 → (t : Term) × (w ≡ single t)
one_term nil h = absurd (omega arith)
one_term (t :: nil) h = (t, refl)
one_term (t :: (u :: w)) h = absurd (omega arith)

pub head_same : {t u : Term} {ts us : Terms} → t :: ts ≡ u :: us → t ≡ u
head_same h = cc

pub tail_same : {t u : Term} {ts us : Terms} → t :: ts ≡ u :: us → ts ≡ us
tail_same h = cc

pub nil_cons : {t : Term} {ts : Terms} → nil ≡ t :: ts → ⊥
nil_cons h = let z : ◌≡◌ {A = ℕ} 0 1 = cc in omega arith

pub none_some : {w : Terms} → None ≡ Some w → ⊥
none_some h = let z : ◌≡◌ {A = ℕ} 0 1 = cc in omega arith

pub some_same : {x y : Terms} → Some x ≡ Some y → x ≡ y
some_same h = cc

-- what is left behind a run, up to class

module _ (classes : List ℕ) where
  pub behind_alike : (w ts us : Terms) → behind classes w ts ≡ Some us → (x : Terms) × (ts ≡ x ⧺ us) × (same_terms classes w x ≡ true)
  unfolding behind
  behind_alike nil ts us h = (nil, cc, refl)
  behind_alike (x :: w) nil us h = absurd (none_some h)
  behind_alike (x :: w) (t :: ts) us h = go (same_term classes x t) refl h (behind_alike w ts us)
    where
      go : (m : Bool) → same_term classes x t ≡ m → cond m (behind classes w ts) None ≡ Some us
          → (behind classes w ts ≡ Some us → (y : Terms) × (ts ≡ y ⧺ us) × (same_terms classes w y ≡ true))
          → (y : Terms) × (t :: ts ≡ y ⧺ us) × (same_terms classes (x :: w) y ≡ true)
      go true e h r = let s = r h in (t :: s.0, ap (t ::◌) s.1, rw e s.2)
      go false e h r = absurd (none_some h)

  pub alike_behind : (w x us : Terms) → same_terms classes w x ≡ true → behind classes w (x ⧺ us) ≡ Some us
  unfolding behind
  alike_behind nil nil us h = refl
  alike_behind nil (y :: x) us h = absurd (false≢true h)
  alike_behind (t :: w) nil us h = absurd (false≢true h)
  alike_behind (t :: w) (y :: x) us h =
      let a = and_true (same_term classes t y) (same_terms classes w x) h in rw a.0 (alike_behind w x us a.1)

  -- one element against the next

  module _ (w : Terms) (t : Term) (ts : Terms) where
    pub one_behind : (us : Terms) → count w ≡ 1 → behind classes w (t :: ts) ≡ Some us → (same_terms classes w (single t) ≡ true) × (ts ≡ us)
    one_behind us h b =
        let s = behind_alike w (t :: ts) us b in
        let o = one_term s.0 (sym (same_counts classes w s.0 s.2) ∙ h) in
        let z : t :: ts ≡ o.0 :: us = s.1 ∙ ap (λ (x : Terms). x ⧺ us) o.1 in
        (subst (λ (x : Terms). same_terms classes w x ≡ true) (o.1 ∙ ap single (sym (head_same z))) s.2, tail_same z)

    pub none_behind : behind classes w (t :: ts) ≡ None → same_terms classes w (single t) ≡ false
    none_behind b = (not-eq-not {b = false}).0 (λ e. none_some (sym b ∙ alike_behind w (single t) ts e))
