-- A result is within the limits exactly if it is an accepted record.
use Prim.Native.Nat.{ℕ, ◌-◌, ◌≤◌}
use mathlib.Core.Path.{◌≡◌, refl, sym, subst}
use mathlib.Core.List.{List}
use mathlib.Core.Bool.{Bool, true, false, cond, ◌&&◌}
use mathlib.Core.Logic.{◌↔◌}
use lib.Dec.{ltb, leb}
use lib.ListN.{get_or}
use borrow.Author.Tests.{ltb-true, lt-ltb, leb-true, le-leb}
use Rattle.term.specs.Table.{is_list}
use Rattle.term.specs.Tree.{list_code}
use Rattle.term.specs.Term.{Term, Terms, node, nil, ◌::◌, count, size, term_tree, term_trees}
use Rattle.term.specs.Limits.{Written, Counted, Shape, Fits, FitAll, TermAccepted}
use Rattle.term.proofs.Sizes.{number_terms, term_size}
use Rattle.term.proofs.SameParts.{and_true}
use Rattle.anti_pattern.specs.Language.{Language, Over, OverAll, TermOf}
use Rattle.replace.specs.Growth.{nests, nest_all, narrow, narrow_all, within_limits}

pub and_both : (a b : Bool) → a ≡ true → b ≡ true → (a && b) ≡ true
and_both a b g h = rw (g, h)

counted_of : (l : Bool) (n k : ℕ) → (l ≡ false → n ≡ k) → cond l (leb n 255) true ≡ true → Counted l n k
counted_of true n k f h = leb-true n 255 h
counted_of false n k f h = f refl

of_counted : (l : Bool) (n k : ℕ) → Counted l n k → cond l (leb n 255) true ≡ true
of_counted true n k c = le-leb n 255 c
of_counted false n k c = refl

module _ (l : Language) where
  abbrev table : List ℕ
  table = l.table

  mutual
    unfolding Fits Written Shape list_code

    pub over_fits : (u : Term) (left : ℕ) (in_list : Bool) → Over table u → nests left u ≡ true → narrow table u ≡ true
        → Fits table true (term_tree u) left in_list
    over_fits (node s ts) left in_list o n w =
        let x = and_true (ltb 0 left) (nest_all (left - 1) ts) n in
        let y = and_true (cond (is_list table s) (leb (count ts) 255) true) (narrow_all table ts) w in (
          ltb-true 0 left x.0,
          tt,
          (o.0, subst (λ (k : ℕ). Counted (is_list table s) k (get_or table s 0)) (sym (number_terms ts)) (counted_of (is_list table s) (count ts) (get_or table s 0) o.1 y.0)),
          all_fit ts (left - 1) (is_list table s) o.2 x.1 y.1,
        )

    all_fit : (ts : Terms) (left : ℕ) (in_list : Bool) → OverAll table ts → nest_all left ts ≡ true → narrow_all table ts ≡ true
        → FitAll table true (term_trees ts) left in_list
    all_fit nil left in_list o n w = tt
    all_fit (t :: ts) left in_list o n w =
        let x = and_true (nests left t) (nest_all left ts) n in
        let y = and_true (narrow table t) (narrow_all table ts) w in
        (over_fits t left in_list o.0 x.0 y.0, all_fit ts left in_list o.1 x.1 y.1)

  mutual
    unfolding Fits Written Shape list_code

    pub fits_nests : (u : Term) (left : ℕ) (in_list : Bool) → Fits table true (term_tree u) left in_list → nests left u ≡ true
    fits_nests (node s ts) left in_list f = and_both (ltb 0 left) (nest_all (left - 1) ts) (lt-ltb 0 left f.0) (all_nest ts (left - 1) (is_list table s) f.3)

    all_nest : (ts : Terms) (left : ℕ) (in_list : Bool) → FitAll table true (term_trees ts) left in_list → nest_all left ts ≡ true
    all_nest nil left in_list f = refl
    all_nest (t :: ts) left in_list f = and_both (nests left t) (nest_all left ts) (fits_nests t left in_list f.0) (all_nest ts left in_list f.1)

  mutual
    unfolding Fits Written Shape list_code

    pub fits_narrow : (u : Term) (left : ℕ) (in_list : Bool) → Fits table true (term_tree u) left in_list → narrow table u ≡ true
    fits_narrow (node s ts) left in_list f =
        and_both (cond (is_list table s) (leb (count ts) 255) true) (narrow_all table ts)
        (of_counted (is_list table s) (count ts) (get_or table s 0) (subst (λ (k : ℕ). Counted (is_list table s) k (get_or table s 0)) (number_terms ts) f.2.1))
        (all_narrow_holds ts (left - 1) (is_list table s) f.3)

    pub all_narrow_holds : (ts : Terms) (left : ℕ) (in_list : Bool) → FitAll table true (term_trees ts) left in_list → narrow_all table ts ≡ true
    all_narrow_holds nil left in_list f = refl
    all_narrow_holds (t :: ts) left in_list f = and_both (narrow table t) (narrow_all table ts) (fits_narrow t left in_list f.0) (all_narrow_holds ts left in_list f.1)

  -- a term of the language is within the limits exactly if it is accepted as a record
  pub within_accepted : (u : Term) → TermOf l u → (within_limits table u ≡ true) ↔ TermAccepted l u
  unfolding within_limits
  within_accepted u o = (to, from)
    where
      to : leb (size table u) 4096 && (nests 32 u && narrow table u) ≡ true → TermAccepted l u
      to h =
          let x = and_true (leb (size table u) 4096) (nests 32 u && narrow table u) h in
          let y = and_true (nests 32 u) (narrow table u) x.1 in
          record { short = subst (λ (n : ℕ). n ≤ 4096) (sym (term_size table u)) (leb-true (size table u) 4096 x.0); fits = over_fits u 32 false o.0 y.0 y.1; spliced = o.1 }

      from : TermAccepted l u → leb (size table u) 4096 && (nests 32 u && narrow table u) ≡ true
      from h =
          and_both (leb (size table u) 4096) (nests 32 u && narrow table u)
          (le-leb (size table u) 4096 (subst (λ (n : ℕ). n ≤ 4096) (term_size table u) h.short))
          (and_both (nests 32 u) (narrow table u) (fits_nests u 32 false h.fits) (fits_narrow u 32 false h.fits))

  -- within the limits, 4,096 bytes are room enough
  pub within_room : (u : Term) → within_limits table u ≡ true → size table u ≤ 4096
  unfolding within_limits
  within_room u h = leb-true (size table u) 4096 (and_true (leb (size table u) 4096) (nests 32 u && narrow table u) h).0
