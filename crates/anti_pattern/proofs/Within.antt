-- The term of an accepted record is of the language.
use Prim.Native.Nat.{ℕ}
use mathlib.Core.Path.{◌≡◌, sym, ◌∙◌, subst}
use mathlib.Core.List.{List}
use mathlib.Core.Bool.{Bool, true, false}
use lib.ListN.{get_or}
use Rattle.term.specs.Limits.{Fits, FitAll, Shape, Counted, nesting, TermAccepted}
use Rattle.term.specs.Table.{is_list}
use Rattle.term.specs.Term.{Term, Terms, node, nil, ◌::◌, term_tree, term_trees}
use Rattle.term.specs.Tree.{number}
use Rattle.term.proofs.Sizes.{number_terms}
use Rattle.anti_pattern.specs.Language.{Language, Over, OverAll, TermOf}

counted : (b : Bool) (n k : ℕ) → Counted b n k → b ≡ false → n ≡ k
counted b n k h e = subst (λ (c : Bool). Counted c n k) e h

module _ (table : List ℕ) where
  mutual
    unfolding Fits Shape

    over : (t : Term) (left : ℕ) (in_list : Bool) → Fits table true (term_tree t) left in_list → Over table t
    over (node s ts) left in_list h = (
      h.2.0,
      λ e. sym (number_terms ts) ∙ counted (is_list table s) (number (term_trees ts)) (get_or table s 0) h.2.1 e,
      over_all ts _ _ h.3,
    )

    over_all : (ts : Terms) (left : ℕ) (in_list : Bool) → FitAll table true (term_trees ts) left in_list → OverAll table ts
    over_all nil left in_list h = tt
    over_all (t :: ts) left in_list h = (over t left in_list h.0, over_all ts left in_list h.1)

pub accepted_of : (l : Language) (t : Term) → TermAccepted l t → TermOf l t
accepted_of l t a = (over l.table t nesting false a.fits, a.spliced)
