-- What is demanded of the comparison of two parts follows from its equation; and which parts are runs.
use Prim.Native.Nat.{ℕ}
use mathlib.Core.Path.{◌≡◌, refl, sym, ap₂, ◌∙◌, subst}
use mathlib.Core.Logic.{◌⊎◌, inl, inr}
use mathlib.Core.List.{List, []}
use mathlib.Core.Bool.{Bool, true, false}
use Rattle.term.specs.Tree.{list_code, encode}
use Rattle.term.specs.Term.{Term, Terms, node, ◌⧺◌, single, term_bytes, terms_bytes}
use Rattle.term.specs.Language.{Language}
use Rattle.term.specs.Limits.{nesting, below_of, Fits, TermAccepted}
use Rattle.term.specs.declared.Code.TheVariants.{Symbol}
use Rattle.term.specs.Class.{classes_accepted, Alike}
use Rattle.term.specs.Same.{same_terms, same_part, RunOf, Compares}
use Rattle.term.proofs.SameParts.{same_run, run_of_bytes}
use Rattle.term.proofs.Classes.{accepted_alike, none_alike}
use Rattle.term.proofs.Joins.{fit_split}

-- an accepted record is a run; a node's children are one; and so is each part of a run
pub record_run : (l : Language) (t : Term) → TermAccepted l t → RunOf l.table (term_bytes l.table t []) (single t)
unfolding Fits encode
record_run l t a = record { deepest = nesting; in_list = false; over_table = (a.fits, tt); bytes = refl }

module _ (table : List ℕ) where
  pub children_run : (x : List ℕ) (s : ℕ) (ts : Terms) → RunOf table x (single (node s ts)) → RunOf table (terms_bytes table ts []) ts
  unfolding Fits
  children_run x s ts g =
      record { deepest = below_of (Symbol s) g.deepest; in_list = list_code table (Symbol s); over_table = g.over_table.0.3; bytes = refl }

  pub part_run : (x : List ℕ) (ts us vs : Terms) → RunOf table x (ts ⧺ us ⧺ vs) → RunOf table (terms_bytes table us []) us
  part_run x ts us vs g =
      let f = (fit_split table true ts (us ⧺ vs) g.deepest g.in_list g.over_table).1 in
      record { deepest = g.deepest; in_list = g.in_list; over_table = (fit_split table true us vs g.deepest g.in_list f).0; bytes = refl }

  -- a part is one run only
  pub one_run_of : (x : List ℕ) (ts us : Terms) → RunOf table x ts → RunOf table x us → ts ≡ us
  one_run_of x ts us g h =
      run_of_bytes table ts us g.deepest h.deepest g.in_list h.in_list g.over_table h.over_table (g.bytes ∙ sym h.bytes)

  module _ (classes : List ℕ) where
    classed_alike : (classes ≡ []) ⊎ (classes_accepted table classes ≡ true) → Alike table classes
    classed_alike (inl e) = subst (Alike table) (sym e) (none_alike table)
    classed_alike (inr h) = accepted_alike table classes h

    module _ (x y : List ℕ) where
      runs_compared : Alike table classes → (ts us : Terms) → RunOf table x ts → RunOf table y us → same_part table classes false x y ≡ same_terms classes ts us
      runs_compared k ts us g h =
          sym (ap₂ (same_part table classes false) g.bytes h.bytes)
          ∙ same_run table classes k ts us g.deepest h.deepest g.in_list h.in_list g.over_table h.over_table

      pub compared : (equal : Bool) → equal ≡ same_part table classes false x y
          → (equal ≡ same_part table classes false x y) × Compares table classes x y equal
      compared equal e = (
        e,
        record {
          equal_exactly = λ k ts us g h.
              let z = e ∙ runs_compared (classed_alike k) ts us g h in
              (λ t. sym z ∙ t, λ t. z ∙ t);
        },
      )
