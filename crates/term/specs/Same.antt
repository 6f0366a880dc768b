-- Equality of terms and of runs, and of two parts of a record's bytes, up to class: "Symbols of one class count as the same wherever a symbol or
-- two parts are compared." With an empty class list it is equality.
use Rattle.std.specs.Prelude.{ℕ, ◌≡◌, ◌↔◌, ◌⊎◌, List, [], ◌∷◌, Bool, true, false, ◌&&◌, eqb}
use Rattle.term.specs.Class.{class_of, classes_accepted}
use Rattle.term.specs.Table.{is_list}
use Rattle.term.specs.Term.{Term, Terms, node, nil, ◌::◌, term_trees, terms_bytes}
use Rattle.term.specs.Limits.{FitAll}

-- whether the byte after x is a list's number of children, where x is one or not
abbrev pub count_next : List ℕ → Bool → ℕ → Bool
count_next table true x = false
count_next table false x = is_list table x

module _ (classes : List ℕ) where
  abbrev mutual
    pub same_term : Term → Term → Bool
    same_term (node s ts) (node r us) = eqb (class_of classes s) (class_of classes r) && same_terms ts us

    pub same_terms : Terms → Terms → Bool
    same_terms nil nil = true
    same_terms nil (u :: us) = false
    same_terms (t :: ts) nil = false
    same_terms (t :: ts) (u :: us) = same_term t u && same_terms ts us

  -- two bytes of two parts: symbols by class, a list's number of children as it is
  abbrev pub same_byte : Bool → ℕ → ℕ → Bool
  same_byte true x y = eqb x y
  same_byte false x y = eqb (class_of classes x) (class_of classes y)

-- two parts, from a place on; `counting` where the byte there is a list's number of children
unfoldable pub same_part : List ℕ → List ℕ → Bool → List ℕ → List ℕ → Bool
same_part table classes counting [] [] = true
same_part table classes counting [] (y ∷ ys) = false
same_part table classes counting (x ∷ xs) [] = false
same_part table classes counting (x ∷ xs) (y ∷ ys) = same_byte classes counting x y && same_part table classes (count_next table counting x) xs ys

-- a part that is a whole run of terms over the table, nested however deep, in a list or not
pub record RunOf (table x : List ℕ) (ts : Terms) : Type 0 where
  pub deepest : ℕ
  pub in_list : Bool
  pub over_table : FitAll table true (term_trees ts) deepest in_list
  pub bytes : terms_bytes table ts [] ≡ x

-- What is demanded of the comparison of two parts. Document 02's L4: "It says equal exactly when their terms are the same up to class", with an
-- accepted class list or none
pub record Compares (table classes x y : List ℕ) (equal : Bool) : Type 0 where
  pub equal_exactly : (classes ≡ []) ⊎ (classes_accepted table classes ≡ true) → (ts us : Terms) → RunOf table x ts → RunOf table y us
      → (equal ≡ true) ↔ (same_terms classes ts us ≡ true)
