-- A language decides two things: which terms there are, and when two of them are the same.
use Rattle.std.specs.Prelude.{ℕ, ◌<◌, ◌≡◌, ◌⊎◌, List, [], true, false, length, get_or}
use Rattle.term.specs.Class.{class_of, classes_accepted}
pub use Rattle.term.specs.Language.{Language, language, simple}
use Rattle.term.specs.Same.{same_term, same_terms}
use Rattle.term.specs.Splicing.{Spliced}
use Rattle.term.specs.Table.{is_list}
use Rattle.term.specs.Term.{Term, node, Terms, nil, ◌::◌, count, term_tree}

-- a class list that is accepted, or none
abbrev pub Classed : Language → Type 0
Classed l = (l.classes ≡ []) ⊎ (classes_accepted l.table l.classes ≡ true)

-- "Terms are all finite trees over the table, without our limits of size": each symbol is in the table and has as many children as the table
-- says; a list has any number
abbrev mutual
  pub Over : List ℕ → Term → Type 0
  Over table (node s ts) = (s < length table) × (is_list table s ≡ false → count ts ≡ get_or table s 0) × OverAll table ts

  pub OverAll : List ℕ → Terms → Type 0
  OverAll table nil = Unit {0}
  OverAll table (t :: ts) = Over table t × OverAll table ts

-- edition 2: "terms in its definition are spliced ones"
abbrev pub TermOf : Language → Term → Type 0
TermOf l t = Over l.table t × Spliced l (term_tree t)

abbrev pub TermsOf : Language → Terms → Type 0
TermsOf l nil = Unit {0}
TermsOf l (t :: ts) = TermOf l t × TermsOf l ts

-- "Symbols of one class count as the same wherever a symbol or two parts are compared": two symbols, two terms, two runs
infix 40 ◌⊢◌∼◌
abbrev pub ◌⊢◌∼◌ : Language → ℕ → ℕ → Type 0
l ⊢ s ∼ r = class_of l.classes s ≡ class_of l.classes r

infix 40 ◌⊢◌≈◌
abbrev pub ◌⊢◌≈◌ : Language → Term → Term → Type 0
l ⊢ t ≈ u = same_term l.classes t u ≡ true

infix 40 ◌⊢◌≋◌
abbrev pub ◌⊢◌≋◌ : Language → Terms → Terms → Type 0
l ⊢ ts ≋ us = same_terms l.classes ts us ≡ true
