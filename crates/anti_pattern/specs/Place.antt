-- The part of a record that a variable is shown with: what is assigned to it, at its first place outside complements.
use Rattle.std.specs.Prelude.{ℕ, zero, suc, ◌+◌, List, [], ◌∷◌, cond, eqb, Option, Some, None}
use Rattle.answers.specs.Part.{part, absent}
use Rattle.answers.specs.declared.Part.{Part}
use Rattle.term.specs.Code.{variables}
use Rattle.term.specs.Table.{width}
use Rattle.term.specs.Term.{Term, Terms, node, nil, ◌::◌, count, size, sizes}
use Rattle.term.specs.Pattern.{Pattern, Children, name, symbol, complement, end, plain, run}
use Rattle.anti_pattern.specs.Meaning.{Assignment}

-- what is left of a sequence without as many elements as the first has
abbrev pub past : Terms → Terms → Terms
past nil us = us
past (t :: ts) nil = nil
past (t :: ts) (u :: us) = past ts us

-- the run assigned to a variable
abbrev pub assigned : Option Terms → Terms
assigned None = nil
assigned (Some w) = w

-- the offset at which v stands first in the pattern, where the term stands at `at`; or else what is given
abbrev mutual
  pub place : List ℕ → Pattern → Term → ℕ → Assignment → ℕ → Option ℕ → Option ℕ
  place table (name u) t at a v other = cond (eqb u v) (Some at) other
  place table (symbol s qs) (node r ts) at a v other = place_all table qs ts (at + width table r) a v other
  place table (complement q) t at a v other = other

  pub place_all : List ℕ → Children → Terms → ℕ → Assignment → ℕ → Option ℕ → Option ℕ
  place_all table end ts at a v other = other
  place_all table (plain q qs) nil at a v other = other
  place_all table (plain q qs) (t :: ts) at a v other = place table q t at a v (place_all table qs ts (at + size table t) a v other)
  place_all table (run u qs) ts at a v other =
      cond (eqb u v) (Some at) (place_all table qs (past (assigned (a u)) ts) (at + sizes table (assigned (a u))) a v other)

-- what is assigned, as a part that stands at the offset; "A name that is not free shows the absent mark"
abbrev pub assigned_part : List ℕ → Option Terms → ℕ → Part
assigned_part table None at = absent
assigned_part table (Some w) at = part at (sizes table w) (count w)

abbrev pub or_absent : Option ℕ → (ℕ → Part) → Part
or_absent None f = absent
or_absent (Some at) f = f at

abbrev pub variable_part : List ℕ → Pattern → Term → Assignment → ℕ → Part
variable_part table q t a v = or_absent (place table q t zero a v None) (assigned_part table (a v))

-- for n variables from v on
abbrev pub each_from : (ℕ → Part) → ℕ → ℕ → List Part
each_from f v zero = []
each_from f v (suc n) = f v ∷ each_from f (suc v) n

-- for ?0 to ?31, then for @0 to @15
abbrev pub each_variable : (ℕ → Part) → List Part
each_variable f = each_from f 0 variables

abbrev pub parts_at : List ℕ → Pattern → Term → Assignment → List Part
parts_at table q t a = each_variable (variable_part table q t a)
