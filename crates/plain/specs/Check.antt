-- The check for a plain pattern, in one pass: 23 otherwise. It says exactly whether the pattern is plain (proofs/Checking: check_exact).
use Rattle.std.specs.Prelude.{ℕ, List, [], ◌∷◌, Bool, true, false, leb, Option, Some, None}
use Rattle.term.specs.Pattern.{Pattern, Children, name, symbol, complement, end, plain, run}
use Rattle.anti_pattern.specs.Variables.{among}
use Rattle.plain.specs.Plain.{run_names}

-- one more variable, unless it was seen
abbrev pub seen_or : Bool → ℕ → List ℕ → Option (List ℕ)
seen_or true v seen = None
seen_or false v seen = Some (v ∷ seen)

abbrev pub go_on : Option (List ℕ) → (List ℕ → Option (List ℕ)) → Option (List ℕ)
go_on None f = None
go_on (Some seen) f = f seen

abbrev pub only_if : Bool → (Unit {0} → Option (List ℕ)) → Option (List ℕ)
only_if true f = f tt
only_if false f = None

-- the variables seen so far, and those of the pattern; none where it is not plain
abbrev mutual
  pub look : Pattern → List ℕ → Option (List ℕ)
  look (name v) seen = seen_or (among v seen) v seen
  look (symbol s qs) seen = only_if (leb (run_names qs) 1) (λ u. looks qs seen)
  look (complement q) seen = None

  pub looks : Children → List ℕ → Option (List ℕ)
  looks end seen = Some seen
  looks (plain q qs) seen = go_on (look q seen) (looks qs)
  looks (run v qs) seen = go_on (seen_or (among v seen) v seen) (looks qs)

abbrev pub is_some : Option (List ℕ) → Bool
is_some None = false
is_some (Some seen) = true

unfoldable pub is_plain : Pattern → Bool
is_plain q = is_some (look q [])
