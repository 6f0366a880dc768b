-- Which patterns are templates: "a template is a pattern without complements whose names and run names are free in the rule".
use Rattle.std.specs.Prelude.{ℕ, ◌≡◌, List, Bool, true, false, not, ◌||◌}
use Rattle.term.specs.Pattern.{Pattern, Children, name, symbol, complement, end, plain, run}
use Rattle.anti_pattern.specs.Variables.{free, among}

abbrev mutual
  pub NoComplement : Pattern → Type 0
  NoComplement (name v) = Unit {0}
  NoComplement (symbol s qs) = NoComplements qs
  NoComplement (complement q) = ⊥

  pub NoComplements : Children → Type 0
  NoComplements end = Unit {0}
  NoComplements (plain q qs) = NoComplement q × NoComplements qs
  NoComplements (run v qs) = NoComplements qs

abbrev pub Template : Pattern → Pattern → Type 0
Template p q = NoComplement q × ((v : ℕ) → among v (free q) ≡ true → among v (free p) ≡ true)

-- "a template with a complement, or a name or run name not free", where these are the free ones
abbrev mutual
  pub loose : List ℕ → Pattern → Bool
  loose vs (name v) = not (among v vs)
  loose vs (symbol s qs) = loose_all vs qs
  loose vs (complement q) = true

  pub loose_all : List ℕ → Children → Bool
  loose_all vs end = false
  loose_all vs (plain q qs) = loose vs q || loose_all vs qs
  loose_all vs (run v qs) = not (among v vs) || loose_all vs qs
