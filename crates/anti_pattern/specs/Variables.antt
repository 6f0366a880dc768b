-- The variables of a pattern. A variable is a number: the name ?i is i, the run name @j is 32 + j.
use Rattle.std.specs.Prelude.{ℕ, ◌≡◌, List, [], ◌∷◌, Bool, true, false, cond, eqb}
use Rattle.term.specs.Pattern.{Pattern, Children, name, symbol, complement, end, plain, run}

-- the variables of the places outside complements, left to right, parents before children, in front of a list
abbrev mutual
  pub vars : Pattern → List ℕ → List ℕ
  vars (name v) vs = v ∷ vs
  vars (symbol s qs) vs = vars_all qs vs
  vars (complement q) vs = vs

  pub vars_all : Children → List ℕ → List ℕ
  vars_all end vs = vs
  vars_all (plain q qs) vs = vars q (vars_all qs vs)
  vars_all (run v qs) vs = v ∷ vars_all qs vs

-- "free in q if it stands in q outside every complement within q"
abbrev pub free : Pattern → List ℕ
free q = vars q []

-- whether a variable stands in a list
abbrev pub among : ℕ → List ℕ → Bool
among i [] = false
among i (v ∷ vs) = cond (eqb v i) true (among i vs)

-- none of these variables is a name outside complements: "A name and a run name of one number are unrelated."
abbrev mutual
  pub NoName : List ℕ → Pattern → Type 0
  NoName vs (name v) = among v vs ≡ false
  NoName vs (symbol s qs) = NoNames vs qs
  NoName vs (complement q) = Unit {0}

  pub NoNames : List ℕ → Children → Type 0
  NoNames vs end = Unit {0}
  NoNames vs (plain q qs) = NoName vs q × NoNames vs qs
  NoNames vs (run v qs) = NoNames vs qs

-- the run names of the places outside complements, in the same order, in front of a list
abbrev mutual
  pub runs : Pattern → List ℕ → List ℕ
  runs (name v) vs = vs
  runs (symbol s qs) vs = runs_all qs vs
  runs (complement q) vs = vs

  pub runs_all : Children → List ℕ → List ℕ
  runs_all end vs = vs
  runs_all (plain q qs) vs = runs q (runs_all qs vs)
  runs_all (run v qs) vs = v ∷ runs_all qs vs

abbrev pub without : ℕ → List ℕ → List ℕ
without v [] = []
without v (u ∷ us) = cond (eqb v u) (without v us) (u ∷ without v us)

-- each variable once, where it stands first
abbrev pub firsts : List ℕ → List ℕ
firsts [] = []
firsts (v ∷ vs) = v ∷ without v (firsts vs)

-- the free run names "in order of their first place outside complements"
abbrev pub free_runs : Pattern → List ℕ
free_runs q = firsts (runs q [])
