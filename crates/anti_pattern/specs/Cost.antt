-- What a rule can cost at most: document 02's L14, for patterns without run names.
use Rattle.std.specs.Prelude.{ℕ, ◌+◌, ◌≤◌, ◌⊎◌, Bool, true, false, cond}
use Rattle.term.specs.Pattern.{Pattern, Children, name, symbol, complement, end, plain, run}

-- "the number of the pattern's nodes", those within complements too
abbrev mutual
  pub nodes : Pattern → ℕ
  nodes (name v) = 1
  nodes (symbol s qs) = 1 + nodes_in qs
  nodes (complement q) = 1 + nodes q

  pub nodes_in : Children → ℕ
  nodes_in end = 0
  nodes_in (plain q qs) = nodes q + nodes_in qs
  nodes_in (run v qs) = 1 + nodes_in qs

-- "So an allowance of 256 is never spent on one."
abbrev pub ample : ℕ
ample = 256

-- an allowance of the pattern's nodes, or of 256
abbrev pub Enough : Pattern → ℕ → Type 0
Enough q allowance = (nodes q ≤ allowance) ⊎ (ample ≤ allowance)

-- whether a pattern has run names, within complements too
abbrev mutual
  pub has_runs : Pattern → Bool
  has_runs (name v) = false
  has_runs (symbol s qs) = has_runs_in qs
  has_runs (complement q) = has_runs q

  pub has_runs_in : Children → Bool
  has_runs_in end = false
  has_runs_in (plain q qs) = cond (has_runs q) true (has_runs_in qs)
  has_runs_in (run v qs) = true
