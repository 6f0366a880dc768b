-- For accepted input: names and run names are apart, and every run name has a place among the variables.
use Prim.Native.Nat.{ℕ, ◌<◌, ◌≤◌}
use native.Mathlib.Omega.{arith}
use mathlib.Core.Path.{◌≡◌, refl, subst}
use mathlib.Core.List.{List, []}
use mathlib.Core.Bool.{Bool, true, false, cond, false≢true}
use lib.Dec.{eqb}
use borrow.Author.Tests.{eqb-true}
use Rattle.term.specs.Code.{variables}
use Rattle.term.specs.Class.{Alike}
use Rattle.term.specs.Limits.{Written, below_of, Fits, FitAll}
use Rattle.term.specs.Pattern.{Pattern, Children, name, symbol, complement, end, plain, run, pattern_tree, child_trees}
use Rattle.term.specs.Term.{Term}
use Rattle.term.specs.Tree.{list_code}
use Rattle.term.specs.declared.Code.TheVariants.{Symbol}
use Rattle.anti_pattern.specs.Demands.{NextExact, EveryAnswer}
use Rattle.anti_pattern.specs.Language.{Language}
use Rattle.anti_pattern.specs.Variables.{among, NoName, NoNames, runs, runs_all, free_runs}
use Rattle.anti_pattern.proofs.Demands.{next_exact, every_answer}
use Rattle.anti_pattern.proofs.Following.{within_firsts}
use Rattle.anti_pattern.proofs.Within.{accepted_of}
use Rattle.link.specs.Input.{Input}

-- every variable of a list is so
abbrev Each : (ℕ → Type 0) → List ℕ → Type 0
Each P vs = (v : ℕ) → among v vs ≡ true → P v

front : (P : ℕ → Type 0) (u : ℕ) (vs : List ℕ) → P u → Each P vs → (v : ℕ) → cond (eqb u v) true (among v vs) ≡ true → P v
front P u vs p k v = go (eqb u v) refl
  where
    go : (b : Bool) → eqb u v ≡ b → cond b true (among v vs) ≡ true → P v
    go true e h = subst P (eqb-true u v e) p
    go false e h = k v h

abbrev IsRun : ℕ → Type 0
IsRun v = (32 ≤ v) × (v < variables)

mutual
  unfolding Fits Written

  runs_are : (table : List ℕ) (q : Pattern) (left : ℕ) (in_list : Bool) → Fits table false (pattern_tree q) left in_list → (vs : List ℕ) → Each IsRun vs
      → Each IsRun (runs q vs)
  runs_are table (name u) left in_list f vs k = k
  runs_are table (symbol s qs) left in_list f vs k = all_runs_are table qs (below_of (Symbol s) left) (list_code table (Symbol s)) f.3 vs k
  runs_are table (complement q) left in_list f vs k = k

  all_runs_are : (table : List ℕ) (qs : Children) (left : ℕ) (in_list : Bool) → FitAll table false (child_trees qs) left in_list → (vs : List ℕ)
      → Each IsRun vs → Each IsRun (runs_all qs vs)
  all_runs_are table end left in_list f vs k = k
  all_runs_are table (plain q qs) left in_list f vs k =
      runs_are table q left in_list f.0 (runs_all qs vs) (all_runs_are table qs left in_list f.1 vs k)
  all_runs_are table (run u qs) left in_list f vs k =
      front IsRun u (runs_all qs vs) f.0.1 (all_runs_are table qs left in_list f.1 vs k)

-- a number that is none of them
outside : (vs : List ℕ) → Each IsRun vs → (v : ℕ) → v < 32 → among v vs ≡ false
outside vs k v l = go (among v vs) (k v)
  where
    go : (b : Bool) → (b ≡ true → IsRun v) → b ≡ false
    go true f = absurd (omega (arith, (f refl).0))
    go false f = refl

mutual
  unfolding Fits Written

  names_apart : (table : List ℕ) (vs : List ℕ) → Each IsRun vs → (q : Pattern) (left : ℕ) (in_list : Bool)
      → Fits table false (pattern_tree q) left in_list → NoName vs q
  names_apart table vs k (name u) left in_list f = outside vs k u f.1
  names_apart table vs k (symbol s qs) left in_list f = all_apart table vs k qs (below_of (Symbol s) left) (list_code table (Symbol s)) f.3
  names_apart table vs k (complement q) left in_list f = tt

  all_apart : (table : List ℕ) (vs : List ℕ) → Each IsRun vs → (qs : Children) (left : ℕ) (in_list : Bool)
      → FitAll table false (child_trees qs) left in_list → NoNames vs qs
  all_apart table vs k end left in_list f = tt
  all_apart table vs k (plain q qs) left in_list f = (names_apart table vs k q left in_list f.0, all_apart table vs k qs left in_list f.1)
  all_apart table vs k (run u qs) left in_list f = all_apart table vs k qs left in_list f.1

module _ (l : Language) (pattern bytes : List ℕ) (q : Pattern) (t : Term) (i : Input l pattern bytes q t) where
  pub free_runs_are : Each IsRun (free_runs q)
  free_runs_are v h =
      runs_are l.table q 32 false i.pattern_accepted.fits [] (λ u m. absurd (false≢true m)) v (within_firsts (runs q []) v h)

  pub apart : NoName (free_runs q) q
  apart = names_apart l.table (free_runs q) free_runs_are q 32 false i.pattern_accepted.fits

  module _ (k : Alike l.table l.classes) where
    pub next_accepted : (given : List ℕ) (allowance : ℕ) → NextExact l q t given allowance
    next_accepted given allowance = next_exact l k q t (accepted_of l t i.record_accepted) apart given allowance

    pub every_accepted : EveryAnswer l q t
    every_accepted = every_answer l k q t (accepted_of l t i.record_accepted) apart (λ v h. (free_runs_are v h).1)
