-- The search as a machine without functions as data: the pairs left are a stack of frames, the complements put by are a list.
use Prim.Native.Nat.{ℕ}
use mathlib.Core.List.{List, [], ◌∷◌, map}
use Rattle.term.specs.Term.{Term, Terms}
use Rattle.term.specs.Pattern.{Pattern, Children}
use Rattle.anti_pattern.specs.Search.{Env, Result, Deferred, Continuation, finish, Tries, searches, level}

-- the child patterns left, the elements left, and the offset of the first of these
pub record Frame : Type 0 where
  pub patterns : Children
  pub elements : Terms
  pub at : ℕ

-- a complement put by: its inside, the term, and its offset
pub record Pending : Type 0 where
  pub inside : Pattern
  pub term : Term
  pub at : ℕ

abbrev pub frame : Children → Terms → ℕ → Frame
frame qs ts n = record { patterns = qs; elements = ts; at = n }

abbrev pub pending : Pattern → Term → ℕ → Pending
pending q t n = record { inside = q; term = t; at = n }

module _ (table classes : List ℕ) where
  abbrev pub deferred : Pending → Deferred
  deferred p = λ e. level table classes p.inside p.term p.at e

  module _ (how : ℕ → Tries) where
    abbrev pub resume : List Frame → Continuation
    resume [] = finish
    resume (f ∷ fs) = λ e put. searches table classes how f.patterns f.elements f.at e put (resume fs)

    unfoldable pub machine : List Frame → Env → List Pending → Result
    machine fs e ds = resume fs e (map deferred ds)
