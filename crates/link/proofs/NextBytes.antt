-- The next answer: on accepted input that on bytes is that on trees.
use Prim.Native.Nat.{ℕ}
use mathlib.Core.Path.{◌≡◌, refl, sym, ◌∙◌, ap}
use mathlib.Core.List.{List}
use mathlib.Core.Bool.{Bool, true, false, cond}
use lib.ListN.{length, replicate}
use lib.Dec.{eqb}
use borrow.Author.Tests.{le-leb, eqb-true}
use Rattle.answers.specs.declared.Part.{Part}
use Rattle.term.specs.Limits.{longest_pattern, longest_record}
use Rattle.term.specs.Code.{variables}
use Rattle.term.specs.Class.{Alike}
use Rattle.term.specs.Pattern.{Pattern}
use Rattle.term.specs.Term.{Term}
use Rattle.anti_pattern.specs.Answer.{bound, parts}
use Rattle.anti_pattern.specs.Demands.{OneForEach}
use Rattle.anti_pattern.specs.Language.{Language}
use Rattle.anti_pattern.specs.Next.{follows, resumed_after, next}
use Rattle.anti_pattern.specs.Search.{Env, first_answer}
use Rattle.anti_pattern.specs.Variables.{free_runs}
use Rattle.search.specs.Following.{next_pass}
use Rattle.search.specs.Given.{pass_of, unknown}
use Rattle.search.specs.Spread.{free_in, spread_to}
use Rattle.link.specs.Input.{Input}
use Rattle.link.specs.OnBytes.{replied_pass, following_on_bytes}
use Rattle.link.proofs.Followed.{free_runs_are, apart}
use Rattle.link.proofs.Givens.{next_linked, next_stands}
use Rattle.link.proofs.Linked.{table_short, narrow, short}
use Rattle.link.proofs.Represents.{Shown}
use Rattle.link.proofs.Spreading.{free_in_holds, spread_free}
use Rattle.std.specs.Prelude.{Some}

module _ (l : Language) (pattern bytes : List ℕ) (alike : Alike l.table l.classes) (q : Pattern) (t : Term) (i : Input l pattern bytes q t)
    (given : List ℕ) (allowance : ℕ) where
  free_is : free_in l.table pattern ≡ free_runs q
  free_is =
      ap (free_in l.table) (sym i.pattern_bytes_holds)
      ∙ free_in_holds l.table (table_short l.table i.table_accepted_holds) q 32 false i.pattern_accepted.fits

  pass_is : next_pass l.table l.classes pattern bytes given allowance
      ≡ cond (eqb (length given) (length (free_runs q)))
      (pass_of l.table l.classes pattern bytes (spread_to (free_runs q) given (replicate variables 0)) allowance) unknown
  unfolding next_pass
  pass_is =
      rw (
        le-leb (length pattern) longest_pattern (narrow l pattern bytes alike q t i allowance),
        le-leb (length bytes) longest_record (short l pattern bytes alike q t i allowance),
        free_is,
      )

  pub next_on_bytes : next l q t given allowance ≡ following_on_bytes l.table l.classes pattern bytes given allowance
  unfolding next following_on_bytes
  next_on_bytes = go (eqb (length given) (length (free_runs q))) refl ∙ sym (ap (replied_pass allowance) pass_is)
    where
      go : (m : Bool) → eqb (length given) (length (free_runs q)) ≡ m
          → next l q t given allowance
          ≡ replied_pass allowance (cond (eqb (length given) (length (free_runs q)))
          (pass_of l.table l.classes pattern bytes (spread_to (free_runs q) given (replicate variables 0)) allowance) unknown)
      go true e =
          let each = eqb-true (length given) (length (free_runs q)) e in
          next_linked l pattern bytes alike q t i (apart l pattern bytes q t i) given (spread_to (free_runs q) given (replicate variables 0)) each
          (spread_free q given each (λ u m. (free_runs_are l pattern bytes q t i u m).1)) allowance
          ∙ sym (ap (λ (c : Bool). replied_pass allowance (cond c (pass_of l.table l.classes pattern bytes (spread_to (free_runs q) given (replicate variables 0)) allowance) unknown)) e)
      go false e = rw e

  -- a bound answer is the first of the search resumed after the given one, and what it shows stands in the record
  pub bound_stands : OneForEach q given → (ps : List Part) (n : ℕ) → next l q t given allowance ≡ follows (bound ps n)
      → (e : Env) × (first_answer (resumed_after l q t given).out ≡ Some e) × (ps ≡ parts l.table e) × ((shown : List Part) × Shown l.table bytes shown e)
  bound_stands each =
      next_stands l pattern bytes alike q t i (apart l pattern bytes q t i) given (spread_to (free_runs q) given (replicate variables 0)) each
      (spread_free q given each (λ u m. (free_runs_are l pattern bytes q t i u m).1)) allowance
