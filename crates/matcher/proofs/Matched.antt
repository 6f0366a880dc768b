-- The match of any bytes, by the search's reply.
use Prim.Native.Nat.{ℕ, ◌<◌, ◌≤◌}
use mathlib.Core.Path.{◌≡◌, refl, sym, ◌∙◌, ap}
use mathlib.Core.List.{List, []}
use lib.ListN.{length}
use borrow.Author.Tests.{lt-ltb, le-ltb}
use Rattle.answers.specs.declared.Part.{Part}
use Rattle.answers.specs.declared.Refusal.TheVariants.{Narrow}
use Rattle.answers.specs.declared.Answer.{Answer}
use Rattle.term.specs.declared.Edition.{Edition}
use Rattle.term.specs.Class.{Alike}
use Rattle.term.specs.Pattern.{Pattern}
use Rattle.term.specs.Term.{Term}
use Rattle.anti_pattern.specs.Answer.{Matching, answer}
use Rattle.anti_pattern.specs.Language.{language}
use Rattle.search.specs.Level.{Reply, end_of, search_of}
use Rattle.parts.specs.Shown.{answer_width, shown_parts}
use Rattle.search.specs.Shown.{shown_by, shown_in}
use Rattle.search.specs.declared.Ended.{Ended}
use Rattle.search.specs.declared.Finding.{Finding}
use Rattle.search.specs.declared.Finding.TheVariants.{Found, Failed, Spent}
use Rattle.search.proofs.Lefts.{search_left}
use Rattle.call.specs.Call.{written}
use Rattle.link.specs.OnBytes.{replied_by, outcome_on_bytes}
use Rattle.matcher.specs.Call.{Input, told, bound_parts, answer_on_bytes, buffer_on_bytes}
use Rattle.link.proofs.Linked.{linked}
use Rattle.std.specs.Prelude.{Result, Err}
use Rattle.answers.specs.declared.Refusal.{Refusal}

pub left_within : (table classes pattern bytes : List ℕ) (allowance : ℕ) (e : Ended) → e ≡ end_of (search_of table classes pattern bytes allowance) → e.left ≤ allowance
left_within table classes pattern bytes allowance e s = rw s (search_left table classes bytes pattern allowance)

-- what is told does not depend on the parts
pub told_parts : (o : Finding) (allowance left : ℕ) (ps : List Part) → told (replied_by o allowance left []) ≡ told (replied_by o allowance left ps)
told_parts Found allowance left ps = refl
told_parts Failed allowance left ps = refl
told_parts Spent allowance left ps = refl

module _ (table classes pattern bytes before : List ℕ) (allowance : ℕ) where
  -- answer and final buffer on any bytes
  abbrev OnBytes : Result Answer Refusal → List ℕ → Type 0
  OnBytes a after =
      (a ≡ answer_on_bytes table classes pattern bytes allowance (length before)) × (after ≡ buffer_on_bytes table classes pattern bytes allowance before)

  pub narrow_matched : length before < answer_width → OnBytes (Err Narrow) before
  unfolding answer_on_bytes buffer_on_bytes
  narrow_matched h = rw (lt-ltb (length before) answer_width h) (refl, refl)

  module _ (wide : answer_width ≤ length before) where
    -- what the search shows is what its answer writes
    pub shown_by_holds : (o : Finding) (left : ℕ) (parts : List Part) → shown_by o parts before ≡ written (bound_parts (replied_by o allowance left parts)) before
    unfolding shown_by shown_parts
    shown_by_holds Found left parts = rw (le-ltb (length before) answer_width wide)
    shown_by_holds Failed left parts = refl
    shown_by_holds Spent left parts = refl

    abbrev searched : Reply
    searched = search_of table classes pattern bytes allowance

    pub search_matched : (e : Ended) → e ≡ end_of searched → (a : Result Answer Refusal) → a ≡ told (replied_by e.outcome allowance e.left [])
        → (after : List ℕ) → after ≡ shown_in searched before → OnBytes a after
    unfolding outcome_on_bytes answer_on_bytes buffer_on_bytes
    search_matched e s a h after f =
        rw (le-ltb (length before) answer_width wide) (
          h ∙ told_parts e.outcome allowance e.left searched.parts
              ∙ ap (λ (x : Ended). told (replied_by x.outcome allowance x.left searched.parts)) s,
          f ∙ shown_by_holds searched.outcome searched.left searched.parts,
        )

    -- on accepted input it is the answer of the search on trees
    pub bytes_answered : (edition : Edition) → Alike table classes → (q : Pattern) (t : Term) → Input (language edition table classes) pattern bytes q t
        → (answer_on_bytes table classes pattern bytes allowance (length before) ≡ told (answer (language edition table classes) q t allowance))
        × (buffer_on_bytes table classes pattern bytes allowance before ≡ written (bound_parts (answer (language edition table classes) q t allowance)) before)
    unfolding answer_on_bytes buffer_on_bytes
    bytes_answered edition k q t i =
        let z = sym (linked (language edition table classes) pattern bytes k q t i allowance) in
        rw (le-ltb (length before) answer_width wide) (ap told z, ap (λ (x : Matching). written (bound_parts x) before) z)
