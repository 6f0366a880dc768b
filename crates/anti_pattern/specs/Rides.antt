-- Document 01's marked rides A to L, and the rules and states of its report, with the answers stated there; and some up to class. Calls for the
-- next answer.
use Rattle.std.specs.Prelude.{ℕ, ◌≡◌, List, [], ◌∷◌, map, cond, eqb}
use Rattle.answers.specs.Part.{part, absent}
use Rattle.answers.specs.declared.Part.{Part}
use Rattle.term.specs.Pattern.{Pattern, name, symbol, complement, Children, end, plain, run}
use Rattle.term.specs.Term.{Term, node, Terms, nil, ◌::◌, single}
use Rattle.term.specs.declared.Edition.TheVariants.{One}
use Rattle.anti_pattern.specs.Answer.{Matching, bound, nothing, spent, answer}
use Rattle.anti_pattern.specs.Language.{Language, language, simple}
use Rattle.anti_pattern.specs.Next.{Following, follows, unknown, next}
use Rattle.anti_pattern.specs.Place.{each_variable}

-- open, shut, held, gate (1), row (2), gates (list)
abbrev pub table : List ℕ
table = 0 ∷ 0 ∷ 0 ∷ 1 ∷ 2 ∷ 255 ∷ []

-- besides, stopped, of one class with held
abbrev wider : List ℕ
wider = 0 ∷ 0 ∷ 0 ∷ 1 ∷ 2 ∷ 255 ∷ 0 ∷ []

abbrev classes : List ℕ
classes = 0 ∷ 1 ∷ 2 ∷ 3 ∷ 4 ∷ 5 ∷ 2 ∷ []

abbrev pub opened : Term
opened = node 0 nil

abbrev pub shut : Term
shut = node 1 nil

abbrev held : Term
held = node 2 nil

abbrev stopped : Term
stopped = node 6 nil

abbrev pub gate : Term → Term
gate t = node 3 (single t)

abbrev pub row : Term → Term → Term
row t u = node 4 (t :: u :: nil)

abbrev gates : Terms → Term
gates ts = node 5 ts

-- the same as patterns
abbrev openedᵖ : Pattern
openedᵖ = symbol 0 end

abbrev shutᵖ : Pattern
shutᵖ = symbol 1 end

abbrev heldᵖ : Pattern
heldᵖ = symbol 2 end

abbrev gateᵖ : Pattern → Pattern
gateᵖ q = symbol 3 (plain q end)

abbrev rowᵖ : Pattern → Pattern → Pattern
rowᵖ p q = symbol 4 (plain p (plain q end))

abbrev gatesᵖ : Children → Pattern
gatesᵖ qs = symbol 5 qs

infix 70 !◌
abbrev !◌ : Pattern → Pattern
! q = complement q

-- the parts given, for their variables, and the absent mark for the others
abbrev lookup : List (ℕ × Part) → ℕ → Part
lookup [] v = absent
lookup (x ∷ xs) v = cond (eqb x.0 v) x.1 (lookup xs v)

abbrev showing : List (ℕ × Part) → ℕ → Matching
showing xs n = bound (each_variable (lookup xs)) n

pub record Ride : Type 0 where
  pub language : Language
  pub pattern : Pattern
  pub term : Term
  pub allowance : ℕ
  pub expected : Matching

-- the report's allowance
abbrev ample : ℕ
ample = 100000

abbrev under : ℕ → Language → Pattern → Term → Matching → Ride
under n l q t a = record { language = l; pattern = q; term = t; allowance = n; expected = a }

abbrev ride : Pattern → Term → Matching → Ride
ride = under ample (simple table)

-- by the class list
abbrev classed : Pattern → Term → Matching → Ride
classed = under ample (language One wider classes)

-- ?0 is the variable 0, @0 the variable 32
abbrev pub rides : List Ride
rides =
    -- A
    ride (rowᵖ openedᵖ (! shutᵖ)) (row opened opened) (showing [] 4)
    -- B
    ∷ ride (! (gateᵖ (name 0))) (gate opened) (nothing 3)
    -- C
    ∷ ride (rowᵖ (name 0) (! (name 0))) (row opened shut) (showing ((0, part 1 1 1) ∷ []) 4)
    -- D
    ∷ ride (rowᵖ (! (name 0)) (name 0)) (row opened opened) (nothing 4)
    -- E
    ∷ ride (! (rowᵖ (name 0) (! (gateᵖ (name 0))))) (row opened (gate shut)) (nothing 6)
    -- F
    ∷ ride (rowᵖ (! (gateᵖ (name 0))) (! (! (gateᵖ (name 0))))) (row (gate opened) (gate shut)) (nothing 5)
    -- G
    ∷ ride (gatesᵖ (run 32 (plain (! openedᵖ) (run 33 end)))) (gates (opened :: shut :: nil)) (showing ((32, part 2 1 1) ∷ (33, part 4 0 0) ∷ []) 10)
    -- H
    ∷ ride (gatesᵖ (run 32 (run 33 end))) (gates (opened :: nil)) (showing ((32, part 2 0 0) ∷ (33, part 2 1 1) ∷ []) 4)
    -- H under an allowance of 3
    ∷ under 3 (simple table) (gatesᵖ (run 32 (run 33 end))) (gates (opened :: nil)) (spent 3)
    -- I
    ∷ ride (gatesᵖ (run 32 (run 32 end))) (gates (opened :: nil)) (nothing 5)
    -- J
    ∷ ride (! (gatesᵖ (run 32 (plain (name 0) (run 33 (plain (! (name 0)) (run 34 end))))))) (gates nil) (showing [] 3)
    -- K
    ∷ ride (gatesᵖ (plain (! openedᵖ) end)) (gates nil) (nothing 1)
    -- L
    ∷ ride (! (! (name 0))) opened (showing [] 3)
    -- !gates(@0, @1, @2): an inside is searched to its first answer only, here the third length of @2
    ∷ ride (! (gatesᵖ (run 32 (run 33 (run 34 end))))) (gates (opened :: shut :: nil)) (nothing 7)
    -- gates(gate(open)) on gates(gate(shut), open): elements left over are seen after all pairs of the last child pattern
    ∷ ride (gatesᵖ (plain (gateᵖ openedᵖ) end)) (gates (gate shut :: opened :: nil)) (nothing 3)
    -- row(gate(open), shut) on row(gate(open), open): a child's whole part comes before its next sibling
    ∷ ride (rowᵖ (gateᵖ openedᵖ) shutᵖ) (row (gate opened) opened) (nothing 4)
    -- the report's states: 0 by D and then A, with the sum 8; 1 by its first rule; 2 by neither, with the sum 2
    ∷ ride (rowᵖ (! (name 0)) (name 0)) (row shut opened) (showing ((0, part 2 1 1) ∷ []) 4)
    ∷ ride (rowᵖ (! (name 0)) (name 0)) held (nothing 1)
    ∷ ride (rowᵖ openedᵖ (! shutᵖ)) held (nothing 1)
    -- up to class: gate(held) holds of gate(stopped), two pairs
    ∷ classed (gateᵖ heldᵖ) (gate stopped) (showing [] 2)
    -- row(?0, ?0) on row(held, stopped), three pairs: ?0 is shown at its first place; without the class list the last pair fails
    ∷ classed (rowᵖ (name 0) (name 0)) (row held stopped) (showing ((0, part 1 1 1) ∷ []) 3)
    ∷ under ample (simple wider) (rowᵖ (name 0) (name 0)) (row held stopped) (nothing 3)
    -- row(?0, !?0): the complement's inside is a fourth pair, which holds
    ∷ classed (rowᵖ (name 0) (! (name 0))) (row held stopped) (nothing 4)
    -- gates(@0, @0) on gates(held, stopped): the list, then lengths 0 and 1, each tried at either place; the second leaves nothing over
    ∷ classed (gatesᵖ (run 32 (run 32 end))) (gates (held :: stopped :: nil)) (showing ((32, part 2 1 1) ∷ []) 5)
    -- row(?0, ?0) on lists of 2 and of 6 children, three pairs: 2 and 6 are of one class as symbols, not as numbers of children
    ∷ classed (rowᵖ (name 0) (name 0)) (row (gates (opened :: opened :: nil)) (gates (opened :: opened :: opened :: opened :: opened :: opened :: nil)))
    (nothing 3)
    ∷ []

-- each comes to the answer stated
abbrev pub RidesHold : Type 0
RidesHold = map (λ r. answer r.language r.pattern r.term r.allowance) rides ≡ map (λ r. r.expected) rides

-- a call for the next answer after one that is told by its run lengths
pub record NextRide : Type 0 where
  pub language : Language
  pub pattern : Pattern
  pub term : Term
  pub given : List ℕ
  pub allowance : ℕ
  pub expected : Following

abbrev next_ride : ℕ → Language → Pattern → Term → List ℕ → Following → NextRide
next_ride n l q t given f = record { language = l; pattern = q; term = t; given = given; allowance = n; expected = f }

-- gates(@0, @1) on gates(open, shut), under an allowance
abbrev pair : ℕ → List ℕ → Following → NextRide
pair n = next_ride n (simple table) (gatesᵖ (run 32 (run 33 end))) (gates (opened :: shut :: nil))

abbrev pub next_rides : List NextRide
next_rides =
    -- its three answers, and none after the last
    pair ample (0 ∷ 2 ∷ []) (follows (showing ((32, part 2 1 1) ∷ (33, part 3 1 1) ∷ []) 6))
    ∷ pair ample (1 ∷ 1 ∷ []) (follows (showing ((32, part 2 2 2) ∷ (33, part 4 0 0) ∷ []) 5))
    ∷ pair ample (2 ∷ 0 ∷ []) (follows (nothing 3))
    -- lengths of no answer, too long, too few, too many
    ∷ pair ample (0 ∷ 0 ∷ []) unknown
    ∷ pair ample (3 ∷ 0 ∷ []) unknown
    ∷ pair ample (2 ∷ []) unknown
    ∷ pair ample (2 ∷ 0 ∷ 0 ∷ []) unknown
    -- spent in the check and in the search resumed; the count itself is enough
    ∷ pair 2 (0 ∷ 0 ∷ []) (follows (spent 2))
    ∷ pair 3 (0 ∷ 0 ∷ []) unknown
    -- a given length that doesn't fit is counted, in the check too
    ∷ pair 1 (3 ∷ 0 ∷ []) (follows (spent 1))
    ∷ pair 2 (3 ∷ 0 ∷ []) unknown
    ∷ pair 5 (0 ∷ 2 ∷ []) (follows (spent 5))
    ∷ pair 6 (0 ∷ 2 ∷ []) (follows (showing ((32, part 2 1 1) ∷ (33, part 3 1 1) ∷ []) 6))
    -- G: its answer is the last
    ∷ next_ride ample (simple table) (gatesᵖ (run 32 (plain (! openedᵖ) (run 33 end)))) (gates (opened :: shut :: nil)) (1 ∷ 0 ∷ []) (follows (nothing 6))
    -- no free run names: the one answer is followed by none
    ∷ next_ride ample (simple table) (gateᵖ (name 0)) (gate opened) [] (follows (nothing 2))
    -- up to class: gates(@0, @0) on gates(held, stopped)
    ∷ next_ride ample (language One wider classes) (gatesᵖ (run 32 (run 32 end))) (gates (held :: stopped :: nil)) (1 ∷ []) (follows (nothing 5))
    ∷ []

abbrev pub NextRidesHold : Type 0
NextRidesHold = map (λ s. next s.language s.pattern s.term s.given s.allowance) next_rides ≡ map (λ s. s.expected) next_rides
