-- What is demanded of the call: its answer `a` and the final buffer `after`, where the buffer held `before`.
use Rattle.std.specs.Prelude.{ℕ, zero, ◌+◌, ◌*◌, ◌<◌, ◌≤◌, ◌≡◌, ◌⊎◌, ◌↔◌, List, [], ◌∷◌, map, true, false, length, get_or, take, drop, Result, Some, None, Ok}
use Rattle.answers.specs.Refusal.{number_of}
use Rattle.answers.specs.Answers.{answer_number, answer_count}
use Rattle.answers.specs.declared.Refusal.TheVariants.{Unknown}
use Rattle.answers.specs.declared.Answer.{Answer}
use Rattle.term.specs.Code.{names, variables}
use Rattle.term.specs.Term.{Term, Terms, count, terms_bytes}
use Rattle.term.specs.Pattern.{Pattern}
use Rattle.anti_pattern.specs.AntiTerm.{Substitution}
use Rattle.anti_pattern.specs.Answer.{count_of}
use Rattle.anti_pattern.specs.Demands.{First, Unsatisfied, OneForEach, UnknownLengths, Given, NextAfter, Last, Enumerates, assignments}
use Rattle.anti_pattern.specs.Language.{Language}
use Rattle.anti_pattern.specs.Meaning.{Assignment, CountAsOne}
use Rattle.anti_pattern.specs.Next.{next_count}
use Rattle.anti_pattern.specs.Order.{run_lengths}
use Rattle.anti_pattern.specs.Place.{place, parts_at}
use Rattle.anti_pattern.specs.Published.{Solution, NoRuns, anti, assignment}
use Rattle.anti_pattern.specs.Variables.{free, among, free_runs}
use Rattle.reader.specs.Brought.{Brought, classes_of, language_of, brought_accepted}
use Rattle.call.specs.Demands.{Handled}
use Rattle.matcher.specs.Call.{Input, AcceptedTrees, checked, check_of, answer_of, buffer_of}
use Rattle.matcher.specs.Cost.{Bounded, NextBounded}
use Rattle.matcher.specs.Next.{next_of, next_buffer_of}
use Rattle.parts.specs.Shown.{numbers, entry_width, answer_width}
use Rattle.answers.specs.declared.Refusal.{Refusal}

-- the numbers that a buffer has for a variable
abbrev pub offset_in : List ℕ → ℕ → ℕ
offset_in buffer v = get_or buffer (entry_width * v) 0

abbrev pub length_in : List ℕ → ℕ → ℕ
length_in buffer v = get_or buffer (entry_width * v + 1) 0

abbrev pub terms_in : List ℕ → ℕ → ℕ
terms_in buffer v = get_or buffer (entry_width * v + 2) 0

-- of input that passed every check, in whatever edition, with that class list or, if it is empty, with none: it is the match with every check
pub record AsChecked (table classes pattern bytes before : List ℕ) (allowance : ℕ) (a : Result Answer Refusal) (after : List ℕ) : Type 0 where
  pub as_called : (brought : Brought) → brought.table ≡ table → classes_of brought ≡ classes → check_of (checked brought pattern bytes (length before)) ≡ Ok tt
      → (a ≡ answer_of brought pattern bytes allowance (length before)) × (after ≡ buffer_of brought pattern bytes allowance before)

-- a buffer shows an assignment: of each free variable the part of the record that is its value, at its first place outside complements
pub record Shows (table bytes : List ℕ) (q : Pattern) (t : Term) (x : Assignment) (buffer : List ℕ) : Type 0 where
  pub first_place : (v : ℕ) → among v (free q) ≡ true → place table q t zero x v None ≡ Some (offset_in buffer v)
  pub value_length : (v : ℕ) (w : Terms) → among v (free q) ≡ true → x v ≡ Some w → length_in buffer v ≡ length (terms_bytes table w [])
  pub value_bytes : (v : ℕ) (w : Terms) → among v (free q) ≡ true → x v ≡ Some w
      → take (length_in buffer v) (drop (offset_in buffer v) bytes) ≡ terms_bytes table w []
  pub value_terms : (v : ℕ) (w : Terms) → among v (free q) ≡ true → x v ≡ Some w → terms_in buffer v ≡ count w
  -- "A name has one term"
  pub name_term : (v : ℕ) → v < names → among v (free q) ≡ true → terms_in buffer v ≡ 1
  -- "an absent name or run name shows 65,535, 0, 0"
  pub absent_mark : (v : ℕ) → v < variables → among v (free q) ≡ false → (offset_in buffer v ≡ 65535) × (length_in buffer v ≡ 0) × (terms_in buffer v ≡ 0)
  -- the lengths by which the next answer is asked for
  pub run_lengths_holds : map (terms_in buffer) (free_runs q) ≡ run_lengths q x

module _ (brought : Brought) where
  abbrev l : Language
  l = language_of brought

  -- Demand 3, for the trees of accepted input
  pub record Answered (pattern bytes before : List ℕ) (allowance : ℕ) (q : Pattern) (t : Term) (a : Result Answer Refusal) (after : List ℕ) : Type 0 where
    -- spent exactly when the count is over the allowance, which it then shows
    pub spent_exactly : (answer_number a ≡ 11) ↔ (allowance < count_of l q t)
    pub spent_shows : allowance < count_of l q t → answer_count a ≡ allowance
    -- otherwise the count
    pub shows_count : count_of l q t ≤ allowance → answer_count a ≡ count_of l q t
    -- none exactly when no assignment satisfies
    pub none_exactly : (answer_number a ≡ 10) ↔ ((count_of l q t ≤ allowance) × Unsatisfied l q t)
    -- bound exactly when one does, and then the buffer shows the first
    pub bound_exactly : (answer_number a ≡ 0) ↔ ((count_of l q t ≤ allowance) × ((x : Assignment) × First l q t x))
    pub bound_shows : answer_number a ≡ 0 → (x : Assignment) × First l q t x × Shows brought.table bytes q t x after
    -- every larger allowance gives the same answer and final buffer
    pub larger_allowance : (more : ℕ) → count_of l q t ≤ allowance → allowance ≤ more
        → (answer_of brought pattern bytes more (length before) ≡ a) × (buffer_of brought pattern bytes more before ≡ after)

  -- Demand 2, for a pattern without run names, by the published definition
  pub record Published (bytes : List ℕ) (allowance : ℕ) (q : Pattern) (n : NoRuns q) (t : Term) (a : Result Answer Refusal) (after : List ℕ) : Type 0 where
    pub none_exactly : (answer_number a ≡ 10) ↔ ((count_of l q t ≤ allowance) × ((σ : Substitution) → Solution l (anti q n) t σ → ⊥))
    pub bound_exactly : (answer_number a ≡ 0) ↔ ((count_of l q t ≤ allowance) × ((σ : Substitution) × Solution l (anti q n) t σ))
    pub bound_shows : answer_number a ≡ 0 → (σ : Substitution) × Solution l (anti q n) t σ × Shows brought.table bytes q t (assignment σ) after
    -- it is the only substitution there is
    pub only_one : (σ ρ : Substitution) → Solution l (anti q n) t σ → Solution l (anti q n) t ρ → CountAsOne l (assignment σ) (assignment ρ)

  -- Every answer, for whoever only has the calls: what those after the one that showed these lengths show, each with the lengths shown before, until
  -- there is none. Each call has an allowance and a buffer of its own.
  pub data NextCalls (pattern bytes : List ℕ) (q : Pattern) : List ℕ → List (List ℕ) → Type 0 where
    no_more : {given : List ℕ} (allowance : ℕ) (before : List ℕ) → answer_width ≤ length before
        → answer_number (next_of brought pattern bytes given allowance (length before)) ≡ 10 → NextCalls pattern bytes q given []
    one_more : {given : List ℕ} {shown : List (List ℕ)} (allowance : ℕ) (before : List ℕ) → answer_width ≤ length before
        → answer_number (next_of brought pattern bytes given allowance (length before)) ≡ 0
        → NextCalls pattern bytes q (map (terms_in (next_buffer_of brought pattern bytes given allowance before)) (free_runs q)) shown
        → NextCalls pattern bytes q given (take answer_width (next_buffer_of brought pattern bytes given allowance before) ∷ shown)

  -- and from the first on
  pub data AllCalls (pattern bytes : List ℕ) (q : Pattern) : List (List ℕ) → Type 0 where
    none_at_all : (allowance : ℕ) (before : List ℕ) → answer_width ≤ length before
        → answer_number (answer_of brought pattern bytes allowance (length before)) ≡ 10 → AllCalls pattern bytes q []
    from_first : {shown : List (List ℕ)} (allowance : ℕ) (before : List ℕ) → answer_width ≤ length before
        → answer_number (answer_of brought pattern bytes allowance (length before)) ≡ 0
        → NextCalls pattern bytes q (map (terms_in (buffer_of brought pattern bytes allowance before)) (free_runs q)) shown
        → AllCalls pattern bytes q (take answer_width (buffer_of brought pattern bytes allowance before) ∷ shown)

  -- "while no call is spent, the answers from the first on are all satisfying assignments, each once, in order"; and there are such calls
  pub record EveryCall (pattern bytes : List ℕ) (q : Pattern) (t : Term) : Type 0 where
    pub listed : Enumerates l q t (assignments l q t)
    pub shown : (nss : List (List ℕ)) → AllCalls pattern bytes q nss → nss ≡ map (λ x. numbers (parts_at brought.table q t x)) (assignments l q t)
    pub callable : AllCalls pattern bytes q (map (λ x. numbers (parts_at brought.table q t x)) (assignments l q t))

  -- The next answer (document 02, L3), for the trees of accepted input
  pub record NextAnswered (pattern bytes given before : List ℕ) (allowance : ℕ) (q : Pattern) (t : Term) (a : Result Answer Refusal) (after : List ℕ) : Type 0 where
    -- 15 exactly for unknown lengths
    pub unknown_exactly : (answer_number a ≡ number_of Unknown) ↔ UnknownLengths l q t given allowance
    -- spent exactly when the count is over the allowance, which it then shows
    pub spent_exactly : (answer_number a ≡ 11) ↔ (OneForEach q given × (allowance < next_count l q t given))
    pub spent_shows : answer_number a ≡ 11 → answer_count a ≡ allowance
    -- otherwise the count
    pub shows_count : (answer_number a ≡ 10) ⊎ (answer_number a ≡ 0) → answer_count a ≡ next_count l q t given
    -- none exactly when the given answer is the last
    pub none_exactly : (answer_number a ≡ 10) ↔ ((next_count l q t given ≤ allowance) × ((x : Assignment) × Given l q t given x × Last l q t x))
    -- bound exactly when another comes after it, and then the buffer shows the next
    pub bound_exactly : (answer_number a ≡ 0)
        ↔ ((next_count l q t given ≤ allowance) × ((x : Assignment) × (y : Assignment) × Given l q t given x × NextAfter l q t x y))
    pub bound_shows : answer_number a ≡ 0 → (x : Assignment) × (y : Assignment) × Given l q t given x × NextAfter l q t x y × Shows brought.table bytes q t y after
    -- every larger allowance gives the same answer and final buffer
    pub larger_allowance : (more : ℕ) → next_count l q t given ≤ allowance → allowance ≤ more
        → (next_of brought pattern bytes given more (length before) ≡ a) × (next_buffer_of brought pattern bytes given more before ≡ after)
    -- the answers from the first on are all
    pub every : EveryCall pattern bytes q t

-- All three, and what a rule can cost at most; accepted input is always answered
pub record Demanded (brought : Brought) (pattern bytes before : List ℕ) (allowance : ℕ) (a : Result Answer Refusal) (after : List ℕ) : Type 0 where
  pub handled : Handled brought (AcceptedTrees (language_of brought) pattern bytes) (λ x. ⊥) before (answer_number a) (answer_count a) after
  pub published : answer_width ≤ length before → brought_accepted brought ≡ true → (q : Pattern) (t : Term) → Input (language_of brought) pattern bytes q t → (n : NoRuns q)
      → Published brought bytes allowance q n t a after
  pub answered : answer_width ≤ length before → brought_accepted brought ≡ true → (q : Pattern) (t : Term) → Input (language_of brought) pattern bytes q t
      → Answered brought pattern bytes before allowance q t a after
  pub bounded : answer_width ≤ length before → brought_accepted brought ≡ true → (q : Pattern) (t : Term) → Input (language_of brought) pattern bytes q t → NoRuns q
      → Bounded allowance q a

-- The next answer (document 02, L3): answer and final buffer after the answer with the given run lengths
pub record NextDemanded (brought : Brought) (pattern bytes given before : List ℕ) (allowance : ℕ) (a : Result Answer Refusal) (after : List ℕ) : Type 0 where
  pub handled : Handled brought (AcceptedTrees (language_of brought) pattern bytes) (λ x. UnknownLengths (language_of brought) x.0 x.1 given allowance) before
      (answer_number a) (answer_count a) after
  pub answered : answer_width ≤ length before → brought_accepted brought ≡ true → (q : Pattern) (t : Term) → Input (language_of brought) pattern bytes q t
      → NextAnswered brought pattern bytes given before allowance q t a after
  pub bounded : answer_width ≤ length before → brought_accepted brought ≡ true → (q : Pattern) (t : Term) → Input (language_of brought) pattern bytes q t → NoRuns q
      → NextBounded allowance q a

-- answer, final buffer and demands in one, which only a private function's contract cites
abbrev pub Called : Brought → List ℕ → List ℕ → List ℕ → ℕ → Result Answer Refusal → List ℕ → Type 0
Called brought pattern bytes before allowance a after =
    (a ≡ answer_of brought pattern bytes allowance (length before))
    × ((after ≡ buffer_of brought pattern bytes allowance before) × Demanded brought pattern bytes before allowance a after)

-- the same of the next answer
abbrev pub NextCalled : Brought → List ℕ → List ℕ → List ℕ → List ℕ → ℕ → Result Answer Refusal → List ℕ → Type 0
NextCalled brought pattern bytes given before allowance a after =
    (a ≡ next_of brought pattern bytes given allowance (length before))
    × ((after ≡ next_buffer_of brought pattern bytes given allowance before) × NextDemanded brought pattern bytes given before allowance a after)

-- What is demanded where only the final buffer is at hand: of the answer that the call has

abbrev pub DemandedOf : Brought → List ℕ → List ℕ → List ℕ → ℕ → List ℕ → Type 0
DemandedOf brought pattern bytes before allowance after =
    Demanded brought pattern bytes before allowance (answer_of brought pattern bytes allowance (length before)) after

abbrev pub NextDemandedOf : Brought → List ℕ → List ℕ → List ℕ → List ℕ → ℕ → List ℕ → Type 0
NextDemandedOf brought pattern bytes given before allowance after =
    NextDemanded brought pattern bytes given before allowance (next_of brought pattern bytes given allowance (length before)) after
