-- What is demanded of the call: its answer `a` and the final buffer `after`, where the buffer held `before`.
use Rattle.std.specs.Prelude.{ℕ, ◌+◌, ◌<◌, ◌≤◌, ◌≡◌, ◌⊎◌, ◌↔◌, List, [], ◌∷◌, ◌++◌, true, length, Result}
use Rattle.answers.specs.Answers.{rule_number, rule_index, rule_count}
use Rattle.answers.specs.declared.RuleAnswer.{RuleAnswer}
use Rattle.term.specs.Term.{Term}
use Rattle.term.specs.Pattern.{Pattern}
use Rattle.anti_pattern.specs.AntiTerm.{Substitution}
use Rattle.anti_pattern.specs.Answer.{count_of}
use Rattle.anti_pattern.specs.Cost.{Enough}
use Rattle.anti_pattern.specs.Demands.{First, Unsatisfied}
use Rattle.anti_pattern.specs.Language.{Language}
use Rattle.anti_pattern.specs.Meaning.{Assignment, CountAsOne}
use Rattle.anti_pattern.specs.Published.{Solution, NoRuns, anti, assignment}
use Rattle.reader.specs.Brought.{Brought, language_of, brought_accepted}
use Rattle.call.specs.Call.{answer_width}
use Rattle.call.specs.Demands.{Handled}
use Rattle.matcher.specs.Demands.{Shows}
use Rattle.rules.specs.Call.{Input, AcceptedTrees, answer_of, buffer_of}
use Rattle.answers.specs.declared.Fault.{Fault}

-- an answer shows this number, index and count
abbrev pub ShownAs : Result RuleAnswer Fault → ℕ → ℕ → ℕ → Type 0
ShownAs a number index count = (rule_number a ≡ number) × (rule_index a ≡ index) × (rule_count a ≡ count)

module _ (l : Language) where
  -- a rule is none: its count is within the allowance, and no assignment satisfies it
  abbrev pub IsNone : Term → ℕ → Pattern → Type 0
  IsNone t allowance q = (count_of l q t ≤ allowance) × Unsatisfied l q t

  -- each of these rules is
  abbrev pub EachNone : Term → ℕ → List Pattern → Type 0
  EachNone t allowance [] = Unit {0}
  EachNone t allowance (q ∷ qs) = IsNone t allowance q × EachNone t allowance qs

  -- the sum of the counts of these rules
  abbrev pub counts : Term → List Pattern → ℕ
  counts t [] = 0
  counts t (q ∷ qs) = count_of l q t + counts t qs

  -- the rule of index k is q, and those before it are none, with this sum of their counts
  pub record Reached (qs : List Pattern) (t : Term) (allowance k : ℕ) (q : Pattern) (sum : ℕ) : Type 0 where
    pub earlier : List Pattern
    pub later : List Pattern
    pub rules : qs ≡ earlier ++ (q ∷ later)
    pub index : k ≡ length earlier
    pub passed : EachNone t allowance earlier
    pub summed : sum ≡ counts t earlier

-- each of these rules is without run names, and the allowance is as much as its nodes, or 256
abbrev pub EachEnough : ℕ → List Pattern → Type 0
EachEnough allowance [] = Unit {0}
EachEnough allowance (q ∷ qs) = NoRuns q × Enough q allowance × EachEnough allowance qs

module _ (brought : Brought) where
  abbrev l : Language
  l = language_of brought

  -- Demand 3 for each rule, for the trees of accepted input
  pub record Answered (sheet bytes before : List ℕ) (allowance : ℕ) (qs : List Pattern) (t : Term) (a : Result RuleAnswer Fault) (after : List ℕ) : Type 0 where
    -- bound at a rule exactly when those before it are none and an assignment satisfies it; it shows the sum of their counts and its own
    pub bound_exactly : (k n : ℕ)
        → ShownAs a 0 k n
        ↔ ((q : Pattern) × (sum : ℕ) × Reached l qs t allowance k q sum
        × (count_of l q t ≤ allowance) × ((x : Assignment) × First l q t x) × (n ≡ sum + count_of l q t))
    -- spent at a rule exactly when those before it are none and its count is over the allowance, which it adds to the sum
    pub spent_exactly : (k n : ℕ)
        → ShownAs a 11 k n
        ↔ ((q : Pattern) × (sum : ℕ) × Reached l qs t allowance k q sum × (allowance < count_of l q t) × (n ≡ sum + allowance))
    -- none exactly when every rule is; it shows the whole sum and index 0
    pub none_exactly : (n : ℕ) → ShownAs a 10 0 n ↔ (EachNone l t allowance qs × (n ≡ counts l t qs))
    -- of a rule that is bound the buffer shows the first assignment
    pub bound_shows : rule_number a ≡ 0
        → (q : Pattern) × (sum : ℕ) × Reached l qs t allowance (rule_index a) q sum × ((x : Assignment) × First l q t x × Shows brought.table bytes q t x after)
    -- unless a rule is spent, every larger allowance gives the same answer and final buffer
    pub larger_allowance : (more : ℕ) → (rule_number a ≡ 11 → ⊥) → allowance ≤ more
        → (answer_of brought sheet bytes more (length before) ≡ a) × (buffer_of brought sheet bytes more before ≡ after)

  -- Demand 2, for each rule q without run names, by the published definition
  pub record Published (bytes : List ℕ) (allowance : ℕ) (qs : List Pattern) (t : Term) (a : Result RuleAnswer Fault) (after : List ℕ) (q : Pattern) (n : NoRuns q) : Type 0 where
    -- it is none, within the allowance, exactly when it has no solution
    pub none_exactly : IsNone l t allowance q ↔ ((count_of l q t ≤ allowance) × ((σ : Substitution) → Solution l (anti q n) t σ → ⊥))
    -- where it is reached it is bound exactly when it has one, and then the buffer shows it
    pub bound_exactly : (k sum : ℕ) → Reached l qs t allowance k q sum
        → ((rule_number a ≡ 0) × (rule_index a ≡ k)) ↔ ((count_of l q t ≤ allowance) × ((σ : Substitution) × Solution l (anti q n) t σ))
    pub bound_shows : (sum : ℕ) → rule_number a ≡ 0 → Reached l qs t allowance (rule_index a) q sum
        → (σ : Substitution) × Solution l (anti q n) t σ × Shows brought.table bytes q t (assignment σ) after
    -- it is the only substitution there is
    pub only_one : (σ ρ : Substitution) → Solution l (anti q n) t σ → Solution l (anti q n) t ρ → CountAsOne l (assignment σ) (assignment ρ)

  -- What a rule can cost at most (document 02, L14)
  pub record Bounded (allowance : ℕ) (qs : List Pattern) (t : Term) (a : Result RuleAnswer Fault) : Type 0 where
    -- such an allowance "is never spent" on a rule without run names
    pub never_spent : (q : Pattern) → NoRuns q → Enough q allowance → (k sum : ℕ) → Reached l qs t allowance k q sum
        → rule_number a ≡ 11 → rule_index a ≡ k → ⊥
    -- nor on a sheet of them
    pub bound_or_none : EachEnough allowance qs → (rule_number a ≡ 0) ⊎ (rule_number a ≡ 10)

-- All three, and what a rule can cost at most; accepted input is always answered
pub record Demanded (brought : Brought) (sheet bytes before : List ℕ) (allowance : ℕ) (a : Result RuleAnswer Fault)
    (after : List ℕ) : Type 0 where
  pub handled : Handled brought (AcceptedTrees brought sheet bytes) (λ x. ⊥) before (rule_number a) (rule_count a) after
  pub published : answer_width ≤ length before → brought_accepted brought ≡ true → (qs : List Pattern) (t : Term) → Input brought sheet bytes qs t
      → (q : Pattern) (n : NoRuns q) → Published brought bytes allowance qs t a after q n
  pub answered : answer_width ≤ length before → brought_accepted brought ≡ true → (qs : List Pattern) (t : Term) → Input brought sheet bytes qs t
      → Answered brought sheet bytes before allowance qs t a after
  pub bounded : answer_width ≤ length before → brought_accepted brought ≡ true → (qs : List Pattern) (t : Term) → Input brought sheet bytes qs t
      → Bounded brought allowance qs t a

-- Answer, final buffer and demands in one, which only a private function's contract cites
abbrev pub Called : Brought → List ℕ → List ℕ → List ℕ → ℕ → Result RuleAnswer Fault → List ℕ → Type 0
Called brought sheet bytes before allowance a after =
    (a ≡ answer_of brought sheet bytes allowance (length before))
    × ((after ≡ buffer_of brought sheet bytes allowance before) × Demanded brought sheet bytes before allowance a after)

-- What is demanded where only the final buffer is at hand: of the answer that the call has
abbrev pub DemandedOf : Brought → List ℕ → List ℕ → List ℕ → ℕ → List ℕ → Type 0
DemandedOf brought sheet bytes before allowance after =
    Demanded brought sheet bytes before allowance (answer_of brought sheet bytes allowance (length before)) after
