-- What is demanded of the search, of its answer and of the published definition, in a language. The theorems are in proofs/Demands.
use Rattle.std.specs.Prelude.{ℕ, zero, ◌<◌, ◌≤◌, ◌≡◌, ◌⊎◌, ◌↔◌, List, [], ◌∷◌, map, true, false, length, get_or, Some, None}
use Rattle.answers.specs.Part.{part, absent}
use Rattle.answers.specs.declared.Part.{Part}
use Rattle.term.specs.Pattern.{Pattern}
use Rattle.term.specs.Term.{Term, Terms}
use Rattle.anti_pattern.specs.Answer.{Matching, bound, nothing, spent, parts, count_of, answer}
use Rattle.anti_pattern.specs.AntiTerm.{Anti, Free, Substitution}
use Rattle.anti_pattern.specs.Cost.{nodes}
use Rattle.anti_pattern.specs.Ground.{Way, Semantics}
use Rattle.anti_pattern.specs.Language.{Language, ◌⊢◌≈◌}
use Rattle.anti_pattern.specs.Meaning.{Assignment, SatisfiesOver, Satisfies, CountAsOne}
use Rattle.anti_pattern.specs.Next.{Following, follows, unknown, check_count, next_count, next}
use Rattle.anti_pattern.specs.Order.{All, Member, Ascending, run_lengths, Smaller}
use Rattle.anti_pattern.specs.Place.{place, variable_part, parts_at}
use Rattle.anti_pattern.specs.Published.{◌⊢◌∈⟦◌⟧, Solution, NoRuns, anti, assignment}
use Rattle.anti_pattern.specs.Scope.{apart, Apart}
use Rattle.anti_pattern.specs.Search.{Env, first_answer, answers, whole}
use Rattle.anti_pattern.specs.Variables.{free, among, free_runs}

-- "not one for each free run name"
abbrev pub OneForEach : Pattern → List ℕ → Type 0
OneForEach q given = length given ≡ length (free_runs q)

-- the lengths that an answer shows for the free run names, in elements
abbrev pub lengths_shown : Pattern → List Part → List ℕ
lengths_shown q ps = map (λ v. (get_or ps v (part 0 0 0)).elements) (free_runs q)

-- an answer that is not spent; and a next answer that is neither spent nor bound
abbrev pub BoundOrNone : Matching → Type 0
BoundOrNone (bound ps n) = Unit {0}
BoundOrNone (nothing n) = Unit {0}
BoundOrNone (spent n) = ⊥

abbrev pub NoneOrUnknown : Following → Type 0
NoneOrUnknown (follows (bound ps n)) = ⊥
NoneOrUnknown (follows (nothing n)) = Unit {0}
NoneOrUnknown (follows (spent n)) = ⊥
NoneOrUnknown unknown = Unit {0}

module _ (l : Language) where
  -- the first of the satisfying assignments: "the one with the smaller length where these lists first differ"
  pub record First (q : Pattern) (t : Term) (a : Assignment) : Type 0 where
    pub satisfies : Satisfies l q t a
    pub least : (b : Assignment) → Satisfies l q t b → Smaller (run_lengths q a) (run_lengths q b) ⊎ CountAsOne l a b

  -- no assignment satisfies, whatever terms and runs it has
  abbrev pub Unsatisfied : Pattern → Term → Type 0
  Unsatisfied q t = (a : Assignment) → Satisfies l q t a → ⊥

  -- every satisfying assignment, each counted once, in document 01's order: "Assignments that differ only within classes count as one."
  pub record Enumerates (q : Pattern) (t : Term) (bs : List Assignment) : Type 0 where
    pub ascending : Ascending (λ a b. Smaller (run_lengths q a) (run_lengths q b)) bs
    pub satisfy : All (Satisfies l q t) bs
    pub listed : (a : Assignment) → Satisfies l q t a → (b : Assignment) × Member b bs × CountAsOne l b a

  -- those of the search, from the first answer on
  abbrev pub assignments : Pattern → Term → List Assignment
  assignments q t = map (λ e. e.value) (answers (whole l q t).out)

  module _ (q : Pattern) (t : Term) where
    -- 1. What the search finds satisfies, and every other satisfying assignment has later run lengths; where it fails, none satisfies.
    pub record SearchDecides : Type 0 where
      pub found_first : (e : Env) → first_answer (whole l q t).out ≡ Some e → First q t e.value
      pub failed_none : first_answer (whole l q t).out ≡ None → Unsatisfied q t
      -- "Equal lists mean equal satisfying assignments."
      pub equal_lengths : (a b : Assignment) → Satisfies l q t a → Satisfies l q t b → run_lengths q a ≡ run_lengths q b → CountAsOne l a b

    -- 2. The parts shown are those at the first places outside complements; a variable that is not free has none.
    pub record PartsShown : Type 0 where
      pub shown_at_first_place : (e : Env) → Member e (answers (whole l q t).out) → parts l.table e ≡ parts_at l.table q t e.value
      pub free_placed : (a : Assignment) → Satisfies l q t a → (v : ℕ) → among v (free q) ≡ true
          → (at : ℕ) × (w : Terms) × (place l.table q t zero a v None ≡ Some at) × (a v ≡ Some w)
      pub others_absent : (a : Assignment) → Satisfies l q t a → (v : ℕ) → among v (free q) ≡ false → variable_part l.table q t a v ≡ absent

    -- 3. Spent exactly when the count is over the allowance; otherwise bound or none, by the meaning alone, with the count.
    pub record AnswerExact (allowance : ℕ) : Type 0 where
      pub spent_exactly : (n : ℕ) → (answer l q t allowance ≡ spent n) ↔ ((n ≡ allowance) × (allowance < count_of l q t))
      pub none_exactly : (n : ℕ) → (answer l q t allowance ≡ nothing n) ↔ ((n ≡ count_of l q t) × (count_of l q t ≤ allowance) × Unsatisfied q t)
      pub bound_exactly : (ps : List Part) (n : ℕ)
          → (answer l q t allowance ≡ bound ps n)
          ↔ ((n ≡ count_of l q t) × (count_of l q t ≤ allowance) × ((a : Assignment) × First q t a × (ps ≡ parts_at l.table q t a)))
      -- every larger allowance gives the same word, count and parts
      pub larger_allowance : (more : ℕ) → count_of l q t ≤ allowance → allowance ≤ more → answer l q t more ≡ answer l q t allowance

    -- 4. Without run names: the published solutions are the satisfying assignments, all of them count as one, and the answer is bound, with the
    -- parts of the solution, or none exactly when there is no solution.
    pub record PublishedAgrees (n : NoRuns q) (allowance : ℕ) : Type 0 where
      pub solution_satisfies : (σ : Substitution) → Solution l (anti q n) t σ ↔ Satisfies l q t (assignment σ)
      pub satisfying_substitution : (a : Assignment) → Satisfies l q t a → (σ : Substitution) × (a ≡ assignment σ)
      pub at_most_one : (σ ρ : Substitution) → Solution l (anti q n) t σ → Solution l (anti q n) t ρ → CountAsOne l (assignment σ) (assignment ρ)
      pub bound_exactly : (ps : List Part) (m : ℕ)
          → (answer l q t allowance ≡ bound ps m)
          ↔ ((m ≡ count_of l q t) × (count_of l q t ≤ allowance)
          × ((σ : Substitution) × Solution l (anti q n) t σ × (ps ≡ parts_at l.table q t (assignment σ))))
      pub none_exactly : (m : ℕ)
          → (answer l q t allowance ≡ nothing m)
          ↔ ((m ≡ count_of l q t) × (count_of l q t ≤ allowance) × ((σ : Substitution) → Solution l (anti q n) t σ → ⊥))

    -- 5. Terms outside the table would make no difference: over all trees the same assignments satisfy, and so within complements.
    abbrev pub OverTable : Type 0
    OverTable = (a : Assignment) → SatisfiesOver l (λ w. Unit {0}) q t a ↔ Satisfies l q t a

  -- 6. Every answer, document 02's L3. The answer that is meant by the given lengths
  pub record Given (q : Pattern) (t : Term) (given : List ℕ) (a : Assignment) : Type 0 where
    pub satisfies : Satisfies l q t a
    pub lengths : run_lengths q a ≡ given

  -- "the next in document 01's order": of the satisfying assignments after a, the first
  pub record NextAfter (q : Pattern) (t : Term) (a b : Assignment) : Type 0 where
    pub satisfies : Satisfies l q t b
    pub later : Smaller (run_lengths q a) (run_lengths q b)
    pub least : (c : Assignment) → Satisfies l q t c → Smaller (run_lengths q a) (run_lengths q c)
        → Smaller (run_lengths q b) (run_lengths q c) ⊎ CountAsOne l b c

  abbrev pub Last : Pattern → Term → Assignment → Type 0
  Last q t a = (c : Assignment) → Satisfies l q t c → Smaller (run_lengths q a) (run_lengths q c) → ⊥

  -- 15: the given lengths are not one for each free run name or, the check within the allowance, "belong to no answer"
  abbrev pub UnknownLengths : Pattern → Term → List ℕ → ℕ → Type 0
  UnknownLengths q t given allowance =
      (OneForEach q given → ⊥) ⊎ (OneForEach q given × (check_count l q t given ≤ allowance) × ((a : Assignment) → Given q t given a → ⊥))

  module _ (q : Pattern) (t : Term) where
    -- Unknown exactly for unknown lengths; spent exactly when the count is over the allowance; otherwise the next answer or none, by the meaning
    -- alone, with the count.
    pub record NextExact (given : List ℕ) (allowance : ℕ) : Type 0 where
      pub unknown_exactly : (next l q t given allowance ≡ unknown) ↔ UnknownLengths q t given allowance
      pub spent_exactly : (n : ℕ)
          → (next l q t given allowance ≡ follows (spent n)) ↔ ((n ≡ allowance) × OneForEach q given × (allowance < next_count l q t given))
      pub none_exactly : (n : ℕ)
          → (next l q t given allowance ≡ follows (nothing n))
          ↔ ((n ≡ next_count l q t given) × (next_count l q t given ≤ allowance) × ((a : Assignment) × Given q t given a × Last q t a))
      pub bound_exactly : (ps : List Part) (n : ℕ)
          → (next l q t given allowance ≡ follows (bound ps n))
          ↔ ((n ≡ next_count l q t given) × (next_count l q t given ≤ allowance)
          × ((a : Assignment) × (b : Assignment) × Given q t given a × NextAfter q t a b × (ps ≡ parts_at l.table q t b)))
      pub larger_allowance : (more : ℕ) → next_count l q t given ≤ allowance → allowance ≤ more → next l q t given more ≡ next l q t given allowance

    -- The calls, each with an allowance of its own: what those after the one that showed these lengths show, until there is none
    pub data Asked : List ℕ → List (List Part) → Type 0 where
      no_more : {given : List ℕ} (allowance n : ℕ) → next l q t given allowance ≡ follows (nothing n) → Asked given []
      one_more : {given : List ℕ} {ps : List Part} {pss : List (List Part)} (allowance n : ℕ) → next l q t given allowance ≡ follows (bound ps n)
          → Asked (lengths_shown q ps) pss → Asked given (ps ∷ pss)

    -- and from the first on
    pub data Calls : List (List Part) → Type 0 where
      none_at_all : (allowance n : ℕ) → answer l q t allowance ≡ nothing n → Calls []
      from_first : {ps : List Part} {pss : List (List Part)} (allowance n : ℕ) → answer l q t allowance ≡ bound ps n
          → Asked (lengths_shown q ps) pss → Calls (ps ∷ pss)

    -- "while no call is spent, the answers from the first on are all satisfying assignments, each once, in order"; and there are such calls
    pub record EveryAnswer : Type 0 where
      pub listed : Enumerates q t (assignments q t)
      pub shown : (pss : List (List Part)) → Calls pss → pss ≡ map (parts_at l.table q t) (assignments q t)
      pub callable : Calls (map (parts_at l.table q t) (assignments q t))

    -- 7. What a rule can cost at most, document 02's L14, for a pattern without run names.
    pub record CostBound : Type 0 where
      -- "the full search's count is at most the number of the pattern's nodes"; such an allowance "is never spent"
      pub count_at_most : count_of l q t ≤ nodes q
      pub bound_or_none : (allowance : ℕ) → nodes q ≤ allowance → BoundOrNone (answer l q t allowance)
      -- the next answer counts as much, since nothing is counted after its check: after the one answer there is none
      pub next_counts : (given : List ℕ) → next_count l q t given ≡ count_of l q t
      pub none_follows : (given : List ℕ) (allowance : ℕ) → nodes q ≤ allowance → NoneOrUnknown (next l q t given allowance)

  -- What 001 leaves open makes no difference then: which complement is taken first and with which fresh variable; and, where the names are apart
  -- already, whether they are renamed.
  pub record ChoicesAgree (q : Anti ℕ) (t : Term) : Type 0 where
    pub some_way : Way (apart q)
    pub any_way : (w v : Way (apart q)) → Semantics l w t ↔ Semantics l v t
    pub no_clash : Apart (λ x. Free x q) q → (w : Way q) → Semantics l w t ↔ (l ⊢ t ∈⟦ q ⟧)

-- By 001 alone the choice matters.
abbrev pub ChoiceMatters : Type 0
ChoiceMatters = (l : Language) × (q : Anti ℕ) × (t : Term) × (w : Way q) × (v : Way q) × Semantics l w t × (Semantics l v t → ⊥)

-- With a class list of single classes, and without one, the same terms are equal ones, and what counts as one is equal: document 01's words.
pub record SingleClasses (l : Language) : Type 0 where
  pub same : (t u : Term) → (l ⊢ t ≈ u) ↔ (t ≡ u)
  pub one : (a b : Assignment) → CountAsOne l a b ↔ (a ≡ b)
