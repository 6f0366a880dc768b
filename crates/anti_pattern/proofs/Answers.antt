-- The answer is told by the meaning, the count and the allowance.
use Prim.Native.Nat.{ℕ, ◌<◌, ◌≤◌}
use mathlib.Core.Path.{◌≡◌, refl, sym, ◌∙◌, ap, ap₂, subst}
use mathlib.Core.Logic.{◌↔◌, inl}
use mathlib.Core.List.{List}
use native.Mathlib.Omega.{arith}
use Rattle.answers.specs.declared.Part.{Part}
use Rattle.term.specs.Class.{Alike}
use Rattle.term.specs.Pattern.{Pattern}
use Rattle.term.specs.Term.{Term}
use Rattle.anti_pattern.specs.Answer.{Matching, bound, nothing, spent, count_of, matching_of, answer}
use Rattle.anti_pattern.specs.Demands.{First, Unsatisfied}
use Rattle.anti_pattern.specs.Language.{Language, TermOf}
use Rattle.anti_pattern.specs.Meaning.{Assignment}
use Rattle.anti_pattern.specs.Place.{parts_at}
use Rattle.anti_pattern.specs.Search.{Answers, found, failed, first_answer, whole}
use Rattle.anti_pattern.proofs.Allowance.{answer_over, answer_within}
use Rattle.anti_pattern.proofs.First.{found_first, failed_none, one_first}
use Rattle.anti_pattern.proofs.Metering.{Split, enough, over, split}
use Rattle.anti_pattern.proofs.Placed.{AnswerIn, shown_at_first_place, parts_one}

module _ (l : Language) (k : Alike l.table l.classes) (q : Pattern) (t : Term) (g : TermOf l t) where
  data Answered (n : ℕ) : Matching → Type 0 where
    is_spent : n < count_of l q t → Answered n (spent n)
    is_none : count_of l q t ≤ n → Unsatisfied l q t → Answered n (nothing (count_of l q t))
    is_bound : count_of l q t ≤ n → (a : Assignment) → First l q t a → Answered n (bound (parts_at l.table q t a) (count_of l q t))

  within_answered : (n : ℕ) → count_of l q t ≤ n → (o : Answers) → (whole l q t).out ≡ o → Answered n (matching_of l.table o (count_of l q t))
  within_answered n i (found e m o) h =
      subst (λ (ps : List Part). Answered n (bound ps (count_of l q t))) (sym (shown_at_first_place l q t g e (subst (λ (r : Answers). AnswerIn r e) (sym h) (inl refl))))
      (is_bound i e.value (found_first l q t g e (ap first_answer h)))
  within_answered n i failed h = is_none i (failed_none l q t g (ap first_answer h))

  answer_answered : (n : ℕ) → Answered n (answer l q t n)
  answer_answered n = go (split (count_of l q t) n)
    where
      go : Split (count_of l q t) n → Answered n (answer l q t n)
      go (over i) = subst (Answered n) (sym (answer_over l q t n i)) (is_spent i)
      go (enough i) = subst (Answered n) (sym (answer_within l q t n i)) (within_answered n i (whole l q t).out refl)

  module _ (n : ℕ) where
    abbrev Spent : ℕ → Type 0
    Spent m = (m ≡ n) × (n < count_of l q t)

    abbrev None : ℕ → Type 0
    None m = (m ≡ count_of l q t) × (count_of l q t ≤ n) × Unsatisfied l q t

    abbrev Bound : List Part → ℕ → Type 0
    Bound ps m = (m ≡ count_of l q t) × (count_of l q t ≤ n) × ((a : Assignment) × First l q t a × (ps ≡ parts_at l.table q t a))

    spent_there : {m : ℕ} → Answered n (spent m) → Spent m
    spent_there (is_spent i) = (refl, i)

    none_there : {m : ℕ} → Answered n (nothing m) → None m
    none_there (is_none i u) = (refl, i, u)

    bound_there : {ps : List Part} {m : ℕ} → Answered n (bound ps m) → Bound ps m
    bound_there (is_bound i a f) = (refl, i, (a, f, refl))

    spent_back : (m : ℕ) → Spent m → {x : Matching} → Answered n x → x ≡ spent m
    spent_back m s (is_spent i) = ap spent (sym s.0)
    spent_back m s (is_none i u) = absurd (omega (arith, s.1))
    spent_back m s (is_bound i a f) = absurd (omega (arith, s.1))

    none_back : (m : ℕ) → None m → {x : Matching} → Answered n x → x ≡ nothing m
    none_back m s (is_spent i) = absurd (omega (arith, s.1))
    none_back m s (is_none i u) = ap nothing (sym s.0)
    none_back m s (is_bound i a f) = absurd (s.2 a f.satisfies)

    bound_back : (ps : List Part) (m : ℕ) → Bound ps m → {x : Matching} → Answered n x → x ≡ bound ps m
    bound_back ps m s (is_spent i) = absurd (omega (arith, s.1))
    bound_back ps m s (is_none i u) = absurd (u s.2.0 s.2.1.satisfies)
    bound_back ps m s (is_bound i a f) =
        ap₂ bound (parts_one l k q t a s.2.0 (one_first l q t a s.2.0 f s.2.1) ∙ sym s.2.2) (sym s.0)

    pub spent_exactly : (m : ℕ) → (answer l q t n ≡ spent m) ↔ Spent m
    spent_exactly m = (λ e. spent_there (subst (Answered n) e (answer_answered n)), λ s. spent_back m s (answer_answered n))

    pub none_exactly : (m : ℕ) → (answer l q t n ≡ nothing m) ↔ None m
    none_exactly m = (λ e. none_there (subst (Answered n) e (answer_answered n)), λ s. none_back m s (answer_answered n))

    pub bound_exactly : (ps : List Part) (m : ℕ) → (answer l q t n ≡ bound ps m) ↔ Bound ps m
    bound_exactly ps m = (λ e. bound_there (subst (Answered n) e (answer_answered n)), λ s. bound_back ps m s (answer_answered n))

    pub larger_allowance : (more : ℕ) → count_of l q t ≤ n → n ≤ more → answer l q t more ≡ answer l q t n
    larger_allowance more i j = answer_within l q t more (omega arith) ∙ sym (answer_within l q t n i)
