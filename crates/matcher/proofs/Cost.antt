-- The match of an accepted pattern without run names counts its nodes at most; so does the next answer.
use Prim.Native.Nat.{ℕ, ◌≤◌}
use native.Mathlib.Omega.{arith}
use mathlib.Core.Path.{◌≡◌, refl}
use mathlib.Core.Logic.{◌⊎◌, inl, inr}
use mathlib.Core.List.{List}
use Rattle.answers.specs.Refusal.{number_of}
use Rattle.answers.specs.Answers.{answer_number, answer_count}
use Rattle.answers.specs.declared.Refusal.TheVariants.{Unknown}
use Rattle.term.specs.Limits.{PatternAccepted}
use Rattle.term.specs.Pattern.{Pattern}
use Rattle.term.specs.Term.{Term}
use Rattle.anti_pattern.specs.Answer.{Matching, bound, nothing, spent, answer}
use Rattle.anti_pattern.specs.Cost.{nodes}
use Rattle.anti_pattern.specs.Demands.{BoundOrNone, NoneOrUnknown, CostBound, AnswerExact, NextExact}
use Rattle.anti_pattern.specs.Language.{Language}
use Rattle.anti_pattern.specs.Next.{Following, follows, unknown, next}
use Rattle.anti_pattern.specs.Published.{NoRuns}
use Rattle.anti_pattern.proofs.Cost.{enough_nodes}
use Rattle.anti_pattern.proofs.Demands.{cost_bound}
use Rattle.matcher.specs.Call.{told}
use Rattle.matcher.specs.Cost.{Bounded, NextBounded}
use Rattle.matcher.specs.Next.{told_next}

bound_or_none_told : (o : Matching) → BoundOrNone o → (answer_number (told o) ≡ 0) ⊎ (answer_number (told o) ≡ 10)
bound_or_none_told (bound ps n) h = inl refl
bound_or_none_told (nothing n) h = inr refl
bound_or_none_told (spent n) h = absurd h

none_or_unknown_told : (f : Following) → NoneOrUnknown f → (answer_number (told_next f) ≡ 10) ⊎ (answer_number (told_next f) ≡ number_of Unknown)
none_or_unknown_told (follows (bound ps n)) h = absurd h
none_or_unknown_told (follows (nothing n)) h = inl refl
none_or_unknown_told (follows (spent n)) h = absurd h
none_or_unknown_told unknown h = inr refl

module _ (l : Language) (q : Pattern) (accepted : PatternAccepted l q) (n : NoRuns q) (t : Term) (allowance : ℕ) where
  cost : CostBound l q t
  cost = cost_bound l q n t

  count_told : AnswerExact l q t allowance → (o : Matching) → answer l q t allowance ≡ o → answer_count (told o) ≤ nodes q
  count_told x (bound ps m) e = omega (arith, ((x.bound_exactly ps m).0 e).0, cost.count_at_most)
  count_told x (nothing m) e = omega (arith, ((x.none_exactly m).0 e).0, cost.count_at_most)
  count_told x (spent m) e = let s = (x.spent_exactly m).0 e in omega (arith, s.0, s.1, cost.count_at_most)

  pub bounded : AnswerExact l q t allowance → Bounded allowance q (told (answer l q t allowance))
  bounded x = record {
    shows_at_most = count_told x (answer l q t allowance) refl;
    bound_or_none = λ h. bound_or_none_told (answer l q t allowance) (cost.bound_or_none allowance (enough_nodes l q allowance accepted h));
  }

  module _ (given : List ℕ) where
    next_count_told : NextExact l q t given allowance → (f : Following) → next l q t given allowance ≡ f → answer_count (told_next f) ≤ nodes q
    next_count_told x (follows (bound ps m)) e = omega (arith, ((x.bound_exactly ps m).0 e).0, cost.next_counts given, cost.count_at_most)
    next_count_told x (follows (nothing m)) e = omega (arith, ((x.none_exactly m).0 e).0, cost.next_counts given, cost.count_at_most)
    next_count_told x (follows (spent m)) e =
        let s = (x.spent_exactly m).0 e in omega (arith, s.0, s.2, cost.next_counts given, cost.count_at_most)
    next_count_told x unknown e = omega arith

    pub next_bounded : NextExact l q t given allowance → NextBounded allowance q (told_next (next l q t given allowance))
    next_bounded x = record {
      shows_at_most = next_count_told x (next l q t given allowance) refl;
      none_or_unknown = λ h.
          none_or_unknown_told (next l q t given allowance) (cost.none_follows given allowance (enough_nodes l q allowance accepted h));
    }
