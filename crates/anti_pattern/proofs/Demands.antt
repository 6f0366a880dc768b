-- The theorems: what specs/Demands demands, for every pattern, every term of the language and every allowance, where the table bytes within a class
-- are alike, as they are for every accepted class list and for the empty one; and the rides.
use Prim.Native.Nat.{ℕ, ◌<◌}
use mathlib.Core.Path.{◌≡◌, refl, ap, subst, fun_ext}
use mathlib.Core.List.{List, []}
use mathlib.Core.Bool.{true}
use Rattle.term.specs.Class.{Alike, class_of}
use Rattle.term.specs.Code.{variables}
use Rattle.term.specs.Pattern.{Pattern}
use Rattle.term.specs.Term.{Term, Terms, size}
use Rattle.term.proofs.SameParts.{term_equal, terms_equal}
use Rattle.term.specs.declared.Edition.{Edition}
use Rattle.anti_pattern.specs.Answer.{answer}
use Rattle.anti_pattern.specs.AntiTerm.{Anti}
use Rattle.anti_pattern.specs.Demands.{SearchDecides, PartsShown, AnswerExact, PublishedAgrees, OverTable, NextExact, EveryAnswer, CostBound, ChoicesAgree, ChoiceMatters, SingleClasses}
use Rattle.anti_pattern.specs.Language.{Language, language, Classed, TermOf, TermsOf}
use Rattle.anti_pattern.specs.Meaning.{Assignment, OneAt}
use Rattle.anti_pattern.specs.Next.{check_given, resumed_after, next}
use Rattle.anti_pattern.specs.Published.{NoRuns}
use Rattle.anti_pattern.specs.Rides.{RidesHold, NextRidesHold}
use Rattle.anti_pattern.specs.Search.{finish, behind, search}
use Rattle.anti_pattern.specs.Variables.{among, NoName, free_runs}
use Rattle.anti_pattern.proofs.Alike.{term_eq, one_refl}
use Rattle.anti_pattern.proofs.Answers.{spent_exactly, none_exactly, bound_exactly, larger_allowance}
use Rattle.anti_pattern.proofs.Cost.{cost_bound as cost_told}
use Rattle.anti_pattern.proofs.Crossed.{ride_language, crossed, sides, left_first, right_first, left_in, right_out}
use Rattle.anti_pattern.proofs.First.{found_first, failed_none, equal_lengths}
use Rattle.anti_pattern.proofs.OverTable.{satisfies_over}
use Rattle.anti_pattern.proofs.Following.{next_exact as next_told, every_answer as every_told}
use Rattle.anti_pattern.proofs.Placed.{free_placed, others_absent, shown_at_first_place}
use Rattle.anti_pattern.proofs.Published.{published_agrees as published}
use Rattle.anti_pattern.proofs.Renamed.{any_way, some_way, no_clash}
use Rattle.std.specs.Prelude.{Option, Some, None}

module _ (l : Language) (k : Alike l.table l.classes) (q : Pattern) (t : Term) (g : TermOf l t) where
  pub search_decides : SearchDecides l q t
  search_decides = record {
    found_first = found_first l q t g;
    failed_none = failed_none l q t g;
    equal_lengths = equal_lengths l q t;
  }

  pub parts_shown : PartsShown l q t
  parts_shown = record {
    shown_at_first_place = shown_at_first_place l q t g;
    free_placed = free_placed l q t;
    others_absent = others_absent l q t;
  }

  pub answer_exact : (allowance : ℕ) → AnswerExact l q t allowance
  answer_exact allowance = record {
    spent_exactly = spent_exactly l k q t g allowance;
    none_exactly = none_exactly l k q t g allowance;
    bound_exactly = bound_exactly l k q t g allowance;
    larger_allowance = larger_allowance l k q t g allowance;
  }

  -- every answer, where no name has a free run name's number, and these are the numbers of variables that are shown
  module _ (apart : NoName (free_runs q) q) where
    pub next_exact : (given : List ℕ) (allowance : ℕ) → NextExact l q t given allowance
    next_exact given allowance = next_told l k q t g apart given allowance

    pub every_answer : ((v : ℕ) → among v (free_runs q) ≡ true → v < variables) → EveryAnswer l q t
    every_answer few = every_told l k q t g apart few

  pub published_agrees : (n : NoRuns q) (allowance : ℕ) → PublishedAgrees l q t n allowance
  published_agrees n allowance = published l q t g n k allowance

pub over_table : (l : Language) → Classed l → (q : Pattern) (t : Term) → TermOf l t → OverTable l q t
over_table l c q t g a = (
  satisfies_over l c (λ w. Unit {0}) (TermsOf l) (λ w h. tt) (λ w h. h) q t a g,
  satisfies_over l c (TermsOf l) (λ w. Unit {0}) (λ w h. h) (λ w h. tt) q t a g,
)

-- in any language, of any term
pub cost_bound : (l : Language) (q : Pattern) → NoRuns q → (t : Term) → CostBound l q t
cost_bound = cost_told

pub choices_agree : (l : Language) (q : Anti ℕ) (t : Term) → TermOf l t → ChoicesAgree l q t
choices_agree l q t g = record {
  some_way = some_way q;
  any_way = any_way l q t g;
  no_clash = no_clash l q t g;
}

pub choice_matters : ChoiceMatters
choice_matters = (ride_language, crossed, sides, left_first, right_first, left_in, right_out)

pub single_classes : (l : Language) → ((s : ℕ) → class_of l.classes s ≡ s) → SingleClasses l
single_classes l single = record {
  same = λ t u. (term_equal l.classes single t u, term_eq l t u);
  one = λ a b. (
    λ h. fun_ext (λ v. go (a v) (b v) (h v)),
    λ e v. subst (λ (c : Assignment). OneAt l (a v) (c v)) e (one_refl l (a v)),
  );
}
  where
    go : (o p : Option Terms) → OneAt l o p → o ≡ p
    go None None h = refl
    go None (Some x) h = absurd h
    go (Some w) None h = absurd h
    go (Some w) (Some x) h = ap Some (terms_equal l.classes single w x h)

pub no_classes : (edition : Edition) (table : List ℕ) → SingleClasses (language edition table [])
no_classes edition table = single_classes (language edition table []) (λ s. refl)

pub rides_hold : RidesHold
unfolding answer search finish behind size
rides_hold = refl

pub next_rides_hold : NextRidesHold
unfolding next check_given resumed_after search finish behind size
next_rides_hold = refl
