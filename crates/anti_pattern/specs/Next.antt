-- The next answer: document 02's "Every answer" (L3). An answer is told by its run lengths.
use Rattle.std.specs.Prelude.{ℕ, zero, ◌+◌, List, [], ◌∷◌, Bool, true, false, cond, ◌&&◌, length, eqb, ltb}
use Rattle.term.specs.Pattern.{Pattern}
use Rattle.term.specs.Term.{Term}
use Rattle.anti_pattern.specs.Answer.{Matching, spent, matching_of}
use Rattle.anti_pattern.specs.Language.{Language}
use Rattle.anti_pattern.specs.Order.{run_lengths}
use Rattle.anti_pattern.specs.Search.{Env, Answers, found, failed, Result, fail, Tries, every, only, start, finish, search, whole}
use Rattle.anti_pattern.specs.Variables.{free_runs}

-- what each of the run names tries: its given length only; any other tries every length
abbrev pub given_to : List ℕ → List ℕ → ℕ → Tries
given_to [] ns i = every
given_to (v ∷ vs) [] i = every
given_to (v ∷ vs) (n ∷ ns) i = cond (eqb v i) (only n) (given_to vs ns i)

-- "The given lengths are checked by the same search with each free run name trying its given length only, fitting or not."
unfoldable pub check_given : Language → Pattern → Term → List ℕ → Result
check_given l q t given = search l.table l.classes (given_to (free_runs q) given) q t zero start [] finish

-- whether two lists of numbers are the same
abbrev pub same_numbers : List ℕ → List ℕ → Bool
same_numbers [] [] = true
same_numbers [] (y ∷ ys) = false
same_numbers (x ∷ xs) [] = false
same_numbers (x ∷ xs) (y ∷ ys) = eqb x y && same_numbers xs ys

-- "the search resumed after the given answer": what comes after the answer that is meant
abbrev pub resumed : (Env → Bool) → Answers → Result
resumed is (found e n o) = cond (is e) (record { out = o; cost = n }) (resumed is o)
resumed is failed = fail

abbrev pub has_lengths : Pattern → List ℕ → Env → Bool
has_lengths q given e = same_numbers (run_lengths q e.value) given

unfoldable pub resumed_after : Language → Pattern → Term → List ℕ → Result
resumed_after l q t given = resumed (has_lengths q given) (whole l q t).out

-- "that of this check plus that of the search resumed after the given answer, up to its stop"
abbrev pub check_count : Language → Pattern → Term → List ℕ → ℕ
check_count l q t given = (check_given l q t given).cost

abbrev pub next_count : Language → Pattern → Term → List ℕ → ℕ
next_count l q t given = check_count l q t given + (resumed_after l q t given).cost

-- an answer under the allowance; or unknown, document 02's number 15
pub data Following : Type 0 where
  follows : Matching → Following
  unknown : Following

-- "over the allowance, in the check too, the result is spent"
abbrev pub spent_or : Bool → ℕ → (Unit {0} → Following) → Following
spent_or true allowance f = follows (spent allowance)
spent_or false allowance f = f tt

-- 15 where the lengths given "belong to no answer"
abbrev pub unknown_or : Answers → (Unit {0} → Following) → Following
unknown_or (found e n o) f = f tt
unknown_or failed f = unknown

-- 15 "where the given lengths are not one for each free run name, before any search"
abbrev pub one_for_each : Bool → (Unit {0} → Following) → Following
one_for_each true f = f tt
one_for_each false f = unknown

unfoldable pub next : Language → Pattern → Term → List ℕ → ℕ → Following
next l q t given allowance =
    one_for_each (eqb (length given) (length (free_runs q)))
    (λ u. spent_or (ltb allowance (check_count l q t given)) allowance
    (λ u. unknown_or (check_given l q t given).out
    (λ u. spent_or (ltb allowance (next_count l q t given)) allowance
    (λ u. follows (matching_of l.table (resumed_after l q t given).out (next_count l q t given))))))
