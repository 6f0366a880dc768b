-- What `outcome` shows of each answer is what is written of its kind.
use Prim.Native.Nat.{ℕ, ◌≤◌}
use native.Mathlib.Omega.{arith}
use mathlib.Core.Path.{◌≡◌, refl}
use Rattle.std.specs.Prelude.{Result, Ok, Err, Option}
use Rattle.answers.specs.Refusal.{number_of}
use Rattle.answers.specs.Shown.{nothing, of_result}
use Rattle.answers.specs.Answers.{cost_number, cost_count, answer_number, answer_count, rule_number, rule_index, rule_count, played_number, played_index, played_count}
use Rattle.answers.specs.declared.Answer.{Answer}
use Rattle.answers.specs.declared.RuleAnswer.{RuleAnswer}
use Rattle.answers.specs.declared.Played.{Played}
use Rattle.answers.specs.declared.Refusal.{Refusal}
use Rattle.answers.specs.declared.Fault.{Fault}
use Rattle.answers.proofs.Showing.{number_at, index_at}
use Rattle.qonveshir.specs.Shown.{largest, outcome, answer_shown, rules_shown, cost_shown, move_shown, writing_shown}
use Rattle.qonveshir.specs.Station.{change_shown}
use Rattle.qonveshir.specs.Game.{played_shown}
use Rattle.qonveshir.specs.declared.Outcome.{Outcome}

-- by the numbers, indices and counts of an answer and of a refusal
abbrev pub told : {T E : Type 0} → (T → ℕ) → (E → ℕ) → (T → ℕ) → (E → ℕ) → (T → ℕ) → (E → ℕ) → Result T E → Outcome
told n m i j k l a = outcome (of_result n m a) (of_result i j a) (of_result k l a)

pub no_index : {T E : Type 0} → (a : Result T E) → of_result {T = T} {E = E} nothing nothing a ≤ largest
no_index (Ok x) = omega arith
no_index (Err e) = omega arith

pub answer_told : (a : Result Answer Refusal) → told (λ x. answer_number (Ok x)) number_of nothing nothing (λ x. answer_count (Ok x)) nothing a ≡ answer_shown a
answer_told (Ok x) = refl
answer_told (Err r) = refl

pub rules_told : (a : Result RuleAnswer Fault) → told (λ x. rule_number (Ok x)) number_at (λ x. rule_index (Ok x)) index_at (λ x. rule_count (Ok x)) nothing a ≡ rules_shown a
rules_told (Ok x) = refl
rules_told (Err f) = refl

pub cost_told : (a : Result (Option ℕ) Refusal) → told (λ x. cost_number (Ok x)) number_of nothing nothing (λ x. cost_count (Ok x)) nothing a ≡ cost_shown a
cost_told (Ok x) = refl
cost_told (Err r) = refl

pub move_told : (a : Result ℕ Refusal) → told nothing number_of nothing nothing (λ n. n) nothing a ≡ move_shown a
move_told (Ok n) = refl
move_told (Err r) = refl

pub writing_told : (a : Result ℕ Fault) → told nothing number_at nothing index_at (λ n. n) nothing a ≡ writing_shown a
writing_told (Ok n) = refl
writing_told (Err f) = refl

pub change_told : (a : Result (Unit {0}) Refusal) → told nothing number_of nothing nothing nothing nothing a ≡ change_shown a
change_told (Ok u) = refl
change_told (Err r) = refl

pub played_told : (a : Result Played Fault) → told (λ x. played_number (Ok x)) number_at (λ x. played_index (Ok x)) index_at (λ x. played_count (Ok x)) nothing a ≡ played_shown a
played_told (Ok x) = refl
played_told (Err f) = refl
