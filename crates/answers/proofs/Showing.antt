-- What a call shows of its answer or refusal is the number, index and count that are written of each kind of answer.
use mathlib.Core.Path.{◌≡◌, refl}
use Rattle.std.specs.Prelude.{ℕ, Result, Ok, Err, Option}
use Rattle.answers.specs.Refusal.{number_of}
use Rattle.answers.specs.Shown.{nothing, of_result, refusal_number, fault_number, fault_index, size_told}
use Rattle.answers.specs.Answers.{cost_number, cost_count, answer_number, answer_count, rule_number, rule_index, rule_count, applied_number, applied_count, played_number, played_index, played_count}
use Rattle.answers.specs.declared.Answer.{Answer}
use Rattle.answers.specs.declared.RuleAnswer.{RuleAnswer}
use Rattle.answers.specs.declared.Applied.{Applied}
use Rattle.answers.specs.declared.Played.{Played}
use Rattle.answers.specs.declared.Fault.{Fault}

abbrev pub Shows : {T E : Type 0} → (T → ℕ) → (E → ℕ) → (Result T E → ℕ) → Type 0
Shows {T = T} {E = E} f g h = (a : Result T E) → of_result f g a ≡ h a

pub shows : {T E : Type 0} (g : E → ℕ) (h : Result T E → ℕ) → ((e : E) → g e ≡ h (Err e)) → Shows (λ x. h (Ok x)) g h
shows g h p (Ok x) = refl
shows g h p (Err e) = p e

abbrev pub number_at : Fault → ℕ
number_at f = number_of f.refusal

abbrev pub index_at : Fault → ℕ
index_at f = f.index

pub cost_number_shown : Shows (λ (x : Option ℕ). cost_number (Ok x)) number_of cost_number
cost_number_shown = shows number_of cost_number (λ r. refl)

pub cost_count_shown : Shows (λ (x : Option ℕ). cost_count (Ok x)) nothing cost_count
cost_count_shown = shows nothing cost_count (λ r. refl)

pub answer_number_shown : Shows (λ (x : Answer). answer_number (Ok x)) number_of answer_number
answer_number_shown = shows number_of answer_number (λ r. refl)

pub answer_count_shown : Shows (λ (x : Answer). answer_count (Ok x)) nothing answer_count
answer_count_shown = shows nothing answer_count (λ r. refl)

pub rule_number_shown : Shows (λ (x : RuleAnswer). rule_number (Ok x)) number_at rule_number
rule_number_shown = shows number_at rule_number (λ f. refl)

pub rule_index_shown : Shows (λ (x : RuleAnswer). rule_index (Ok x)) index_at rule_index
rule_index_shown = shows index_at rule_index (λ f. refl)

pub rule_count_shown : Shows (λ (x : RuleAnswer). rule_count (Ok x)) nothing rule_count
rule_count_shown = shows nothing rule_count (λ f. refl)

pub applied_number_shown : Shows (λ (x : Applied). applied_number (Ok x)) number_of applied_number
applied_number_shown = shows number_of applied_number (λ r. refl)

pub applied_count_shown : Shows (λ (x : Applied). applied_count (Ok x)) nothing applied_count
applied_count_shown = shows nothing applied_count (λ r. refl)

pub played_number_shown : Shows (λ (x : Played). played_number (Ok x)) number_at played_number
played_number_shown = shows number_at played_number (λ f. refl)

pub played_index_shown : Shows (λ (x : Played). played_index (Ok x)) index_at played_index
played_index_shown = shows index_at played_index (λ f. refl)

pub played_count_shown : Shows (λ (x : Played). played_count (Ok x)) nothing played_count
played_count_shown = shows nothing played_count (λ f. refl)

-- a value that itself shows nothing but its size
pub refusal_number_shown : {T : Type 0} → Shows {T = T} nothing number_of refusal_number
refusal_number_shown = shows number_of refusal_number (λ r. refl)

pub fault_number_shown : {T : Type 0} → Shows {T = T} nothing number_at fault_number
fault_number_shown = shows number_at fault_number (λ f. refl)

pub fault_index_shown : {T : Type 0} → Shows {T = T} nothing index_at fault_index
fault_index_shown = shows index_at fault_index (λ f. refl)

pub size_shown : {E : Type 0} → Shows {T = ℕ} {E = E} (λ n. n) nothing size_told
size_shown = shows nothing size_told (λ e. refl)
