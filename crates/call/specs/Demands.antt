-- Demand 1 of every call with an answer buffer.
use Rattle.std.specs.Prelude.{ℕ, ◌≤◌, ◌≡◌, ◌↔◌, List, true, length, drop}
use Rattle.answers.specs.Refusal.{number_of}
use Rattle.answers.specs.declared.Refusal.{Refusal}
use Rattle.parts.specs.Shown.{answer_width}
use Rattle.reader.specs.Brought.{Brought, brought_accepted}

-- Any input gets an answer or a numbered refusal; the order of the checks is that of `checks` (Call). The call shows this number and count, and
-- leaves the buffer, which held `before`, as `after`.
pub record Handled {X : Type 0} (brought : Brought) (Accepted Unanswered : X → Type 0) (before : List ℕ)
    (number count : ℕ) (after : List ℕ) : Type 0 where
  -- refused exactly when the buffer is narrow, or the class list or the input is not accepted, or accepted input is not answered; a refusal shows
  -- count 0
  pub refused_exactly : ((r : Refusal) × (number ≡ number_of r))
      ↔ (answer_width ≤ length before → brought_accepted brought ≡ true → (x : X) → Accepted x → Unanswered x)
  pub refused_shows : (r : Refusal) → number ≡ number_of r → count ≡ 0
  -- "All but bound leave the answer buffer untouched"; "what lies past 144 stays"
  pub untouched : (number ≡ 0 → ⊥) → after ≡ before
  pub past_stays : drop answer_width after ≡ drop answer_width before
