-- A refusal with the index of the entry at fault.
use Rattle.std.specs.Prelude.{ℕ}
use Rattle.answers.specs.declared.Refusal.{Refusal}
use Rattle.answers.specs.declared.Fault.{Fault}

abbrev pub fault_at : Refusal → ℕ → Fault
fault_at r i = record { refusal = r; index = i }
