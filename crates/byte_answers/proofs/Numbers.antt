-- No refusal has the number 0: what has it is accepted.
use native.Mathlib.Omega.{arith}
use mathlib.Core.Path.{◌≡◌, refl}
use Rattle.answers.proofs.Numbers.{numbered}
use Rattle.answers.specs.Shown.{fault_number, size_told}
use Rattle.std.specs.Prelude.{ℕ, Result, Ok, Err}
use Rattle.answers.specs.declared.Fault.{Fault}

pub accepted_number : (c : Result ℕ Fault) → fault_number c ≡ 0 → c ≡ Ok (size_told c)
accepted_number (Ok n) z = refl
accepted_number (Err f) z = absurd (omega (arith, numbered f.refusal))
