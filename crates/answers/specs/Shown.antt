-- How an answer is shown in numbers: document 01's number, 0 where nothing is refused, and the values beside it, 0 where there is none.
use Rattle.std.specs.Prelude.{ℕ, Result, Ok, Err}
use Rattle.answers.specs.Refusal.{number_of}
use Rattle.answers.specs.declared.Refusal.{Refusal}
use Rattle.answers.specs.declared.Fault.{Fault}

abbrev pub nothing : {A : Type 0} → A → ℕ
nothing a = 0

-- the largest numbers of 32 and of 64 bits
abbrev pub largest_u32 : ℕ
largest_u32 = 4294967295

abbrev pub largest_u64 : ℕ
largest_u64 = 18446744073709551615

-- by what is shown of an answer and of a refusal
abbrev pub of_result : {T E : Type 0} → (T → ℕ) → (E → ℕ) → Result T E → ℕ
of_result f g (Ok a) = f a
of_result f g (Err e) = g e

-- the number where a call answers with a value or a refusal
abbrev pub refusal_number : {T : Type 0} → Result T Refusal → ℕ
refusal_number (Ok a) = 0
refusal_number (Err r) = number_of r

-- the same where it is refused at an entry
abbrev pub fault_number : {T : Type 0} → Result T Fault → ℕ
fault_number (Ok a) = 0
fault_number (Err f) = number_of f.refusal

-- the index of the entry that is refused
abbrev pub fault_index : {T : Type 0} → Result T Fault → ℕ
fault_index (Ok a) = 0
fault_index (Err f) = f.index

-- the length of what was read or written, or the number of entries; 0 after a refusal
abbrev pub size_told : {E : Type 0} → Result ℕ E → ℕ
size_told (Ok n) = n
size_told (Err e) = 0
