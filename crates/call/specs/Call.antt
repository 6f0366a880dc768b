-- A call with an answer buffer, on all inputs: the checks in order, then the answer and the final buffer. A call gives its own reading of its input
-- (of type X) and its work on what was read.
use Rattle.std.specs.Prelude.{ℕ, List, ◌++◌, drop, leb, Option, Some, None}
use Rattle.answers.specs.declared.Part.{Part}
use Rattle.answers.specs.declared.Refusal.{Refusal}
use Rattle.answers.specs.declared.Refusal.TheVariants.{Table, Narrow, Class}
use Rattle.term.specs.Table.{table_accepted}
pub use Rattle.parts.specs.Shown.{numbers, answer_width}
use Rattle.reader.specs.Brought.{Brought, brought_accepted}
use Rattle.call.specs.Verdict.{Verdict, passed, fault, check}

-- in order: 8 of a buffer of so many numbers, 1, 14, the call's own
unfoldable pub checks : {X : Type 0} → Brought → ℕ → Verdict X → Verdict X
checks brought width own =
    check (leb answer_width width) Narrow (check (table_accepted brought.table) Table (check (brought_accepted brought) Class own))

-- the answer: the refusal, or what the work tells
abbrev pub answer_by : {X A : Type 0} → (Refusal → ℕ → A) → (X → A) → Verdict X → A
answer_by refused told (fault r i) = refused r i
answer_by refused told (passed x) = told x

-- the answer buffer, which held `before`, by the part of each variable where the answer is bound: "what lies past 144 stays"
abbrev pub written : Option (List Part) → List ℕ → List ℕ
written None before = before
written (Some parts) before = numbers parts ++ drop answer_width before

-- "All but bound leave the answer buffer untouched."
abbrev pub buffer_by : {X : Type 0} → (X → Option (List Part)) → Verdict X → List ℕ → List ℕ
buffer_by bound (fault r i) before = before
buffer_by bound (passed x) before = written (bound x) before
