-- The edition, told by a number: 1 or 2. Any other is 9, before all other checks, with index 0 and count 0; buffers stay as they are.
use Rattle.std.specs.Prelude.{ℕ, List, cond, eqb, Option, Some, None}
use Rattle.answers.specs.Refusal.{number_of}
use Rattle.answers.specs.declared.Refusal.TheVariants.{Directory}
use Rattle.term.specs.declared.Edition.{Edition}
use Rattle.term.specs.declared.Edition.TheVariants.{One, Two}
use Rattle.qonveshir.specs.Shown.{outcome, as_written}
use Rattle.qonveshir.specs.declared.Outcome.{Outcome}
use Rattle.qonveshir.specs.declared.Written.{Written}

unfoldable pub told_by : ℕ → Option Edition
told_by n = cond (eqb n 1) (Some One) (cond (eqb n 2) (Some Two) None)

abbrev pub no_edition : Outcome
no_edition = outcome (number_of Directory) 0 0

abbrev pub none_written : Written
none_written = as_written (number_of Directory) 0 0

-- what is shown, what is left in a buffer that held `before`, and what is demanded, by the edition that is told
abbrev pub shown_in : Option Edition → (Edition → Outcome) → Outcome
shown_in None f = no_edition
shown_in (Some e) f = f e

abbrev pub written_in : Option Edition → (Edition → Written) → Written
written_in None f = none_written
written_in (Some e) f = f e

abbrev pub left_in : Option Edition → (Edition → List ℕ) → List ℕ → List ℕ
left_in None f before = before
left_in (Some e) f before = f e

abbrev pub DemandedIn : Option Edition → (Edition → Type 0) → Type 0
DemandedIn None f = Unit {0}
DemandedIn (Some e) f = f e
