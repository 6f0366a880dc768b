-- The least example, told its edition by a number: what it shows, what it leaves in the output, and what is demanded of it.
use Rattle.std.specs.Prelude.{ℕ, List}
use Rattle.reader.specs.Brought.{bringing}
use Rattle.example.specs.Call.{example_of, output_of}
use Rattle.example.specs.Demands.{DemandedOf}
use Rattle.qonveshir.specs.Edition.{told_by, written_in, left_in, DemandedIn}
use Rattle.qonveshir.specs.Shown.{applied_shown}
use Rattle.qonveshir.specs.declared.Written.{Written}

module _ (edition : ℕ) (table classes pattern : List ℕ) (size allowance : ℕ) where
  abbrev pub example_in : ℕ → Written
  example_in room = written_in (told_by edition) (λ e. applied_shown (example_of (bringing e table classes) pattern size allowance room))

  abbrev pub example_left : List ℕ → List ℕ
  example_left before = left_in (told_by edition) (λ e. output_of (bringing e table classes) pattern size allowance before) before

  abbrev pub ExampleDemandedIn : List ℕ → List ℕ → Type 0
  ExampleDemandedIn before after = DemandedIn (told_by edition) (λ e. DemandedOf (bringing e table classes) pattern size allowance before after)
