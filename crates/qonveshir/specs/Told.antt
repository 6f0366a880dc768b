-- Each call that is told its edition by a number: what it shows, what it leaves in the lent buffer, and what is demanded of it.
use Rattle.std.specs.Prelude.{ℕ, List}
use Rattle.reader.specs.Brought.{Brought, bringing}
use Rattle.matcher.specs.Call.{answer_of, buffer_of}
use Rattle.matcher.specs.Demands.{DemandedOf, NextDemandedOf}
use Rattle.matcher.specs.Next.{next_of, next_buffer_of}
use Rattle.plain.specs.Call.{plain_of, plain_buffer_of}
use Rattle.cost.specs.Call.{cost_of}
use Rattle.cost.specs.Demands.{Demanded as CostDemanded}
use Rattle.writing.specs.Writing.{writing, output_after}
use Rattle.writing.specs.Demands.{Demanded as SheetDemanded}
use Rattle.stored.specs.Demands.{StoreDemanded, RestoreDemanded}
use Rattle.stored.specs.Move.{storing, restoring, moved, output_after as output_moved}
use Rattle.replace.specs.Call.{look_of, apply_of, output_of}
use Rattle.replace.specs.Demands.{DemandedOf as ApplyDemandedOf, LookDemandedOf}
use Rattle.qonveshir.specs.Demands.{PlainDemandedOf}
use Rattle.qonveshir.specs.Edition.{told_by, shown_in, written_in, left_in, DemandedIn}
use Rattle.qonveshir.specs.Shown.{answer_shown, writing_shown, cost_shown, move_shown, applied_shown}
use Rattle.qonveshir.specs.declared.Outcome.{Outcome}
use Rattle.qonveshir.specs.declared.Written.{Written}

module _ (edition : ℕ) (table classes : List ℕ) where
  -- by what is brought in that edition
  abbrev shows : (Brought → Outcome) → Outcome
  shows f = shown_in (told_by edition) (λ e. f (bringing e table classes))

  abbrev writes : (Brought → Written) → Written
  writes f = written_in (told_by edition) (λ e. f (bringing e table classes))

  abbrev leaves : (Brought → List ℕ) → List ℕ → List ℕ
  leaves f before = left_in (told_by edition) (λ e. f (bringing e table classes)) before

  abbrev Demands : (Brought → Type 0) → Type 0
  Demands f = DemandedIn (told_by edition) (λ e. f (bringing e table classes))

  abbrev pub match_in : List ℕ → List ℕ → ℕ → ℕ → Outcome
  match_in pattern bytes allowance width = shows (λ b. answer_shown (answer_of b pattern bytes allowance width))

  abbrev pub match_left : List ℕ → List ℕ → ℕ → List ℕ → List ℕ
  match_left pattern bytes allowance before = leaves (λ b. buffer_of b pattern bytes allowance before) before

  abbrev pub MatchDemandedIn : List ℕ → List ℕ → List ℕ → ℕ → List ℕ → Type 0
  MatchDemandedIn pattern bytes before allowance after = Demands (λ b. DemandedOf b pattern bytes before allowance after)

  abbrev pub next_in : List ℕ → List ℕ → List ℕ → ℕ → ℕ → Outcome
  next_in pattern bytes given allowance width = shows (λ b. answer_shown (next_of b pattern bytes given allowance width))

  abbrev pub next_left : List ℕ → List ℕ → List ℕ → ℕ → List ℕ → List ℕ
  next_left pattern bytes given allowance before = leaves (λ b. next_buffer_of b pattern bytes given allowance before) before

  abbrev pub NextDemandedIn : List ℕ → List ℕ → List ℕ → List ℕ → ℕ → List ℕ → Type 0
  NextDemandedIn pattern bytes given before allowance after = Demands (λ b. NextDemandedOf b pattern bytes given before allowance after)

  abbrev pub plain_in : List ℕ → List ℕ → ℕ → Outcome
  plain_in pattern bytes width = shows (λ b. answer_shown (plain_of b pattern bytes width))

  abbrev pub plain_left : List ℕ → List ℕ → List ℕ → List ℕ
  plain_left pattern bytes before = leaves (λ b. plain_buffer_of b pattern bytes before) before

  abbrev pub PlainDemandedIn : List ℕ → List ℕ → List ℕ → List ℕ → Type 0
  PlainDemandedIn pattern bytes before after = Demands (λ b. PlainDemandedOf b pattern bytes before after)

  abbrev pub cost_in : List ℕ → Outcome
  cost_in pattern = shows (λ b. cost_shown (cost_of b pattern))

  abbrev pub CostDemandedIn : List ℕ → Type 0
  CostDemandedIn pattern = Demands (λ b. CostDemanded b pattern (cost_of b pattern))

  abbrev pub write_in : List ℕ → List ℕ → ℕ → Outcome
  write_in records lengths room = shows (λ b. writing_shown (writing b records lengths room))

  abbrev pub write_left : List ℕ → List ℕ → List ℕ → List ℕ
  write_left records lengths before = leaves (λ b. output_after b records lengths before) before

  -- of the number and the count that are shown
  abbrev pub WriteDemandedIn : List ℕ → List ℕ → List ℕ → ℕ → ℕ → List ℕ → Type 0
  WriteDemandedIn records lengths before number size after = Demands (λ b. SheetDemanded b records lengths before number size after)

  abbrev pub store_in : List ℕ → ℕ → Outcome
  store_in bytes room = shows (λ b. move_shown (moved (storing b bytes) room))

  abbrev pub store_left : List ℕ → List ℕ → List ℕ
  store_left bytes before = leaves (λ b. output_moved (storing b bytes) before) before

  abbrev pub StoreDemandedIn : List ℕ → List ℕ → ℕ → ℕ → List ℕ → Type 0
  StoreDemandedIn bytes before number size after = Demands (λ b. StoreDemanded b bytes before number size after)

  abbrev pub restore_in : List ℕ → ℕ → Outcome
  restore_in stored room = shows (λ b. move_shown (moved (restoring b stored) room))

  abbrev pub restore_left : List ℕ → List ℕ → List ℕ
  restore_left stored before = leaves (λ b. output_moved (restoring b stored) before) before

  abbrev pub RestoreDemandedIn : List ℕ → List ℕ → ℕ → ℕ → List ℕ → Type 0
  RestoreDemandedIn stored before number size after = Demands (λ b. RestoreDemanded b stored before number size after)

  abbrev pub apply_in : List ℕ → List ℕ → List ℕ → ℕ → ℕ → Written
  apply_in rule template bytes allowance room = writes (λ b. applied_shown (apply_of b rule template bytes allowance room))

  abbrev pub apply_left : List ℕ → List ℕ → List ℕ → ℕ → List ℕ → List ℕ
  apply_left rule template bytes allowance before = leaves (λ b. output_of b rule template bytes allowance before) before

  abbrev pub ApplyDemandedIn : List ℕ → List ℕ → List ℕ → List ℕ → ℕ → List ℕ → Type 0
  ApplyDemandedIn rule template bytes before allowance after = Demands (λ b. ApplyDemandedOf b rule template bytes before allowance after)

  abbrev pub look_in : List ℕ → List ℕ → List ℕ → ℕ → Written
  look_in rule template bytes allowance = writes (λ b. applied_shown (look_of b rule template bytes allowance))

  abbrev pub LookDemandedIn : List ℕ → List ℕ → List ℕ → ℕ → Type 0
  LookDemandedIn rule template bytes allowance = Demands (λ b. LookDemandedOf b rule template bytes allowance)
