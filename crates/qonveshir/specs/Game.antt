-- What the interface shows of the game of loader and sender: its number, the index, 64 where "no move is needed" and 65 for "a pass", and the count.
use Rattle.std.specs.Prelude.{ℕ, Result}
use Rattle.answers.specs.Answers.{played_number, played_index, played_count}
use Rattle.answers.specs.declared.Played.{Played}
use Rattle.term.specs.Moment.{old}
use Rattle.game.specs.Call.{play_of}
use Rattle.game.specs.Demands.{Demanded}
use Rattle.game.specs.Handed.{Handed, Bytes}
use Rattle.qonveshir.specs.Shown.{outcome}
use Rattle.qonveshir.specs.declared.Outcome.{Outcome}
use Rattle.answers.specs.declared.Fault.{Fault}

abbrev pub played_shown : Result Played Fault → Outcome
played_shown p = outcome (played_number p) (played_index p) (played_count p)

-- by a call's parameters: what it shows, and what is demanded where only that is at hand
abbrev pub play_shown : {A : Type 0} → ℕ → Handed → Bytes A → ℕ → Outcome
play_shown turns h state allowance = played_shown (play_of turns h (old state) allowance)

abbrev pub Demands : {A : Type 0} → ℕ → Handed → Bytes A → ℕ → Type 0
Demands turns h state allowance = Demanded turns h (old state) allowance (play_of turns h (old state) allowance)
