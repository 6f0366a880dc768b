-- What is demanded of the game's answer, for the trees of accepted input.
use Rattle.std.specs.Prelude.{ℕ, ◌<◌, ◌≤◌, ◌≡◌, ◌↔◌, List, true, Result}
use Rattle.answers.specs.Answers.{played_number, played_index, played_count}
use Rattle.answers.specs.Refusal.{number_of}
use Rattle.answers.specs.declared.Played.{Played}
use Rattle.answers.specs.declared.Refusal.{Refusal}
use Rattle.answers.specs.declared.Refusal.TheVariants.{Turns}
use Rattle.reader.specs.Brought.{language_of, brought_accepted}
use Rattle.game.specs.Begun.{SomeOver, begun}
use Rattle.game.specs.Call.{most_turns, Input, play_of}
use Rattle.game.specs.Handed.{Handed}
use Rattle.term.specs.Term.{Term}
use Rattle.anti_pattern.specs.Language.{Language}
use Rattle.game.specs.Move.{Game, Goal}
use Rattle.game.specs.Plan.{Forced, ForcedBy, ForcedByPass}
use Rattle.game.specs.Search.{Opening, unneeded, by_rule, by_pass}
use Rattle.answers.specs.declared.Fault.{Fault}

-- "it shows the loader's lowest first rule that still forces it, or that no move is needed, or a pass"
abbrev pub Shows : Language → Game → ℕ → Term → Opening → Type 0
Shows l g n t unneeded = Goal l g t
Shows l g n t (by_rule i) = (Goal l g t → ⊥) × ForcedBy l g n t i × ((j : ℕ) → j < i → ForcedBy l g n t j → ⊥)
Shows l g n t by_pass = (Goal l g t → ⊥) × ForcedByPass l g n t

-- how the loader begins, as it is shown: rules are 0 to 63
abbrev pub shown_as : Opening → ℕ
shown_as unneeded = 64
shown_as (by_rule i) = i
shown_as by_pass = 65

-- For the trees of accepted input
pub record Answered (turns : ℕ) (h : Handed) (bytes : List ℕ) (allowance : ℕ) (g : Game) (t : Term) (a : Result Played Fault) : Type 0 where
  -- "unless spent, the answer is forced exactly if the loader has moves such that, however the sender moves, some state reached, the starting one
  -- included, satisfies a goal pattern. Otherwise it is none"
  pub forced_exactly : (played_number a ≡ 11 → ⊥) → (played_number a ≡ 0) ↔ Forced (language_of h.brought) g turns t
  pub none_exactly : (played_number a ≡ 11 → ⊥) → (played_number a ≡ 10) ↔ (Forced (language_of h.brought) g turns t → ⊥)
  -- "If forced, it shows the loader's lowest first rule that still forces it, or that no move is needed, or a pass"
  pub shows : played_number a ≡ 0 → (o : Opening) × (played_index a ≡ shown_as o) × Shows (language_of h.brought) g turns t o
  -- "the first spent one in this order makes the whole spent": exactly if one of the searches begun in this order counts over the allowance
  pub spent_exactly : (played_number a ≡ 11) ↔ SomeOver (language_of h.brought) allowance (begun (language_of h.brought) g turns t)
  -- unless spent, every larger allowance gives the same answer
  pub larger_allowance : (more : ℕ) → (played_number a ≡ 11 → ⊥) → allowance ≤ more → play_of turns h bytes more ≡ a

-- All that is demanded
pub record Demanded (turns : ℕ) (h : Handed) (bytes : List ℕ) (allowance : ℕ) (a : Result Played Fault) : Type 0 where
  -- refused exactly when there are more than 6 turns, or the class list or the input is not accepted
  pub refused_exactly : ((r : Refusal) × (played_number a ≡ number_of r))
      ↔ (turns ≤ most_turns → brought_accepted h.brought ≡ true → (g : Game) (t : Term) → Input (language_of h.brought) h.sheets bytes g t → ⊥)
  -- 24 "for more than 6; before all other checks"
  pub turns_first : most_turns < turns → played_number a ≡ number_of Turns
  -- "both show count 0", and so does a refusal; spent, "with index 0 and the allowance"
  pub unspent_count : (played_number a ≡ 11 → ⊥) → played_count a ≡ 0
  pub spent_shows : played_number a ≡ 11 → (played_index a ≡ 0) × (played_count a ≡ allowance)
  pub answered : turns ≤ most_turns → brought_accepted h.brought ≡ true → (g : Game) (t : Term) → Input (language_of h.brought) h.sheets bytes g t
      → Answered turns h bytes allowance g t a
