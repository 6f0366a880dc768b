-- What the functions of the search tell of accepted input; only `Plays` is of an open call.
use Rattle.std.specs.Prelude.{ℕ, suc, ◌≡◌, List, Bool, true, false, not, Option, Some, None, Result, Ok, Err}
use Rattle.answers.specs.declared.Played.{Played}
use Rattle.term.specs.Limits.{Octets}
use Rattle.term.specs.Table.{table_accepted}
use Rattle.term.specs.Term.{Term}
use Rattle.anti_pattern.specs.Answer.{Matching, bound, nothing, spent}
use Rattle.anti_pattern.specs.Language.{Language, Classed}
use Rattle.call.specs.Verdict.{Verdict, passed, fault}
use Rattle.sheet.specs.Check.{check_sheet}
use Rattle.sheet.specs.Contents.{check_each}
use Rattle.sheet.specs.Entry.{entries}
use Rattle.rules.specs.Call.{rules_of}
use Rattle.game.specs.Call.{Input, told, templates_from, play_of}
use Rattle.game.specs.Demands.{Demanded}
use Rattle.game.specs.Handed.{Sheets, Handed}
use Rattle.game.specs.Move.{Rule, Game, rule_at}
use Rattle.game.specs.Search.{Ruling, forced, unforced, stopped, Opening, by_rule, by_pass, Turn, to, nowhere, spends, turn, goal_at, loader_turn, sender_turn, loader_moves, sender_moves, play, each}
use Rattle.game.specs.declared.First.{First}
use Rattle.game.specs.declared.First.TheVariants.{ByRule, ByPass}
use Rattle.game.specs.declared.Side.{Side}
use Rattle.game.specs.declared.Side.TheVariants.{Loader, Sender}
use Rattle.game.specs.declared.Spent.{Spent}
use Rattle.answers.specs.declared.Fault.{Fault}
use Rattle.answers.specs.Fault.{fault_at}

abbrev pub other : Side → Side
other Loader = Sender
other Sender = Loader

-- a state that is forced is settled for the loader, one that is not for the sender
abbrev pub seen : Side → Bool → Bool
seen Loader b = b
seen Sender b = not b

-- a side's sheets and rules
abbrev pub own_sheet : Side → Sheets → List ℕ
own_sheet Loader s = s.loader
own_sheet Sender s = s.sender

abbrev pub own_templates : Side → Sheets → List ℕ
own_templates Loader s = s.loader_templates
own_templates Sender s = s.sender_templates

abbrev pub own_rules : Side → Game → List Rule
own_rules Loader g = g.loader
own_rules Sender g = g.sender

-- the goal at a state; a ruling
abbrev pub told_goal : Matching → Result Bool Spent
told_goal (bound ps n) = Ok true
told_goal (nothing n) = Ok false
told_goal (spent n) = Err (record {})

abbrev pub told_left : {A : Type 0} → Ruling A → Result Bool Spent
told_left (forced x) = Ok true
told_left unforced = Ok false
told_left stopped = Err (record {})

-- a rule that is followed
abbrev pub as_move : Result Bool Spent → Result (Option Bool) Spent
as_move (Ok b) = Ok (Some b)
as_move (Err e) = Err e

abbrev pub followed : Turn → (Term → Result Bool Spent) → Result (Option Bool) Spent
followed (to u) next = as_move (next u)
followed nowhere next = Ok None
followed spends next = Err (record {})

-- what the first move that settles it makes of the loader's state, and of the sender's
abbrev pub opened : Result (Option First) Spent → Ruling Opening
opened (Ok (Some (ByRule i))) = forced (by_rule i)
opened (Ok (Some ByPass)) = forced by_pass
opened (Ok None) = unforced
opened (Err e) = stopped

abbrev pub held : Result (Option First) Spent → Ruling (Unit {0})
held (Ok (Some m)) = unforced
held (Ok None) = forced tt
held (Err e) = stopped

-- how the game comes out
abbrev pub ended : ℕ → Result Played Spent → Result Played Fault
ended allowance (Ok p) = Ok p
ended allowance (Err e) = Ok (Played.Spent allowance)

-- of a class list or none, and sheets, a goal and a state that passed their checks in the language
abbrev pub OfAccepted : Language → Sheets → List ℕ → (Game → Term → Type 0) → Type 0
OfAccepted l s state P = Classed l → (g : Game) (t : Term) → Input l s state g t → P g t

module _ (l : Language) (allowance : ℕ) (g : Game) where
  -- a side's turn, with so many left
  abbrev pub turn_left : Side → ℕ → Term → Result Bool Spent
  turn_left Loader left t = told_left (loader_turn l (each allowance) g left t)
  turn_left Sender left t = told_left (sender_turn l (each allowance) g left t)

  -- a side's moves, with so many turns left after the first
  abbrev pub MovesLeft : Side → ℕ → Term → Result (Option First) Spent → Type 0
  MovesLeft Loader below t r = opened r ≡ loader_moves l (each allowance) g (suc below) t
  MovesLeft Sender below t r = held r ≡ sender_moves l (each allowance) g (suc below) t

module _ (l : Language) (s : Sheets) (allowance : ℕ) where
  unfoldable pub Reaches : List ℕ → Result Bool Spent → Type 0
  Reaches state r = OfAccepted l s state (λ g t. r ≡ told_goal (goal_at l (each allowance) g t))

  unfoldable pub Turns : Side → ℕ → List ℕ → Result Bool Spent → Type 0
  Turns side left state r = OfAccepted l s state (λ g t. r ≡ turn_left l allowance g side left t)

  unfoldable pub Moves : Side → ℕ → List ℕ → Result (Option First) Spent → Type 0
  Moves side below state r = OfAccepted l s state (λ g t. MovesLeft l allowance g side below t r)

  unfoldable pub Follows : Side → ℕ → ℕ → List ℕ → Result (Option Bool) Spent → Type 0
  Follows side below i state r = OfAccepted l s state (λ g t. (x : Rule) → rule_at (own_rules side g) i ≡ Some x
      → r ≡ followed (turn l (each allowance) x t) (λ u. turn_left l allowance g (other side) below u))

  unfoldable pub Begins : ℕ → List ℕ → Result Played Spent → Type 0
  Begins turns state r = OfAccepted l s state (λ g t. ended allowance r ≡ told allowance (play l (each allowance) g turns t))

  -- without the checks, of input that passed them
  abbrev pub Plays : ℕ → List ℕ → Result Played Fault → Type 0
  Plays turns bytes r = OfAccepted l s bytes (λ g t. r ≡ told allowance (play l (each allowance) g turns t))

-- passed, or the refusal
abbrev pub check_of : {X : Type 0} → Verdict X → Result (Unit {0}) Fault
check_of (fault r i) = Err (fault_at r i)
check_of (passed x) = Ok tt

-- a sheet of so many rules that passed its checks
pub record RulesChecked (l : Language) (sheet : List ℕ) (n : ℕ) : Type 0 where
  pub tabled : table_accepted l.table ≡ true
  pub directory : check_sheet sheet ≡ Ok n
  pub each : check_each false l 0 (entries sheet) ≡ Ok n

-- the templates of as many rules
unfoldable pub ChecksTemplates : Language → List ℕ → List ℕ → Result (Unit {0}) Fault → Type 0
ChecksTemplates l rule_sheet template_sheet r = (n : ℕ) → RulesChecked l rule_sheet n → check_sheet template_sheet ≡ Ok n
    → r ≡ check_of (templates_from l 0 (rules_of l (entries rule_sheet)) (entries template_sheet))

-- answer and demands in one
abbrev pub Called : ℕ → Handed → List ℕ → ℕ → Result Played Fault → Type 0
Called turns h bytes allowance a = (a ≡ play_of turns h bytes allowance) × Demanded turns h bytes allowance a

-- the same where the sheets are bytes
abbrev pub Bytewise : Sheets → Type 0
Bytewise s = Octets s.loader × Octets s.loader_templates × Octets s.sender × Octets s.sender_templates × Octets s.goal

abbrev pub CalledOn : ℕ → Handed → List ℕ → ℕ → Result Played Fault → Type 0
CalledOn turns h bytes allowance a = Bytewise h.sheets → Called turns h bytes allowance a
