-- What a game is played with: what the call brings, in the edition of its first sheet, the sheets of both sides, and the goal.
use Rattle.std.specs.Prelude.{ℕ, List, Option, Some, None}
use denote.Triple.Both.{Both}
use Rattle.std.specs.Borrow.{Bor}
use Rattle.term.specs.Language.{Language, language}
use Rattle.term.specs.Moment.{old}
use Rattle.reader.specs.Brought.{Brought}
use Rattle.sheet.specs.Check.{edition_of}
use Rattle.rules.specs.Call.{in_sheet}

-- "Each has a rule sheet with a template for each rule"; and "a goal pattern"
pub record Sheets : Type 0 where
  pub loader : List ℕ
  pub loader_templates : List ℕ
  pub sender : List ℕ
  pub sender_templates : List ℕ
  pub goal : List ℕ

abbrev pub sheets_of : List ℕ → List ℕ → List ℕ → List ℕ → List ℕ → Sheets
sheets_of loader loader_templates sender sender_templates goal = record {
  loader = loader;
  loader_templates = loader_templates;
  sender = sender;
  sender_templates = sender_templates;
  goal = goal;
}

pub record Handed : Type 0 where
  pub brought : Brought
  pub sheets : Sheets

abbrev pub with : Brought → Sheets → Handed
with brought s = record { brought = brought; sheets = s }

-- By a function's parameters

abbrev pub Bytes : Type 0 → Type 0
Bytes A = Both (Bor (List ℕ)) A

abbrev pub sheets : {A B C D E : Type 0} → Bytes A → Bytes B → Bytes C → Bytes D → Bytes E → Sheets
sheets loader loader_templates sender sender_templates goal = sheets_of (old loader) (old loader_templates) (old sender) (old sender_templates) (old goal)

-- the language that the loader's sheet is in
abbrev pub spoken : {A B C : Type 0} → Bytes A → Bytes B → Bytes C → Language
spoken loader table classes = language (edition_of (old loader)) (old table) (old classes)

-- with no class list, and with one
module _ {A B C D E F : Type 0} where
  abbrev given : Option (List ℕ) → Bytes A → Bytes B → Bytes C → Bytes D → Bytes E → Bytes F → Handed
  given list table loader loader_templates sender sender_templates goal =
      with (in_sheet (old loader) (old table) list) (sheets loader loader_templates sender sender_templates goal)

  abbrev pub handed : Bytes A → Bytes B → Bytes C → Bytes D → Bytes E → Bytes F → Handed
  handed = given None

  abbrev pub handed_in : {G : Type 0} → Bytes A → Bytes G → Bytes B → Bytes C → Bytes D → Bytes E → Bytes F → Handed
  handed_in table classes = given (Some (old classes)) table
