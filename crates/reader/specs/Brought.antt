-- What a call brings: an edition, a table and, since "A call may bring a class list" (document 02, L1), maybe that. One that brings none has the empty
-- one, and nothing to check.
use Rattle.std.specs.Prelude.{ℕ, List, [], Bool, true, false, Option, Some, None}
use Rattle.term.specs.Class.{classes_accepted}
use Rattle.term.specs.Language.{Language, language}
use Rattle.term.specs.declared.Edition.{Edition}
use Rattle.term.specs.declared.Edition.TheVariants.{One}

pub record Brought : Type 0 where
  pub edition : Edition
  pub table : List ℕ
  pub list : Option (List ℕ)

-- a call's simple form: edition 1, no class list
abbrev pub simply : List ℕ → Brought
simply table = record { edition = One; table = table; list = None }

-- its form `_in`, told both: "A call without a sheet, and the writer, is told the edition"
abbrev pub bringing : Edition → List ℕ → List ℕ → Brought
bringing edition table classes = record { edition = edition; table = table; list = Some classes }

-- a class list, if one is brought
abbrev pub list_if : Bool → List ℕ → Option (List ℕ)
list_if true classes = Some classes
list_if false classes = None

abbrev pub brought_by : Edition → List ℕ → Bool → List ℕ → Brought
brought_by edition table brings classes = record { edition = edition; table = table; list = list_if brings classes }

abbrev pub or_empty : Option (List ℕ) → List ℕ
or_empty None = []
or_empty (Some classes) = classes

abbrev pub classes_of : Brought → List ℕ
classes_of brought = or_empty brought.list

-- the language of the call; where a sheet tells the edition, that
abbrev pub language_in : Edition → List ℕ → Option (List ℕ) → Language
language_in edition table list = language edition table (or_empty list)

abbrev pub language_of : Brought → Language
language_of brought = language_in brought.edition brought.table brought.list

abbrev pub list_accepted : List ℕ → Option (List ℕ) → Bool
list_accepted table None = true
list_accepted table (Some classes) = classes_accepted table classes

abbrev pub brought_accepted : Brought → Bool
brought_accepted brought = list_accepted brought.table brought.list
