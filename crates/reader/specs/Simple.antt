-- A language as edition 1 reads it, which looks at no class list; or as it is.
use Rattle.std.specs.Prelude.{ℕ, [], Bool, true, false, cond, Option, Some, None}
use Rattle.term.specs.Language.{Language, language}
use Rattle.term.specs.declared.Edition.TheVariants.{One}

abbrev pub read_in : Bool → Language → Language
read_in simple l = language (cond simple One l.edition) l.table (cond simple [] l.classes)

-- the list that trees stand in, of which edition 1 asks nothing in a record, and in a pattern no more than whether there is one
abbrev pub told_in : Bool → Bool → Option ℕ → Option ℕ
told_in true true stand = None
told_in true false (Some b) = Some 0
told_in true false None = None
told_in false records stand = stand
