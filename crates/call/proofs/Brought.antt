-- A class list that is brought.
use Prim.Native.Nat.{ℕ}
use mathlib.Core.Path.{◌≡◌}
use mathlib.Core.List.{List}
use mathlib.Core.Bool.{true}
use Rattle.term.specs.Class.{Alike}
use Rattle.term.proofs.Classes.{accepted_alike, none_alike}
use Rattle.reader.specs.Brought.{Brought, or_empty, classes_of, list_accepted, brought_accepted}
use Rattle.std.specs.Prelude.{Option, Some, None}

list_alike : (table : List ℕ) (list : Option (List ℕ)) → list_accepted table list ≡ true → Alike table (or_empty list)
list_alike table None h = none_alike table
list_alike table (Some classes) h = accepted_alike table classes h

-- It has like table bytes in a class, as the empty one has
pub brought_alike : (brought : Brought) → brought_accepted brought ≡ true → Alike brought.table (classes_of brought)
brought_alike brought h = list_alike brought.table brought.list h
