-- The converter's call: 1, 14, the input's checks of edition 1, 6, 12.
use Rattle.std.specs.Prelude.{ℕ, List, Bool, cond, length, Result, Ok, Err, Option}
use Rattle.answers.specs.declared.Refusal.TheVariants.{Table, Class}
use Rattle.term.specs.Table.{table_accepted}
use Rattle.reader.specs.Brought.{or_empty, list_accepted}
use Rattle.splice.specs.Converting.{Conversion, kept, written, converted}
use Rattle.answers.specs.declared.Refusal.{Refusal}

unfoldable pub call : Bool → List ℕ → Option (List ℕ) → ℕ → List ℕ → Conversion
call records table list room s =
    cond (table_accepted table) (cond (list_accepted table list) (converted records (or_empty list) table room s) (kept Class)) (kept Table)

-- what the code answers: the number of bytes alone
abbrev pub shown_of : Conversion → Result ℕ Refusal
shown_of (kept r) = Err r
shown_of (written bs) = Ok (length bs)
