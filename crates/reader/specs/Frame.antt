-- Trees that are still to be read: how many, the nesting left for them, and where they stand.
use Rattle.std.specs.Prelude.{ℕ, Option}
use Rattle.reader.specs.declared.Frame.{Frame}

abbrev pub frame : ℕ → ℕ → Option ℕ → Frame
frame count left stand = record { count = count; left = left; stand = stand }
