-- What a call brings, read off what it lends.
use Rattle.std.specs.Prelude.{ℕ, List, option_map}
use Rattle.std.specs.Borrow.{Bor}
use Rattle.reader.specs.Brought.{Brought}
use Rattle.reader.specs.declared.Brought.{Brought as LentBrought}

abbrev pub brought_of : LentBrought → Brought
brought_of b = record { edition = b.edition; table = b.table.now; list = option_map (λ (c : Bor (List ℕ)). c.now) b.list }
