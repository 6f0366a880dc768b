-- The language of a call: document 02's edition (L6), the table and the class list (L1). One that brings no class list has the empty one.
use Rattle.std.specs.Prelude.{ℕ, List, []}
use Rattle.term.specs.declared.Edition.{Edition}
use Rattle.term.specs.declared.Edition.TheVariants.{One}

pub record Language : Type 0 where
  pub edition : Edition
  pub table : List ℕ
  pub classes : List ℕ

abbrev pub language : Edition → List ℕ → List ℕ → Language
language edition table classes = record { edition = edition; table = table; classes = classes }

-- document 01's: edition 1, no class list
abbrev pub simple : List ℕ → Language
simple table = language One table []
