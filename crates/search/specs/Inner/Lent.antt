-- What the functions of the search are handed: byte strings that they read, and what is lent to them, before a call and after it.
use Rattle.std.specs.Prelude.{ℕ, List, length}
use denote.Triple.Both.{Both}
use Rattle.std.specs.Borrow.{Bor, MutBor}
use Rattle.term.specs.Moment.{old, begun, new}
use Rattle.search.specs.State.{State}
use Rattle.search.specs.Level.{Reply, level_of}
use Rattle.search.specs.Inner.Memory.{LiesIn, Kept}
use Rattle.search.specs.declared.place.Place.{Place}
use Rattle.search.specs.declared.marks.Marks.{Marks}

-- what is read
pub record Handed : Type 0 where
  pub table : List ℕ
  pub classes : List ℕ
  pub pattern : List ℕ
  pub bytes : List ℕ

abbrev pub input_of : List ℕ → List ℕ → List ℕ → List ℕ → Handed
input_of table classes pattern bytes = record { table = table; classes = classes; pattern = pattern; bytes = bytes }

-- what is lent: which variables are assigned, what is left of the allowance, the variables' parts, and the stack
pub record Lent : Type 0 where
  pub assigned : ℕ
  pub left : ℕ
  pub parts : List ℕ
  pub stack : List ℕ

abbrev pub lent_of : ℕ → ℕ → List ℕ → List ℕ → Lent
lent_of assigned left parts stack = record { assigned = assigned; left = left; parts = parts; stack = stack }

pub record Change : Type 0 where
  pub before : Lent
  pub after : Lent

infixl 20 ◌⇒◌
abbrev pub ◌⇒◌ : Lent → Lent → Change
e ⇒ x = record { before = e; after = x }

-- The same by a function's parameters

abbrev pub input : {A B C D : Type 0} → Both (Bor (List ℕ)) A → Both (Bor (List ℕ)) B → Both (Bor (List ℕ)) C → Both (Bor (List ℕ)) D → Handed
input table classes pattern bytes = input_of (old table) (old classes) (old pattern) (old bytes)

abbrev pub lent : Both (MutBor ℕ) (MutBor ℕ) → Both (MutBor ℕ) (MutBor ℕ) → Both (MutBor (List ℕ)) (MutBor (List ℕ)) → Both (MutBor (List ℕ)) (MutBor (List ℕ)) → Change
lent assigned left parts stack = lent_of (begun assigned) (begun left) (begun parts) (begun stack) ⇒ lent_of (new assigned) (new left) (new parts) (new stack)

-- where the numbers are handed, not lent
abbrev pub handed : {A B : Type 0} → ℕ → ℕ → Both (MutBor (List ℕ)) A → Both (MutBor (List ℕ)) B → Lent
handed assigned left parts stack = lent_of assigned left (begun parts) (begun stack)

-- The invariant, the frame condition and the search of levels, by these

abbrev pub Held : Handed → Lent → Marks → Place → State → Type 0
Held i e m p s = LiesIn (length i.pattern) (length i.bytes) e.assigned e.parts e.stack m p s

abbrev pub Keeps : Lent → Marks → Lent → Type 0
Keeps e m x = Kept e.assigned m e.parts e.stack x.parts x.stack

-- of any pattern, and of the one handed
abbrev pub levels_in : Handed → ℕ → List ℕ → State → ℕ → Reply
levels_in i n = level_of n i.table i.classes i.bytes

abbrev pub level_in : Handed → ℕ → State → ℕ → Reply
level_in i n = levels_in i n i.pattern
