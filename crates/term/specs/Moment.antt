-- What a lent buffer holds when a call begins, and when it ends.
use denote.Triple.Both.{Both}
use Rattle.std.specs.Borrow.{Bor, MutBor}

-- of a buffer that is lent to be read
abbrev pub old : {X : Type 0} {Y : Type 0} → Both (Bor X) Y → X
old p = p.entry.now

-- of one that is lent to be changed
abbrev pub begun : {X : Type 0} {Y : Type 0} → Both (MutBor X) Y → X
begun p = p.entry.now

abbrev pub new : {X : Type 0} {Y : Type 0} → Both Y (MutBor X) → X
new p = p.exit.now
