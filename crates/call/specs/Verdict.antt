-- What checks come to, one after the other.
use Rattle.std.specs.Prelude.{ℕ, Bool, true, false}
use Rattle.answers.specs.declared.Refusal.{Refusal}
use Rattle.reader.specs.Reading.{Parsed, refused, read}

-- passed, with what was read; or the refusal with the index of its entry: "where no entry is meant, as for 9, the index is 0"
pub data Verdict (X : Type 0) : Type 0 where
  passed : X → Verdict X
  fault : Refusal → ℕ → Verdict X

-- a check, before the others; no entry is meant
abbrev pub check : {X : Type 0} → Bool → Refusal → Verdict X → Verdict X
check true r others = others
check false r others = fault r 0

-- a reading; no entry is meant
abbrev pub reading : {X : Type 0} → Parsed X → Verdict X
reading (read x n) = passed x
reading (refused r) = fault r 0

-- one, then the other
abbrev pub both : {X Y : Type 0} → Verdict X → Verdict Y → Verdict (X × Y)
both (fault r i) other = fault r i
both (passed x) (fault r i) = fault r i
both (passed x) (passed y) = passed (x, y)
