-- What is demanded where only the final buffer is at hand.
use Rattle.std.specs.Prelude.{ℕ, List, length}
use Rattle.reader.specs.Brought.{Brought}
use Rattle.plain.specs.Call.{plain_of}
use Rattle.plain.specs.Demands.{PlainDemanded}

-- of the answer that the plain tier has
abbrev pub PlainDemandedOf : Brought → List ℕ → List ℕ → List ℕ → List ℕ → Type 0
PlainDemandedOf brought pattern bytes before after = PlainDemanded brought pattern bytes before (plain_of brought pattern bytes (length before)) after
