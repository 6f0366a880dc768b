-- What the search on any bytes comes to. On accepted input it is the answer of the search on trees (proofs/Linked, proofs/NextBytes).
use Rattle.std.specs.Prelude.{ℕ, ◌-◌, List}
use Rattle.answers.specs.declared.Part.{Part}
use Rattle.anti_pattern.specs.Answer.{Matching, bound, nothing, spent}
use Rattle.anti_pattern.specs.Next.{Following, follows, unknown}
use Rattle.search.specs.Level.{Reply, search_of}
use Rattle.search.specs.Given.{Pass, ends}
use Rattle.search.specs.Following.{next_pass}
use Rattle.search.specs.declared.Finding.{Finding}
use Rattle.search.specs.declared.Finding.TheVariants.{Found, Failed, Spent}

abbrev pub replied_by : Finding → ℕ → ℕ → List Part → Matching
replied_by Found allowance left parts = bound parts (allowance - left)
replied_by Failed allowance left parts = nothing (allowance - left)
replied_by Spent allowance left parts = spent allowance

abbrev pub replied : ℕ → Reply → Matching
replied allowance r = replied_by r.outcome allowance r.left r.parts

unfoldable pub outcome_on_bytes : List ℕ → List ℕ → List ℕ → List ℕ → ℕ → Matching
outcome_on_bytes table classes pattern bytes allowance = replied allowance (search_of table classes pattern bytes allowance)

-- after the given answer
abbrev pub replied_pass : ℕ → Pass → Following
replied_pass allowance (ends r) = follows (replied allowance r)
replied_pass allowance Pass.unknown = unknown

unfoldable pub following_on_bytes : List ℕ → List ℕ → List ℕ → List ℕ → List ℕ → ℕ → Following
following_on_bytes table classes pattern bytes given allowance = replied_pass allowance (next_pass table classes pattern bytes given allowance)
