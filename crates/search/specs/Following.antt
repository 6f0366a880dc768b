-- The answer after a given one, on bytes: "where the given lengths are not one for each free run name" it is unknown before any search.
use Rattle.std.specs.Prelude.{ℕ, List, Option, Some, None, cond, ◌&&◌, length, replicate, leb, eqb}
use Rattle.answers.specs.declared.Part.{Part}
use Rattle.term.specs.Code.{variables}
use Rattle.term.specs.Limits.{longest_record, longest_pattern}
use Rattle.search.specs.Given.{Pass, ends, unknown, pass_of}
use Rattle.search.specs.Shown.{shown_by, shown_in}
use Rattle.search.specs.Spread.{free_in, spread_to}
use Rattle.search.specs.declared.Followed.{Followed}
use Rattle.search.specs.declared.Finding.{Finding}

unfoldable pub next_pass : List ℕ → List ℕ → List ℕ → List ℕ → List ℕ → ℕ → Pass
next_pass table classes pattern bytes given allowance =
    cond (leb (length pattern) longest_pattern && leb (length bytes) longest_record)
    (cond (eqb (length given) (length (free_in table pattern)))
    (pass_of table classes pattern bytes (spread_to (free_in table pattern) given (replicate variables 0)) allowance) unknown)
    unknown

-- how it ends, with what is left of the allowance: all of it where the lengths are unknown, which count nothing
abbrev pub followed : Option Finding → ℕ → Followed
followed known left = record { known = known; left = left }

abbrev pub followed_of : ℕ → Pass → Followed
followed_of allowance (ends r) = followed (Some r.outcome) r.left
followed_of allowance unknown = followed None allowance

-- what it shows in the answer buffer
abbrev pub shown_pass : Pass → List ℕ → List ℕ
shown_pass (ends r) before = shown_in r before
shown_pass unknown before = before

abbrev pub shown_known : Option Finding → List Part → List ℕ → List ℕ
shown_known (Some outcome) parts before = shown_by outcome parts before
shown_known None parts before = before
