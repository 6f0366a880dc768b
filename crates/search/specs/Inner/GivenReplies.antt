-- What the functions of the next answer reply.
use Rattle.std.specs.Prelude.{ℕ, ◌-◌, ◌≡◌, List, Option, Some, None, Bool, true, length, eqb}
use Rattle.search.specs.State.{State}
use Rattle.search.specs.Level.{levels}
use Rattle.search.specs.Given.{Pass, ends, unknown, further_of, given_by, given_of}
use Rattle.search.specs.Spread.{free_in, spread_to}
use Rattle.search.specs.Inner.Lent.{Handed, Lent, Change, levels_in, level_in}
use Rattle.search.specs.Inner.Replies.{reply_of, reply_in, Replies}
use Rattle.search.specs.declared.place.Place.{Place}
use Rattle.search.specs.declared.marks.Marks.{Marks}
use Rattle.steps.specs.declared.Stop.{Stop}
use Rattle.search.specs.declared.Finding.{Finding}
use Rattle.search.specs.declared.Finding.TheVariants.{Found, Failed, Spent}

abbrev pub resumed_as : Finding → Option Finding
resumed_as Found = Some Failed
resumed_as Failed = None
resumed_as Spent = Some Spent

-- the pass that it, allowance, mask and parts stand for
abbrev pub pass_by : Option Finding → ℕ → ℕ → List ℕ → Pass
pass_by (Some outcome) left assigned parts = ends (reply_of outcome left assigned parts)
pass_by None left assigned parts = unknown

-- what is left of the allowance: all of it where the lengths are unknown
abbrev pub left_by : Option Finding → ℕ → ℕ → ℕ
left_by (Some outcome) left allowance = left
left_by None left allowance = allowance

abbrev pub pass_in : Option Finding → Lent → Pass
pass_in known x = pass_by known x.left x.assigned x.parts

abbrev pub given_in : Handed → List ℕ → ℕ → State → ℕ → Pass
given_in i g n = given_of n i.table i.classes i.bytes i.pattern g

-- the lengths after n, which has so many bytes
abbrev pub FurtherIs : Handed → Change → ℕ → ℕ → ℕ → Marks → Place → Finding → Type 0
FurtherIs i c v n size m p outcome =
    Replies reply_in i c m p outcome (levels i.pattern p.at - 1)
    (λ s k. further_of (level_in i k) i.table i.bytes v s (p.elements - n) n size c.before.left)

abbrev pub GivenFollows : Handed → List ℕ → Change → Stop → Marks → Place → Option Finding → Type 0
GivenFollows i g c stop m p known =
    Replies pass_in i c m p known (levels i.pattern p.at - 1)
    (λ s k. given_by stop (given_in i g k) (levels_in i k) i.table i.pattern i.bytes g s c.before.left)

abbrev pub GivenIs : Handed → List ℕ → Change → Marks → Place → Option Finding → Type 0
GivenIs i g c m p known = Replies pass_in i c m p known (levels i.pattern p.at) (λ s k. given_in i g k s c.before.left)

-- whether there is one for each, and if so they are put
pub record SpreadIs (table pattern given out out' : List ℕ) (r : Bool) : Type 0 where
  pub even : r ≡ eqb (length given) (length (free_in table pattern))
  pub put : r ≡ true → out' ≡ spread_to (free_in table pattern) given out
