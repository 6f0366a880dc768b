-- The next answer in one pass under a remaining allowance: the check on the way to the given answer, and on the way back the search resumed
-- after it.
use Prim.Native.Nat.{ℕ}
use mathlib.Core.List.{List}
use mathlib.Core.Bool.{Bool}
use Rattle.term.specs.Term.{Terms, nil, ◌::◌, ◌⧺◌, single}
use Rattle.anti_pattern.proofs.Machine.{Frame, Pending, machine}
use Rattle.anti_pattern.proofs.Meter.{Metered, met, missed, used_up, meter, answered, then_meter}
use Rattle.anti_pattern.specs.Next.{resumed, Following, follows, unknown}
use Rattle.anti_pattern.specs.Search.{Env, Result, fail, Tries, freely, lengths}

-- the search resumed after the given answer ends; or no answer has the lengths given
pub data Passed : Type 0 where
  ended : Metered → Passed
  stranger : Passed

-- the resumed search starts with what the check leaves of the allowance
abbrev pub follow : Metered → Result → Passed
follow (met e left) r = ended (meter left r)
follow (missed left) r = stranger
follow used_up r = ended used_up

unfoldable pub passing : List ℕ → List ℕ → (ℕ → Tries) → (Env → Bool) → List Frame → Env → List Pending → ℕ → Passed
passing table classes how is fs e ds left =
    follow (meter left (machine table classes how fs e ds)) (resumed is (machine table classes freely fs e ds).out)

-- a run name's lengths after w
abbrev pub further : Terms → Terms → (Terms → Terms → Result) → Result
further w nil f = fail
further w (t :: ts) f = lengths (w ⧺ single t) ts f

-- where nothing more is found beneath, the search goes on
abbrev pub then_further : Passed → (Unit {0} → Result) → Passed
then_further (ended m) f = ended (then_meter m f)
then_further stranger f = stranger

-- at the end of the level: where the complements put by hold, the given answer is known, and the search resumed after it fails here
abbrev pub end_passed : Metered → Passed
end_passed (met e left) = ended (missed left)
end_passed (missed left) = stranger
end_passed used_up = ended used_up

-- what the call comes to
abbrev pub followed_by : List ℕ → ℕ → Passed → Following
followed_by table n (ended m) = follows (answered table n m)
followed_by table n stranger = unknown
