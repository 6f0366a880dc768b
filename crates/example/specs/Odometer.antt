-- Strings of one length, one after the other: those that a step passes over. Only the contracts of private functions cite this.
use Rattle.std.specs.Prelude.{ℕ, suc, ◌+◌, ◌-◌, ◌<◌, ◌≤◌, ◌≡◌, ◌⊎◌, List, ◌∷◌, ◌++◌, Bool, true, false, cond, ltb, eqb, length, get_or, take, replicate, Option, Some, None}
use Rattle.term.specs.Extent.{entry_of}
use Rattle.term.specs.Limits.{TermAccepted}
use Rattle.term.specs.Pattern.{Pattern}
use Rattle.term.specs.Table.{list}
use Rattle.term.specs.Term.{Term}
use Rattle.anti_pattern.specs.Language.{Language}
use Rattle.anti_pattern.specs.Order.{Smaller}
use Rattle.example.specs.Least.{bytes_in, Passed, Behind}

-- x is s or comes after it
abbrev pub NotBefore : List ℕ → List ℕ → Type 0
NotBefore s x = (s ≡ x) ⊎ Smaller s x

-- the place after a node and the trees that are to come, each of which takes a byte at least
abbrev pub fit_of : ℕ → ℕ → ℕ → Option (ℕ × ℕ)
fit_of size at trees = cond (ltb (size - at) trees) None (Some (at, trees))

abbrev pub step_of : List ℕ → List ℕ → ℕ → ℕ → Option (ℕ × ℕ)
step_of table s at trees =
    cond (eqb (entry_of table (get_or s at 0)) list)
    (cond (ltb (length s - at) 2) None (fit_of (length s) (at + 2) (trees - 1 + get_or s (at + 1) 0)))
    (fit_of (length s) (at + 1) (trees - 1 + entry_of table (get_or s at 0)))

-- byte i of s is one more and those behind it are 0; the bytes from there up to k could not be more
pub record Stepped (s : List ℕ) (k : ℕ) (r : List ℕ) : Type 0 where
  pub place : ℕ
  pub within : place < k
  pub small : get_or s place 0 < 255
  pub full : (m : ℕ) → place < m → m < k → get_or s m 0 ≡ 255
  pub bytes : r ≡ take place s ++ (suc (get_or s place 0) ∷ replicate (length s - suc place) 0)

-- the next string that differs from s within its first k bytes; or there is none, and the string of zeros is left
unfoldable pub Advances : List ℕ → ℕ → Bool → List ℕ → Type 0
Advances s k true r = Stepped s k r
Advances s k false r = ((m : ℕ) → m < k → get_or s m 0 ≡ 255) × (r ≡ replicate (length s) 0)

module _ (l : Language) (q : Pattern) (allowance : ℕ) where
  -- every record from s on of as many bytes that begins with the first k bytes of s is passed over where all before it are
  abbrev pub Skips : List ℕ → ℕ → Type 0
  Skips s k = (t : Term) → TermAccepted l t → length (bytes_in l t) ≡ length s → take k (bytes_in l t) ≡ take k s
      → NotBefore s (bytes_in l t) → Behind l q allowance (bytes_in l t) → Passed l q allowance t

  -- nothing is told of s, or after how many bytes it is passed over
  abbrev pub Probed : List ℕ → Option ℕ → Type 0
  Probed s None = Unit {0}
  Probed s (Some k) = Skips s k

-- within so many bytes
abbrev pub ProbedWithin : ℕ → Option ℕ → Type 0
ProbedWithin n None = Unit {0}
ProbedWithin n (Some k) = k ≤ n
