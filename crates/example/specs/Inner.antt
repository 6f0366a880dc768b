-- The code's own invariants, which only the contracts of private functions cite: what was seen of the pattern's symbols, what trying strings tells,
-- and where it stops.
use Rattle.std.specs.Prelude.{ℕ, zero, suc, ◌+◌, ◌<◌, ◌≤◌, ◌≡◌, ◌⊎◌, List, [], Bool, true, false, length, get_or, take, replicate, Option, Some, None, Result, Ok, Err}
use Rattle.answers.specs.declared.Applied.{Applied}
use Rattle.term.specs.Class.{class_of}
use Rattle.term.specs.Limits.{TermAccepted, PatternAccepted}
use Rattle.term.specs.Pattern.{Pattern, pattern_bytes}
use Rattle.term.specs.Table.{list, table_accepted}
use Rattle.term.specs.Term.{Term}
use Rattle.term.specs.declared.Edition.{Edition}
use Rattle.anti_pattern.specs.Answer.{count_of}
use Rattle.anti_pattern.specs.Language.{Language, language, Classed}
use Rattle.anti_pattern.specs.Meaning.{Assignment, Satisfies}
use Rattle.example.specs.Least.{bytes_in, Passed, Behind}
use Rattle.example.specs.Odometer.{Skips, Probed}
use Rattle.example.specs.Call.{example_by, output_by}
use Rattle.example.specs.Trial.{example}
use Rattle.example.specs.declared.End.{End}
use Rattle.example.specs.declared.End.TheVariants.{Bound, Spent}
use Rattle.example.specs.declared.Stop.{Stop}
use Rattle.answers.specs.declared.Refusal.{Refusal}

-- a language and a pattern that passed their checks
pub record Rule (l : Language) (pattern : List ℕ) (q : Pattern) : Type 0 where
  pub table_accepted_holds : table_accepted l.table ≡ true
  pub classed : Classed l
  pub pattern_bytes_holds : pattern_bytes l.table q [] ≡ pattern
  pub pattern_accepted : PatternAccepted l q

-- a node of the pattern and one of the record: both have a first child, which stands one or two bytes on
abbrev pub DownBy : List ℕ → List ℕ → ℕ → List ℕ → ℕ → Option ℕ → Type 0
DownBy table pattern i s at None = Unit {0}
DownBy table pattern i s at (Some n) =
    ((n ≡ 1) × (get_or table (get_or pattern i 0) 0 ≡ 0 → ⊥) × (get_or table (get_or pattern i 0) 0 ≡ list → ⊥))
    ⊎ ((n ≡ 2) × (get_or table (get_or pattern i 0) 0 ≡ list) × (get_or pattern (i + 1) 0 ≡ 0 → ⊥) × (get_or s (at + 1) 0 ≡ 0 → ⊥) × (at + 2 ≤ length s))

-- in every edition
abbrev pub FrontAt : List ℕ → List ℕ → List ℕ → List ℕ → ℕ → Option ℕ → Type 0
FrontAt table classes pattern s allowance None = Unit {0}
FrontAt table classes pattern s allowance (Some k) =
    (edition : Edition) (q : Pattern) → Rule (language edition table classes) pattern q → Skips (language edition table classes) q allowance s k

-- a mark for each byte of the pattern, by its class
abbrev pub Marks : List ℕ → List ℕ → List ℕ → Type 0
Marks classes pattern kept = (i : ℕ) → i < length pattern → get_or kept (class_of classes (get_or pattern i 0)) 0 ≡ 1

abbrev pub IsFree : List ℕ → List ℕ → ℕ → Bool → Type 0
IsFree classes kept s true = (class_of classes s ≡ s) × (get_or kept s 0 ≡ 0)
IsFree classes kept s false = Unit {0}

-- two symbols with equal table bytes, each its own class and not marked
pub record Likes (table classes kept : List ℕ) (a b : ℕ) : Type 0 where
  pub smaller : a < b
  pub inside : b < length table
  pub alike : get_or table a 0 ≡ get_or table b 0
  pub free_a : IsFree classes kept a true
  pub free_b : IsFree classes kept b true

abbrev pub LikesAt : List ℕ → List ℕ → List ℕ → ℕ → ℕ → Type 0
LikesAt table classes kept b zero = Unit {0}
LikesAt table classes kept b (suc a) = Likes table classes kept a b

-- the last symbol before s with a table byte
abbrev pub LastAt : List ℕ → List ℕ → List ℕ → ℕ → ℕ → ℕ → Type 0
LastAt table classes kept s e zero = Unit {0}
LastAt table classes kept s e (suc a) = (a < s) × (get_or table a 0 ≡ e) × IsFree classes kept a true

pub record Standing (table classes kept : List ℕ) (s : ℕ) (last lower : List ℕ) : Type 0 where
  pub last_long : length last ≡ 256
  pub lower_long : length lower ≡ 256
  pub lasts : (e : ℕ) → LastAt table classes kept s e (get_or last e 0)
  pub lowers : (b : ℕ) → LikesAt table classes kept b (get_or lower b 0)

-- two symbols that are as good as each other: each is its own class, their table bytes are equal, and no byte of the pattern is of either class
pub record Twins (l : Language) (pattern : List ℕ) (a b : ℕ) : Type 0 where
  pub smaller : a < b
  pub inside : b < length l.table
  pub alike : get_or l.table a 0 ≡ get_or l.table b 0
  pub own_a : class_of l.classes a ≡ a
  pub own_b : class_of l.classes b ≡ b
  pub without : (i : ℕ) → i < length pattern → (class_of l.classes (get_or pattern i 0) ≡ a → ⊥) × (class_of l.classes (get_or pattern i 0) ≡ b → ⊥)

-- for a symbol nothing, or one more than a smaller twin
abbrev pub LowerAt : Language → List ℕ → ℕ → ℕ → Type 0
LowerAt l pattern b zero = Unit {0}
LowerAt l pattern b (suc a) = Twins l pattern a b

abbrev pub Lowers : Language → List ℕ → List ℕ → Type 0
Lowers l pattern lower = (b : ℕ) → LowerAt l pattern b (get_or lower b 0)

abbrev pub FindsTwins : List ℕ → List ℕ → List ℕ → List ℕ → Type 0
FindsTwins table classes kept lower =
    (edition : Edition) (pattern : List ℕ) → Marks classes pattern kept → Lowers (language edition table classes) pattern lower

-- a symbol that is not its own class, or a twin of which neither was seen; one that is its own class
abbrev pub NeedlessBy : List ℕ → List ℕ → List ℕ → ℕ → Bool → Type 0
NeedlessBy classes lower seen b true =
    (class_of classes b ≡ b → ⊥)
    ⊎ ((class_of classes b ≡ b) × ((a : ℕ) × (get_or lower b 0 ≡ suc a) × (get_or seen b 0 ≡ 1 → ⊥) × (get_or seen a 0 ≡ 1 → ⊥)))
NeedlessBy classes lower seen b false = class_of classes b ≡ b

abbrev pub LooksAt : List ℕ → List ℕ → List ℕ → List ℕ → Option ℕ → Type 0
LooksAt table classes lower s r =
    (edition : Edition) (pattern : List ℕ) (q : Pattern) (allowance : ℕ) → Rule (language edition table classes) pattern q
    → Lowers (language edition table classes) pattern lower → Probed (language edition table classes) q allowance s r

module _ (l : Language) (q : Pattern) (allowance : ℕ) where
  -- a string that is passed over, one that is a record with an answer, or that is spent
  abbrev pub Tries : List ℕ → Result (Unit {0}) End → Type 0
  Tries s (Ok x) = (t : Term) → TermAccepted l t → s ≡ bytes_in l t → Passed l q allowance t
  Tries s (Err (Bound n)) =
      (t : Term) × (s ≡ bytes_in l t) × TermAccepted l t × (n ≡ count_of l q t) × (n ≤ allowance) × ((a : Assignment) × Satisfies l q t a)
  Tries s (Err Spent) = (t : Term) × (s ≡ bytes_in l t) × TermAccepted l t × (allowance < count_of l q t)

  -- a turn: where it goes on, the strings that it is done with share so many bytes
  abbrev pub Turns : List ℕ → Result ℕ End → Type 0
  Turns s (Ok k) = Skips l q allowance s k
  Turns s (Err e) = Tries s (Err e)

  -- the strings of n bytes: all are passed over, or s is where it stopped
  abbrev pub Ends : ℕ → Result (Unit {0}) End → List ℕ → Type 0
  Ends n (Ok x) s = Behind l q allowance (replicate (suc n) 0)
  Ends n (Err e) s = Tries s (Err e) × Behind l q allowance s

  -- the same of the strings of at most n bytes, where s is in the first bytes
  abbrev pub Stops : ℕ → Result (Unit {0}) Stop → List ℕ → Type 0
  Stops n (Ok x) s = Ends n (Ok tt) s
  Stops n (Err e) s = Ends n (Err e.end) (take e.length s)

-- where all are passed over the string of zeros is left
unfoldable pub Cleared : Result (Unit {0}) End → List ℕ → Type 0
Cleared (Ok x) s = s ≡ replicate (length s) 0
Cleared (Err e) s = Unit {0}

-- within so many bytes
abbrev pub SharesWithin : ℕ → Result ℕ End → Type 0
SharesWithin n (Ok k) = k ≤ n
SharesWithin n (Err e) = Unit {0}

abbrev pub StopsWithin : ℕ → Result (Unit {0}) Stop → Type 0
StopsWithin n (Ok x) = Unit {0}
StopsWithin n (Err e) = e.length ≤ n

abbrev pub TriesOne : Language → List ℕ → List ℕ → ℕ → Result (Unit {0}) End → Type 0
TriesOne l pattern s allowance r =
    (q : Pattern) → Rule l pattern q → Tries l q allowance s r

abbrev pub TriesNext : Language → List ℕ → List ℕ → List ℕ → ℕ → Result ℕ End → Type 0
TriesNext l lower pattern s allowance r =
    (q : Pattern) → Rule l pattern q → Lowers l pattern lower → Turns l q allowance s r

unfoldable pub TriesLength : Language → List ℕ → List ℕ → ℕ → ℕ → Result (Unit {0}) End → List ℕ → Type 0
TriesLength l lower pattern allowance n r s =
    (q : Pattern) → Rule l pattern q → Lowers l pattern lower
    → Behind l q allowance (replicate n 0) → Ends l q allowance n r s

-- the candidates of at most so many bytes
abbrev pub TriesSizes : Language → List ℕ → List ℕ → ℕ → ℕ → Result (Unit {0}) Stop → List ℕ → Type 0
TriesSizes l lower pattern allowance size r s =
    (q : Pattern) → Rule l pattern q → Lowers l pattern lower → Stops l q allowance size r s

abbrev pub ShowsExample : Language → List ℕ → ℕ → ℕ → List ℕ → Result Applied Refusal → List ℕ → Type 0
ShowsExample l pattern size allowance before r after =
    (q : Pattern) → Rule l pattern q
    → (r ≡ example_by (example l q allowance size) (length before)) × (after ≡ output_by (example l q allowance size) before)
