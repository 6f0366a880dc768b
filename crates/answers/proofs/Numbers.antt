-- The numbers of the refusals are none of those of the words bound, none and spent.
use Prim.Native.Nat.{ℕ, zero, suc, ◌<◌}
use native.Mathlib.Omega.{arith}
use mathlib.Core.Path.{◌≡◌, refl, sym, ap, ◌∙◌}
use mathlib.Core.Bool.{Bool, true, false, ◌||◌, true≢false}
use lib.Dec.{eqb}
use Rattle.answers.specs.Refusal.{number_of}
use Rattle.answers.specs.declared.Refusal.{Refusal}
use Rattle.answers.specs.declared.Refusal.TheVariants.{Table, Short, Spare, BadCode, Deep, Long, Stray, Narrow, Directory, Full, Unread, Class, Unknown, Unspliced, Length, Loose, Outgrown, NoName, Shelf, NoExample, NotPlain, Turns}

-- bound has 0, none 10, spent 11
abbrev pub is_word : ℕ → Bool
is_word n = eqb n 0 || eqb n 10 || eqb n 11

no_word : (r : Refusal) → is_word (number_of r) ≡ false
no_word Table = refl
no_word Short = refl
no_word Spare = refl
no_word BadCode = refl
no_word Deep = refl
no_word Long = refl
no_word Stray = refl
no_word Narrow = refl
no_word Directory = refl
no_word Full = refl
no_word Unread = refl
no_word Class = refl
no_word Unknown = refl
no_word Unspliced = refl
no_word Length = refl
no_word Loose = refl
no_word Outgrown = refl
no_word NoName = refl
no_word Shelf = refl
no_word NoExample = refl
no_word NotPlain = refl
no_word Turns = refl

pub word_or_refusal : (n : ℕ) → is_word n ≡ true → (r : Refusal) → n ≡ number_of r → ⊥
word_or_refusal n w r e = true≢false (sym w ∙ ap is_word e ∙ no_word r)

pub numbered : (r : Refusal) → 0 < number_of r
numbered r = go (number_of r) refl
  where
    go : (n : ℕ) → n ≡ number_of r → 0 < n
    go zero e = absurd (word_or_refusal 0 refl r e)
    go (suc n) e = omega arith
