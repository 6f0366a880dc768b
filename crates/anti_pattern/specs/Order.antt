-- Which of two satisfying assignments is the first: document 01's "First".
use Rattle.std.specs.Prelude.{ℕ, zero, ◌<◌, ◌≡◌, ◌⊎◌, List, [], ◌∷◌, map, Option, Some, None}
use Rattle.term.specs.Term.{Terms, count}
use Rattle.term.specs.Pattern.{Pattern}
use Rattle.anti_pattern.specs.Variables.{free_runs}
use Rattle.anti_pattern.specs.Meaning.{Assignment}

-- the length of what is assigned, in elements
abbrev pub length_of : Option Terms → ℕ
length_of None = zero
length_of (Some w) = count w

-- "the lengths, in elements, of the free run names in order of their first place outside complements"
abbrev pub run_lengths : Pattern → Assignment → List ℕ
run_lengths q a = map (λ v. length_of (a v)) (free_runs q)

-- every one of a list, some one of it, and each before every one after it
abbrev pub All : {A : Type 0} → (A → Type 0) → List A → Type 0
All P [] = Unit {0}
All P (x ∷ xs) = P x × All P xs

abbrev pub Member : {A : Type 0} → A → List A → Type 0
Member x [] = ⊥
Member x (y ∷ ys) = (y ≡ x) ⊎ Member x ys

abbrev pub Ascending : {A : Type 0} → (A → A → Type 0) → List A → Type 0
Ascending R [] = Unit {0}
Ascending R (x ∷ xs) = All (R x) xs × Ascending R xs

-- "the smaller length where these lists first differ"
abbrev pub Smaller : List ℕ → List ℕ → Type 0
Smaller [] ys = ⊥
Smaller (x ∷ xs) [] = ⊥
Smaller (x ∷ xs) (y ∷ ys) = (x < y) ⊎ ((x ≡ y) × Smaller xs ys)
