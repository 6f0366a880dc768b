-- Laws of lists, in the order of the operations: an entry, what is left from a place on, a part that starts there.
use Prim.Native.Nat.{ℕ, zero, suc, ◌+◌, ◌-◌, ◌<◌, ◌≤◌}
use native.Mathlib.Omega.{arith}
use mathlib.Core.Path.{◌≡◌, refl, sym, ◌∙◌, ap}
use mathlib.Core.List.{List, [], ◌∷◌, ◌++◌}
use mathlib.Core.Bool.{true, false}
use lib.Dec.{eqb}
use lib.ListN.{length, get_or, take, drop, length-drop}
use lib.Seq.{drop-cons, drop-drop, drop_at, get_or-drop, take_all}
use borrow.Author.Tests.{eq-eqb, ne_eqb}

-- An entry

pub get_or_any : (l : List ℕ) (i d e : ℕ) → i < length l → get_or l i d ≡ get_or l i e
get_or_any [] i d e h = absurd (omega arith)
get_or_any (x ∷ xs) zero d e h = refl
get_or_any (x ∷ xs) (suc i) d e h = get_or_any xs i d e (omega arith)

-- What is left from a place on

pub next_at : (l : List ℕ) (n : ℕ) → n < length l → drop n l ≡ get_or l n 0 ∷ drop (n + 1) l
next_at l n h = let z : suc n ≡ n + 1 = omega arith in drop-cons l n 0 h ∙ ap (λ (m : ℕ). get_or l n 0 ∷ drop m l) z

pub first_left : (l : List ℕ) (a : ℕ) → get_or (drop a l) 0 0 ≡ get_or l a 0
first_left l a = let z : a + 0 ≡ a = omega arith in get_or-drop a l 0 0 ∙ ap (λ (i : ℕ). get_or l i 0) z

pub some_left : (l : List ℕ) (a : ℕ) → a < length l → eqb (length (drop a l)) 0 ≡ false
some_left l a h = ne_eqb (length (drop a l)) 0 (λ z. omega (arith, length-drop a l))

pub none_left : (l : List ℕ) (a : ℕ) → length l ≤ a → eqb (length (drop a l)) 0 ≡ true
none_left l a h = eq-eqb (length (drop a l)) 0 (omega (arith, length-drop a l))

-- the byte that stands at a place
pub front : (l : List ℕ) (n b : ℕ) (bs : List ℕ) → drop n l ≡ b ∷ bs → (n < length l) × (get_or l n 0 ≡ b)
front l n b bs h = let i : length (drop n l) ≡ suc (length bs) = ap length h in (omega (arith, length-drop n l), sym (first_left l n) ∙ ap (λ (x : List ℕ). get_or x 0 0) h)

pub past_front : (l : List ℕ) (a n : ℕ) (p bs : List ℕ) → drop a l ≡ p ++ bs → length p ≡ n → drop (a + n) l ≡ bs
past_front l a n p bs h k = sym (drop-drop n a l) ∙ ap (drop n) h ∙ drop_at p bs n k

-- A part that starts in the middle of a list, as the code takes it

pub rest_part : (a : ℕ) (l : List ℕ) → take (length l - a) (drop a l) ≡ drop a l
rest_part a l = take_all (length l - a) (drop a l) (omega (arith, length-drop a l))

pub rest_length : (a : ℕ) (l : List ℕ) → length (take (length l - a) (drop a l)) ≡ length l - a
rest_length a l = ap length (rest_part a l) ∙ length-drop a l
