-- 16-bit numbers: reading and writing them are inverse.
use Prim.Native.Nat.{ℕ, zero, suc, ◌+◌, ◌*◌, ◌/◌, ◌%◌, ◌≤◌, ◌<◌}
use native.Mathlib.Omega.{arith}
use mathlib.Core.Path.{◌≡◌, refl, sym, ap, ap₂, ◌∙◌}
use mathlib.Core.List.{List, [], ◌∷◌, ◌++◌}
use lib.ListN.{length, get_or, drop, get_or-eq_default}
use lib.Dec.{ltb}
use borrow.Author.Tests.{lt-ltb, le-ltb, ltb-true, ltb-false}
use mathlib.Core.Bool.{Bool, true, false, cond}
use lib.Seq.{drop-cons, drop-drop, get_or-drop}
use Rattle.term.specs.Limits.{Octets}
use Rattle.term.specs.declared.Edition.{Edition}
use Rattle.term.specs.declared.Edition.TheVariants.{One, Two}
use Rattle.sheet.specs.Sheet.{edition_mark, marked}
use Rattle.sheet.specs.Word.{word_bytes, word, word_at}
use Rattle.sheet.specs.Check.{entry_count, edition_of}

-- what is written is read

pub word_back : (s : List ℕ) (at n : ℕ) (rest : List ℕ) → drop at s ≡ word n ++ rest → word_at s at ≡ n
unfolding word word_at
word_back s at n rest h =
    let z : at + 0 ≡ at = omega arith in
    let a : get_or s at 0 ≡ n % 256 = ap (λ (k : ℕ). get_or s k 0) (sym z) ∙ sym (get_or-drop at s 0 0) ∙ ap (λ (l : List ℕ). get_or l 0 0) h in
    let b : get_or s (at + 1) 0 ≡ n / 256 = sym (get_or-drop at s 1 0) ∙ ap (λ (l : List ℕ). get_or l 1 0) h in
    rw (a, b) (omega arith)

pub word_past : (s : List ℕ) (at n : ℕ) (rest : List ℕ) → drop at s ≡ word n ++ rest → drop (at + word_bytes) s ≡ rest
unfolding word
word_past s at n rest h = sym (drop-drop 2 at s) ∙ ap (drop 2) h

-- and what is read is there

pub word_forth : (s : List ℕ) (at : ℕ) → Octets s → at + 1 < length s → drop at s ≡ word (word_at s at) ++ drop (at + word_bytes) s
unfolding word word_at
word_forth s at o h =
    let a = get_or s at 0 in
    let b = get_or s (at + 1) 0 in
    let low : (a + 256 * b) % 256 ≡ a = omega (arith, o at) in
    let high : (a + 256 * b) / 256 ≡ b = omega (arith, o at) in
    let one : suc at ≡ at + 1 = omega arith in
    let two : suc (at + 1) ≡ at + 2 = omega arith in
    drop-cons s at 0 (omega arith)
    ∙ ap₂ ◌∷◌ (sym low) (ap (λ (k : ℕ). drop k s) one ∙ drop-cons s (at + 1) 0 h ∙ ap₂ ◌∷◌ (sym high) (ap (λ (k : ℕ). drop k s) two))

-- the bytes of a number, and what is joined of bytes, are bytes

abbrev pub largest_word : ℕ
largest_word = 65535

pub word_octets : (n : ℕ) → n ≤ largest_word → Octets (word n)
unfolding word
word_octets n h zero = omega arith
word_octets n h (suc zero) = omega arith
word_octets n h (suc (suc i)) = omega arith

pub joined_octets : (a b : List ℕ) → Octets a → Octets b → Octets (a ++ b)
joined_octets [] b p q i = q i
joined_octets (x ∷ a) b p q zero = p zero
joined_octets (x ∷ a) b p q (suc i) = joined_octets a b (λ j. p (suc j)) q i

-- the number of entries of bytes that are too short to tell one

pub count_none : (s : List ℕ) → length s ≡ 0 → entry_count s ≡ 0
unfolding entry_count word_at
count_none s h =
    let a : get_or s 0 0 ≡ 0 = get_or-eq_default s 0 (omega arith) in
    let b : get_or s 1 0 ≡ 0 = get_or-eq_default s 0 (omega arith) in
    omega arith

pub count_one : (s : List ℕ) → Octets s → length s ≡ 1 → entry_count s ≡ get_or s 0 0
unfolding entry_count word_at
count_one s o h =
    let b : get_or s 1 0 ≡ 0 = get_or-eq_default s 0 (omega arith) in
    omega (arith, o 0)

-- the edition

pub edition_short : (s : List ℕ) → Octets s → length s < 2 → edition_of s ≡ One
unfolding edition_of word_at
edition_short s o h =
    let b : get_or s 1 0 ≡ 0 = get_or-eq_default s 0 (omega arith) in
    rw (lt-ltb (get_or s 0 0 + 256 * get_or s 1 0) edition_mark (omega (arith, o 0, b)))

pub edition_below : (s : List ℕ) → word_at s 0 < edition_mark → edition_of s ≡ One
unfolding edition_of
edition_below s h = rw (lt-ltb (word_at s 0) edition_mark h)

pub edition_above : (s : List ℕ) → edition_mark ≤ word_at s 0 → edition_of s ≡ Two
unfolding edition_of
edition_above s h = rw (le-ltb (word_at s 0) edition_mark h)

-- count and edition are what the first word tells

word_limit : (s : List ℕ) (at : ℕ) → Octets s → word_at s at ≤ largest_word
unfolding word_at
word_limit s at o = omega (arith, o at, o (at + 1))

pub word_told : (s : List ℕ) → Octets s → word_at s 0 ≡ marked (edition_of s) (entry_count s)
unfolding edition_of entry_count
word_told s o = go (ltb (word_at s 0) edition_mark) refl
  where
    go : (b : Bool) → ltb (word_at s 0) edition_mark ≡ b → word_at s 0 ≡ marked (cond b One Two) (word_at s 0 % edition_mark)
    go true e = omega (arith, ltb-true (word_at s 0) edition_mark e)
    go false e = omega (arith, ltb-false (word_at s 0) edition_mark e, word_limit s 0 o)

pub told_word : (s : List ℕ) (edition : Edition) (n : ℕ) → n < edition_mark → word_at s 0 ≡ marked edition n → (entry_count s ≡ n) × (edition_of s ≡ edition)
unfolding entry_count
told_word s One n h e = (omega (arith, e), edition_below s (omega (arith, e)))
told_word s Two n h e = (omega (arith, e), edition_above s (omega (arith, e)))
