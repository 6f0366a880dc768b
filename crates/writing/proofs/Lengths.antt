-- The lengths of joined records: how they are checked one by one, and what they split the bytes into.
use Prim.Native.Nat.{ℕ, zero, suc, ◌+◌, ◌-◌, ◌≤◌, ◌<◌}
use native.Mathlib.Omega.{arith}
use mathlib.Core.Path.{◌≡◌, refl, ap, ap₂, ◌∙◌}
use mathlib.Core.List.{List, [], ◌∷◌, ◌++◌, map, flatten}
use mathlib.Core.Bool.{Bool, true, false, and-false, and-eq-true_iff}
use lib.ListN.{length, get_or, take, drop, length-append, length-drop, take-append-drop, drop_of_length-le}
use lib.Seq.{take_at, drop_at, length-take-le}
use lib.Dec.{ltb, eqb}
use borrow.Author.Tests.{lt-ltb, eq-eqb, ne_eqb, ltb-true, eqb-true, eqb-false}
use Rattle.term.proofs.Lists.{next_at}
use Rattle.term.specs.Limits.{Octets}
use Rattle.sheet.specs.Word.{word}
use Rattle.term.specs.declared.Edition.{Edition}
use Rattle.term.specs.declared.Edition.TheVariants.{One, Two}
use Rattle.sheet.specs.Sheet.{past_pairs, edition_mark, marked, directory, sheet_bytes, NoneEmpty}
use Rattle.sheet.specs.Check.{longest_sheet}
use Rattle.sheet.proofs.Words.{largest_word, word_octets, joined_octets}
use Rattle.sheet.proofs.Readings.{written_length}
use Rattle.writing.specs.Writing.{split, sum, none_zero, lengths_accepted, sheet_length}

-- the check of the lengths

eqb_less : (a n b : ℕ) → n ≤ a → eqb a (n + b) ≡ eqb (a - n) b
eqb_less a n b h = go (eqb (a - n) b) refl
  where
    go : (t : Bool) → eqb (a - n) b ≡ t → eqb a (n + b) ≡ t
    go true e = eq-eqb a (n + b) (omega (arith, eqb-true (a - n) b e))
    go false e = ne_eqb a (n + b) (λ q. eqb-false (a - n) b e (omega arith))

module _ (ns : List ℕ) (i left : ℕ) where
  pub lengths_zero : i < length ns → get_or ns i 0 ≡ 0 → lengths_accepted (drop i ns) left ≡ false
  unfolding lengths_accepted none_zero
  lengths_zero h z = rw (next_at ns i h, z)

  pub lengths_over : i < length ns → left < get_or ns i 0 → lengths_accepted (drop i ns) left ≡ false
  unfolding lengths_accepted sum
  lengths_over h o =
      rw (next_at ns i h, ne_eqb left (get_or ns i 0 + sum (drop (i + 1) ns)) (λ q. omega arith))
      (and-false (none_zero (get_or ns i 0 ∷ drop (i + 1) ns)))

  pub lengths_next : i < length ns → 0 < get_or ns i 0 → get_or ns i 0 ≤ left
      → lengths_accepted (drop i ns) left ≡ lengths_accepted (drop (i + 1) ns) (left - get_or ns i 0)
  unfolding lengths_accepted none_zero sum
  lengths_next h z o = rw (next_at ns i h, lt-ltb 0 (get_or ns i 0) z, eqb_less left (get_or ns i 0) (sum (drop (i + 1) ns)) o)

  pub lengths_end : length ns ≤ i → lengths_accepted (drop i ns) left ≡ eqb left 0
  unfolding lengths_accepted none_zero sum
  lengths_end h = rw (drop_of_length-le ns h)

pub lengths_true : (ns : List ℕ) (total : ℕ) → lengths_accepted ns total ≡ true → (none_zero ns ≡ true) × (total ≡ sum ns)
unfolding lengths_accepted
lengths_true ns total h =
    let a = (and-eq-true_iff (none_zero ns) (eqb total (sum ns))).0 h in
    (a.0, eqb-true total (sum ns) a.1)

-- the records

module _ (ns : List ℕ) (i : ℕ) (h : i < length ns) where
  pub sum_next : sum (drop i ns) ≡ get_or ns i 0 + sum (drop (i + 1) ns)
  unfolding sum
  sum_next = rw (next_at ns i h)

  pub split_next : (bs : List ℕ) → split bs (drop i ns) ≡ take (get_or ns i 0) bs ∷ split (drop (get_or ns i 0) bs) (drop (i + 1) ns)
  unfolding split
  split_next bs = rw (next_at ns i h)

pub split_length : (bs ns : List ℕ) → length (split bs ns) ≡ length ns
unfolding split
split_length bs [] = refl
split_length bs (n ∷ ns) = ap suc (split_length (drop n bs) ns)

pub split_lengths : (bs ns : List ℕ) → sum ns ≤ length bs → map length (split bs ns) ≡ ns
unfolding split sum
split_lengths bs [] h = refl
split_lengths bs (n ∷ ns) h =
    ap₂ ◌∷◌ (length-take-le n bs (omega arith)) (split_lengths (drop n bs) ns (omega (arith, length-drop n bs)))

pub split_flatten : (bs ns : List ℕ) → length bs ≡ sum ns → flatten (split bs ns) ≡ bs
unfolding split sum flatten
split_flatten [] [] h = refl
split_flatten (b ∷ bs) [] h = absurd (omega arith)
split_flatten bs (n ∷ ns) h =
    ap (λ (l : List ℕ). take n bs ++ l) (split_flatten (drop n bs) ns (omega (arith, length-drop n bs))) ∙ take-append-drop n bs

pub split_none_empty : (bs ns : List ℕ) → sum ns ≤ length bs → none_zero ns ≡ true → NoneEmpty (split bs ns)
unfolding split sum none_zero NoneEmpty
split_none_empty bs [] h z = tt
split_none_empty bs (n ∷ ns) h z =
    let a = (and-eq-true_iff (ltb 0 n) (none_zero ns)).0 z in
    let p : 0 < n = ltb-true 0 n a.0 in
    (omega (arith, length-take-le n bs (omega arith)), split_none_empty (drop n bs) ns (omega (arith, length-drop n bs)) a.1)

pub split_sheet : (edition : Edition) (bs ns : List ℕ) → length bs ≡ sum ns
    → sheet_bytes edition (split bs ns) ≡ word (marked edition (length ns)) ++ directory (past_pairs (length ns)) ns ++ bs
unfolding sheet_bytes
split_sheet edition bs ns h = rw (split_length bs ns, split_lengths bs ns (omega arith), split_flatten bs ns h)

pub split_size : (edition : Edition) (bs ns : List ℕ) → length bs ≡ sum ns → length (sheet_bytes edition (split bs ns)) ≡ sheet_length (length ns) (length bs)
split_size edition bs ns h = written_length edition (split bs ns) ∙ rw (split_length bs ns, split_flatten bs ns h)

directory_octets : (at : ℕ) (ns : List ℕ) → at + sum ns ≤ largest_word → Octets (directory at ns)
unfolding directory sum
directory_octets at [] h = λ i. omega arith
directory_octets at (n ∷ ns) h =
    joined_octets (word at ++ word n) (directory (at + n) ns) (joined_octets (word at) (word n) (word_octets at (omega arith)) (word_octets n (omega arith)))
    (directory_octets (at + n) ns (omega arith))

marked_word : (edition : Edition) (n : ℕ) → n < edition_mark → marked edition n ≤ largest_word
marked_word One n h = omega arith
marked_word Two n h = omega arith

pub split_octets : (edition : Edition) (bs ns : List ℕ) → length bs ≡ sum ns → sheet_length (length ns) (length bs) ≤ longest_sheet → Octets bs
    → Octets (sheet_bytes edition (split bs ns))
split_octets edition bs ns h short o =
    let pairs = directory (past_pairs (length ns)) ns in
    rw (split_sheet edition bs ns h)
    (joined_octets (word (marked edition (length ns)) ++ pairs) bs
    (joined_octets (word (marked edition (length ns))) pairs (word_octets (marked edition (length ns)) (marked_word edition (length ns) (omega arith))) (directory_octets (past_pairs (length ns)) ns (omega arith))) o)

-- and back: entries, joined, are split into themselves

pub flatten_split : (es : List (List ℕ)) → split (flatten es) (map length es) ≡ es
unfolding split flatten
flatten_split [] = refl
flatten_split (e ∷ es) =
    ap₂ ◌∷◌ (take_at e (flatten es) (length e) refl)
    (ap (λ (l : List ℕ). split l (map length es)) (drop_at e (flatten es) (length e) refl) ∙ flatten_split es)

pub flatten_sum : (es : List (List ℕ)) → length (flatten es) ≡ sum (map length es)
unfolding sum flatten
flatten_sum [] = refl
flatten_sum (e ∷ es) = length-append e (flatten es) ∙ ap (λ (n : ℕ). length e + n) (flatten_sum es)

pub lengths_none_zero : (es : List (List ℕ)) → NoneEmpty es → none_zero (map length es) ≡ true
unfolding none_zero NoneEmpty
lengths_none_zero [] h = refl
lengths_none_zero (e ∷ es) h = rw (lt-ltb 0 (length e) h.0) (lengths_none_zero es h.1)

pub length_below : (es : List (List ℕ)) (i : ℕ) → get_or (map length es) i 0 ≤ length (flatten es)
unfolding flatten
length_below [] i = omega arith
length_below (e ∷ es) zero = omega (arith, length-append e (flatten es))
length_below (e ∷ es) (suc i) = omega (arith, length-append e (flatten es), length_below es i)
