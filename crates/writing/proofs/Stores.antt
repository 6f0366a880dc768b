-- A sheet stored: pair by pair, and as a whole.
use Prim.Native.Nat.{ℕ, ◌+◌, ◌/◌, ◌%◌, ◌≤◌, ◌<◌}
use native.Mathlib.Omega.{arith}
use mathlib.Core.Path.{◌≡◌, sym, ap, ◌∙◌}
use mathlib.Core.List.{List, [], ◌∷◌, ◌++◌, append_assoc}
use lib.ListN.{length, get_or, take, drop, drop_of_length-le}
use lib.Seq.{sets, sets-eq, drop-drop}
use borrow.Rule.Slice.PartMut.{put_mid}
use Rattle.term.proofs.Lists.{next_at}
use Rattle.sheet.specs.Word.{word_bytes, word}
use Rattle.sheet.proofs.Words.{largest_word}
use Rattle.term.specs.declared.Edition.{Edition}
use Rattle.sheet.specs.Sheet.{past_pairs, directory, sheet_bytes, marked}
use Rattle.sheet.proofs.Readings.{directory_length}
use Rattle.term.proofs.Stores.{sets_append}
use Rattle.writing.specs.Writing.{split, sum}
use Rattle.writing.proofs.Lengths.{split_sheet}

-- a word, as two bytes over two others
pub word_stored : (l ys : List ℕ) (at k n : ℕ) → n ≤ largest_word → at + word_bytes ≤ length l → k ≡ 2 → ys ≡ (n % 256) ∷ (n / 256 % 256) ∷ []
    → put_mid at k l ys ≡ sets l at (word n)
unfolding word
word_stored l ys at k n f h e w =
    let high : n / 256 % 256 ≡ n / 256 = omega arith in
    let stored : sets l at (word n) ≡ take at l ++ ((n % 256) ∷ (n / 256) ∷ drop (at + 2) l) =
    sets-eq (word n) l at h ∙ append_assoc (take at l) (word n) (drop (at + 2) l) in
    rw (w, high, e, drop-drop 2 at l) (sym stored)

module _ (l : List ℕ) (i at : ℕ) where
  -- the pair at an index
  pub pairs_next : (ns : List ℕ) → i < length ns
      → sets l (past_pairs i) (directory at (drop i ns))
      ≡ sets (sets (sets l (past_pairs i) (word at)) (past_pairs i + word_bytes) (word (get_or ns i 0))) (past_pairs (i + 1)) (directory (at + get_or ns i 0) (drop (i + 1) ns))
  unfolding directory word
  pairs_next ns h =
      let n = get_or ns i 0 in
      let rest = directory (at + n) (drop (i + 1) ns) in
      let f : past_pairs i + word_bytes + word_bytes ≡ past_pairs (i + 1) = omega arith in
      ap (λ (r : List ℕ). sets l (past_pairs i) (directory at r)) (next_at ns i h)
      ∙ sets_append l (past_pairs i) (word at) (word n ++ rest)
      ∙ sets_append (sets l (past_pairs i) (word at)) (past_pairs i + word_bytes) (word n) rest
      ∙ ap (λ (k : ℕ). sets (sets (sets l (past_pairs i) (word at)) (past_pairs i + word_bytes) (word n)) k rest) f

  pub pairs_end : (ns : List ℕ) → length ns ≤ i → sets l (past_pairs i) (directory at (drop i ns)) ≡ l
  unfolding directory
  pairs_end ns h = rw (drop_of_length-le ns h)

-- count, directory and records
pub sheet_stored : (edition : Edition) (l bs ns : List ℕ) → length bs ≡ sum ns
    → sets l 0 (sheet_bytes edition (split bs ns))
    ≡ sets (sets (sets l 0 (word (marked edition (length ns)))) word_bytes (directory (past_pairs (length ns)) ns)) (past_pairs (length ns)) bs
unfolding word
sheet_stored edition l bs ns h =
    let n = length ns in
    let pairs = directory (past_pairs n) ns in
    let e : word_bytes + length pairs ≡ past_pairs n = omega (arith, directory_length (past_pairs n) ns) in
    ap (sets l 0) (split_sheet edition bs ns h)
    ∙ sets_append l 0 (word (marked edition n)) (pairs ++ bs)
    ∙ sets_append (sets l 0 (word (marked edition n))) word_bytes pairs bs
    ∙ ap (λ (k : ℕ). sets (sets (sets l 0 (word (marked edition n))) word_bytes pairs) k bs) e
