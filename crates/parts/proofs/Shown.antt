-- The laws of what is shown in an answer buffer.
-- Assumes nothing.
use Prim.Native.Nat.{ℕ, zero, suc, ◌+◌, ◌*◌, ◌/◌, ◌%◌, ◌^◌, ◌<◌, ◌≤◌}
use native.Mathlib.Omega.{arith}
use mathlib.Core.Path.{◌≡◌, refl, sym, ◌∙◌, ap, ap₂}
use mathlib.Core.List.{List, [], ◌∷◌, ◌++◌}
use mathlib.Core.Bool.{Bool, true, false}
use lib.ListN.{length, get_or, drop, set, replicate, length-set, get_or-replicate, get_or-append}
use lib.Seq.{get_or-set_same, get_or-set_other, drop_at, paste, paste-zero, paste-suc}
use lib.Dec.{eqb}
use borrow.Author.Tests.{lt-ltb, le-ltb, eqb-true, eqb-false}
use Rattle.answers.specs.Part.{nowhere, part, absent}
use Rattle.answers.specs.declared.Part.{Part}
use Rattle.term.specs.Code.{variables}
use Rattle.parts.specs.Packed.{part_in, part_of, parts_in}
use Rattle.parts.specs.Shown.{entry, numbers, entry_width, answer_width, set_entry, shown_parts}
use Rattle.parts.proofs.Masks.{whole, bit_below, bit_past, bit_next}

-- the numbers of parts

entry_length : (p : Part) → length (entry p) ≡ entry_width
entry_length p = refl

pub numbers_length : (ps : List Part) → length (numbers ps) ≡ entry_width * length ps
numbers_length [] = refl
numbers_length (p ∷ ps) = omega (arith, numbers_length ps)

-- the k-th number of each entry
pub numbers_at : (k : ℕ) → k < entry_width → (ps : List Part) (v : ℕ) → v < length ps
    → get_or (numbers ps) (entry_width * v + k) 0 ≡ get_or (entry (get_or ps v (part 0 0 0))) k 0
numbers_at k low [] v h = absurd (omega arith)
numbers_at k low (p ∷ ps) zero h =
    let z : entry_width * 0 + k ≡ k = omega arith in
    ap (λ (i : ℕ). get_or (numbers (p ∷ ps)) i 0) z ∙ get_or-append (entry p) (numbers ps) 0 k low
numbers_at k low (p ∷ ps) (suc v) h =
    let z : entry_width * suc v + k ≡ suc (suc (suc (entry_width * v + k))) = omega arith in
    ap (λ (i : ℕ). get_or (numbers (p ∷ ps)) i 0) z ∙ numbers_at k low ps v (omega arith)

pub set_entry_length : (l : List ℕ) (v : ℕ) (p : Part) → length (set_entry l v p) ≡ length l
set_entry_length l v p = simp length-set refl

entry_set : (ps : List Part) (rest : List ℕ) (v : ℕ) (p : Part) → v < length ps → set_entry (numbers ps ++ rest) v p ≡ numbers (set ps v p) ++ rest
entry_set [] rest v p h = absurd (omega arith)
entry_set (q ∷ ps) rest zero p h = refl
entry_set (q ∷ ps) rest (suc v) p h =
    let z : entry_width * suc v ≡ suc (suc (suc (entry_width * v))) = omega arith in
    let y : (k : ℕ) → suc (suc (suc (entry_width * v))) + k ≡ suc (suc (suc (entry_width * v + k))) = λ k. omega arith in
    rw (z, y 1, y 2) (ap (λ (l : List ℕ). entry q ++ l) (entry_set ps rest v p (omega arith)))

-- the parts that mask and parts stand for

pub part_below : (assigned : ℕ) (parts : List ℕ) (v : ℕ) → v < variables → part_of assigned parts v ≡ part_in assigned parts v
unfolding part_of
part_below assigned parts v h = rw (lt-ltb v variables h)

pub parts_shown : (assigned : ℕ) (parts : List ℕ) (v k : ℕ) (shows : List Part) → length shows ≡ k
    → ((i : ℕ) → i < k → get_or shows i (part 0 0 0) ≡ part_in assigned parts (v + i)) → shows ≡ parts_in assigned parts v k
unfolding parts_in
parts_shown assigned parts v zero [] l h = refl
parts_shown assigned parts v zero (x ∷ xs) l h = absurd (omega (arith, l))
parts_shown assigned parts v (suc k) [] l h = absurd (omega (arith, l))
parts_shown assigned parts v (suc k) (x ∷ xs) l h =
    let z : v + 0 ≡ v = omega arith in
    let first : x ≡ part_in assigned parts v = h 0 (omega arith) ∙ ap (part_in assigned parts) z in
    let rest : xs ≡ parts_in assigned parts (v + 1) k = parts_shown assigned parts (v + 1) k xs (omega (arith, l)) (λ i j. next i j) in
    rw (first, rest)
  where
    next : (i : ℕ) → i < k → get_or xs i (part 0 0 0) ≡ part_in assigned parts (v + 1 + i)
    next i j = let z : v + suc i ≡ v + 1 + i = omega arith in h (suc i) (omega arith) ∙ ap (part_in assigned parts) z

module _ (assigned : ℕ) (parts : List ℕ) where
  pub parts_length : (v k : ℕ) → length (parts_in assigned parts v k) ≡ k
  unfolding parts_in
  parts_length v zero = refl
  parts_length v (suc k) = ap suc (parts_length (v + 1) k)

  pub parts_from : (v k i : ℕ) → i < k → get_or (parts_in assigned parts v k) i (part 0 0 0) ≡ part_in assigned parts (v + i)
  unfolding parts_in
  parts_from v zero i h = absurd (omega arith)
  parts_from v (suc k) zero h = let z : v ≡ v + 0 = omega arith in ap (part_in assigned parts) z
  parts_from v (suc k) (suc i) h = let z : v + 1 + i ≡ v + suc i = omega arith in parts_from (v + 1) k i (omega arith) ∙ ap (part_in assigned parts) z

-- absent marks for all

abbrev marks : List ℕ
marks = numbers (replicate variables absent)

-- the first i entries are absent marks
pub record Clearing (before b : List ℕ) (i : ℕ) : Type 0 where
  pub few : i ≤ variables
  pub long : length b ≡ length before
  pub entries : b ≡ paste before 0 marks (entry_width * i)

module _ (before : List ℕ) (wide : answer_width ≤ length before) where
  mark_written : (i k m : ℕ) → i < variables → k < entry_width → m ≡ get_or (entry absent) k 0
      → set (paste before 0 marks (entry_width * i + k)) (entry_width * i + k) m ≡ paste before 0 marks (entry_width * i + suc k)
  mark_written i k m h low e =
      let z : entry_width * i + k ≡ 0 + (entry_width * i + k) = omega arith in
      let y : suc (entry_width * i + k) ≡ entry_width * i + suc k = omega arith in
      let here = get_or-replicate variables i absent (part 0 0 0) h in
      ap₂ (λ (j x : ℕ). set (paste before 0 marks (entry_width * i + k)) j x) z
      (e ∙ ap (λ (q : Part). get_or (entry q) k 0) (sym here) ∙ sym (numbers_at k low (replicate variables absent) i h))
      ∙ paste-suc before 0 marks (entry_width * i + k) 0 (omega arith) (omega arith) ∙ ap (paste before 0 marks) y

  module _ {b : List ℕ} {i : ℕ} (t : Clearing before b i) where
    pub clear_next : i < variables → Clearing before (set_entry b i absent) (i + 1)
    clear_next h = record {
      few = omega arith;
      long = set_entry_length b i absent ∙ t.long;
      entries = ap (λ (l : List ℕ). set_entry l i absent) (t.entries ∙ ap (paste before 0 marks) first)
          ∙ ap (λ (l : List ℕ). set (set l (entry_width * i + 1) 0) (entry_width * i + 2) 0) (ap (λ (j : ℕ). set (paste before 0 marks (entry_width * i + 0)) j nowhere) first ∙ mark_written i 0 nowhere h (omega arith) refl)
          ∙ ap (λ (l : List ℕ). set l (entry_width * i + 2) 0) (mark_written i 1 0 h (omega arith) refl)
          ∙ mark_written i 2 0 h (omega arith) refl ∙ ap (paste before 0 marks) last;
    }
      where
        first : entry_width * i ≡ entry_width * i + 0
        first = omega arith

        last : entry_width * i + entry_width ≡ entry_width * (i + 1)
        last = omega arith

-- what a mask shows

module _ (parts : List ℕ) (a : ℕ) where
  none_shown : replicate variables absent ≡ parts_in (a % 2 ^ 0) parts 0 variables
  none_shown = parts_shown (a % 2 ^ 0) parts 0 variables (replicate variables absent) refl at
    where
      at : (v : ℕ) → v < variables → get_or (replicate variables absent) v (part 0 0 0) ≡ part_in (a % 2 ^ 0) parts (0 + v)
      at v h = get_or-replicate variables v absent (part 0 0 0) h ∙ rw (bit_past a 0 (0 + v) (omega arith))

  all_shown : parts_in (a % 2 ^ variables) parts 0 variables ≡ parts_in a parts 0 variables
  all_shown = parts_shown a parts 0 variables (parts_in (a % 2 ^ variables) parts 0 variables) (parts_length (a % 2 ^ variables) parts 0 variables) at
    where
      at : (v : ℕ) → v < variables → get_or (parts_in (a % 2 ^ variables) parts 0 variables) v (part 0 0 0) ≡ part_in a parts (0 + v)
      at v h = parts_from (a % 2 ^ variables) parts 0 variables v h ∙ rw (bit_below a variables (0 + v) (omega arith))

  next_part : (i : ℕ) → i < variables → set (parts_in (a % 2 ^ i) parts 0 variables) i (part_in a parts i) ≡ parts_in (a % 2 ^ (i + 1)) parts 0 variables
  next_part i low =
      parts_shown (a % 2 ^ (i + 1)) parts 0 variables (set (parts_in (a % 2 ^ i) parts 0 variables) i (part_in a parts i))
      (length-set (parts_in (a % 2 ^ i) parts 0 variables) i (part_in a parts i) ∙ parts_length (a % 2 ^ i) parts 0 variables) (λ v h. at v h (eqb v i) refl)
    where
      at : (v : ℕ) → v < variables → (b : Bool) → eqb v i ≡ b
          → get_or (set (parts_in (a % 2 ^ i) parts 0 variables) i (part_in a parts i)) v (part 0 0 0) ≡ part_in (a % 2 ^ (i + 1)) parts (0 + v)
      at v h true e =
          let z : v ≡ i = eqb-true v i e in
          let y : 0 + v ≡ i = omega arith in
          rw (y, z, bit_below a (i + 1) i (omega arith))
          (get_or-set_same (parts_in (a % 2 ^ i) parts 0 variables) i (part_in a parts i) (part 0 0 0) (omega (arith, parts_length (a % 2 ^ i) parts 0 variables)))
      at v h false e =
          let z : 0 + v ≡ v = omega arith in
          get_or-set_other (parts_in (a % 2 ^ i) parts 0 variables) i v (part_in a parts i) (part 0 0 0) (eqb-false v i e) ∙ parts_from (a % 2 ^ i) parts 0 variables v h
          ∙ rw (z, bit_next a i v (eqb-false v i e))

-- the buffer shows the variables of the mask below i
pub record Showing (parts : List ℕ) (a : ℕ) (before b : List ℕ) (i : ℕ) : Type 0 where
  pub few : i ≤ variables
  pub long : length b ≡ length before
  pub entries : b ≡ numbers (parts_in (a % 2 ^ i) parts 0 variables) ++ drop answer_width before

module _ (parts : List ℕ) (a : ℕ) (before : List ℕ) {b : List ℕ} {i : ℕ} (t : Showing parts a before b i) where
  pub show_next : i < variables → (k : ℕ) (p : Part) → k ≡ i → p ≡ part_in a parts i → Showing parts a before (set_entry b k p) (i + 1)
  show_next h k p e f = record {
    few = omega arith;
    long = set_entry_length b k p ∙ t.long;
    entries = rw (e, f, t.entries)
        (entry_set (parts_in (a % 2 ^ i) parts 0 variables) (drop answer_width before) i (part_in a parts i) (omega (arith, parts_length (a % 2 ^ i) parts 0 variables))
        ∙ ap (λ (l : List Part). numbers l ++ drop answer_width before) (next_part parts a i h));
  }

-- a buffer that shows some parts shows the same parts, and the rest of it stays
module _ (ps : List Part) (all : length ps ≡ variables) (before b : List ℕ) (e : b ≡ numbers ps ++ drop answer_width before) where
  rest_stays : drop answer_width b ≡ drop answer_width before
  rest_stays = ap (drop answer_width) e ∙ drop_at (numbers ps) (drop answer_width before) answer_width (omega (arith, numbers_length ps))

  shown_same : (qs : List Part) → ps ≡ qs → b ≡ numbers qs ++ drop answer_width b
  shown_same qs h = e ∙ ap₂ (λ (l : List Part) (r : List ℕ). numbers l ++ r) h (sym rest_stays)

-- absent marks, then the variables of the mask m, then those of the mask n
module _ (parts before cleared : List ℕ) (e : cleared ≡ marks ++ drop answer_width before) where
  pub first_next : (m : ℕ) → cleared ≡ numbers (parts_in (m % 2 ^ 0) parts 0 variables) ++ drop answer_width cleared
  first_next m = shown_same (replicate variables absent) refl before cleared e (parts_in (m % 2 ^ 0) parts 0 variables) (none_shown parts m)

  module _ (m n : ℕ) (named : List ℕ) (f : named ≡ numbers (parts_in m parts 0 variables) ++ drop answer_width cleared) where
    pub second_next : m ≡ n % 2 ^ 32 → named ≡ numbers (parts_in (n % 2 ^ 32) parts 0 variables) ++ drop answer_width named
    second_next h =
        shown_same (parts_in m parts 0 variables) (parts_length m parts 0 variables) cleared named f (parts_in (n % 2 ^ 32) parts 0 variables)
        (ap (λ (k : ℕ). parts_in k parts 0 variables) h)

    pub both_shown : (a : ℕ) (b : List ℕ) → answer_width ≤ length before → n ≡ a % 2 ^ variables
        → b ≡ numbers (parts_in n parts 0 variables) ++ drop answer_width named → b ≡ shown_parts (parts_in a parts 0 variables) before
    unfolding shown_parts
    both_shown a b wide all g =
        g ∙ ap₂ (λ (l : List Part) (r : List ℕ). numbers l ++ r) (ap (λ (k : ℕ). parts_in k parts 0 variables) all ∙ all_shown parts a)
        (rest_stays (parts_in m parts 0 variables) (parts_length m parts 0 variables) cleared named f ∙ rest_stays (replicate variables absent) refl before cleared e)
        ∙ rw (le-ltb (length before) answer_width wide)

-- absent marks only

pub absent_shown : (before after : List ℕ) → answer_width ≤ length before → after ≡ marks ++ drop answer_width before
    → after ≡ shown_parts (replicate variables absent) before
unfolding shown_parts
absent_shown before after wide e = e ∙ rw (le-ltb (length before) answer_width wide)

-- nothing is shown

pub narrow_unshown : (ps : List Part) (before : List ℕ) → length before < answer_width → before ≡ shown_parts ps before
unfolding shown_parts
narrow_unshown ps before h = rw (lt-ltb (length before) answer_width h) refl
