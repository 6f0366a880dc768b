-- Reading a sheet and writing it are inverse: pair by pair, and entry by entry.
use Prim.Native.Nat.{ℕ, zero, suc, ◌+◌, ◌*◌, ◌-◌, ◌≤◌, ◌<◌}
use native.Mathlib.Omega.{arith}
use mathlib.Core.Path.{◌≡◌, refl, sym, ap, ap₂, ◌∙◌}
use mathlib.Core.List.{List, [], ◌∷◌, ◌++◌, map, flatten}
use mathlib.Core.Bool.{true}
use lib.ListN.{length, take, drop, length-append, length-drop, take-append-drop, drop_of_length-le, length-map}
use lib.Seq.{drop-drop, take_at, drop_at, length-take-le}
use borrow.Author.Tests.{eq-eqb, lt-ltb, eqb-true}
use Rattle.term.specs.Limits.{Octets}
use Rattle.term.specs.declared.Edition.{Edition}
use Rattle.sheet.specs.Word.{word_bytes, word, word_at}
use Rattle.sheet.specs.Sheet.{pair_bytes, past_pairs, edition_mark, marked, directory, sheet_bytes, NoneEmpty}
use Rattle.sheet.specs.Check.{longest_sheet, entry_count, edition_of, offset_at, length_at, entries_follow, check_sheet}
use Rattle.sheet.specs.Entry.{entry_at, entries_from, entries}
use Rattle.sheet.specs.Demands.{Reading}
use Rattle.sheet.proofs.Words.{word_back, word_past, word_forth, word_told, told_word}
use Rattle.sheet.proofs.Entries.{entries_length}
use Rattle.sheet.proofs.Checks.{Directed, directed_accepted, follow_true, follow_within}
use Rattle.std.specs.Prelude.{Ok}

-- from the bytes to the entries

entry_length : (s : List ℕ) (i : ℕ) → offset_at s i + length_at s i ≤ length s → length (entry_at s i) ≡ length_at s i
unfolding entry_at
entry_length s i h =
    length-take-le (length_at s i) (drop (offset_at s i) s) (omega (arith, length-drop (offset_at s i) s))

module _ (s : List ℕ) where
  followed_length : (k i at : ℕ) → entries_follow s (suc k) i at ≡ true → length (entry_at s i) ≡ length_at s i
  followed_length k i at h =
      let a = follow_true s k i at h in
      entry_length s i (omega (arith, a.0, follow_within s k (i + 1) (at + length_at s i) a.2))

  pub followed_none_empty : (k i at : ℕ) → entries_follow s k i at ≡ true → NoneEmpty (entries_from s k i)
  unfolding entries_from NoneEmpty
  followed_none_empty zero i at h = tt
  followed_none_empty (suc k) i at h =
      let a = follow_true s k i at h in
      (omega (arith, a.1, followed_length k i at h), followed_none_empty k (i + 1) (at + length_at s i) a.2)

  followed_entries : (k i at : ℕ) → entries_follow s k i at ≡ true → drop at s ≡ flatten (entries_from s k i)
  unfolding entries_follow entries_from entry_at flatten
  followed_entries zero i at h = drop_of_length-le s {i = at} (omega (arith, eqb-true at (length s) h))
  followed_entries (suc k) i at h =
      let a = follow_true s k i at h in
      sym (take-append-drop (length_at s i) (drop at s))
      ∙ ap₂ ◌++◌ (ap (λ (o : ℕ). take (length_at s i) (drop o s)) (sym a.0))
      (drop-drop (length_at s i) at s ∙ followed_entries k (i + 1) (at + length_at s i) a.2)

  followed_pairs : Octets s → (k i at : ℕ) → past_pairs (i + k) ≤ length s → entries_follow s k i at ≡ true
      → drop (past_pairs i) s ≡ directory at (map length (entries_from s k i)) ++ drop (past_pairs (i + k)) s
  unfolding entries_from directory word
  followed_pairs o zero i at l h = let e : i + zero ≡ i = omega arith in rw e
  followed_pairs o (suc k) i at l h =
      let a = follow_true s k i at h in
      let f : past_pairs i + word_bytes + word_bytes ≡ past_pairs (i + 1) = omega arith in
      let g : i + 1 + k ≡ i + suc k = omega arith in
      let n : length (entry_at s i) ≡ length_at s i = followed_length k i at h in
      let first : drop (past_pairs i) s ≡ word at ++ drop (past_pairs i + word_bytes) s =
      word_forth s (past_pairs i) o (omega arith) ∙ ap (λ (x : ℕ). word x ++ drop (past_pairs i + word_bytes) s) a.0 in
      let second : drop (past_pairs i + word_bytes) s ≡ word (length (entry_at s i)) ++ drop (past_pairs (i + 1)) s =
      word_forth s (past_pairs i + word_bytes) o (omega arith) ∙ ap₂ (λ (x y : ℕ). word x ++ drop y s) (sym n) f in
      let rest : drop (past_pairs (i + 1)) s ≡ directory (at + length (entry_at s i)) (map length (entries_from s k (i + 1))) ++ drop (past_pairs (i + suc k)) s =
      rw (n, ← g) (followed_pairs o k (i + 1) (at + length_at s i) (omega arith) a.2) in
      first ∙ ap (λ (l : List ℕ). word at ++ l) (second ∙ ap (λ (l : List ℕ). word (length (entry_at s i)) ++ l) rest)

  accepted_bytes : (n : ℕ) → Octets s → Directed s n → sheet_bytes (edition_of s) (entries s) ≡ s
  unfolding sheet_bytes entries word
  accepted_bytes n o d =
      let es = entries_from s n 0 in
      let c : entry_count s ≡ n = d.counted in
      let m : ℕ = marked (edition_of s) n in
      let w : word_at s 0 ≡ m = rw c at (word_told s o) in
      let z : 0 + n ≡ n = omega arith in
      let first : s ≡ word m ++ drop 2 s = rw w at (word_forth s 0 o (omega (arith, d.within))) in
      let pairs : drop 2 s ≡ directory (past_pairs n) (map length es) ++ drop (past_pairs n) s =
      rw z at (followed_pairs o n 0 (past_pairs n) (omega (arith, d.within)) d.follow) in
      rw (c, entries_length s n 0)
      (sym (first ∙ ap (λ (l : List ℕ). word m ++ l) (pairs ∙ ap (λ (l : List ℕ). directory (past_pairs n) (map length es) ++ l) (followed_entries n 0 (past_pairs n) d.follow))))

-- and from the entries to the bytes

pub directory_length : (at : ℕ) (ns : List ℕ) → length (directory at ns) ≡ pair_bytes * length ns
unfolding directory word
directory_length at [] = refl
directory_length at (n ∷ ns) = omega (arith, directory_length (at + n) ns)

module _ (s : List ℕ) where
  pair_back : (i at n : ℕ) (ns rest : List ℕ) → drop (past_pairs i) s ≡ directory at (n ∷ ns) ++ rest
      → (offset_at s i ≡ at) × (length_at s i ≡ n) × (drop (past_pairs (i + 1)) s ≡ directory (at + n) ns ++ rest)
  unfolding directory word
  pair_back i at n ns rest p =
      let more = directory (at + n) ns ++ rest in
      let f : past_pairs i + word_bytes + word_bytes ≡ past_pairs (i + 1) = omega arith in
      let second = word_past s (past_pairs i) at (word n ++ more) p in
      (word_back s (past_pairs i) at (word n ++ more) p, word_back s (past_pairs i + word_bytes) n more second, rw f at (word_past s (past_pairs i + word_bytes) n more second))

  past_entry : (at : ℕ) (e rest : List ℕ) → drop at s ≡ e ++ rest → drop (at + length e) s ≡ rest
  past_entry at e rest q = sym (drop-drop (length e) at s) ∙ ap (drop (length e)) q ∙ drop_at e rest (length e) refl

  written_entries : (es : List (List ℕ)) (i at : ℕ) (rest : List ℕ) → drop (past_pairs i) s ≡ directory at (map length es) ++ rest → drop at s ≡ flatten es
      → entries_from s (length es) i ≡ es
  unfolding entries_from entry_at flatten
  written_entries [] i at rest p q = refl
  written_entries (e ∷ es) i at rest p q =
      let a = pair_back i at (length e) (map length es) rest p in
      ap₂ ◌∷◌
      (ap₂ (λ (n o : ℕ). take n (drop o s)) a.1 a.0 ∙ ap (take (length e)) q ∙ take_at e (flatten es) (length e) refl)
      (written_entries es (i + 1) (at + length e) rest a.2 (past_entry at e (flatten es) q))

  written_followed : (es : List (List ℕ)) (i at : ℕ) (rest : List ℕ) → NoneEmpty es → at ≤ length s
      → drop (past_pairs i) s ≡ directory at (map length es) ++ rest → drop at s ≡ flatten es → entries_follow s (length es) i at ≡ true
  unfolding entries_follow flatten NoneEmpty
  written_followed [] i at rest m l p q = eq-eqb at (length s) (omega (arith, length-drop at s, ap length q))
  written_followed (e ∷ es) i at rest m l p q =
      let a = pair_back i at (length e) (map length es) rest p in
      let more : length s - at ≡ length e + length (flatten es) = sym (length-drop at s) ∙ ap length q ∙ length-append e (flatten es) in
      rw (eq-eqb (offset_at s i) at a.0, lt-ltb 0 (length_at s i) (omega (arith, a.1, m.0)), a.1)
      (written_followed es (i + 1) (at + length e) rest m.1 (omega (arith, more)) a.2 (past_entry at e (flatten es) q))

module _ (edition : Edition) (es : List (List ℕ)) where
  written_word : word_at (sheet_bytes edition es) 0 ≡ marked edition (length es)
  unfolding sheet_bytes word
  written_word = word_back (sheet_bytes edition es) 0 (marked edition (length es)) (directory (past_pairs (length es)) (map length es) ++ flatten es) refl

  module _ (few : length es < edition_mark) where
    pub written_count : entry_count (sheet_bytes edition es) ≡ length es
    written_count = (told_word (sheet_bytes edition es) edition (length es) few written_word).0

    pub written_edition : edition_of (sheet_bytes edition es) ≡ edition
    written_edition = (told_word (sheet_bytes edition es) edition (length es) few written_word).1

  past_directory : drop (past_pairs (length es)) (sheet_bytes edition es) ≡ flatten es
  unfolding sheet_bytes word
  past_directory =
      let at = past_pairs (length es) in
      drop_at (word (marked edition (length es)) ++ directory at (map length es)) (flatten es) at (omega (arith, directory_length at (map length es), length-map es length))

  pub written_read : length es < edition_mark → entries (sheet_bytes edition es) ≡ es
  unfolding entries sheet_bytes word
  written_read few = rw (written_count few) (written_entries (sheet_bytes edition es) es 0 (past_pairs (length es)) (flatten es) refl past_directory)

  pub written_length : length (sheet_bytes edition es) ≡ past_pairs (length es) + length (flatten es)
  unfolding sheet_bytes word
  written_length =
      let at = past_pairs (length es) in
      omega (arith, length-append (directory at (map length es)) (flatten es), directory_length at (map length es), length-map es length)

  pub written_directed : NoneEmpty es → length (sheet_bytes edition es) ≤ longest_sheet → Directed (sheet_bytes edition es) (length es)
  unfolding sheet_bytes word
  written_directed m l =
      let at = past_pairs (length es) in
      let w : at ≤ length (sheet_bytes edition es) = omega (arith, written_length) in
      record {
        short = l;
        counted = written_count (omega (arith, w, l));
        within = w;
        follow = written_followed (sheet_bytes edition es) es 0 at (flatten es) m w refl past_directory;
      }

-- as readings

pub accepted_reading : (s : List ℕ) (n : ℕ) → Octets s → Directed s n → Reading (edition_of s) s n (entries s)
unfolding entries
accepted_reading s n o d =
    record {
      short = d.short;
      counted = entries_length s (entry_count s) 0 ∙ d.counted;
      none_empty = rw d.counted (followed_none_empty s n 0 (past_pairs n) d.follow);
      bytes = accepted_bytes s n o d;
    }

module _ (edition : Edition) (s : List ℕ) (n : ℕ) (es : List (List ℕ)) (r : Reading edition s n es) where
  pub reading_few : length es < edition_mark
  reading_few = omega (arith, written_length edition es, ap length r.bytes, r.short)

  pub reading_accepted : check_sheet s ≡ Ok n
  reading_accepted =
      rw (← r.bytes, ← r.counted) (directed_accepted (sheet_bytes edition es) (length es) (written_directed edition es r.none_empty (rw r.bytes r.short)))
