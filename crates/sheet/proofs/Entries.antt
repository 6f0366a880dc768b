-- The entries of a sheet: where a part lies within it, and that the parts of an accepted sheet are its entries.
use Prim.Native.Nat.{ℕ, zero, suc, ◌+◌, ◌-◌, ◌≤◌, ◌<◌}
use native.Mathlib.Nat.{add-sub_cancel_left}
use native.Mathlib.Omega.{arith}
use mathlib.Core.Path.{◌≡◌, refl, sym, ap, ◌∙◌}
use mathlib.Core.List.{List, [], ◌∷◌}
use mathlib.Core.Bool.{Bool, true, false}
use lib.ListN.{length, get_or, take, drop}
use lib.Seq.{get_or-drop}
use lib.Dec.{ltb}
use denote.Ref.{Bor}
use borrow.Author.Tests.{le-leb, lt-leb, lt-ltb, le-ltb, ltb-true, ltb-false}
use Rattle.answers.specs.declared.Refusal.TheVariants.{Directory}
use Rattle.answers.specs.Shown.{fault_number, size_told}
use Rattle.byte_answers.specs.Answers.{place_offset}
use Rattle.term.specs.Limits.{Octets}
use Rattle.sheet.specs.Sheet.{past_pairs}
use Rattle.sheet.specs.Check.{entry_count, offset_at, length_at, check_sheet}
use Rattle.sheet.specs.Entry.{entry_at, entries_from, entries, check_entry, place_of, shown_entry, pair_within, part_at, part_offset, points_into}
use Rattle.byte_answers.proofs.Numbers.{accepted_number}
use Rattle.sheet.proofs.Checks.{Directed, accepted_directed, entry_within}
use Rattle.std.specs.Prelude.{Result, Ok, Err}
use Rattle.answers.specs.declared.Fault.{Fault}
use Rattle.answers.specs.Fault.{fault_at}
use Rattle.byte_answers.specs.Answers.{place_at}

-- the pair of an index, of any bytes

module _ (s : List ℕ) (i : ℕ) where
  pub no_pair : length s < past_pairs (i + 1) → pair_within s i ≡ false
  unfolding pair_within
  no_pair h = rw (lt-leb (past_pairs (i + 1)) (length s) h)

  pub pair_past : past_pairs (i + 1) ≤ length s → length s < offset_at s i + length_at s i → pair_within s i ≡ false
  unfolding pair_within
  pair_past h k = rw (le-leb (past_pairs (i + 1)) (length s) h, lt-leb (offset_at s i + length_at s i) (length s) k)

  pub pair_tells : past_pairs (i + 1) ≤ length s → offset_at s i + length_at s i ≤ length s → pair_within s i ≡ true
  unfolding pair_within
  pair_tells h k = rw (le-leb (past_pairs (i + 1)) (length s) h, le-leb (offset_at s i + length_at s i) (length s) k)

-- the bytes of a part of a slice, and where it points

module _ (x : Bor (List ℕ)) (i : ℕ) where
  abbrev pub IsPart : List ℕ → ℕ × ℕ → Type 0
  IsPart bytes place = (bytes ≡ part_at x.now i) × (place ≡ points_into x (part_offset x.now i))

  abbrev pub IsEntry : List ℕ → ℕ × ℕ → Type 0
  IsEntry bytes place = (bytes ≡ shown_entry x.now i) × (place ≡ points_into x (place_offset (place_of x.now i)))

  at_start : x.ref_ptr ≡ points_into x 0
  at_start = let e : x.ref_ptr.1 ≡ x.ref_ptr.1 + 0 = omega arith in ap (λ (k : ℕ). (x.ref_ptr.0, k)) e

  pub no_part : pair_within x.now i ≡ false → IsPart [] x.ref_ptr
  unfolding part_at part_offset
  no_part w = (rw w, rw w at_start)

  pub part_between : (o n : ℕ) → o ≡ offset_at x.now i → n ≡ length_at x.now i → pair_within x.now i ≡ true
      → IsPart (take (o + n - o) (drop o x.now)) (x.ref_ptr.0, o + x.ref_ptr.1)
  unfolding part_at part_offset entry_at
  part_between o n e f w =
      let g : o + x.ref_ptr.1 ≡ x.ref_ptr.1 + offset_at x.now i = omega arith in
      (rw (w, add-sub_cancel_left, e, f), rw w (ap (λ (k : ℕ). (x.ref_ptr.0, k)) g))

-- in an accepted sheet
pair_entry : (s : List ℕ) (n i : ℕ) → Directed s n → i < n → pair_within s i ≡ true
pair_entry s n i d h =
    let e : 0 + i ≡ i = omega arith in
    pair_tells s i (omega (arith, d.within)) (rw e at (entry_within s n 0 (past_pairs n) i d.follow h))

pub part_entry : (s : List ℕ) (n i : ℕ) → Directed s n → i < n → part_at s i ≡ entry_at s i
unfolding part_at
part_entry s n i d h = rw (pair_entry s n i d h)

entry_accepted_holds : (s : List ℕ) (n i : ℕ) → check_sheet s ≡ Ok n → i < n → shown_entry s i ≡ entry_at s i
unfolding shown_entry place_of check_entry entry_at
entry_accepted_holds s n i a h = rw (a, lt-ltb i n h)

-- what is read without the checks is the entry
pub part_is_entry : (s : List ℕ) (n i : ℕ) → check_sheet s ≡ Ok n → i < n → part_at s i ≡ shown_entry s i
part_is_entry s n i a h = part_entry s n i (accepted_directed s n a) h ∙ sym (entry_accepted_holds s n i a h)

-- the check of an index

module _ (s : List ℕ) (i : ℕ) where
  pub index_of_refused : (f : Fault) → check_sheet s ≡ Err f → check_entry s i ≡ Err f
  unfolding check_entry
  index_of_refused f e = rw e

  pub index_below : (n : ℕ) → check_sheet s ≡ Ok n → i < n → check_entry s i ≡ Ok n
  unfolding check_entry
  index_below n e h = rw (e, lt-ltb i n h)

  pub index_past : (n : ℕ) → check_sheet s ≡ Ok n → n ≤ i → check_entry s i ≡ Err (fault_at Directory 0)
  unfolding check_entry
  index_past n e h = rw (e, le-ltb i n h)

  -- what passes it
  pub index_passed : (n : ℕ) → check_entry s i ≡ Ok n → (check_sheet s ≡ Ok n) × (i < n)
  index_passed n e = go (check_sheet s) refl
    where
      go : (x : Result ℕ Fault) → check_sheet s ≡ x → (check_sheet s ≡ Ok n) × (i < n)
      go (Err f) d = let z : ◌≡◌ {A = ℕ} 0 1 = cc (index_of_refused f d) in absurd (omega arith)
      go (Ok m) d = pick (ltb i m) refl
        where
          pick : (b : Bool) → ltb i m ≡ b → (check_sheet s ≡ Ok n) × (i < n)
          pick false g = let z : ◌≡◌ {A = ℕ} 0 1 = cc (index_past m d (ltb-false i m g)) in absurd (omega arith)
          pick true g =
              let h = ltb-true i m g in
              let k : m ≡ n = cc (index_below m d h) in
              (d ∙ ap Ok k, omega arith)

  -- the pair of an index that passes lies within the sheet
  pub pair_within_holds : (n : ℕ) → check_entry s i ≡ Ok n → past_pairs (i + 1) ≤ length s
  pair_within_holds n e = let a = index_passed n e in omega (arith, (accepted_directed s n a.0).within, a.1)

  -- where the entry lies

  pub place_passed : (n : ℕ) → check_entry s i ≡ Ok n → place_of s i ≡ Ok (place_at (offset_at s i) (length_at s i))
  unfolding place_of
  place_passed n e = rw e

  pub place_refused : (f : Fault) → check_entry s i ≡ Err f → place_of s i ≡ Err f.refusal
  unfolding place_of
  place_refused f e = rw e

  -- the part that the pair tells is the entry, and lies where the entry lies
  pub part_lies : fault_number (check_entry s i) ≡ 0 → (part_at s i ≡ shown_entry s i) × (part_offset s i ≡ place_offset (place_of s i))
  unfolding part_offset
  part_lies z =
      let n = size_told (check_entry s i) in
      let e = accepted_number (check_entry s i) z in
      let a = index_passed n e in
      (part_is_entry s n i a.0 a.1, rw (pair_entry s n i (accepted_directed s n a.0) a.1, place_passed n e))

-- reading an entry of a slice

module _ (x : Bor (List ℕ)) (i : ℕ) where
  pub no_entry : (f : Fault) → check_entry x.now i ≡ Err f → IsEntry x i [] x.ref_ptr
  unfolding shown_entry place_of
  no_entry f e = (rw e, rw e (at_start x i))

  pub entry_of_part : fault_number (check_entry x.now i) ≡ 0 → (bytes : List ℕ) (place : ℕ × ℕ) → IsPart x i bytes place → IsEntry x i bytes place
  entry_of_part z bytes place p =
      let a = part_lies x.now i z in
      (p.0 ∙ a.0, p.1 ∙ ap (points_into x) a.1)

-- all entries, by their index

pub entries_length : (s : List ℕ) (k i : ℕ) → length (entries_from s k i) ≡ k
unfolding entries_from
entries_length s zero i = refl
entries_length s (suc k) i = ap suc (entries_length s k (i + 1))

pub entries_at : (s : List ℕ) (k i j : ℕ) → j < k → get_or (entries_from s k i) j [] ≡ entry_at s (i + j)
unfolding entries_from
entries_at s zero i j h = absurd (omega arith)
entries_at s (suc k) i zero h = let e : i + zero ≡ i = omega arith in rw e
entries_at s (suc k) i (suc j) h = let e : i + suc j ≡ i + 1 + j = omega arith in rw e (entries_at s k (i + 1) j (omega arith))

module _ (s : List ℕ) (n : ℕ) (a : check_sheet s ≡ Ok n) where
  pub entries_count : length (entries s) ≡ n
  unfolding entries
  entries_count = entries_length s (entry_count s) 0 ∙ (accepted_directed s n a).counted

  pub entry_of_entries : (i : ℕ) → i < n → shown_entry s i ≡ get_or (entries s) i []
  unfolding entries
  entry_of_entries i h =
      let e : 0 + i ≡ i = omega arith in
      entry_accepted_holds s n i a h ∙ rw (accepted_directed s n a).counted (sym (entries_at s n 0 i h ∙ rw e))

-- each entry of a sheet of bytes has bytes

octets_take : (n : ℕ) (s : List ℕ) → Octets s → Octets (take n s)
octets_take zero s o i = omega arith
octets_take (suc n) [] o i = omega arith
octets_take (suc n) (x ∷ s) o zero = o zero
octets_take (suc n) (x ∷ s) o (suc i) = octets_take n s (λ j. o (suc j)) i

pub entry_octets : (s : List ℕ) → Octets s → (i : ℕ) → Octets (entry_at s i)
unfolding entry_at
entry_octets s o i = octets_take (length_at s i) (drop (offset_at s i) s) (λ n. rw get_or-drop (o (offset_at s i + n)))

octets_from : (s : List ℕ) → Octets s → (k i j : ℕ) → Octets (get_or (entries_from s k i) j [])
unfolding entries_from
octets_from s o zero i j = λ n. omega arith
octets_from s o (suc k) i zero = entry_octets s o i
octets_from s o (suc k) i (suc j) = octets_from s o k (i + 1) j

pub entries_octets : (s : List ℕ) → Octets s → (j : ℕ) → Octets (get_or (entries s) j [])
unfolding entries
entries_octets s o j = octets_from s o (entry_count s) 0 j
