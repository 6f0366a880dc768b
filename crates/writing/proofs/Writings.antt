-- The checks of a writing, test by test, and what it shows and leaves.
use Prim.Native.Nat.{ℕ, ◌+◌, ◌≤◌, ◌<◌}
use native.Mathlib.Omega.{arith}
use mathlib.Core.Path.{◌≡◌, refl, sym, ◌∙◌}
use mathlib.Core.List.{List, ◌++◌}
use mathlib.Core.Bool.{Bool, true, false}
use lib.ListN.{length, get_or, take, drop, drop_of_length-le}
use lib.Seq.{sets}
use lib.Dec.{leb}
use borrow.Author.Tests.{le-leb, lt-leb, leb-true, leb-false}
use Rattle.answers.specs.declared.Refusal.{Refusal}
use Rattle.answers.specs.declared.Refusal.TheVariants.{Table, Class, Long, Directory, Full}
use Rattle.term.specs.Table.{table_accepted}
use Rattle.term.specs.Language.{Language}
use Rattle.reader.specs.Brought.{Brought, language_of, brought_accepted}
use Rattle.sheet.specs.Sheet.{sheet_bytes}
use Rattle.sheet.specs.Check.{longest_sheet}
use Rattle.sheet.specs.Contents.{read_entry, check_each}
use Rattle.term.proofs.Stores.{sets_front}
use Rattle.writing.specs.Writing.{split, lengths_accepted, sheet_length, check_records, writing, output_after}
use Rattle.writing.proofs.Lengths.{split_next, lengths_true, split_size}
use Rattle.std.specs.Prelude.{Result, Ok, Err}
use Rattle.answers.specs.declared.Fault.{Fault}
use Rattle.answers.specs.Fault.{fault_at}

-- the records from index i on

module _ (l : Language) (rest ns : List ℕ) (i : ℕ) where
  pub records_refused : (r : Refusal) → i < length ns → read_entry true l (take (get_or ns i 0) rest) ≡ Err r
      → check_each true l i (split rest (drop i ns)) ≡ Err (fault_at r i)
  unfolding check_each
  records_refused r h e = rw (split_next ns i h rest, e)

  pub records_read : (m : ℕ) → i < length ns → read_entry true l (take (get_or ns i 0) rest) ≡ Ok m
      → check_each true l i (split rest (drop i ns))
      ≡ check_each true l (i + 1) (split (drop (get_or ns i 0) rest) (drop (i + 1) ns))
  unfolding check_each
  records_read m h e = rw (split_next ns i h rest, e)

  pub records_end : length ns ≤ i → check_each true l i (split rest (drop i ns)) ≡ Ok i
  unfolding check_each split
  records_end h = rw (drop_of_length-le ns h)

-- all checks but that of the room

module _ (brought : Brought) (bs ns : List ℕ) where
  pub joined_table : table_accepted brought.table ≡ false → check_records brought bs ns ≡ Err (fault_at Table 0)
  unfolding check_records
  joined_table t = rw t

  pub joined_class : table_accepted brought.table ≡ true → brought_accepted brought ≡ false → check_records brought bs ns ≡ Err (fault_at Class 0)
  unfolding check_records
  joined_class t k = rw (t, k)

  pub joined_lengths : table_accepted brought.table ≡ true → brought_accepted brought ≡ true → lengths_accepted ns (length bs) ≡ false → check_records brought bs ns ≡ Err (fault_at Directory 0)
  unfolding check_records
  joined_lengths t k l = rw (t, k, l)

  pub joined_long : table_accepted brought.table ≡ true → brought_accepted brought ≡ true → lengths_accepted ns (length bs) ≡ true → leb (sheet_length (length ns) (length bs)) longest_sheet ≡ false
      → check_records brought bs ns ≡ Err (fault_at Long 0)
  unfolding check_records
  joined_long t k l s = rw (t, k, l, s)

  pub joined_each : table_accepted brought.table ≡ true → brought_accepted brought ≡ true → lengths_accepted ns (length bs) ≡ true → leb (sheet_length (length ns) (length bs)) longest_sheet ≡ true
      → check_records brought bs ns ≡ check_each true (language_of brought) 0 (split bs ns)
  unfolding check_records
  joined_each t k l s = rw (t, k, l, s)

-- what passes them keeps each

pub record RecordsPassed (brought : Brought) (bs ns : List ℕ) (n : ℕ) : Type 0 where
  pub tabled : table_accepted brought.table ≡ true
  pub classed : brought_accepted brought ≡ true
  pub lengths : lengths_accepted ns (length bs) ≡ true
  pub short : sheet_length (length ns) (length bs) ≤ longest_sheet
  pub each : check_each true (language_of brought) 0 (split bs ns) ≡ Ok n

module _ (brought : Brought) (bs ns : List ℕ) (n : ℕ) where
  pub records_passed : check_records brought bs ns ≡ Ok n → RecordsPassed brought bs ns n
  records_passed a =
      go (table_accepted brought.table) refl (brought_accepted brought) refl (lengths_accepted ns (length bs)) refl
      (leb (sheet_length (length ns) (length bs)) longest_sheet) refl
    where
      go : (t : Bool) → table_accepted brought.table ≡ t → (c : Bool) → brought_accepted brought ≡ c → (l : Bool) → lengths_accepted ns (length bs) ≡ l
          → (s : Bool) → leb (sheet_length (length ns) (length bs)) longest_sheet ≡ s → RecordsPassed brought bs ns n
      go false t c k l f s g = let z : ◌≡◌ {A = ℕ} 0 1 = cc (joined_table brought bs ns t) in absurd (omega arith)
      go true t false k l f s g = let z : ◌≡◌ {A = ℕ} 0 1 = cc (joined_class brought bs ns t k) in absurd (omega arith)
      go true t true k false f s g = let z : ◌≡◌ {A = ℕ} 0 1 = cc (joined_lengths brought bs ns t k f) in absurd (omega arith)
      go true t true k true f false g = let z : ◌≡◌ {A = ℕ} 0 1 = cc (joined_long brought bs ns t k f g) in absurd (omega arith)
      go true t true k true f true g =
          record {
            tabled = t;
            classed = k;
            lengths = f;
            short = leb-true (sheet_length (length ns) (length bs)) longest_sheet g;
            each = sym (joined_each brought bs ns t k f g) ∙ a;
          }

  pub passed_accepted : RecordsPassed brought bs ns n → check_records brought bs ns ≡ Ok n
  passed_accepted p =
      joined_each brought bs ns p.tabled p.classed p.lengths (le-leb (sheet_length (length ns) (length bs)) longest_sheet p.short) ∙ p.each

-- what is shown, and the output after

module _ (brought : Brought) (bs ns out : List ℕ) where
  pub writing_refused : (f : Fault) → check_records brought bs ns ≡ Err f
      → (Err f ≡ writing brought bs ns (length out)) × (out ≡ output_after brought bs ns out)
  unfolding writing output_after
  writing_refused f e = (rw e, rw e)

  pub writing_full : (n : ℕ) → check_records brought bs ns ≡ Ok n → length out < sheet_length (length ns) (length bs)
      → (Err (fault_at Full 0) ≡ writing brought bs ns (length out)) × (out ≡ output_after brought bs ns out)
  unfolding writing output_after
  writing_full n e h =
      let f = lt-leb (sheet_length (length ns) (length bs)) (length out) h in
      (rw (e, f), rw (e, f))

  pub writing_written : (n : ℕ) → check_records brought bs ns ≡ Ok n → sheet_length (length ns) (length bs) ≤ length out
      → (Ok (sheet_length (length ns) (length bs)) ≡ writing brought bs ns (length out))
      × (sets out 0 (sheet_bytes brought.edition (split bs ns)) ≡ output_after brought bs ns out)
  unfolding writing output_after
  writing_written n e h =
      let f = le-leb (sheet_length (length ns) (length bs)) (length out) h in
      let l = (lengths_true ns (length bs) (records_passed brought bs ns n e).lengths).1 in
      (rw (e, f), sets_front out (sheet_bytes brought.edition (split bs ns)) (sheet_length (length ns) (length bs)) (split_size brought.edition bs ns l) h ∙ rw (e, f))

  pub output_written : (n : ℕ) → writing brought bs ns (length out) ≡ Ok n → output_after brought bs ns out ≡ sheet_bytes brought.edition (split bs ns) ++ drop n out
  unfolding output_after
  output_written n w = rw w

  pub output_refused : (f : Fault) → writing brought bs ns (length out) ≡ Err f → output_after brought bs ns out ≡ out
  unfolding output_after
  output_refused f w = rw w

  abbrev Passed : ℕ → Type 0
  Passed n = (k : ℕ) × RecordsPassed brought bs ns k × (sheet_length (length ns) (length bs) ≡ n) × (n ≤ length out)

  pub written_passed : (n : ℕ) → writing brought bs ns (length out) ≡ Ok n → Passed n
  written_passed n w = go (check_records brought bs ns) refl
    where
      go : (x : Result ℕ Fault) → check_records brought bs ns ≡ x → Passed n
      go (Err f) e = let z : ◌≡◌ {A = ℕ} 0 1 = cc (writing_refused f e).0 in absurd (omega arith)
      go (Ok k) e = fits (leb (sheet_length (length ns) (length bs)) (length out)) refl
        where
          fits : (b : Bool) → leb (sheet_length (length ns) (length bs)) (length out) ≡ b → Passed n
          fits false f =
              let z : ◌≡◌ {A = ℕ} 0 1 = cc (writing_full k e (leb-false (sheet_length (length ns) (length bs)) (length out) f)).0 in
              absurd (omega arith)
          fits true f =
              let room = leb-true (sheet_length (length ns) (length bs)) (length out) f in
              let size : sheet_length (length ns) (length bs) ≡ n = cc (writing_written k e room).0 in
              (k, records_passed brought bs ns k e, size, omega arith)
