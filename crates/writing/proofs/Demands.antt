-- What is demanded of a writing, as specs/Demands states it.
use Prim.Native.Nat.{ℕ, ◌≤◌, ◌<◌}
use native.Mathlib.Nat.{lt_of_not-le}
use native.Mathlib.Omega.{arith}
use mathlib.Core.Path.{◌≡◌, refl, sym, ap, ap₂, ◌∙◌}
use mathlib.Core.List.{List, [], ◌++◌, map, flatten}
use mathlib.Core.Bool.{true}
use lib.ListN.{length, get_or, drop, length-map}
use borrow.Author.Tests.{eq-eqb}
use Rattle.answers.specs.Shown.{fault_number, size_told}
use Rattle.byte_answers.specs.Answers.{Writes}
use Rattle.term.specs.Limits.{Octets}
use Rattle.answers.proofs.Numbers.{numbered}
use Rattle.byte_answers.proofs.Numbers.{accepted_number}
use Rattle.term.specs.declared.Edition.{Edition}
use Rattle.reader.specs.Brought.{Brought, language_in, language_of}
use Rattle.sheet.specs.Sheet.{edition_mark, sheet_bytes}
use Rattle.sheet.specs.Check.{edition_of, check_sheet}
use Rattle.sheet.specs.Entry.{entries}
use Rattle.sheet.specs.Contents.{check_each, check_states}
use Rattle.sheet.specs.Demands.{Reading}
use Rattle.sheet.proofs.Words.{largest_word}
use Rattle.sheet.proofs.Checks.{directed_accepted}
use Rattle.sheet.proofs.Entries.{entry_of_entries}
use Rattle.sheet.proofs.Readings.{written_read, written_edition, written_directed, written_length}
use Rattle.sheet.proofs.Demands.{reading_of}
use Rattle.sheet.proofs.Contents.{ContentsPassed, among_checked, contents_each, each_count, contents_passed}
use Rattle.writing.specs.Writing.{split, lengths_accepted, sheet_length, writing, output_after}
use Rattle.writing.specs.Demands.{SheetOf, ReadsBack, Demanded, Called}
use Rattle.writing.proofs.Lengths.{lengths_true, split_length, split_lengths, split_flatten, split_none_empty, split_size, split_octets, flatten_split, flatten_sum, lengths_none_zero, length_below}
use Rattle.writing.proofs.Writings.{RecordsPassed, passed_accepted, writing_written, written_passed, output_written, output_refused}
use Rattle.std.specs.Prelude.{Result, Ok, Err, None}
use Rattle.answers.specs.declared.Fault.{Fault}

module _ (s : List ℕ) (o : Octets s) where
  -- the lengths of the entries are 16-bit numbers, so an accepted sheet can be written anew
  pub lengths_fit : fault_number (check_sheet s) ≡ 0 → (i : ℕ) → get_or (map length (entries s)) i 0 ≤ largest_word
  lengths_fit z i =
      let r = reading_of s o (size_told (check_sheet s)) (accepted_number (check_sheet s) z) in
      omega (arith, length_below (entries s) i, written_length (edition_of s) (entries s), ap length r.bytes, r.short)

-- a sheet of records: there is one only, and it is written where there is room

module _ (brought : Brought) (bs ns s : List ℕ) (h : SheetOf brought bs ns s) where
  passed : ContentsPassed true None brought.table brought.list s (size_told (check_states brought.table brought.list s))
  passed = contents_passed true None brought.table brought.list s (size_told (check_states brought.table brought.list s)) (accepted_number (check_states brought.table brought.list s) h.accepted)

  reading : Reading (edition_of s) s (size_told (check_states brought.table brought.list s)) (entries s)
  reading = reading_of s h.bytes (size_told (check_states brought.table brought.list s)) passed.sheet

  same_records : split bs ns ≡ entries s
  same_records = ap₂ split (sym h.joined) (sym h.lengths) ∙ flatten_split (entries s)

  pub only_sheet : s ≡ sheet_bytes brought.edition (split bs ns)
  only_sheet = sym reading.bytes ∙ ap₂ sheet_bytes h.edition (sym same_records)

  sheet_size : sheet_length (length ns) (length bs) ≡ length s
  sheet_size =
      let es = entries s in
      ap₂ (λ (a b : List ℕ). sheet_length (length a) (length b)) (sym h.lengths) (sym h.joined)
      ∙ ap (λ (k : ℕ). sheet_length k (length (flatten es))) (length-map es length) ∙ sym (written_length (edition_of s) es) ∙ ap length reading.bytes

  records_passed : RecordsPassed brought bs ns (size_told (check_states brought.table brought.list s))
  unfolding lengths_accepted
  records_passed =
      record {
        tabled = passed.tabled;
        classed = passed.classed;
        lengths = rw (← h.lengths, ← h.joined, lengths_none_zero (entries s) reading.none_empty) (eq-eqb _ _ (flatten_sum (entries s)));
        short = omega (arith, sheet_size, reading.short);
        each = ap (check_each true (language_of brought) 0) same_records ∙ rw h.edition at passed.each;
      }

  pub anew : (before : List ℕ) → length s ≤ length before → writing brought bs ns (length before) ≡ Ok (length s)
  anew before room =
      sym (writing_written brought bs ns before _ (passed_accepted brought bs ns _ records_passed) (omega (arith, sheet_size))).0 ∙ ap Ok sheet_size

-- a sheet that was written

module _ (brought : Brought) (bs ns before : List ℕ) (o : Octets bs) (n : ℕ) (w : writing brought bs ns (length before) ≡ Ok n) where
  written_back : ReadsBack brought bs ns (sheet_bytes brought.edition (split bs ns))
  written_back =
      let es = split bs ns in
      let s = sheet_bytes brought.edition es in
      let p = written_passed brought bs ns before n w in
      let l = lengths_true ns (length bs) p.1.lengths in
      let size = split_size brought.edition bs ns l.1 in
      let count : length es ≡ length ns = split_length bs ns in
      let few : length es < edition_mark = omega (arith, count, p.1.short) in
      let d = written_directed brought.edition es (split_none_empty bs ns (omega (arith, l.1)) l.0) (omega (arith, size, p.1.short)) in
      let a : check_sheet s ≡ Ok (length ns) = directed_accepted s (length es) d ∙ ap Ok count in
      let k : p.0 ≡ length ns = omega (arith, each_count true (language_of brought) 0 p.0 es p.1.each, count) in
      let e : edition_of s ≡ brought.edition = written_edition brought.edition es few in
      let back = written_read brought.edition es few in
      let c : check_states brought.table brought.list s ≡ Ok (length ns) =
      contents_each true None brought.table brought.list s p.1.tabled p.1.classed (length ns) (among_checked None s (length ns) true a refl) refl
      ∙ ap₂ (λ (x : Edition) (y : List (List ℕ)). check_each true (language_in x brought.table brought.list) 0 y) e back ∙ p.1.each ∙ ap Ok k in
      record {
        sheet = record {
          bytes = split_octets brought.edition bs ns l.1 p.1.short o;
          accepted = ap fault_number c;
          edition = e;
          joined = ap flatten back ∙ split_flatten bs ns l.1;
          lengths = ap (map length) back ∙ split_lengths bs ns (omega (arith, l.1));
        };
        counted = ap size_told c;
        same_entry = λ i h. entry_of_entries s (length ns) a i h ∙ ap (λ (l : List (List ℕ)). get_or l i []) back;
      }

  written_shown : (s : List ℕ) → s ≡ sheet_bytes brought.edition (split bs ns) → Writes before 0 n (output_after brought bs ns before) s
  written_shown s e =
      let p = written_passed brought bs ns before n w in
      record {
        written = refl;
        whole = sym p.2 ∙ sym (split_size brought.edition bs ns (lengths_true ns (length bs) p.1.lengths).1) ∙ ap length (sym e);
        output = output_written brought bs ns before n w ∙ ap (λ (l : List ℕ). l ++ drop n before) (sym e);
      }

-- all that is demanded of a writing

module _ (brought : Brought) (bs ns before : List ℕ) (o : Octets bs) where
  demanded : (x : Result ℕ Fault) → writing brought bs ns (length before) ≡ x
      → Demanded brought bs ns before (fault_number x) (size_told x) (output_after brought bs ns before)
  demanded (Ok n) w =
      let s = sheet_bytes brought.edition (split bs ns) in
      let b = written_back brought bs ns before o n w in
      let shown = written_shown brought bs ns before o n w in
      record {
        reads_back = λ z. (s, shown s refl, b);
        written_anew = λ s' h room. shown s' (only_sheet brought bs ns s' h);
        refused_exactly = (
          λ z. absurd (omega arith),
          λ f. absurd (omega (arith, f s b.sheet, (shown s refl).whole, (written_passed brought bs ns before n w).2, (written_passed brought bs ns before n w).3)),
        );
        untouched = λ z. absurd (omega arith);
      }
  demanded (Err f) w =
      record {
        reads_back = λ z. absurd (omega (arith, numbered f.refusal));
        written_anew = λ s h room. never s h room;
        refused_exactly = (λ z s h. never_short s h, λ n. numbered f.refusal);
        untouched = λ z. (refl, output_refused brought bs ns before f w);
      }
    where
      never : {A : Type 0} (s : List ℕ) → SheetOf brought bs ns s → length s ≤ length before → A
      never s h room = let z : ◌≡◌ {A = ℕ} 0 1 = cc (anew brought bs ns s h before room) in absurd (omega arith)

      never_short : (s : List ℕ) → SheetOf brought bs ns s → length before < length s
      never_short s h = lt_of_not-le (never s h)

  pub writing_shown_holds : (x : Result ℕ Fault) (after : List ℕ) → (x ≡ writing brought bs ns (length before)) × (after ≡ output_after brought bs ns before)
      → Called brought bs ns before x after
  writing_shown_holds x after e = (e.0, (e.1, rw e.1 (demanded x (sym e.0))))
