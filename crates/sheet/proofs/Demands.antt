-- What is demanded of sheets, as specs/Demands states it.
use Prim.Native.Nat.{ℕ}
use native.Mathlib.Omega.{arith}
use mathlib.Core.Path.{◌≡◌, refl, sym, ap, ◌∙◌}
use mathlib.Core.List.{List}
use Rattle.answers.specs.Shown.{fault_number, size_told}
use Rattle.term.specs.Limits.{Octets}
use Rattle.term.specs.declared.Edition.{Edition}
use Rattle.answers.proofs.Numbers.{numbered}
use Rattle.sheet.specs.Check.{edition_of, check_sheet}
use Rattle.sheet.specs.Entry.{entries}
use Rattle.sheet.specs.Demands.{Reading, OneReading}
use Rattle.sheet.proofs.Checks.{accepted_directed}
use Rattle.sheet.proofs.Readings.{accepted_reading, reading_few, reading_accepted, written_read, written_edition}
use Rattle.std.specs.Prelude.{Result, Ok, Err}
use Rattle.answers.specs.declared.Fault.{Fault}

-- the check of a sheet

module _ (s : List ℕ) (o : Octets s) where
  pub reading_of : (n : ℕ) → check_sheet s ≡ Ok n → Reading (edition_of s) s n (entries s)
  reading_of n a = accepted_reading s n o (accepted_directed s n a)

  one_reading : (c : Result ℕ Fault) → c ≡ check_sheet s → OneReading s (fault_number c) (size_told c)
  one_reading (Ok m) e =
      record {
        accepted_exactly = (λ z. (edition_of s, m, entries s, reading_of m (sym e)), λ r. refl);
        its_entries = λ edition n es r.
            let few = reading_few edition s n es r in (
              sym (written_edition edition es few) ∙ ap edition_of r.bytes,
              let k : m ≡ n = cc (reading_accepted edition s n es r) in k,
              sym (written_read edition es few) ∙ ap entries r.bytes,
            );
      }
  one_reading (Err f) e =
      record {
        accepted_exactly = (λ z. absurd (omega (arith, numbered f.refusal)), λ r. none r.0 r.1 r.2 r.3);
        its_entries = λ edition n es r. none edition n es r;
      }
    where
      none : {A : Type 0} (edition : Edition) (n : ℕ) (es : List (List ℕ)) → Reading edition s n es → A
      none edition n es r = let z : ◌≡◌ {A = ℕ} 0 1 = cc (reading_accepted edition s n es r) in absurd (omega arith)

  pub sheet_checked : (c : Result ℕ Fault) → c ≡ check_sheet s → (c ≡ check_sheet s) × OneReading s (fault_number c) (size_told c)
  sheet_checked c e = (e, one_reading c e)
