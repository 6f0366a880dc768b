-- The check of what a sheet holds, entry by entry.
use Prim.Native.Nat.{ℕ, zero, suc, ◌+◌, ◌-◌, ◌≤◌, ◌<◌}
use native.Mathlib.Nat.{sub-zero}
use native.Mathlib.Omega.{arith}
use mathlib.Core.Path.{◌≡◌, refl, sym, ◌∙◌}
use mathlib.Core.List.{List, [], ◌∷◌}
use mathlib.Core.Bool.{Bool, true, false, cond}
use lib.ListN.{length}
use Rattle.answers.specs.declared.Refusal.{Refusal}
use Rattle.answers.specs.declared.Refusal.TheVariants.{Table, Long, Class, Directory}
use Rattle.term.specs.Language.{Language}
use Rattle.term.specs.Table.{table_accepted}
use Rattle.reader.specs.Brought.{language_in, list_accepted}
use Rattle.sheet.specs.Check.{edition_of, check_sheet, allowed, check_among}
use Rattle.sheet.specs.Entry.{entry_at, entries_from, entries, part_at}
use Rattle.sheet.specs.Contents.{read_entry, stop_at, check_each, few, check_contents}
use Rattle.sheet.proofs.Checks.{accepted_directed}
use Rattle.sheet.proofs.Entries.{part_entry, entries_count}
use Rattle.std.specs.Prelude.{Result, Ok, Err, Option}
use Rattle.answers.specs.declared.Fault.{Fault}
use Rattle.answers.specs.Fault.{fault_at}
use Rattle.term.specs.declared.Edition.{Edition}

-- the entries from index i on, of an accepted sheet of n

entries_next : (s : List ℕ) (n i : ℕ) → i < n → entries_from s (n - i) i ≡ entry_at s i ∷ entries_from s (n - (i + 1)) (i + 1)
unfolding entries_from
entries_next s n i h = let e : n - i ≡ suc (n - (i + 1)) = omega arith in rw e

module _ (records : Bool) (l : Language) (s : List ℕ) (n i : ℕ) where
  pub left_start : check_sheet s ≡ Ok n → check_each records l 0 (entries s) ≡ check_each records l 0 (entries_from s (n - 0) 0)
  unfolding entries
  left_start a = rw (sub-zero, (accepted_directed s n a).counted)

  left_step : check_sheet s ≡ Ok n → i < n
      → check_each records l i (entries_from s (n - i) i)
      ≡ stop_at i (read_entry records l (part_at s i)) (check_each records l (i + 1) (entries_from s (n - (i + 1)) (i + 1)))
  unfolding check_each
  left_step a h = rw (entries_next s n i h, part_entry s n i (accepted_directed s n a) h)

  pub left_refused : (r : Refusal) → check_sheet s ≡ Ok n → i < n → read_entry records l (part_at s i) ≡ Err r
      → check_each records l i (entries_from s (n - i) i) ≡ Err (fault_at r i)
  left_refused r a h e = left_step a h ∙ rw e

  pub left_read : (m : ℕ) → check_sheet s ≡ Ok n → i < n → read_entry records l (part_at s i) ≡ Ok m
      → check_each records l i (entries_from s (n - i) i) ≡ check_each records l (i + 1) (entries_from s (n - (i + 1)) (i + 1))
  left_read m a h e = left_step a h ∙ rw e

  pub left_end : n ≤ i → check_each records l i (entries_from s (n - i) i) ≡ Ok i
  unfolding check_each entries_from
  left_end h = let e : n - i ≡ zero = omega arith in rw e

-- the sheet's own checks, before

module _ (editions : Option Edition) (s : List ℕ) where
  pub among_refused : (f : Fault) → check_sheet s ≡ Err f → check_among editions s ≡ Err f
  unfolding check_among
  among_refused f e = rw e

  pub among_checked : (n : ℕ) (b : Bool) → check_sheet s ≡ Ok n → allowed editions (edition_of s) ≡ b
      → check_among editions s ≡ cond b (Ok n) (Err (fault_at Directory 0))
  unfolding check_among
  among_checked n b e a = rw (e, a)

  pub among_sheet : (n : ℕ) → check_among editions s ≡ Ok n → (check_sheet s ≡ Ok n) × (allowed editions (edition_of s) ≡ true)
  among_sheet n a = go (check_sheet s) refl (allowed editions (edition_of s)) refl
    where
      go : (x : Result ℕ Fault) → check_sheet s ≡ x → (b : Bool) → allowed editions (edition_of s) ≡ b → (check_sheet s ≡ Ok n) × (allowed editions (edition_of s) ≡ true)
      go (Err d) e b f = let z : ◌≡◌ {A = ℕ} 0 1 = cc (among_refused d e) in absurd (omega arith)
      go (Ok m) e false f = let z : ◌≡◌ {A = ℕ} 0 1 = cc (among_checked m false e f) in absurd (omega arith)
      go (Ok m) e true f = (e ∙ sym (among_checked m true e f) ∙ a, f)

module _ (records : Bool) (editions : Option Edition) (table : List ℕ) (list : Option (List ℕ)) (s : List ℕ) where
  pub contents_table : table_accepted table ≡ false → check_contents records editions table list s ≡ Err (fault_at Table 0)
  unfolding check_contents
  contents_table t = rw t

  module _ (t : table_accepted table ≡ true) where
    pub contents_class : list_accepted table list ≡ false → check_contents records editions table list s ≡ Err (fault_at Class 0)
    unfolding check_contents
    contents_class c = rw (t, c)

    module _ (c : list_accepted table list ≡ true) where
      pub contents_refused : (f : Fault) → check_among editions s ≡ Err f → check_contents records editions table list s ≡ Err f
      unfolding check_contents
      contents_refused f e = rw (t, c, e)

      pub contents_many : (n : ℕ) → check_among editions s ≡ Ok n → few records n ≡ false → check_contents records editions table list s ≡ Err (fault_at Long 0)
      unfolding check_contents
      contents_many n e f = rw (t, c, e, f)

      pub contents_each : (n : ℕ) → check_among editions s ≡ Ok n → few records n ≡ true
          → check_contents records editions table list s ≡ check_each records (language_in (edition_of s) table list) 0 (entries s)
      unfolding check_contents
      contents_each n e f = rw (t, c, e, f)

-- what passes them keeps each

pub each_count : (records : Bool) (l : Language) (i n : ℕ) (es : List (List ℕ)) → check_each records l i es ≡ Ok n → n ≡ i + length es
unfolding check_each
each_count records l i n [] a = let e : i ≡ n = cc in omega arith
each_count records l i n (e ∷ es) a = go (read_entry records l e) refl (each_count records l (i + 1) n es)
  where
    go : (x : Result ℕ Refusal) → read_entry records l e ≡ x → (check_each records l (i + 1) es ≡ Ok n → n ≡ i + 1 + length es) → n ≡ i + suc (length es)
    go (Err r) f rest = let z : ◌≡◌ {A = ℕ} 0 1 = cc in absurd (omega arith)
    go (Ok m) f rest = omega (arith, rest (cc))

pub record ContentsPassed (records : Bool) (editions : Option Edition) (table : List ℕ) (list : Option (List ℕ)) (s : List ℕ) (n : ℕ) : Type 0 where
  pub tabled : table_accepted table ≡ true
  pub classed : list_accepted table list ≡ true
  pub sheet : check_sheet s ≡ Ok n
  pub like : allowed editions (edition_of s) ≡ true
  pub not_many : few records n ≡ true
  pub each : check_each records (language_in (edition_of s) table list) 0 (entries s) ≡ Ok n

module _ (records : Bool) (editions : Option Edition) (table : List ℕ) (list : Option (List ℕ)) (s : List ℕ) (n : ℕ) (a : check_contents records editions table list s ≡ Ok n) where
  each_passed : (t : table_accepted table ≡ true) (c : list_accepted table list ≡ true) (m : ℕ) → check_among editions s ≡ Ok m
      → (b : Bool) → few records m ≡ b → ContentsPassed records editions table list s n
  each_passed t c m e false f = let z : ◌≡◌ {A = ℕ} 0 1 = cc (contents_many records editions table list s t c m e f) in absurd (omega arith)
  each_passed t c m e true f =
      let each = sym (contents_each records editions table list s t c m e f) ∙ a in
      let own = among_sheet editions s m e in
      let count : n ≡ m = omega (arith, each_count records (language_in (edition_of s) table list) 0 n (entries s) each, entries_count s m own.0) in
      record { tabled = t; classed = c; sheet = rw count own.0; like = own.1; not_many = rw count f; each = each }

  pub contents_passed : ContentsPassed records editions table list s n
  contents_passed = go (table_accepted table) refl (list_accepted table list) refl (check_among editions s) refl
    where
      go : (t : Bool) → table_accepted table ≡ t → (c : Bool) → list_accepted table list ≡ c → (x : Result ℕ Fault) → check_among editions s ≡ x
          → ContentsPassed records editions table list s n
      go false t c d x e = let z : ◌≡◌ {A = ℕ} 0 1 = cc (contents_table records editions table list s t) in absurd (omega arith)
      go true t false d x e = let z : ◌≡◌ {A = ℕ} 0 1 = cc (contents_class records editions table list s t d) in absurd (omega arith)
      go true t true d (Err f) e = let z : ◌≡◌ {A = ℕ} 0 1 = cc (contents_refused records editions table list s t d f e) in absurd (omega arith)
      go true t true d (Ok m) e = each_passed t d m e (few records m) refl
