-- The check of a class list, entry by entry: it accepts exactly the class lists, whose table bytes are alike within a class.
use Prim.Native.Nat.{ℕ, zero, suc, ◌+◌, ◌<◌, ◌≤◌}
use native.Mathlib.Omega.{arith}
use native.Mathlib.Numerals.{add-one}
use mathlib.Core.Path.{◌≡◌, refl, sym, ap, ◌∙◌, subst}
use mathlib.Core.Logic.{◌↔◌}
use mathlib.Core.List.{List, []}
use mathlib.Core.Bool.{Bool, true, false, ◌&&◌, and-false}
use lib.ListN.{length, get_or, get_or-eq_default}
use lib.Dec.{leb, ltb, eqb}
use borrow.Author.Tests.{eqb-true, eq-eqb, ne_eqb, leb-true, le-leb, lt-leb, ltb-true, ltb-false}
use Rattle.term.proofs.Lists.{get_or_any}
use Rattle.term.specs.Class.{class_of, ClassList, entry_classed, entries_classed, classes_accepted, Alike}
use Rattle.term.proofs.SameParts.{and_true}

module _ (classes : List ℕ) (s : ℕ) where
  pub class_entry : s < length classes → class_of classes s ≡ get_or classes s 0
  class_entry h = get_or_any classes s s 0 h

  pub class_none : length classes ≤ s → class_of classes s ≡ s
  class_none h = get_or-eq_default classes s h

-- as it is read
pub class_read : (classes : List ℕ) (s : ℕ) → s < length classes → get_or classes s 0 ≡ class_of classes s
class_read classes s h = sym (class_entry classes s h)

pub class_own : (classes : List ℕ) (s : ℕ) → length classes ≤ s → s ≡ class_of classes s
class_own classes s h = sym (class_none classes s h)

module _ (table classes : List ℕ) where
  -- one entry c, at i
  module _ (i c : ℕ) (h : i < length classes) (e : c ≡ get_or classes i 0) where
    at : class_of classes i ≡ c
    at = class_entry classes i h ∙ sym e

    pub entry_above : i < c → entry_classed table classes i ≡ false
    entry_above l = rw (at, lt-leb c i l)

    pub entry_other : c ≤ i → (d : ℕ) → d ≡ get_or classes c 0 → (d ≡ c → ⊥) → entry_classed table classes i ≡ false
    entry_other l d g n =
        let z : class_of classes c ≡ d = class_entry classes c (omega arith) ∙ sym g in
        rw (at, z, le-leb c i l, ne_eqb d c n)

    pub entry_like : c ≤ i → get_or classes c 0 ≡ c → entry_classed table classes i ≡ eqb (get_or table c 0) (get_or table i 0)
    entry_like l g =
        let z : class_of classes c ≡ c = class_entry classes c (omega arith) ∙ g in
        rw (at, z, le-leb c i l, eq-eqb c c refl)

  -- the first entries
  pub entries_none : entries_classed table classes 0 ≡ true
  unfolding entries_classed
  entries_none = refl

  pub entries_more : (i : ℕ) → entry_classed table classes i ≡ true → entries_classed table classes i ≡ true → entries_classed table classes (i + 1) ≡ true
  unfolding entries_classed
  entries_more i e f = rw (add-one i, e, f)

  pub entries_fail : (n i : ℕ) → i < n → entry_classed table classes i ≡ false → entries_classed table classes n ≡ false
  unfolding entries_classed
  entries_fail zero i h e = absurd (omega arith)
  entries_fail (suc n) i h e = go (ltb i n) refl (λ l. entries_fail n i l e)
    where
      go : (m : Bool) → ltb i n ≡ m → (i < n → entries_classed table classes n ≡ false)
          → (entry_classed table classes n && entries_classed table classes n) ≡ false
      go true z f = rw (f (ltb-true i n z)) (and-false (entry_classed table classes n))
      go false z f = let y : n ≡ i = omega (arith, ltb-false i n z) in rw (y, e)

  pub entries_each : (n i : ℕ) → i < n → entries_classed table classes n ≡ true → entry_classed table classes i ≡ true
  unfolding entries_classed
  entries_each zero i h e = absurd (omega arith)
  entries_each (suc n) i h e = go (ltb i n) refl (entries_each n i)
    where
      a : (entry_classed table classes n ≡ true) × (entries_classed table classes n ≡ true)
      a = and_true (entry_classed table classes n) (entries_classed table classes n) e

      go : (m : Bool) → ltb i n ≡ m → (i < n → entries_classed table classes n ≡ true → entry_classed table classes i ≡ true)
          → entry_classed table classes i ≡ true
      go true z f = f (ltb-true i n z) a.1
      go false z f = let y : n ≡ i = omega (arith, ltb-false i n z) in subst (λ (j : ℕ). entry_classed table classes j ≡ true) y a.0

  -- the list
  pub classes_long : (length classes ≡ length table → ⊥) → classes_accepted table classes ≡ false
  unfolding classes_accepted
  classes_long n = rw (ne_eqb (length classes) (length table) n)

  pub classes_checked : length classes ≡ length table → classes_accepted table classes ≡ entries_classed table classes (length table)
  unfolding classes_accepted
  classes_checked e = rw (eq-eqb (length classes) (length table) e)

  accepted_list : classes_accepted table classes ≡ true → ClassList table classes
  unfolding classes_accepted
  accepted_list h =
      let a = and_true (eqb (length classes) (length table)) (entries_classed table classes (length table)) h in record {
        as_long = eqb-true (length classes) (length table) a.0;
        lowest = λ s l. leb-true (class_of classes s) s (each s l).0;
        own_class = λ s l. eqb-true (class_of classes (class_of classes s)) (class_of classes s) (each s l).1;
        table_alike = λ s l. eqb-true (get_or table (class_of classes s) 0) (get_or table s 0) (each s l).2;
      }
    where
      each : (s : ℕ) → s < length table
          → (leb (class_of classes s) s ≡ true) × (eqb (class_of classes (class_of classes s)) (class_of classes s) ≡ true)
          × (eqb (get_or table (class_of classes s) 0) (get_or table s 0) ≡ true)
      each s l =
          let a = and_true (eqb (length classes) (length table)) (entries_classed table classes (length table)) h in
          let b = and_true (leb (class_of classes s) s && eqb (class_of classes (class_of classes s)) (class_of classes s))
          (eqb (get_or table (class_of classes s) 0) (get_or table s 0)) (entries_each (length table) s l a.1) in
          let c = and_true (leb (class_of classes s) s) (eqb (class_of classes (class_of classes s)) (class_of classes s)) b.0 in
          (c.0, c.1, b.1)

  list_entries : ClassList table classes → (n : ℕ) → n ≤ length table → entries_classed table classes n ≡ true
  unfolding entries_classed
  list_entries k zero h = refl
  list_entries k (suc n) h = rw (
    le-leb (class_of classes n) n (k.lowest n (omega arith)),
    eq-eqb (class_of classes (class_of classes n)) (class_of classes n) (k.own_class n (omega arith)),
    eq-eqb (get_or table (class_of classes n) 0) (get_or table n 0) (k.table_alike n (omega arith)),
  ) (list_entries k n (omega arith))

  -- 14 exactly where the list is none
  pub classes_exactly : (classes_accepted table classes ≡ true) ↔ ClassList table classes
  classes_exactly = (accepted_list, λ k. classes_checked k.as_long ∙ list_entries k (length table) (omega arith))

  pub accepted_alike : classes_accepted table classes ≡ true → Alike table classes
  accepted_alike h = record { alike = λ s. go s (ltb s (length table)) refl }
    where
      k : ClassList table classes
      k = accepted_list h

      go : (s : ℕ) (m : Bool) → ltb s (length table) ≡ m → get_or table (class_of classes s) 0 ≡ get_or table s 0
      go s true z = k.table_alike s (ltb-true s (length table) z)
      go s false z =
          ap (λ (c : ℕ). get_or table c 0) (class_none classes s (omega (arith, k.as_long, ltb-false s (length table) z)))

pub none_alike : (table : List ℕ) → Alike table []
none_alike table = record { alike = λ s. refl }
