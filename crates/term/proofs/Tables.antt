-- The check of a table, entry by entry.
use Prim.Native.Nat.{ℕ, ◌+◌, ◌≤◌, ◌<◌}
use native.Mathlib.Numerals.{add-one}
use mathlib.Core.Path.{◌≡◌, refl, sym, ap, ◌∙◌}
use mathlib.Core.List.{List}
use mathlib.Core.Bool.{Bool, true, false, cond, ◌&&◌}
use lib.ListN.{length, get_or, drop, drop_of_length-le}
use lib.Seq.{drop-cons}
use borrow.Author.Tests.{le-leb, lt-leb}
use Rattle.term.specs.Table.{largest_table, entry_accepted, entries_accepted, table_accepted}

entries_step : (s : List ℕ) (i : ℕ) → i < length s → entries_accepted (drop i s) ≡ cond (entry_accepted (get_or s i 0)) (entries_accepted (drop (i + 1) s)) false
unfolding entries_accepted
entries_step s i h = rw (add-one, drop-cons s i 0)

-- the entries before i are accepted, and all those from i on: one more is seen
pub entries_next : (s : List ℕ) (i : ℕ) (accepted : Bool) → i < length s → accepted && entries_accepted (drop i s) ≡ entries_accepted s
    → (accepted && entry_accepted (get_or s i 0)) && entries_accepted (drop (i + 1) s) ≡ entries_accepted s
entries_next s i accepted h inv = by accepted (entry_accepted (get_or s i 0)) (entries_accepted (drop (i + 1) s)) ∙ ap (λ (b : Bool). accepted && b) (sym (entries_step s i h)) ∙ inv
  where
    by : (a b c : Bool) → (a && b) && c ≡ a && cond b c false
    by true true c = refl
    by true false c = refl
    by false b c = refl

pub table_long : (s : List ℕ) → largest_table < length s → table_accepted s ≡ false
unfolding table_accepted
table_long s h = simp (lt-leb (length s) largest_table h)

pub table_checked : (s : List ℕ) (i : ℕ) (accepted : Bool) → length s ≤ largest_table → length s ≤ i → accepted && entries_accepted (drop i s) ≡ entries_accepted s
    → accepted ≡ table_accepted s
unfolding table_accepted entries_accepted
table_checked s i accepted l h inv =
    rw (le-leb (length s) largest_table l) (by accepted ∙ ap (λ (r : List ℕ). accepted && entries_accepted r) (sym (drop_of_length-le s h)) ∙ inv)
  where
    by : (a : Bool) → a ≡ a && true
    by true = refl
    by false = refl
