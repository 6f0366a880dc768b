-- The check of a sheet, test by test, and what an accepted sheet keeps.
use Prim.Native.Nat.{ℕ, zero, suc, ◌+◌, ◌-◌, ◌≤◌, ◌<◌}
use native.Mathlib.Omega.{arith}
use mathlib.Core.Path.{◌≡◌, refl, ◌∙◌}
use mathlib.Core.List.{List}
use mathlib.Core.Bool.{Bool, true, false, cond, ◌&&◌, and-eq-true_iff}
use lib.ListN.{length}
use lib.Dec.{leb, ltb, eqb}
use borrow.Author.Tests.{le-leb, lt-leb, lt-ltb, le-ltb, eq-eqb, ne_eqb, leb-true, ltb-true, eqb-true}
use Rattle.answers.specs.declared.Refusal.TheVariants.{Long, Directory}
use Rattle.sheet.specs.Sheet.{past_pairs}
use Rattle.sheet.specs.Check.{longest_sheet, entry_count, offset_at, length_at, entries_follow, directory_accepted, check_sheet}
use Rattle.std.specs.Prelude.{Ok, Err}
use Rattle.answers.specs.Fault.{fault_at}

-- the pairs from index i on, of n

module _ (s : List ℕ) (n i at : ℕ) where
  follow_step : i < n
      → entries_follow s (n - i) i at ≡ (eqb (offset_at s i) at && ltb 0 (length_at s i) && entries_follow s (n - (i + 1)) (i + 1) (at + length_at s i))
  unfolding entries_follow
  follow_step h = let e : n - i ≡ suc (n - (i + 1)) = omega arith in rw e

  pub follow_apart : i < n → (offset_at s i ≡ at → ⊥) → entries_follow s (n - i) i at ≡ false
  follow_apart h a = follow_step h ∙ rw (ne_eqb (offset_at s i) at a)

  pub follow_empty : i < n → offset_at s i ≡ at → length_at s i ≤ 0 → entries_follow s (n - i) i at ≡ false
  follow_empty h a z = follow_step h ∙ rw (eq-eqb (offset_at s i) at a, le-ltb 0 (length_at s i) z)

  pub follow_next : i < n → offset_at s i ≡ at → 0 < length_at s i
      → entries_follow s (n - i) i at ≡ entries_follow s (n - (i + 1)) (i + 1) (at + length_at s i)
  follow_next h a z = follow_step h ∙ rw (eq-eqb (offset_at s i) at a, lt-ltb 0 (length_at s i) z)

  pub follow_end : n ≤ i → entries_follow s (n - i) i at ≡ eqb at (length s)
  unfolding entries_follow
  follow_end h = let e : n - i ≡ zero = omega arith in rw e

-- the whole sheet

module _ (s : List ℕ) where
  pub sheet_long : longest_sheet < length s → check_sheet s ≡ Err (fault_at Long 0)
  unfolding check_sheet
  sheet_long h = rw (lt-leb (length s) longest_sheet h)

  pub sheet_outside : length s ≤ longest_sheet → length s < past_pairs (entry_count s) → check_sheet s ≡ Err (fault_at Directory 0)
  unfolding check_sheet directory_accepted
  sheet_outside l h = rw (le-leb (length s) longest_sheet l, lt-leb (past_pairs (entry_count s)) (length s) h)

  pub sheet_followed : (n : ℕ) (b : Bool) → length s ≤ longest_sheet → entry_count s ≡ n → past_pairs n ≤ length s → entries_follow s n 0 (past_pairs n) ≡ b
      → check_sheet s ≡ cond b (Ok n) (Err (fault_at Directory 0))
  unfolding check_sheet directory_accepted
  sheet_followed n b l c h f = rw (le-leb (length s) longest_sheet l, c, le-leb (past_pairs n) (length s) h, f)

-- what an accepted sheet keeps

pub record Directed (s : List ℕ) (n : ℕ) : Type 0 where
  pub short : length s ≤ longest_sheet
  pub counted : entry_count s ≡ n
  pub within : past_pairs n ≤ length s
  pub follow : entries_follow s n 0 (past_pairs n) ≡ true

module _ (s : List ℕ) (n : ℕ) where
  pub accepted_directed : check_sheet s ≡ Ok n → Directed s n
  unfolding check_sheet directory_accepted
  accepted_directed h = go (leb (length s) longest_sheet) refl (directory_accepted s) refl
    where
      go : (b : Bool) → leb (length s) longest_sheet ≡ b → (d : Bool) → directory_accepted s ≡ d → Directed s n
      go false e d f = let z : ◌≡◌ {A = ℕ} 0 1 = cc in absurd (omega arith)
      go true e false f = let z : ◌≡◌ {A = ℕ} 0 1 = cc in absurd (omega arith)
      go true e true f =
          let c : entry_count s ≡ n = cc in
          let a = (and-eq-true_iff (leb (past_pairs (entry_count s)) (length s)) (entries_follow s (entry_count s) 0 (past_pairs (entry_count s)))).0 f in
          record {
            short = leb-true (length s) longest_sheet e;
            counted = c;
            within = leb-true (past_pairs n) (length s) (rw (← c) a.0);
            follow = rw (← c) a.1;
          }

  pub directed_accepted : Directed s n → check_sheet s ≡ Ok n
  directed_accepted d = sheet_followed s n true d.short d.counted d.within d.follow

-- the entries of such a sheet lie within it

pub follow_true : (s : List ℕ) (k i at : ℕ) → entries_follow s (suc k) i at ≡ true
    → (offset_at s i ≡ at) × (0 < length_at s i) × (entries_follow s k (i + 1) (at + length_at s i) ≡ true)
unfolding entries_follow
follow_true s k i at h =
    let a = (and-eq-true_iff (eqb (offset_at s i) at && ltb 0 (length_at s i)) (entries_follow s k (i + 1) (at + length_at s i))).0 h in
    let b = (and-eq-true_iff (eqb (offset_at s i) at) (ltb 0 (length_at s i))).0 a.0 in
    (eqb-true (offset_at s i) at b.0, ltb-true 0 (length_at s i) b.1, a.1)

pub follow_within : (s : List ℕ) (k i at : ℕ) → entries_follow s k i at ≡ true → at ≤ length s
unfolding entries_follow
follow_within s zero i at h = omega (arith, eqb-true at (length s) h)
follow_within s (suc k) i at h =
    let a = follow_true s k i at h in
    omega (arith, follow_within s k (i + 1) (at + length_at s i) a.2)

pub entry_within : (s : List ℕ) (k i at j : ℕ) → entries_follow s k i at ≡ true → j < k → offset_at s (i + j) + length_at s (i + j) ≤ length s
entry_within s zero i at j h l = absurd (omega arith)
entry_within s (suc k) i at zero h l =
    let a = follow_true s k i at h in
    let e : i + zero ≡ i = omega arith in
    rw (e, a.0) (follow_within s k (i + 1) (at + length_at s i) a.2)
entry_within s (suc k) i at (suc j) h l =
    let a = follow_true s k i at h in
    let e : i + suc j ≡ i + 1 + j = omega arith in
    rw e (entry_within s k (i + 1) (at + length_at s i) j a.2 (omega arith))
