-- The checks of a call pass exactly on accepted input.
use Prim.Native.Nat.{ℕ, ◌<◌, ◌≤◌}
use native.Mathlib.Omega.{arith}
use mathlib.Core.Path.{◌≡◌, refl, ◌∙◌, ap}
use mathlib.Core.Logic.{◌↔◌}
use mathlib.Core.Bool.{Bool, true, false}
use lib.Dec.{leb}
use borrow.Author.Tests.{leb-true, le-leb, lt-leb}
use Rattle.answers.specs.declared.Refusal.{Refusal}
use Rattle.answers.specs.declared.Refusal.TheVariants.{Table, Narrow, Class}
use Rattle.reader.specs.Reading.{Parsed, refused, read}
use Rattle.term.specs.Table.{table_accepted}
use Rattle.parts.specs.Shown.{answer_width}
use Rattle.reader.specs.Brought.{Brought, brought_accepted}
use Rattle.call.specs.Verdict.{Verdict, passed, fault, check, reading, both}
use Rattle.call.specs.Call.{checks}

-- Verdicts

pub fault_passed : {X : Type 0} {r : Refusal} {i : ℕ} {x : X} → ◌≡◌ {A = Verdict X} (fault r i) (passed x) → ⊥
fault_passed e = let z : ◌≡◌ {A = ℕ} 0 1 = cc in omega arith

faults_same : {X Y : Type 0} {r s : Refusal} {i j : ℕ} → ◌≡◌ {A = Verdict X} (fault r i) (fault s j) → ◌≡◌ {A = Verdict Y} (fault r i) (fault s j)
faults_same e = cc

pub reading_passed : {X : Type 0} (y : Parsed X) (x : X) → reading y ≡ passed x → (n : ℕ) × (y ≡ read x n)
reading_passed (read y n) x e = (n, cc)
reading_passed (refused r) x e = absurd (fault_passed e)

pub both_passed : {X Y : Type 0} (v : Verdict X) (w : Verdict Y) (x : X) (y : Y) → both v w ≡ passed (x, y) → (v ≡ passed x) × (w ≡ passed y)
both_passed (fault r i) w x y e = absurd (fault_passed e)
both_passed (passed u) (fault r i) x y e = absurd (fault_passed e)
both_passed {X} {Y} (passed u) (passed v) x y e =
    let z : ◌≡◌ {A = X × Y} (u, v) (x, y) = cc in (ap (λ (p : X × Y). passed p.0) z, ap (λ (p : X × Y). passed p.1) z)

module _ {X : Type 0} (brought : Brought) (width : ℕ) (own : Verdict X) where
  -- each check by what is told of the ones before it, in the words of whoever makes them

  module _ {W : Type 0} (word : Verdict X → W) where
    pub narrow_fails : width < answer_width → word (fault Narrow 0) ≡ word (checks brought width own)
    unfolding checks
    narrow_fails h = rw (lt-leb answer_width width h)

    module _ (wide : answer_width ≤ width) where
      pub table_fails : table_accepted brought.table ≡ false → word (fault Table 0) ≡ word (checks brought width own)
      unfolding checks
      table_fails h = rw (le-leb answer_width width wide, h)

      module _ (tabled : table_accepted brought.table ≡ true) where
        pub class_fails : brought_accepted brought ≡ false → word (fault Class 0) ≡ word (checks brought width own)
        unfolding checks
        class_fails h = rw (le-leb answer_width width wide, tabled, h)

  -- where all pass, the call's own decide
  pub then_own : answer_width ≤ width → table_accepted brought.table ≡ true → brought_accepted brought ≡ true → checks brought width own ≡ own
  unfolding checks
  then_own wide tabled h = rw (le-leb answer_width width wide, tabled, h)

  pub passed_checks : (x : X) → checks brought width own ≡ passed x
      → (answer_width ≤ width) × (brought_accepted brought ≡ true) × (table_accepted brought.table ≡ true) × (own ≡ passed x)
  unfolding checks
  passed_checks x e = go (leb answer_width width) refl (table_accepted brought.table) refl (brought_accepted brought) refl e
    where
      go : (a : Bool) → leb answer_width width ≡ a → (b : Bool) → table_accepted brought.table ≡ b → (c : Bool) → brought_accepted brought ≡ c
          → check a Narrow (check b Table (check c Class own)) ≡ passed x
          → (answer_width ≤ width) × (brought_accepted brought ≡ true) × (table_accepted brought.table ≡ true) × (own ≡ passed x)
      go true f true g true h e = (leb-true answer_width width f, h, g, e)
      go true f true g false h e = absurd (fault_passed e)
      go true f false g c h e = absurd (fault_passed e)
      go false f b g c h e = absurd (fault_passed e)

  -- a fault of the first of a call's own checks is a fault of all of them
  pub fault_first : {Y : Type 0} (f : Verdict X → Verdict Y) → ((r : Refusal) (i : ℕ) → f (fault r i) ≡ fault r i) → (r : Refusal) (i : ℕ)
      → checks brought width own ≡ fault r i → checks brought width (f own) ≡ fault r i
  unfolding checks
  fault_first f strict r i e = go (leb answer_width width) (table_accepted brought.table) (brought_accepted brought) e
    where
      go : (a b c : Bool) → check a Narrow (check b Table (check c Class own)) ≡ fault r i → check a Narrow (check b Table (check c Class (f own))) ≡ fault r i
      go true true true e = ap f e ∙ strict r i
      go true true false e = faults_same e
      go true false c e = faults_same e
      go false b c e = faults_same e

  -- Accepted input is a brought table that is accepted and an own reading that passes
  module _ (Accepted : X → Type 0) (reads : (x : X) → Accepted x ↔ ((table_accepted brought.table ≡ true) × (own ≡ passed x))) (x : X) where
    pub passed_exactly : (checks brought width own ≡ passed x) ↔ ((answer_width ≤ width) × (brought_accepted brought ≡ true) × Accepted x)
    passed_exactly = (
      λ e. let c = passed_checks x e in (c.0, c.1, (reads x).1 (c.2, c.3)),
      λ a. let c = (reads x).0 a.2 in then_own a.0 c.0 a.1 ∙ c.1,
    )
