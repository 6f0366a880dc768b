-- The checks of the files, one by one.
use Prim.Native.Nat.{ℕ}
use native.Mathlib.Omega.{arith}
use mathlib.Core.Path.{◌≡◌, refl, ap, ◌∙◌}
use mathlib.Core.List.{List}
use mathlib.Core.Bool.{Bool, true, false}
use Rattle.answers.specs.declared.Refusal.{Refusal}
use Rattle.answers.specs.declared.Refusal.TheVariants.{Unread}
use Rattle.term.specs.Table.{table_accepted}
use Rattle.sheet.specs.Contents.{check_contents, check_rules}
use Rattle.report_lines.specs.Verdict.{in_file, check_like, readable, verdict, FilesAccepted}
use Rattle.report_lines.specs.Report.{report_by, report}
use Rattle.report_lines.specs.declared.File.{File}
use Rattle.report_lines.specs.declared.File.TheVariants.{Rules, States}
use Rattle.report_lines.specs.declared.FileFault.{FileFault}
use Rattle.std.specs.Prelude.{Result, Ok, Err, Option, None}
use Rattle.answers.specs.declared.Fault.{Fault}
use Rattle.answers.specs.Fault.{fault_at}
use Rattle.term.specs.declared.Edition.{Edition}

-- one sheet

pub file_unread : (read : Bool) (checks : Result ℕ Fault) → read ≡ false → Err (fault_at Unread 0) ≡ readable read checks
unfolding readable
file_unread read checks e = rw e

pub file_read : (records read : Bool) (editions : Option Edition) (table sheet : List ℕ) (checks : Result ℕ Fault) → read ≡ true
    → checks ≡ check_contents records editions table None sheet → checks ≡ readable read (check_contents records editions table None sheet)
unfolding readable
file_read records read editions table sheet checks e g = rw e g

-- all files

module _ (table_read : Bool) (table : List ℕ) (rules_read : Bool) (rules : List ℕ) (states_read : Bool) (states : List ℕ) where
  pub table_unread : table_read ≡ false → Err (in_file File.Table (fault_at Unread 0)) ≡ verdict table_read table rules_read rules states_read states
  unfolding verdict
  table_unread a = rw a

  module _ (a : table_read ≡ true) where
    pub table_refused : table_accepted table ≡ false → Err (in_file File.Table (fault_at Refusal.Table 0)) ≡ verdict table_read table rules_read rules states_read states
    unfolding verdict
    table_refused t = rw (a, t)

    module _ (t : table_accepted table ≡ true) where
      pub rules_refused : (f : Fault) → readable rules_read (check_rules table None rules) ≡ Err f
          → Err (in_file Rules f) ≡ verdict table_read table rules_read rules states_read states
      unfolding verdict
      rules_refused f e = rw (a, t, e)

      module _ (m : ℕ) (p : readable rules_read (check_rules table None rules) ≡ Ok m) where
        pub states_refused : (f : Fault) → readable states_read (check_like table rules states) ≡ Err f
            → Err (in_file States f) ≡ verdict table_read table rules_read rules states_read states
        unfolding verdict
        states_refused f e = rw (a, t, p, e)

        pub all_accepted : (n : ℕ) → readable states_read (check_like table rules states) ≡ Ok n
            → Ok n ≡ verdict table_read table rules_read rules states_read states
        unfolding verdict
        all_accepted n e = rw (a, t, p, e)

-- files that have lines are accepted and could be read

file_accepted : (read : Bool) (checks : Result ℕ Fault) (n : ℕ) → readable read checks ≡ Ok n → (read ≡ true) × (checks ≡ Ok n)
unfolding readable
file_accepted true checks n e = (refl, e)
file_accepted false checks n e = let z : ◌≡◌ {A = ℕ} 0 1 = cc in absurd (omega arith)

pub lines_accepted : (table_read : Bool) (table : List ℕ) (rules_read : Bool) (rules : List ℕ) (states_read : Bool) (states : List ℕ) (n : ℕ)
    → verdict table_read table rules_read rules states_read states ≡ Ok n
    → ((m : ℕ) × (check_rules table None rules ≡ Ok m)) × (check_like table rules states ≡ Ok n) × FilesAccepted table rules states n
unfolding verdict
lines_accepted table_read table rules_read rules states_read states n v =
    go table_read refl (table_accepted table) refl (readable rules_read (check_rules table None rules)) refl (readable states_read (check_like table rules states)) refl
  where
    go : (a : Bool) → table_read ≡ a → (t : Bool) → table_accepted table ≡ t → (x : Result ℕ Fault) → readable rules_read (check_rules table None rules) ≡ x
        → (y : Result ℕ Fault) → readable states_read (check_like table rules states) ≡ y
        → ((m : ℕ) × (check_rules table None rules ≡ Ok m)) × (check_like table rules states ≡ Ok n) × FilesAccepted table rules states n
    go false a t b x e y f = let z : ◌≡◌ {A = ℕ} 0 1 = cc in absurd (omega arith)
    go true a false b x e y f = let z : ◌≡◌ {A = ℕ} 0 1 = cc in absurd (omega arith)
    go true a true b (Err d) e y f = let z : ◌≡◌ {A = ℕ} 0 1 = cc in absurd (omega arith)
    go true a true b (Ok m) e (Err d) f = let z : ◌≡◌ {A = ℕ} 0 1 = cc in absurd (omega arith)
    go true a true b (Ok m) e (Ok k) f =
        let p = file_accepted rules_read (check_rules table None rules) m e in
        let q = file_accepted states_read (check_like table rules states) k f in
        let s : k ≡ n = cc in
        ((m, p.1), q.1 ∙ ap Ok s, rw (a, p.0, q.0) at v)

pub report_by_holds : (table_read : Bool) (table : List ℕ) (rules_read : Bool) (rules : List ℕ) (states_read : Bool) (states : List ℕ) (v : Result ℕ FileFault)
    → verdict table_read table rules_read rules states_read states ≡ v → report_by v table rules states ≡ report table_read table rules_read rules states_read states
unfolding report
report_by_holds table_read table rules_read rules states_read states v e = rw e
