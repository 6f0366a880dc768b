-- A file that is too long is refused whatever its bytes are: to read one byte more of it than it may have is enough.
use Prim.Native.Nat.{ℕ, ◌<◌}
use native.Mathlib.Omega.{arith}
use mathlib.Core.Path.{◌≡◌, refl, sym, ap, ◌∙◌}
use mathlib.Core.List.{List}
use mathlib.Core.Bool.{Bool, true, false}
use lib.ListN.{length, take, length-take}
use lib.Seq.{take_all}
use lib.Dec.{leb}
use borrow.Author.Tests.{lt-leb, leb-true, leb-false}
use Rattle.answers.specs.declared.Refusal.{Refusal}
use Rattle.answers.specs.declared.Refusal.TheVariants.{Unread, Long}
use Rattle.term.specs.Table.{table_accepted}
use Rattle.sheet.specs.Check.{edition_of, longest_sheet}
use Rattle.sheet.specs.Contents.{check_contents, check_rules}
use Rattle.sheet.proofs.Checks.{sheet_long}
use Rattle.sheet.proofs.Contents.{among_refused, contents_refused}
use Rattle.report_lines.specs.Verdict.{in_file, check_like, readable, verdict}
use Rattle.report_lines.specs.Report.{report}
use Rattle.report_lines.specs.declared.File.{File}
use Rattle.report_lines.specs.declared.FileFault.{FileFault}
use Rattle.report_lines.proofs.Verdicts.{table_unread, table_refused, rules_refused, states_refused, report_by_holds}
use Rattle.std.specs.Prelude.{Result, Ok, Err, Option, Some, None}
use Rattle.answers.specs.declared.Fault.{Fault}
use Rattle.answers.specs.Fault.{fault_at}
use Rattle.term.specs.declared.Edition.{Edition}

-- the bytes that a table may have
abbrev pub longest_table : ℕ
longest_table = 200

-- the same refusal is the same report
refused_same : (table_read : Bool) (table table' : List ℕ) (rules_read : Bool) (rules rules' : List ℕ) (states_read : Bool) (states states' : List ℕ)
    (e : FileFault) → Err e ≡ verdict table_read table rules_read rules states_read states
    → Err e ≡ verdict table_read table' rules_read rules' states_read states'
    → report table_read table rules_read rules states_read states ≡ report table_read table' rules_read rules' states_read states'
refused_same table_read table table' rules_read rules rules' states_read states states' e a b =
    sym (report_by_holds table_read table rules_read rules states_read states (Err e) (sym a))
    ∙ report_by_holds table_read table' rules_read rules' states_read states' (Err e) (sym b)

table_long : (table : List ℕ) → longest_table < length table → table_accepted table ≡ false
unfolding table_accepted
table_long table h = rw (lt-leb (length table) longest_table h)

sheet_unread : (checks : Result ℕ Fault) → readable false checks ≡ Err (fault_at Unread 0)
unfolding readable
sheet_unread checks = refl

sheet_too_long : (records : Bool) (editions : Option Edition) (table s : List ℕ) → table_accepted table ≡ true → longest_sheet < length s
    → readable true (check_contents records editions table None s) ≡ Err (fault_at Long 0)
unfolding readable
sheet_too_long records editions table s t h = contents_refused records editions table None s t refl (fault_at Long 0) (among_refused editions s (fault_at Long 0) (sheet_long s h))

tables_long : (table_read rules_read states_read : Bool) (rules states x y : List ℕ) → longest_table < length x → longest_table < length y
    → report table_read x rules_read rules states_read states ≡ report table_read y rules_read rules states_read states
tables_long false rules_read states_read rules states x y a b =
    refused_same false x y rules_read rules rules states_read states states (in_file File.Table (fault_at Unread 0))
    (table_unread false x rules_read rules states_read states refl) (table_unread false y rules_read rules states_read states refl)
tables_long true rules_read states_read rules states x y a b =
    refused_same true x y rules_read rules rules states_read states states (in_file File.Table (fault_at Refusal.Table 0))
    (table_refused true x rules_read rules states_read states refl (table_long x a)) (table_refused true y rules_read rules states_read states refl (table_long y b))

module _ (states_read : Bool) (table states x y : List ℕ) (a : longest_sheet < length x) (b : longest_sheet < length y) where
  rules_long : (table_read rules_read : Bool) → report table_read table rules_read x states_read states ≡ report table_read table rules_read y states_read states
  rules_long false rules_read =
      refused_same false table table rules_read x y states_read states states (in_file File.Table (fault_at Unread 0))
      (table_unread false table rules_read x states_read states refl) (table_unread false table rules_read y states_read states refl)
  rules_long true rules_read = go (table_accepted table) refl rules_read
    where
      go : (t : Bool) → table_accepted table ≡ t → (read : Bool) → report true table read x states_read states ≡ report true table read y states_read states
      go false t read =
          refused_same true table table read x y states_read states states (in_file File.Table (fault_at Refusal.Table 0))
          (table_refused true table read x states_read states refl t) (table_refused true table read y states_read states refl t)
      go true t false =
          refused_same true table table false x y states_read states states (in_file File.Rules (fault_at Unread 0))
          (rules_refused true table false x states_read states refl t (fault_at Unread 0) (sheet_unread (check_rules table None x)))
          (rules_refused true table false y states_read states refl t (fault_at Unread 0) (sheet_unread (check_rules table None y)))
      go true t true =
          refused_same true table table true x y states_read states states (in_file File.Rules (fault_at Long 0))
          (rules_refused true table true x states_read states refl t (fault_at Long 0) (sheet_too_long false None table x t a))
          (rules_refused true table true y states_read states refl t (fault_at Long 0) (sheet_too_long false None table y t b))

module _ (rules_read : Bool) (table rules x y : List ℕ) (a : longest_sheet < length x) (b : longest_sheet < length y) where
  states_long : (table_read states_read : Bool) → report table_read table rules_read rules states_read x ≡ report table_read table rules_read rules states_read y
  states_long false states_read =
      refused_same false table table rules_read rules rules states_read x y (in_file File.Table (fault_at Unread 0))
      (table_unread false table rules_read rules states_read x refl) (table_unread false table rules_read rules states_read y refl)
  states_long true states_read = go (table_accepted table) refl (readable rules_read (check_rules table None rules)) refl states_read
    where
      go : (t : Bool) → table_accepted table ≡ t → (c : Result ℕ Fault) → readable rules_read (check_rules table None rules) ≡ c → (read : Bool)
          → report true table rules_read rules read x ≡ report true table rules_read rules read y
      go false t c e read =
          refused_same true table table rules_read rules rules read x y (in_file File.Table (fault_at Refusal.Table 0))
          (table_refused true table rules_read rules read x refl t) (table_refused true table rules_read rules read y refl t)
      go true t (Err f) e read =
          refused_same true table table rules_read rules rules read x y (in_file File.Rules f)
          (rules_refused true table rules_read rules read x refl t f e) (rules_refused true table rules_read rules read y refl t f e)
      go true t (Ok m) e false =
          refused_same true table table rules_read rules rules false x y (in_file File.States (fault_at Unread 0))
          (states_refused true table rules_read rules false x refl t m e (fault_at Unread 0) (sheet_unread (check_like table rules x)))
          (states_refused true table rules_read rules false y refl t m e (fault_at Unread 0) (sheet_unread (check_like table rules y)))
      go true t (Ok m) e true =
          refused_same true table table rules_read rules rules true x y (in_file File.States (fault_at Long 0))
          (states_refused true table rules_read rules true x refl t m e (fault_at Long 0) (sheet_too_long true (Some (edition_of rules)) table x t a))
          (states_refused true table rules_read rules true y refl t m e (fault_at Long 0) (sheet_too_long true (Some (edition_of rules)) table y t b))

-- what is the same of all that is too long is the same of its first bytes
cut_same : (f : List ℕ → List ℕ) (most n : ℕ) → most < n → ((x y : List ℕ) → most < length x → most < length y → f x ≡ f y) → (l : List ℕ) → f (take n l) ≡ f l
cut_same f most n h long l = go (leb (length l) most) refl
  where
    go : (b : Bool) → leb (length l) most ≡ b → f (take n l) ≡ f l
    go true e = ap f (take_all n l (omega (arith, leb-true (length l) most e)))
    go false e = let o = leb-false (length l) most e in long (take n l) l (simp length-take (omega arith)) o

pub cut_report : (table_read : Bool) (table : List ℕ) (rules_read : Bool) (rules : List ℕ) (states_read : Bool) (states : List ℕ) (k m n : ℕ)
    → longest_table < k → longest_sheet < m → longest_sheet < n
    → report table_read (take k table) rules_read (take m rules) states_read (take n states) ≡ report table_read table rules_read rules states_read states
cut_report table_read table rules_read rules states_read states k m n a b c =
    cut_same (λ (x : List ℕ). report table_read x rules_read (take m rules) states_read (take n states)) longest_table k a
    (λ x y. tables_long table_read rules_read states_read (take m rules) (take n states) x y) table
    ∙ cut_same (λ (x : List ℕ). report table_read table rules_read x states_read (take n states)) longest_sheet m b
    (λ x y g h. rules_long states_read table (take n states) x y g h table_read rules_read) rules
    ∙ cut_same (λ (x : List ℕ). report table_read table rules_read rules states_read x) longest_sheet n c
    (λ x y g h. states_long rules_read table rules x y g h table_read states_read) states
