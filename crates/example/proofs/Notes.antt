-- The twins, noted symbol by symbol.
use Prim.Native.Nat.{ℕ, ◌<◌}
use mathlib.Core.Path.{◌≡◌, sym, subst}
use mathlib.Core.List.{List}
use lib.ListN.{get_or, replicate, length-replicate}
use Rattle.term.specs.Class.{class_of}
use Rattle.example.specs.Inner.{LikesAt, LastAt, Standing}
use Rattle.example.proofs.Walks.{zeros_at}

pub standing_start_holds : (table classes kept : List ℕ) → Standing table classes kept 0 (replicate 256 0) (replicate 256 0)
standing_start_holds table classes kept = record {
  last_long = length-replicate {A = ℕ} 256 0;
  lower_long = length-replicate {A = ℕ} 256 0;
  lasts = λ e. subst (LastAt table classes kept 0 e) (sym (zeros_at 256 e)) tt;
  lowers = λ b. subst (LikesAt table classes kept b) (sym (zeros_at 256 b)) tt;
}

-- the marks of the first bytes of a pattern
abbrev pub MarksTo : List ℕ → List ℕ → List ℕ → ℕ → Type 0
MarksTo classes pattern kept n = (i : ℕ) → i < n → get_or kept (class_of classes (get_or pattern i 0)) 0 ≡ 1
