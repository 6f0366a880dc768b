-- The tier's count is at most the number of the pattern's bytes.
use Prim.Native.Nat.{ℕ, ◌+◌, ◌≤◌}
use mathlib.Core.List.{List, []}
use mathlib.Core.Bool.{Bool, true, false, cond, ◌&&◌}
use native.Mathlib.Omega.{arith}
use lib.Dec.{eqb}
use lib.ListN.{length}
use Rattle.term.specs.Pattern.{Pattern, name, symbol, complement, Children, end, plain, run, pattern_tree, child_trees, pattern_bytes}
use Rattle.term.specs.Table.{width}
use Rattle.term.specs.Term.{Term, node, Terms, nil, ◌::◌, size, sizes}
use Rattle.term.specs.Tree.{branch, more, empty, list_code}
use Rattle.term.specs.declared.Code.TheVariants.{Symbol, Name, Run, Complement}
use Rattle.term.proofs.Sizes.{children_bytes, branch_length, more_length}
use Rattle.term.specs.Class.{class_of}
use Rattle.anti_pattern.specs.Search.{Env, bind}
use Rattle.plain.specs.Tier.{Tiered, if_true, comes_out, taken, left, run_length, and_then, tier, tiers}
use Rattle.std.specs.Prelude.{Option, Some, None}

one_byte : (l : Bool) → 1 ≤ cond l 2 1
one_byte true = omega arith
one_byte false = omega arith

true_count : (m : Bool) (f : Unit {0} → Tiered) (n : ℕ) → (f tt).cost ≤ n → (if_true m f).cost ≤ n
true_count true f n h = h
true_count false f n h = omega arith

then_count : (o : Option Env) (n : ℕ) (f : Env → Tiered) (a b : ℕ) → n ≤ a → ((e : Env) → (f e).cost ≤ b) → (and_then o n f).cost ≤ a + b
then_count (Some e) n f a b h k = omega (arith, k e)
then_count None n f a b h k = omega arith

module _ (table classes : List ℕ) where
  mutual
    unfolding tier

    pub tier_count : (q : Pattern) (t : Term) (at : ℕ) (e : Env) → (tier table classes q t at e).cost ≤ length (pattern_bytes table q [])
    tier_count (name v) t at e = omega (arith, branch_length table (Name v) empty, one_byte (list_code table (Name v)))
    tier_count (symbol s qs) (node r ts) at e =
        omega (
          arith,
          branch_length table (Symbol s) (child_trees qs),
          one_byte (list_code table (Symbol s)),
          true_count (eqb (class_of classes s) (class_of classes r) && comes_out qs ts) (λ u. tiers table classes qs ts (at + width table r) e) (length (children_bytes table qs []))
              (tiers_count qs ts (at + width table r) e),
        )
    tier_count (complement q) t at e =
        omega (arith, branch_length table Complement (more (pattern_tree q) empty), one_byte (list_code table Complement))

    tiers_count : (qs : Children) (ts : Terms) (at : ℕ) (e : Env) → (tiers table classes qs ts at e).cost ≤ length (children_bytes table qs [])
    tiers_count end ts at e = omega arith
    tiers_count (plain q qs) nil at e = omega arith
    tiers_count (plain q qs) (t :: ts) at e =
        omega (
          arith,
          more_length table (pattern_tree q) (child_trees qs),
          then_count (tier table classes q t at e).out (tier table classes q t at e).cost (λ f. tiers table classes qs ts (at + size table t) f)
              (length (pattern_bytes table q [])) (length (children_bytes table qs [])) (tier_count q t at e) (λ f. tiers_count qs ts (at + size table t) f),
        )
    tiers_count (run v qs) ts at e =
        omega (
          arith,
          more_length table (branch (Run v) empty) (child_trees qs),
          branch_length table (Run v) empty,
          one_byte (list_code table (Run v)),
          tiers_count qs (left (run_length qs ts) ts) (at + sizes table (taken (run_length qs ts) ts)) (bind e v at (taken (run_length qs ts) ts)),
        )
