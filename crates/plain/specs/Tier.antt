-- The plain tier's match. Nothing is tried twice: a pattern node is set against its record node or run, or the match is over.
use Rattle.std.specs.Prelude.{ℕ, zero, suc, ◌+◌, ◌-◌, List, Bool, true, false, cond, ◌&&◌, eqb, leb, Option, Some, None}
use Rattle.term.specs.Class.{class_of}
use Rattle.term.specs.Table.{width}
use Rattle.term.specs.Term.{Term, Terms, node, nil, ◌::◌, count, single, size, sizes}
use Rattle.term.specs.Pattern.{Pattern, Children, name, symbol, complement, end, plain, run}
use Rattle.anti_pattern.specs.Language.{Language}
use Rattle.anti_pattern.specs.Search.{Env, bind, start}
use Rattle.anti_pattern.specs.Answer.{Matching, bound, nothing, parts}
use Rattle.plain.specs.Plain.{run_names, plain_children}

-- the assignment that was found, if any, and what was counted
pub record Tiered : Type 0 where
  pub out : Option Env
  pub cost : ℕ

abbrev pub tiered : Option Env → ℕ → Tiered
tiered out cost = record { out = out; cost = cost }

-- "one for each pattern node set against a record node or run, up to and with the first failing"
abbrev pub counted : Tiered → Tiered
counted r = tiered r.out (1 + r.cost)

abbrev pub if_true : Bool → (Unit {0} → Tiered) → Tiered
if_true true f = f tt
if_true false f = tiered None zero

-- what was matched, and then the rest; a failure is the end
abbrev pub and_then : Option Env → ℕ → (Env → Tiered) → Tiered
and_then (Some e) n f = tiered (f e).out (n + (f e).cost)
and_then None n f = tiered None n

-- whether the number of elements can come out: without a run name one for each plain child pattern, with one at least as many
abbrev pub comes_out : Children → Terms → Bool
comes_out qs ts = cond (eqb (run_names qs) 0) (eqb (plain_children qs) (count ts)) (leb (plain_children qs) (count ts))

-- the first n elements, and those behind them
abbrev pub taken : ℕ → Terms → Terms
taken zero ts = nil
taken (suc n) nil = nil
taken (suc n) (t :: ts) = t :: taken n ts

abbrev pub left : ℕ → Terms → Terms
left zero ts = ts
left (suc n) nil = nil
left (suc n) (t :: ts) = left n ts

-- "It reads a run's length from the number of children": what the plain child patterns behind the run name leave
abbrev pub run_length : Children → Terms → ℕ
run_length qs ts = count ts - plain_children qs

module _ (table classes : List ℕ) where
  unfoldable mutual
    -- a pattern node set against the term that stands at the offset; "a list whose number can't come out, run name or not, fails at once"
    pub tier : Pattern → Term → ℕ → Env → Tiered
    tier (name v) t at e = counted (tiered (Some (bind e v at (single t))) zero)
    tier (symbol s qs) (node r ts) at e =
        counted (if_true (eqb (class_of classes s) (class_of classes r) && comes_out qs ts) (λ u. tiers qs ts (at + width table r) e))
    -- not in a plain pattern
    tier (complement q) t at e = tiered None 1

    -- child patterns set against elements whose number comes out
    pub tiers : Children → Terms → ℕ → Env → Tiered
    tiers end ts at e = tiered (Some e) zero
    tiers (plain q qs) nil at e = tiered None zero
    tiers (plain q qs) (t :: ts) at e = and_then (tier q t at e).out (tier q t at e).cost (λ f. tiers qs ts (at + size table t) f)
    tiers (run v qs) ts at e =
        counted (tiers qs (left (run_length qs ts) ts) (at + sizes table (taken (run_length qs ts) ts)) (bind e v at (taken (run_length qs ts) ts)))

abbrev pub whole_tier : Language → Pattern → Term → Tiered
whole_tier l q t = tier l.table l.classes q t zero start

abbrev pub shown_tier : List ℕ → Option Env → ℕ → Matching
shown_tier table (Some e) n = bound (parts table e) n
shown_tier table None n = nothing n

-- bound with the parts of the variables, or none; each with the tier's own count. "It takes no allowance", so it is never spent
unfoldable pub plain_answer : Language → Pattern → Term → Matching
plain_answer l q t = shown_tier l.table (whole_tier l q t).out (whole_tier l q t).cost
