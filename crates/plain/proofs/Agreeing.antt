-- The tier finds what the full search finds.
use Prim.Native.Nat.{ℕ, zero, suc, ◌+◌, ◌<◌, ◌≤◌}
use mathlib.Core.Path.{◌≡◌, refl, sym, subst}
use mathlib.Core.List.{List, [], ◌∷◌}
use mathlib.Core.Bool.{Bool, true, false, cond, ◌&&◌, false≢true}
use native.Mathlib.Omega.{arith}
use lib.Dec.{eqb, leb}
use borrow.Author.Tests.{eqb-true, eqb-false, leb-true, leb-false}
use Rattle.term.specs.Pattern.{Pattern, name, symbol, complement, Children, end, plain, run}
use Rattle.term.specs.Table.{width}
use Rattle.term.specs.Term.{Term, node, Terms, nil, ◌::◌, count, single, size, sizes}
use Rattle.term.specs.Class.{class_of}
use Rattle.anti_pattern.specs.Language.{Language}
use Rattle.anti_pattern.specs.Search.{Env, bind, start, Answers, first_answer, Result, if_true, if_some, same_or, Deferred, Continuation, finish, freely, every, try_run, search, searches, whole}
use Rattle.anti_pattern.specs.Variables.{vars, vars_all, free, among}
use Rattle.plain.specs.Plain.{NoComplement, NoComplements, Once, run_names, plain_children, OneRun, OneRuns, Plain}
use Rattle.plain.specs.Tier.{Tiered, if_true as tier_true, comes_out, taken, left, run_length, and_then, tier, tiers, whole_tier}
use Rattle.plain.proofs.Failing.{right_length, unequal_fails, fewer_fails}
use Rattle.std.specs.Prelude.{Option, Some, None}

-- none of the variables is assigned
abbrev Unassigned : Env → List ℕ → Type 0
Unassigned e [] = Unit {0}
Unassigned e (v ∷ vs) = (e.value v ≡ None) × Unassigned e vs

-- the variables still to come: each comes once, and is not assigned
pub record Fresh (e : Env) (vs : List ℕ) : Type 0 where
  pub once : Once vs
  pub unassigned : Unassigned e vs

unassigned_bind : (e : Env) (v at : ℕ) (w : Terms) (vs : List ℕ) → among v vs ≡ false → Unassigned e vs → Unassigned (bind e v at w) vs
unassigned_bind e v at w [] m h = tt
unassigned_bind e v at w (u ∷ vs) m h = go (eqb u v) (eqb v u) refl refl m (λ n. unassigned_bind e v at w vs n h.1)
  where
    go : (b c : Bool) → eqb u v ≡ b → eqb v u ≡ c → cond b true (among v vs) ≡ false
        → (among v vs ≡ false → Unassigned (bind e v at w) vs) → (cond c (Some w) (e.value u) ≡ None) × Unassigned (bind e v at w) vs
    go true c i j m r = absurd (false≢true (sym m))
    go false true i j m r = absurd (eqb-false u v i (sym (eqb-true v u j)))
    go false false i j m r = (h.0, r m)

fresh_bind : (e : Env) (v at : ℕ) (w : Terms) (vs : List ℕ) → Fresh e (v ∷ vs) → Fresh (bind e v at w) vs
fresh_bind e v at w vs h = record { once = h.once.1; unassigned = unassigned_bind e v at w vs h.once.0 h.unassigned.1 }

unassigned_start : (vs : List ℕ) → Unassigned start vs
unassigned_start [] = tt
unassigned_start (v ∷ vs) = (refl, unassigned_start vs)

-- the full search comes to what the rest of it does with what the tier finds, or both fail
data Agree (k : Continuation) (put : List Deferred) (vs : List ℕ) : Option Env → Option Env → Type 0 where
  goes_on : {f : Env} → Fresh f vs → Agree k put vs (first_answer (k f put).out) (Some f)
  fails : Agree k put vs None None

agree_then : {k l : Continuation} {put : List Deferred} {us vs : List ℕ} {o p : Option Env} (n : ℕ) (g : Env → Tiered) → Agree l put us o p
    → ((f : Env) → Fresh f us → Agree k put vs (first_answer (l f put).out) (g f).out) → Agree k put vs o (and_then p n g).out
agree_then n g (goes_on {f} h) next = next f h
agree_then n g fails next = fails

-- the number comes out
abbrev pub ComesOut : Children → Terms → Type 0
ComesOut qs ts = (plain_children qs ≤ count ts) × (run_names qs ≡ 0 → count ts ≡ plain_children qs)

pub data Number (qs : Children) (ts : Terms) : Bool → Type 0 where
  comes : ComesOut qs ts → Number qs ts true
  unequal : run_names qs ≡ 0 → (count ts ≡ plain_children qs → ⊥) → Number qs ts false
  fewer : count ts < plain_children qs → Number qs ts false

pub number_comes : (qs : Children) (ts : Terms) → Number qs ts (comes_out qs ts)
number_comes qs ts = go (eqb (run_names qs) 0) refl (eqb (plain_children qs) (count ts)) refl (leb (plain_children qs) (count ts)) refl
  where
    go : (r : Bool) → eqb (run_names qs) 0 ≡ r → (a : Bool) → eqb (plain_children qs) (count ts) ≡ a → (b : Bool) → leb (plain_children qs) (count ts) ≡ b
        → Number qs ts (cond r a b)
    go true h true i b j = let x = eqb-true (plain_children qs) (count ts) i in comes (omega (arith, x), λ z. sym x)
    go true h false i b j = unequal (eqb-true (run_names qs) 0 h) (λ x. eqb-false (plain_children qs) (count ts) i (sym x))
    go false h a i true j = comes (leb-true (plain_children qs) (count ts) j, λ z. absurd (eqb-false (run_names qs) 0 h z))
    go false h a i false j = fewer (leb-false (plain_children qs) (count ts) j)

pub count_left : (n : ℕ) (ts : Terms) (m : ℕ) → n + m ≡ count ts → count (left n ts) ≡ m
count_left zero ts m h = omega arith
count_left (suc n) nil m h = absurd (omega arith)
count_left (suc n) (t :: ts) m h = count_left n ts m (omega arith)

module _ (table classes : List ℕ) where
  mutual
    unfolding search tier

    tier_agrees : (q : Pattern) (t : Term) (at : ℕ) (e : Env) (put : List Deferred) (k : Continuation) (vs : List ℕ) → NoComplement q → OneRun q
        → Fresh e (vars q vs) → Agree k put vs (first_answer (search table classes freely q t at e put k).out) (tier table classes q t at e).out
    tier_agrees (name v) t at e put k vs c o h =
        subst (λ (x : Option Terms). Agree k put vs (first_answer (if_some (same_or classes x (single t) e (bind e v at (single t))) (λ f. k f put)).out) (Some (bind e v at (single t))))
        (sym h.unassigned.0) (goes_on (fresh_bind e v at (single t) vs h))
    tier_agrees (symbol s qs) (node r ts) at e put k vs c o h = go (eqb (class_of classes s) (class_of classes r)) (comes_out qs ts) (number_comes qs ts)
        (λ n. tiers_agree qs ts (at + width table r) e put k vs c o.1 o.0 n h)
      where
        go : (m b : Bool) → Number qs ts b
            → (ComesOut qs ts → Agree k put vs (first_answer (searches table classes freely qs ts (at + width table r) e put k).out) (tiers table classes qs ts (at + width table r) e).out)
            → Agree k put vs (first_answer (if_true m (λ u. searches table classes freely qs ts (at + width table r) e put k)).out) (tier_true (m && b) (λ u. tiers table classes qs ts (at + width table r) e)).out
        go true true (comes n) next = next n
        go true false (unequal i n) next =
            subst (λ (x : Answers). Agree k put vs (first_answer x) None) (sym (unequal_fails table classes qs ts (at + width table r) e put k i n)) fails
        go true false (fewer n) next = subst (λ (x : Answers). Agree k put vs (first_answer x) None) (sym (fewer_fails table classes qs ts (at + width table r) e put k n)) fails
        go false b n next = fails
    tier_agrees (complement q) t at e put k vs c o h = absurd c

    tiers_agree : (qs : Children) (ts : Terms) (at : ℕ) (e : Env) (put : List Deferred) (k : Continuation) (vs : List ℕ) → NoComplements qs → OneRuns qs
        → run_names qs ≤ 1 → ComesOut qs ts → Fresh e (vars_all qs vs) → Agree k put vs (first_answer (searches table classes freely qs ts at e put k).out) (tiers table classes qs ts at e).out
    tiers_agree end nil at e put k vs c o r n h = goes_on h
    tiers_agree end (t :: ts) at e put k vs c o r n h = absurd (omega (arith, n.1 refl))
    tiers_agree (plain q qs) nil at e put k vs c o r n h = absurd (omega (arith, n.0))
    tiers_agree (plain q qs) (t :: ts) at e put k vs c o r n h =
        agree_then (tier table classes q t at e).cost (λ f. tiers table classes qs ts (at + size table t) f)
        (tier_agrees q t at e put (λ f ds. searches table classes freely qs ts (at + size table t) f ds k) (vars_all qs vs) c.0 o.0 h)
        (λ f g. tiers_agree qs ts (at + size table t) f put k vs c.1 o.1 r (omega (arith, n.0), λ z. let i = n.1 z in omega arith) g)
    tiers_agree (run v qs) ts at e put k vs c o r n h =
        let z : run_names qs ≡ 0 = omega arith in
        let m : run_length qs ts + plain_children qs ≡ count ts = omega (arith, n.0) in
        let w = taken (run_length qs ts) ts in
        let f : Terms → Terms → Result = λ w us. searches table classes freely qs us (at + sizes table w) (bind e v at w) put k in
        let i = count_left (run_length qs ts) ts (plain_children qs) m in
        subst (λ (x : Option Terms). Agree k put vs (first_answer (try_run classes x every ts f (λ w us. searches table classes freely qs us (at + sizes table w) e put k)).out) (tiers table classes (run v qs) ts at e).out)
        (sym h.unassigned.0)
        (subst (λ (x : Option Env). Agree k put vs x (tiers table classes (run v qs) ts at e).out)
        (sym (right_length (run_length qs ts) nil ts f (plain_children qs) m (λ w us d. unequal_fails table classes qs us (at + sizes table w) (bind e v at w) put k z d)))
        (tiers_agree qs (left (run_length qs ts) ts) (at + sizes table w) (bind e v at w) put k vs c o (omega arith) (omega (arith, i), λ y. i) (fresh_bind e v at w (vars_all qs vs) h)))

pub same_outcome : (l : Language) (q : Pattern) (t : Term) → Plain q → (whole_tier l q t).out ≡ first_answer (whole l q t).out
unfolding finish
same_outcome l q t p =
    go (tier_agrees l.table l.classes q t zero start [] finish [] p.no_complement p.one_run
    (record { once = p.no_variable_twice; unassigned = unassigned_start (free q) }))
  where
    go : {o x : Option Env} → Agree finish [] [] o x → x ≡ o
    go (goes_on h) = refl
    go fails = refl
