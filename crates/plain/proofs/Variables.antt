-- The variables of a plain pattern: no variable of one child is a variable of another.
use Prim.Native.Nat.{ℕ}
use native.Mathlib.Omega.{arith}
use mathlib.Core.Path.{◌≡◌, refl, sym, ◌∙◌, ap}
use mathlib.Core.List.{List, []}
use mathlib.Core.Bool.{Bool, true, false, cond, false≢true}
use lib.Dec.{eqb}
use borrow.Author.Tests.{eqb-true, eq-eqb}
use Rattle.term.specs.Pattern.{Pattern, name, symbol, complement, Children, end, plain, run}
use Rattle.anti_pattern.specs.Variables.{vars, vars_all, among}
use Rattle.plain.specs.Plain.{Once, run_names}
use Rattle.std.specs.Prelude.{Option, Some, None}

-- among the variables of a pattern and those behind it
mutual
  pub among_vars : (u : ℕ) (q : Pattern) (vs : List ℕ) → among u (vars q vs) ≡ cond (among u (vars q [])) true (among u vs)
  among_vars u (name v) vs = go (eqb v u)
    where
      go : (b : Bool) → cond b true (among u vs) ≡ cond (cond b true false) true (among u vs)
      go true = refl
      go false = refl
  among_vars u (symbol s qs) vs = among_all u qs vs
  among_vars u (complement q) vs = refl

  pub among_all : (u : ℕ) (qs : Children) (vs : List ℕ) → among u (vars_all qs vs) ≡ cond (among u (vars_all qs [])) true (among u vs)
  among_all u end vs = refl
  among_all u (plain q qs) vs =
      among_vars u q (vars_all qs vs) ∙ ap (cond (among u (vars q [])) true) (among_all u qs vs)
      ∙ three (among u (vars q [])) (among u (vars_all qs [])) (among u vs) ∙ ap (λ (b : Bool). cond b true (among u vs)) (sym (among_vars u q (vars_all qs [])))
    where
      three : (a b c : Bool) → cond a true (cond b true c) ≡ cond (cond a true b) true c
      three true b c = refl
      three false b c = refl
  among_all u (run v qs) vs = go (eqb v u) (among_all u qs vs)
    where
      go : (b : Bool) → among u (vars_all qs vs) ≡ cond (among u (vars_all qs [])) true (among u vs)
          → cond b true (among u (vars_all qs vs)) ≡ cond (cond b true (among u (vars_all qs []))) true (among u vs)
      go true e = refl
      go false e = e

or_false : (a b : Bool) → cond a true b ≡ false → (a ≡ false) × (b ≡ false)
or_false true b h = absurd (false≢true (sym h))
or_false false b h = (refl, h)

or_right : (a b : Bool) → b ≡ true → cond a true b ≡ true
or_right true b h = refl
or_right false b h = h

or_left : (a b : Bool) → a ≡ true → cond a true b ≡ true
or_left a b h = rw h

pub among_here : (u : ℕ) (q : Pattern) (vs : List ℕ) → among u (vars q []) ≡ true → among u (vars q vs) ≡ true
among_here u q vs h = among_vars u q vs ∙ or_left (among u (vars q [])) (among u vs) h

pub among_behind : (u : ℕ) (q : Pattern) (vs : List ℕ) → among u vs ≡ true → among u (vars q vs) ≡ true
among_behind u q vs h = among_vars u q vs ∙ or_right (among u (vars q [])) (among u vs) h

pub not_among : (u : ℕ) (q : Pattern) (vs : List ℕ) → among u (vars q vs) ≡ false → (among u (vars q []) ≡ false) × (among u vs ≡ false)
not_among u q vs h = or_false (among u (vars q [])) (among u vs) (sym (among_vars u q vs) ∙ h)

-- each comes once: those behind, and none of these in front
mutual
  pub once_vars : (q : Pattern) (vs : List ℕ) → Once (vars q vs) → Once vs × ((u : ℕ) → among u vs ≡ true → among u (vars q []) ≡ false)
  once_vars (name v) vs h = (h.1, λ u m. go u (eqb v u) refl m)
    where
      go : (u : ℕ) (b : Bool) → eqb v u ≡ b → among u vs ≡ true → cond b true false ≡ false
      go u true e m = absurd (false≢true (sym (ap (λ (x : ℕ). among x vs) (sym (eqb-true v u e)) ∙ h.0) ∙ m))
      go u false e m = refl
  once_vars (symbol s qs) vs h = once_all qs vs h
  once_vars (complement q) vs h = (h, λ u m. refl)

  pub once_all : (qs : Children) (vs : List ℕ) → Once (vars_all qs vs) → Once vs × ((u : ℕ) → among u vs ≡ true → among u (vars_all qs []) ≡ false)
  once_all end vs h = (h, λ u m. refl)
  once_all (plain q qs) vs h =
      let a = once_vars q (vars_all qs vs) h in
      let b = once_all qs vs a.0 in (
        b.0,
        λ u m. among_vars u q (vars_all qs []) ∙ neither (among u (vars q [])) (among u (vars_all qs []))
            (a.1 u (among_all u qs vs ∙ or_right (among u (vars_all qs [])) (among u vs) m)) (b.1 u m),
      )
    where
      neither : (a b : Bool) → a ≡ false → b ≡ false → cond a true b ≡ false
      neither a b e f = rw (e, f)
  once_all (run v qs) vs h =
      let b = once_all qs vs h.1 in
      let z = or_false (among v (vars_all qs [])) (among v vs) (sym (among_all v qs vs) ∙ h.0) in
      (b.0, λ u m. go u (eqb v u) refl m (b.1 u m) z.1)
    where
      go : (u : ℕ) (b : Bool) → eqb v u ≡ b → among u vs ≡ true → among u (vars_all qs []) ≡ false → among v vs ≡ false → cond b true (among u (vars_all qs [])) ≡ false
      go u true e m f g = absurd (false≢true (sym (ap (λ (x : ℕ). among x vs) (sym (eqb-true v u e)) ∙ g) ∙ m))
      go u false e m f g = f

pub among_front : (u : ℕ) (qs : Children) (vs : List ℕ) → among u (vars_all qs []) ≡ true → among u (vars_all qs vs) ≡ true
among_front u qs vs h = among_all u qs vs ∙ or_left (among u (vars_all qs [])) (among u vs) h

-- the run name of a list's children, the first
abbrev pub run_of : Children → Option ℕ
run_of end = None
run_of (plain q qs) = run_of qs
run_of (run v qs) = Some v

pub some_is : {x y : ℕ} → Some x ≡ Some y → x ≡ y
some_is h = cc

pub none_is : {x : ℕ} → None ≡ Some x → ⊥
none_is h = let z : ◌≡◌ {A = ℕ} 0 1 = cc in omega arith

pub run_none : (qs : Children) → run_names qs ≡ 0 → run_of qs ≡ None
run_none end h = refl
run_none (plain q qs) h = run_none qs h
run_none (run v qs) h = absurd (omega arith)

pub run_among : (qs : Children) (v : ℕ) → run_of qs ≡ Some v → among v (vars_all qs []) ≡ true
run_among end v h = absurd (none_is h)
run_among (plain q qs) v h = among_behind v q (vars_all qs []) (run_among qs v h)
run_among (run u qs) v h = ap (λ (b : Bool). cond b true (among v (vars_all qs []))) (eq-eqb u v (some_is h))
