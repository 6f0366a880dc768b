-- How an allowance goes through a search.
use Prim.Native.Nat.{ℕ, ◌+◌, ◌-◌, ◌<◌, ◌≤◌}
use mathlib.Core.Path.{◌≡◌, refl, sym, ◌∙◌, ap}
use mathlib.Core.Bool.{Bool, true, false, not}
use native.Mathlib.Omega.{arith}
use lib.Dec.{leb, T, leb→le, le→leb, nleb→lt}
use Rattle.anti_pattern.proofs.Meter.{Metered, met, missed, used_up, metered, meter, then_meter, refute_meter}
use Rattle.anti_pattern.specs.Search.{Env, Answers, found, failed, first_answer, Result, plus, counted, fail, after, refuted}
use Rattle.std.specs.Prelude.{Some}

pub leb_true : (a b : ℕ) → a ≤ b → leb a b ≡ true
leb_true a b h = go (leb a b) (le→leb a b h)
  where
    go : (m : Bool) → T m → m ≡ true
    go true t = refl
    go false t = absurd t

pub leb_false : (a b : ℕ) → b < a → leb a b ≡ false
leb_false a b h = go (leb a b) (λ t. leb→le a b t)
  where
    go : (m : Bool) → (T m → a ≤ b) → m ≡ false
    go true f = let i : a ≤ b = f tt in absurd (omega arith)
    go false f = refl

-- a count is within an allowance or over it
pub data Split (a b : ℕ) : Type 0 where
  enough : a ≤ b → Split a b
  over : b < a → Split a b

pub split : (a b : ℕ) → Split a b
split a b = go (leb a b) (leb→le a b) (nleb→lt a b)
  where
    go : (m : Bool) → (T m → a ≤ b) → (T (not m) → b < a) → Split a b
    go true f g = enough (f tt)
    go false f g = over (g tt)

-- spent exactly if the count is over the allowance
pub meter_spent : (n : ℕ) (r : Result) → n < r.cost → meter n r ≡ used_up
unfolding meter
meter_spent n r h = rw (leb_false r.cost n h)

pub meter_within : (n : ℕ) (r : Result) → r.cost ≤ n → meter n r ≡ metered true r.out (n - r.cost)
unfolding meter
meter_within n r h = rw (leb_true r.cost n h)

pub meter_fail : (n : ℕ) → meter n fail ≡ missed n
meter_fail n = meter_within n fail (omega arith) ∙ ap missed (omega arith)

pub meter_used_up : (r : Result) → meter 0 (counted r) ≡ used_up
meter_used_up r = meter_spent 0 (counted r) (omega arith)

meter_plus : (n c : ℕ) (r : Result) → c ≤ n → meter n (plus c r) ≡ meter (n - c) r
meter_plus n c r h = go (split (c + r.cost) n)
  where
    go : Split (c + r.cost) n → meter n (plus c r) ≡ meter (n - c) r
    go (enough l) =
        meter_within n (plus c r) l ∙ ap (metered true r.out) (omega arith) ∙ sym (meter_within (n - c) r (omega arith))
    go (over l) = meter_spent n (plus c r) l ∙ sym (meter_spent (n - c) r (omega arith))

pub meter_one : (n : ℕ) (r : Result) → 0 < n → meter n (counted r) ≡ meter (n - 1) r
meter_one n r h = meter_plus n 1 r h

-- what goes on from an outcome: k, which needs a part of the count that is within the allowance
meter_through : (n c : ℕ) (o : Answers) (r : Result) (k : Metered → Metered) → k used_up ≡ used_up → c ≤ r.cost
    → (c ≤ n → meter n r ≡ k (metered true o (n - c))) → meter n r ≡ k (meter n (record { out = o; cost = c }))
meter_through n c o r k u b h = go (split c n)
  where
    go : Split c n → meter n r ≡ k (meter n (record { out = o; cost = c }))
    go (enough l) = h l ∙ sym (ap k (meter_within n (record { out = o; cost = c }) l))
    go (over l) = meter_spent n r (omega arith) ∙ sym u ∙ sym (ap k (meter_spent n (record { out = o; cost = c }) l))

pub meter_after : (n : ℕ) (o : Answers) (c : ℕ) (f : Unit {0} → Result)
    → meter n (after o c f) ≡ then_meter (meter n (record { out = o; cost = c })) f
meter_after n (found e m o) c f =
    meter_through n c (found e m o) (after (found e m o) c f) (λ x. then_meter x f) refl (omega arith) (meter_within n (after (found e m o) c f))
meter_after n failed c f = meter_through n c failed (after failed c f) (λ m. then_meter m f) refl (omega arith) (meter_plus n c (f tt))

pub meter_refuted : (n : ℕ) (o : Answers) (c : ℕ) (f : Unit {0} → Result)
    → meter n (refuted o c f) ≡ refute_meter (meter n (record { out = o; cost = c })) f
meter_refuted n (found e m o) c f =
    meter_through n c (found e m o) (refuted (found e m o) c f) (λ x. refute_meter x f) refl (omega arith) (meter_within n (refuted (found e m o) c f))
meter_refuted n failed c f = meter_through n c failed (refuted failed c f) (λ m. refute_meter m f) refl (omega arith) (meter_plus n c (f tt))

-- what is found first, and nothing of what the search resumed after it comes to
pub metered_first : (o : Answers) (e : Env) (n : ℕ) → first_answer o ≡ Some e → metered true o n ≡ met e n
metered_first (found f m o) e n h = ap (λ (g : Env). met g n) cc
metered_first failed e n h = let z : ◌≡◌ {A = ℕ} 0 1 = cc in absurd (omega arith)
