-- One step of the machine under a remaining allowance.
use Prim.Native.Nat.{ℕ, zero, ◌+◌, ◌-◌, ◌<◌}
use mathlib.Core.Path.{◌≡◌, ◌∙◌, ap}
use mathlib.Core.List.{List, [], ◌∷◌}
use native.Mathlib.Omega.{arith}
use Rattle.term.specs.Pattern.{Pattern, name, symbol, complement, Children, end, plain}
use Rattle.term.specs.Term.{Term, node, Terms, nil, ◌::◌, ◌⧺◌, single}
use Rattle.anti_pattern.proofs.Machine.{Frame, Pending, frame, machine}
use Rattle.anti_pattern.proofs.Meter.{Metered, met, used_up, meter, then_meter, refute_meter}
use Rattle.anti_pattern.specs.Search.{Env, Result, counted, fail, answering, lengths, Tries, freely}
use Rattle.anti_pattern.proofs.Machinery.{machine_found, machine_refute, machine_name, machine_symbol, machine_complement}
use Rattle.anti_pattern.proofs.Metering.{meter_within, meter_used_up, meter_one, meter_after, meter_refuted}

-- steps that count nothing

pub step_found : (table classes : List ℕ) (how : ℕ → Tries) (e : Env) (left : ℕ) → meter left (machine table classes how [] e []) ≡ met e left
step_found table classes how e left =
    ap (meter left) (machine_found table classes how e) ∙ meter_within left (answering e zero fail) (omega arith) ∙ ap (met e) (omega arith)

-- a complement, at the end of a level
pub step_refute : (table classes : List ℕ) (how : ℕ → Tries) (e : Env) (d : Pending) (ds : List Pending) (left : ℕ)
    → meter left (machine table classes how [] e (d ∷ ds))
    ≡ refute_meter (meter left (machine table classes freely (frame (plain d.inside end) (single d.term) d.at ∷ []) e [])) (λ u. machine table classes how [] e ds)
step_refute table classes how e d ds left =
    ap (meter left) (machine_refute table classes how e d ds)
    ∙ meter_refuted left (machine table classes freely (frame (plain d.inside end) (single d.term) d.at ∷ []) e []).out
    (machine table classes freely (frame (plain d.inside end) (single d.term) d.at ∷ []) e []).cost (λ u. machine table classes how [] e ds)

module _ (table classes : List ℕ) (how : ℕ → Tries) (n : ℕ) (fs : List Frame) (e : Env) (ds : List Pending) where
  -- every pair counts
  pub pair_counts : (q : Pattern) (qs : Children) (t : Term) (ts : Terms)
      → (r : Result) × (machine table classes how (frame (plain q qs) (t :: ts) n ∷ fs) e ds ≡ counted r)
  pair_counts (name v) qs t ts = (_, machine_name table classes how n fs e ds v qs t ts)
  pair_counts (symbol s ps) qs (node r us) ts = (_, machine_symbol table classes how n fs e ds s qs ps r us ts)
  pair_counts (complement q) qs t ts = (_, machine_complement table classes how n fs e ds q qs t ts)

-- the lengths of a run name that is not assigned, one after the other; each counts one

length_then : (left : ℕ) (w : Terms) (t : Term) (ts : Terms) (g : Terms → Terms → Result)
    → meter left (lengths w (t :: ts) g) ≡ then_meter (meter left (counted (g w (t :: ts)))) (λ u. lengths (w ⧺ single t) ts g)
length_then left w t ts g = meter_after left (g w (t :: ts)).out (1 + (g w (t :: ts)).cost) (λ u. lengths (w ⧺ single t) ts g)

pub length_used_up : (w ts : Terms) (g : Terms → Terms → Result) → meter 0 (lengths w ts g) ≡ used_up
length_used_up w nil g = meter_used_up (g w nil)
length_used_up w (t :: ts) g =
    length_then 0 w t ts g ∙ ap (λ (m : Metered). then_meter m (λ u. lengths (w ⧺ single t) ts g)) (meter_used_up (g w (t :: ts)))

pub step_length : (left : ℕ) → 0 < left → (w : Terms) (t : Term) (ts : Terms) (g : Terms → Terms → Result)
    → meter left (lengths w (t :: ts) g) ≡ then_meter (meter (left - 1) (g w (t :: ts))) (λ u. lengths (w ⧺ single t) ts g)
step_length left some_left w t ts g =
    length_then left w t ts g
    ∙ ap (λ (m : Metered). then_meter m (λ u. lengths (w ⧺ single t) ts g)) (meter_one left (g w (t :: ts)) some_left)

pub step_last_length : (left : ℕ) → 0 < left → (w : Terms) (g : Terms → Terms → Result)
    → meter left (lengths w nil g) ≡ meter (left - 1) (g w nil)
step_last_length left some_left w g = meter_one left (g w nil) some_left
