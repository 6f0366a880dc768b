-- `station::keep_by_value` meets its contract: each way through it is one law of `Changes`.
use mathlib.Core.List.{List}
use Rattle.station.specs.declared.Station.{Station}
use Rattle.station.specs.Demands.{Keeps}
use Rattle.station.proofs.Shapes.{Shaped, shaped}
use Rattle.station.proofs.Demands.{keep_demanded}
use Prim.Native.Nat.{ℕ, ◌+◌, ◌*◌}
use native.Mathlib.Omega.{arith}
use mathlib.Core.Path.{◌≡◌, sym, ap, ◌∙◌}
use lib.Seq.{sets}
use lib.ListN.{length, drop, get_or, take}
use Rattle.station.specs.Check.{place_of}
use Rattle.station.specs.Call.{keep_of, outcome, lengthened}
use Rattle.station.proofs.Sound.{sound, length_fits}
use Rattle.station.proofs.Changes.{keep_refused, keep_ninth, keep_done}
use Rattle.station.proofs.keep_by_value.Goals as goal
use Rattle.std.specs.Prelude.{Result, Ok}
use Rattle.answers.specs.declared.Refusal.{Refusal}

-- the demand follows
both : (s : Station) (l : List ℕ) → Shaped s → (name : ℕ) (a : Result (Unit {0}) Refusal) (r : Station) (m : List ℕ) → outcome a r m ≡ keep_of name s l
    → Keeps name s l a r m
both s l shape name a r m e = (e, keep_demanded s l shape name a r m e)

pub returns-in-Err : goal.returns-in-Err
returns-in-Err c = let a = c.args in
    both a.station a.records.now (shaped a.station c.well_formed.1.0) a.name _ _ _ (keep_refused a.station a.records.now a.name _ (sym c.check.ensures ∙ c.in-Err.is))

pub shared_ref_as_front-place : goal.shared_ref_as_front-place
shared_ref_as_front-place c = let a = c.args in
    let ok = sound a.station (length a.records.now) (sym c.check.ensures ∙ c.in_default.is) in
    omega (arith, ok.few, c.from-n.ensures)

pub returns-then-k-ge-KEPT : goal.returns-then-k-ge-KEPT
returns-then-k-ge-KEPT c = let a = c.args in
    let k = c.place-k.result in
    let at : k ≡ place_of a.name (take a.station.kept a.station.names) = c.place-k.ensures ∙ ap (λ (n : ℕ). place_of a.name (take n a.station.names)) c.from-n.ensures in
    both a.station a.records.now (shaped a.station c.well_formed.1.0) a.name _ _ _ (keep_ninth a.station a.records.now a.name k (sym c.check.ensures ∙ c.in_default.is) at c.if-k-ge-KEPT.true)

pub copy_bytes-requires : goal.copy_bytes-requires
copy_bytes-requires c = let a = c.args in
    let ok = sound a.station (length a.records.now) (sym c.check.ensures ∙ c.in_default.is) in
    let fits = length_fits a.station (length a.records.now) ok 0 (omega arith) in
    (omega (arith, ok.lent, fits, c.from.ensures), omega (arith, ok.lent, fits, c.from.ensures))

pub named_at-requires : goal.named_at-requires
named_at-requires c = let a = c.args in
    let ok = sound a.station (length a.records.now) (sym c.check.ensures ∙ c.in_default.is) in
    (ok.few, c.if-k-ge-KEPT.false)

pub returns : goal.returns
returns c = let a = c.args in
    let k = c.place-k.result in
    let n = get_or a.station.lengths 0 0 in
    let at : k ≡ place_of a.name (take a.station.kept a.station.names) = c.place-k.ensures ∙ ap (λ (m : ℕ). place_of a.name (take m a.station.names)) c.from-n.ensures in
    let station = c.lengthened_at-after.ensures ∙ ap (λ (s : Station). lengthened s (k + 1) n) c.named_at.ensures in
    let records = c.copy_bytes.ensures ∙ ap (λ (m : ℕ). sets a.records.now (4096 * (k + 1)) (take m (drop 0 a.records.now))) c.from.ensures in
    both a.station a.records.now (shaped a.station c.well_formed.1.0) a.name _ _ _ ((λ i. outcome (Ok (tt {0})) (station i) (records i))
    ∙ keep_done a.station a.records.now a.name k (sym c.check.ensures ∙ c.in_default.is) at c.if-k-ge-KEPT.false)
