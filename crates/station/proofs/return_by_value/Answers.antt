-- `station::return_by_value` meets its contract: each way through it is one law of `Changes`.
use mathlib.Core.List.{List}
use Rattle.station.specs.declared.Station.{Station}
use Rattle.station.specs.Demands.{Returns}
use Rattle.station.proofs.Shapes.{Shaped, shaped}
use Rattle.station.proofs.Demands.{return_demanded}
use Prim.Native.Nat.{ℕ, ◌+◌, ◌*◌}
use native.Mathlib.Omega.{arith}
use mathlib.Core.Path.{◌≡◌, sym, ap, ◌∙◌}
use lib.Seq.{sets}
use lib.ListN.{length, drop, take}
use Rattle.station.specs.Check.{place_of}
use Rattle.station.specs.Call.{return_of, outcome}
use Rattle.station.proofs.Sound.{sound, length_fits}
use Rattle.station.proofs.Changes.{return_refused, return_none, return_done}
use Rattle.station.proofs.return_by_value.Goals as goal
use Rattle.std.specs.Prelude.{Result, Ok}
use Rattle.answers.specs.declared.Refusal.{Refusal}

-- the demand follows
both : (s : Station) (l : List ℕ) → Shaped s → (name : ℕ) (a : Result (Unit {0}) Refusal) (r : Station) (m : List ℕ) → outcome a r m ≡ return_of name s l
    → Returns name s l a r m
both s l shape name a r m e = (e, return_demanded s l shape name a r m e)

pub returns-in-Err : goal.returns-in-Err
returns-in-Err c = let a = c.args in
    both a.station a.records.now (shaped a.station c.well_formed.1.0) a.name _ _ _ (return_refused a.station a.records.now a.name _ (sym c.check.ensures ∙ c.in-Err.is))

pub shared_ref_as_front-place : goal.shared_ref_as_front-place
shared_ref_as_front-place c = let a = c.args in
    let ok = sound a.station (length a.records.now) (sym c.check.ensures ∙ c.in_default.is) in
    omega (arith, ok.few, c.from-n.ensures)

pub returns-then-n-k : goal.returns-then-n-k
returns-then-n-k c = let a = c.args in
    let k = c.place-k.result in
    let at : k ≡ place_of a.name (take a.station.kept a.station.names) = c.place-k.ensures ∙ ap (λ (n : ℕ). place_of a.name (take n a.station.names)) c.from-n.ensures in
    both a.station a.records.now (shaped a.station c.well_formed.1.0) a.name _ _ _ (return_none a.station a.records.now a.name k (sym c.check.ensures ∙ c.in_default.is) at (omega (arith, c.if-n-k.true, c.from-n.ensures)))

pub bounds-station-k : goal.bounds-station-k
bounds-station-k c = let a = c.args in
    let ok = sound a.station (length a.records.now) (sym c.check.ensures ∙ c.in_default.is) in
    omega (arith, ok.few, c.from-n.ensures)

pub copy_bytes-requires : goal.copy_bytes-requires
copy_bytes-requires c = let a = c.args in
    let ok = sound a.station (length a.records.now) (sym c.check.ensures ∙ c.in_default.is) in
    let fits = length_fits a.station (length a.records.now) ok (c.place-k.result + 1) (omega (arith, c.from-n.ensures)) in
    (omega (arith, ok.lent, ok.few, fits, c.from-n.ensures, c.from.ensures), omega (arith, ok.lent, fits, c.from.ensures))

pub returns : goal.returns
returns c = let a = c.args in
    let k = c.place-k.result in
    let at : k ≡ place_of a.name (take a.station.kept a.station.names) = c.place-k.ensures ∙ ap (λ (m : ℕ). place_of a.name (take m a.station.names)) c.from-n.ensures in
    let records = c.copy_bytes.ensures ∙ ap (λ (m : ℕ). sets a.records.now 0 (take m (drop (4096 * (k + 1)) a.records.now))) c.from.ensures in
    both a.station a.records.now (shaped a.station c.well_formed.1.0) a.name _ _ _ ((λ i. outcome (Ok (tt {0})) (c.lengthened_at-after.ensures i) (records i))
    ∙ return_done a.station a.records.now a.name k (sym c.check.ensures ∙ c.in_default.is) at (omega (arith, c.if-n-k.false, c.from-n.ensures)))
