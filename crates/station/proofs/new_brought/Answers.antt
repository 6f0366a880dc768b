-- `station::new_brought` meets its contract: each way through it is one law of `Changes`.
use mathlib.Core.List.{List}
use mathlib.Core.Path.{◌≡◌, sym, ◌∙◌}
use Prim.Native.Nat.{ℕ}
use Rattle.std.specs.Prelude.{Result}
use Rattle.answers.specs.declared.Refusal.{Refusal}
use Rattle.reader.specs.Brought.{Brought}
use Rattle.reader.specs.Lent.{brought_of}
use Rattle.station.specs.declared.Station.{Station}
use Rattle.station.specs.Call.{outcome, new_of}
use Rattle.station.specs.Demands.{Begins}
use Rattle.station.proofs.Changes.{accepted_short, new_full, new_refused, new_done}
use Rattle.station.proofs.Demands.{new_demanded}
use Rattle.station.proofs.Shapes.{Shaped, shaped}
use Rattle.station.proofs.new_brought.Goals as goal

-- the demand follows
both : (brought : Brought) (bytes : List ℕ) (s : Station) (l : List ℕ) → Shaped s → (a : Result (Unit {0}) Refusal) (r : Station) (m : List ℕ)
    → outcome a r m ≡ new_of brought bytes s l → Begins brought bytes s l a r m
both brought bytes s l shape a r m e = (e, new_demanded brought bytes s l shape a r m e)

pub returns-then-records-lt-ROOM : goal.returns-then-records-lt-ROOM
returns-then-records-lt-ROOM c = let a = c.args in
    both (brought_of a.brought.now) a.bytes.now a.station a.records.now (shaped a.station c.well_formed.1.1.0) _ _ _ (new_full _ _ _ _ c.if-records-lt-ROOM.true)

pub returns-in-Err : goal.returns-in-Err
returns-in-Err c = let a = c.args in
    both (brought_of a.brought.now) a.bytes.now a.station a.records.now (shaped a.station c.well_formed.1.1.0) _ _ _
    (new_refused _ _ _ _ c.if-records-lt-ROOM.false _ (sym c.check_record.ensures ∙ c.in-Err.is))

pub begin-requires : goal.begin-requires
begin-requires c = (accepted_short _ _ (sym c.check_record.ensures ∙ c.in_default.is), c.if-records-lt-ROOM.false)

pub returns : goal.returns
returns c = let a = c.args in
    both (brought_of a.brought.now) a.bytes.now a.station a.records.now (shaped a.station c.well_formed.1.1.0) _ _ _
    (c.begin.ensures ∙ new_done _ _ _ _ c.if-records-lt-ROOM.false (sym c.check_record.ensures ∙ c.in_default.is))
