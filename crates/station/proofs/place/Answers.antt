-- `station::place` meets its contract.
use Prim.Native.Nat.{ℕ}
use mathlib.Core.Path.{ap, ◌∙◌}
use lib.Dec.{eqb}
use lib.ListN.{length}
use Rattle.std.proofs.Common.{rules, tests}
use Rattle.std.specs.Prelude.{Option}
use Rattle.std.specs.Option.{unwrap_or}
use Rattle.std.proofs.lemmas.Iterator.{YieldsList-from_slice}
use Rattle.std.proofs.lemmas.Iterator.Search.{position_from_yields_List}
use Rattle.station.proofs.Checks.{place_is}
use Rattle.station.proofs.place.Goals as goal

pub returns : goal.returns
returns c = let a = c.args in
    c.unwrap_or.ensures
    ∙ ap (λ (o : Option ℕ). unwrap_or o (length a.names.now))
    (position_from_yields_List (λ (m : ℕ). eqb m a.name) _ _ c.position.result c.position.ensures.ran (YieldsList-from_slice a.names.now cc) (λ x b q k. search (rules, tests)))
    ∙ place_is a.name a.names.now
