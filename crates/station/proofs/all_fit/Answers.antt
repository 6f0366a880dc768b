-- `station::all_fit` meets its contract.
use mathlib.Core.Path.{◌∙◌}
use Prim.Native.Nat.{ℕ}
use mathlib.Core.Bool.{◌&&◌}
use lib.Dec.{ltb, leb}
use Rattle.std.proofs.Common.{rules, tests}
use Rattle.std.proofs.lemmas.Iterator.{YieldsList-from_slice}
use Rattle.std.proofs.lemmas.Iterator.Search.{all_from_yields_List}
use Rattle.station.proofs.Checks.{fit_is}
use Rattle.station.proofs.all_fit.Goals as goal

pub returns : goal.returns
returns c =
    all_from_yields_List (λ (k : ℕ). ltb 0 k && leb k 4096) _ _ c.all.result c.all.ensures.ran (YieldsList-from_slice c.args.lengths.now cc) (λ x b q k. search (rules, tests))
    ∙ fit_is c.args.lengths.now
