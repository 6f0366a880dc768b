-- A station of a program has eight names and nine lengths: its type says so.
use mathlib.Core.Path.{◌≡◌}
use mathlib.Core.List.{[], ◌∷◌}
use lib.ListN.{length}
use denote.Laws.{Is}
use denote.Struct.Laws as LL
use Rattle.station.specs.declared.Station.{Station}
use Rattle.station.specs.contracts.Station as T
use Rattle.station.proofs.Station.TheLaws as T'

pub record Shaped (s : Station) : Type 0 where
  pub names : length s.names ≡ 8
  pub lengths : length s.lengths ≡ 9

pub shaped : (s : Station) → Is T.the_row s (LL.val T.the_type T'.the_laws s ∷ []) → Shaped s
shaped s is =
    let owed = LL.owed T.the_type T'.the_laws s _ is in
    record { names = owed.1.0.1.0.1; lengths = owed.1.1.0.1.0.1 }
