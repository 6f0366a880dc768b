-- `search::place::Place::complement` meets its contract. Assumes nothing.
use native.Mathlib.Omega.{arith}
use Rattle.search.proofs.Frames.{put_by_back}
use Rattle.search.proofs.place.Place.complement.Goals as goal

pub returns : goal.returns
returns c = put_by_back _ _ _ (omega arith) (omega arith)
