-- `search::place::Place::frame` meets its contract. Assumes nothing.
use native.Mathlib.Omega.{arith}
use Rattle.search.proofs.Frames.{frame_back, outer_back}
use Rattle.search.proofs.place.Place.frame.Goals as goal

pub returns : goal.returns
returns c = (frame_back _ _ _ (omega arith) (omega arith), outer_back _ _ _ (omega arith) (omega arith))
