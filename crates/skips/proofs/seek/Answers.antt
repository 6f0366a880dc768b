-- `skips::seek` meets its contract. Assumes nothing.
use mathlib.Core.Path.{◌∙◌}
use Rattle.skips.proofs.Passing.{seek_by, passed_part, passed_one}
use Rattle.skips.proofs.seek.Goals as goal

pub returns-then-symbols-eq0 : goal.returns-then-symbols-eq0
returns-then-symbols-eq0 c =
    let s = seek_by _ _ _ _ (c.seek_part.ensures ∙ passed_part _ _ _ _ _ _ c.if-symbols-eq0.true) in
    record { is = s.0; few = s.1.0; passes = s.1.1 }

pub returns-then-x-gt0 : goal.returns-then-x-gt0
returns-then-x-gt0 c =
    let s = seek_by _ _ _ _ (c.seek_part-then-x-gt0.ensures ∙ passed_one _ _ _ _ _ _ c.if-symbols-eq1.true) in
    record { is = s.0; few = s.1.0; passes = s.1.1 }

pub returns : goal.returns
returns c = let s = seek_by _ _ _ _ c.seek_chain.ensures in record { is = s.0; few = s.1.0; passes = s.1.1 }
