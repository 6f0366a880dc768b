-- `search::given::behind` meets its contract. Assumes nothing.
use Prim.Native.Nat.{ℕ, ◌+◌}
use native.Mathlib.Omega.{arith}
use mathlib.Core.Bool.{false}
use mathlib.Core.List.{List}
use mathlib.Core.Path.{ap, ◌∙◌}
use Rattle.term.specs.Extent.{span_of}
use Rattle.term.proofs.Lists.{rest_part, rest_length}
use Rattle.search.proofs.given.behind.Goals as goal

pub returns : goal.returns
returns c = let s = c.args in
    let rest = rest_part s.node s.record.now in (
      ap (λ (x : ℕ). s.node + x) (c.extents.ensures.is ∙ ap (λ (l : List ℕ). span_of s.table.now l false s.n) rest),
      omega (arith, c.extents.ensures.within, rest_length s.node s.record.now, c.requires.0),
    )
